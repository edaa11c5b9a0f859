-- Refused plans and written bytes of any exported call.
use Prim.Native.Nat.{ℕ, zero, suc}
use Rattle.std.specs.Prelude.{true, false, not, List, ◌≢◌, ◌≡◌, refl, ltb, length, drop}
use Rattle.std.proofs.Math.Path.{sym, subst}
use Rattle.std.proofs.Common.{ap, ◌∙◌, add-zero, arith, ltb-true, ltb-false, lt-ltb}
use Rattle.std.proofs.lemmas.Bool.{not-false}
use Rattle.base.specs.Bytes.{over, over_none, drop-over}
use Rattle.state.specs.State.{State}
use Rattle.state.specs.Packing.{packed-length, stored_same}
use Rattle.state.specs.Layout.{state_length, packed, unpacked, holds}
use Rattle.rules.specs.Rules.Out.{number}
use Rattle.rules.specs.Rules.Channel.{Channel, Board, Change, part, report_of}
use Rattle.rules.specs.Rules.Lift.{lift}
use Rattle.rules.specs.Rules.Reply.{reply_bytes, closed, kept_bytes}
use Rattle.rules.specs.Rules.Calls as X
use Rattle.rules.specs.Rules.Calls.{word, kept, Done, Stored, done, exchange_planned}
use Rattle.rules.specs.Statements.Channels as L
use Rattle.rules.specs.Statements.Channels.{Settles}
use Rattle.rules.specs.Statements.Refusals.{number_of, ExchangeRefusal}
use Rattle.rules.proofs.Proofs.Lift.{lift-change, lift_stays}
use Rattle.rules.proofs.Proofs.Refusals.{PlanAs, SettledAs}
use Rattle.rules.specs.Rules.Plan.{Plan}

pub number_small : (n : ℕ) → ltb n 256 ≡ true → number_of n ≡ n
number_small n h = omega (arith, ltb-true n 256 h)

pub number_word : (n v : ℕ) → ltb n 256 ≡ true → number_of (word n v) ≡ n
number_word n v h = omega (arith, ltb-true n 256 h)

module _ (st : List ℕ) (long : ltb (length st) state_length ≡ false) (ok : not (holds st) ≡ false) where
  pub same : kept (unpacked st) st ≡ st
  same = stored_same st (ltb-false (length st) state_length long) (not-false (holds st) ok)

  pub planned_refuses : (command reply write read : List ℕ) (n : ℕ) (p : Plan) → p.number ≡ n → PlanAs n (unpacked st) p
      → ExchangeRefusal (number_of (exchange_planned p st command reply write read).word) st reply write (exchange_planned p st command reply write read)
  unfolding exchange_planned reply_bytes closed over
  planned_refuses command reply write read zero p e h =
      subst (λ (k : ℕ). ExchangeRefusal k st reply write (exchange_planned p st command reply write read))
      (let r = reply_bytes p.reply (unpacked st).wires read in sym (ap (λ (k : ℕ). number_of (word k (length r))) e ∙ number_word 0 (length r) refl)) tt
  planned_refuses command reply write read (suc zero) p e h =
      subst (λ (x : Plan). ExchangeRefusal (number_of (exchange_planned x st command reply write read).word) st reply write
      (exchange_planned x st command reply write read)) (sym h)
      (rw same)
  planned_refuses command reply write read (suc (suc zero)) p e h =
      subst (λ (x : Plan). ExchangeRefusal (number_of (exchange_planned x st command reply write read).word) st reply write
      (exchange_planned x st command reply write read)) (sym h)
      (rw same)
  planned_refuses command reply write read (suc (suc (suc n))) p e h =
      subst (λ (x : Plan). ExchangeRefusal (number_of (exchange_planned x st command reply write read).word) st reply write
      (exchange_planned x st command reply write read)) (sym h.0)
      (subst (λ (k : ℕ). ExchangeRefusal k st reply write (X.exchanged (word (suc (suc (suc n))) 0) (kept (unpacked st) st) reply write))
      (sym (number_word (suc (suc (suc n))) 0 h.1))
      (rw (same, add-zero)))

-- a board call's refused plan gives its number alone, and the bytes as they were
module _ (st : List ℕ) (long : ltb (length st) state_length ≡ false) (ok : not (holds st) ≡ false) where
  pub done_refuses : (n : ℕ) (p : Plan) → p.number ≡ n → SettledAs n (unpacked st) p → number_of p.number ≢ 0
      → done p.number (kept p.next st) ≡ done (number_of p.number) st
  done_refuses zero p e h ne = absurd (ne (ap number_of e))
  done_refuses (suc zero) p e h ne = absurd h
  done_refuses (suc (suc zero)) p e h ne = absurd h
  done_refuses (suc (suc (suc n))) p e h ne =
      subst (λ (x : Plan). done x.number (kept x.next st) ≡ done (number_of x.number) st) (sym h.0)
      (rw (same st long ok, number_small (suc (suc (suc n))) h.1))

  pub stored_refuses : (bytes store : List ℕ) (n : ℕ) (p : Plan) → p.number ≡ n → SettledAs n (unpacked st) p → number_of p.number ≢ 0
      → X.stored p.number (kept p.next st) (over (kept_bytes p.kept bytes) store) ≡ X.stored (number_of p.number) st store
  stored_refuses bytes store zero p e h ne = absurd (ne (ap number_of e))
  stored_refuses bytes store (suc zero) p e h ne = absurd h
  stored_refuses bytes store (suc (suc zero)) p e h ne = absurd h
  stored_refuses bytes store (suc (suc (suc n))) p e h ne =
      subst (λ (x : Plan). X.stored x.number (kept x.next st) (over (kept_bytes x.kept bytes) store) ≡ X.stored (number_of x.number) st store)
      (sym h.0)
      (rw (same st long ok, number_small (suc (suc (suc n))) h.1, over_none))

  -- a refused call leaves its report too
  pub report_refuses : (k : Channel) (o : Board k) (report : List ℕ) {x : Change k} → Settles k (part k (unpacked st)) o x
      → number_of (lift k (unpacked st) x).number ≢ 0
      → X.stored (lift k (unpacked st) x).number (kept (lift k (unpacked st) x).next st) (over (report_of k (part k (unpacked st)) o) report)
      ≡ X.stored (number_of (lift k (unpacked st) x).number) st report
  report_refuses k o report (L.Settles.refused n l m r v) ne =
      subst (λ (p : Plan). X.stored p.number (kept p.next st) (over (report_of k (part k (unpacked st)) o) report) ≡ X.stored (number_of p.number) st
      report)
      (sym (lift_stays k (unpacked st) (number n))) (rw (same st long ok, r, over_none, number_small n (lt-ltb n 256 m)))
  report_refuses k o report (L.Settles.accepted q keeps e) ne = absurd (ne (ap (λ (p : Plan). number_of p.number) (lift-change k (unpacked st) q _)))

-- ---- the bytes past what a call writes

pub past_state : (s : State) (st : List ℕ) → drop state_length (kept s st) ≡ drop state_length st
past_state s st = drop-over (packed s) st state_length (packed-length s)

-- a state's bytes, past its length
abbrev pub DonePast : List ℕ → Done → Type 0
DonePast st x = drop state_length x.state ≡ drop state_length st

-- a state's bytes and a store or report, past what a call writes
pub record StoredPast (st store : List ℕ) (n : ℕ) (x : Stored) : Type 0 where
  pub at_state : drop state_length x.state ≡ drop state_length st
  pub at_store : drop n x.store ≡ drop n store
