-- P5 proved of `step`: a refused plan is one of three, whatever the channel; and a plan keeps no more than its data.
use Prim.Native.Nat.{ℕ, zero, suc, ◌+◌, ◌-◌, ◌≤◌, ◌<◌, zero-le}
use Rattle.std.specs.Prelude.{true, false, List, ◌++◌, ◌≡◌, ltb, length, drop, Option, Some, None}
use Rattle.std.proofs.Common.{true≢false, sym, ap, ◌∙◌, le_trans, arith, length-take, drop-drop, lt-ltb}
use Rattle.std.proofs.Math.Path.{refl, subst}
use Rattle.std.proofs.Math.Seq.{drop-append-add}
use Rattle.base.specs.Bytes.{over, over_none}
use Rattle.state.specs.State.{State}
use Rattle.rules.specs.Rules.Out.{fatal, number}
use Rattle.rules.specs.Rules.Channel.{Channel, peripheral, wires, Command, Act, Board, Change, out_of, act_of, part, given}
use Rattle.rules.specs.Rules.Lift.{lift, silent, non_fatal}
use Rattle.rules.specs.Rules.Lift as M
use Rattle.rules.specs.Rules.Exchange as E
use Rattle.rules.specs.Rules.Reply.{reply_bytes, closed, kept_bytes}
use Rattle.rules.specs.Rules.Step.{World, Call, exchange, board, Outcome, performed, served}
use Rattle.rules.specs.Statements.Plans as N
use Rattle.rules.specs.Statements.Plans.{Did, Settled, Planned}
use Rattle.rules.specs.Statements.Cases as C
use Rattle.rules.specs.Statements.Cases.{Case}
use Rattle.rules.specs.Statements.Channels as L
use Rattle.rules.specs.Statements.Channels.{Acts, Settles}
use Rattle.rules.specs.Statements.Refusals.{kept_count, Quiet, Error, Refusal, RefusalsChangeNothing, CallsKeepStores, posted_length, board_reads, reads_at_most, writes_at_most, is_lend}
use Rattle.rules.proofs.Proofs.Lift.{planned, lift-change, lift_stays}
use Rattle.rules.proofs.Proofs.Plans as Q
use Rattle.rules.proofs.Proofs.Channels as H
use Rattle.rules.proofs.Proofs.Peripheral.Lawful as P
use Rattle.rules.proofs.Proofs.Wires.Lawful as W
use Rattle.rules.proofs.Proofs.Cases.{cases}
use Rattle.rules.proofs.Proofs.Reads.{reads}
use Rattle.rules.specs.declared.Kept.{Kept}
use Rattle.rules.specs.Rules.Plan.{Plan}

-- ---- a plan by its number

abbrev pub PlanAs : ℕ → State → Plan → Type 0
PlanAs zero s p = Unit {0}
PlanAs (suc zero) s p = p ≡ planned s fatal
PlanAs (suc (suc zero)) s p = p ≡ non_fatal s
PlanAs (suc (suc (suc n))) s p = (p ≡ silent (suc (suc (suc n))) s) × (ltb (suc (suc (suc n))) 256 ≡ true)

abbrev pub Turned : State → Plan → Type 0
Turned s p = PlanAs p.number s p

-- a board call's: no reply, so never 1 or 2
abbrev pub SettledAs : ℕ → State → Plan → Type 0
SettledAs zero s p = Unit {0}
SettledAs (suc zero) s p = ⊥
SettledAs (suc (suc zero)) s p = ⊥
SettledAs (suc (suc (suc n))) s p = (p ≡ silent (suc (suc (suc n))) s) × (ltb (suc (suc (suc n))) 256 ≡ true)

silent_as : (s : State) (n : ℕ) → 3 ≤ n → n < 256 → PlanAs n s (silent n s)
silent_as s zero h l = tt
silent_as s (suc zero) h l = absurd (omega arith)
silent_as s (suc (suc zero)) h l = absurd (omega arith)
silent_as s (suc (suc (suc n))) h l = (refl, lt-ltb _ _ l)

number_as : (s : State) (n : ℕ) → 3 ≤ n → n < 256 → SettledAs n s (silent n s)
number_as s zero h l = tt
number_as s (suc zero) h l = absurd (omega arith)
number_as s (suc (suc zero)) h l = absurd (omega arith)
number_as s (suc (suc (suc n))) h l = (refl, lt-ltb _ _ l)

acts_turned : (k : Channel) (s : State) (a : Act k) {x : Change k} → Acts k (part k s) a x → Turned s (lift k s x)
acts_turned k s a L.Acts.refused = subst (Turned s) (sym (lift_stays k s fatal)) refl
acts_turned k s a (L.Acts.accepted q body kept e f) = subst (Turned s) (sym (lift-change k s q _)) tt

planned_turned : {s : State} {b : List ℕ} {p : Plan} → Planned s b p → Turned s p
planned_turned {s} (N.turned n h) = silent_as s n (omega (arith, h.least)) (omega (arith, h.most))
planned_turned {s} (N.shows h) = tt
planned_turned {s} (N.acts k o x e d f) = acts_turned k s _ (H.acts k s.config (part k s) _ x d)
planned_turned {s} (N.forbids a v e f) = refl
planned_turned {s} (N.hinders a v e f g) = refl
planned_turned {s} (N.configures a v e f g) = tt
planned_turned {s} (N.lowers o x e d) = tt
planned_turned {s} (N.clears e) = tt

pub exchange_turned : (s : State) (b : List ℕ) → Turned s (E.exchange s b)
exchange_turned s b = planned_turned (Q.plans s b)

pub settles_as : (k : Channel) (s : State) (o : Board k) {x : Change k} → Settles k (part k s) o x → SettledAs (lift k s x).number s (lift k s x)
settles_as k s o (L.Settles.refused n l m r v) =
    subst (λ (p : Plan). SettledAs p.number s p) (sym (lift_stays k s (number n))) (number_as s n (omega arith) m)
settles_as k s o (L.Settles.accepted q kept e) = subst (λ (p : Plan). SettledAs p.number s p) (sym (lift-change k s q _)) tt

pub board_settled : (k : Channel) (s : State) (o : Board k) → SettledAs (M.settled k s o).number s (M.settled k s o)
board_settled k s o = settles_as k s o (H.board_settles k s o)

-- ---- refusals of `step`

module _ (w : World) where
  exchange_refusal : (b reply : List ℕ) (n : ℕ) (p : Plan) → PlanAs n w.state p → Refusal n w (exchange b reply) (performed w b p)
  unfolding performed reply_bytes closed
  exchange_refusal b reply zero p h = tt
  exchange_refusal b reply (suc zero) p h =
      subst (λ (x : Plan). Error 0x03 w (exchange b reply) (performed w b x)) (sym h)
      (record { of_exchange = refl; world = rw over_none; reply = refl; value = refl; report = refl })
  exchange_refusal b reply (suc (suc zero)) p h =
      subst (λ (x : Plan). Error 0x02 w (exchange b reply) (performed w b x)) (sym h)
      (record { of_exchange = refl; world = rw over_none; reply = refl; value = refl; report = refl })
  exchange_refusal b reply (suc (suc (suc n))) p h =
      subst (λ (x : Plan). Quiet w (performed w b x)) (sym h.0)
      (record { world = rw over_none; reply = refl; value = refl; report = refl })

  exchanged_refusal : (b reply : List ℕ) {p : Plan} → Planned w.state b p → Refusal (performed w b p).number w (exchange b reply) (performed w b p)
  unfolding performed
  exchanged_refusal b reply {p} h = exchange_refusal b reply p.number p (planned_turned h)

  -- a silent refusal leaves the world, and yields its number alone
  quiet_refusal : (n : ℕ) (c : Call) (o : Outcome) → 3 ≤ n → Quiet w o → Refusal n w c o
  quiet_refusal zero c o h q = tt
  quiet_refusal (suc zero) c o h q = absurd (omega arith)
  quiet_refusal (suc (suc zero)) c o h q = absurd (omega arith)
  quiet_refusal (suc (suc (suc n))) c o h q = q

  abbrev Of : (k : Channel) → Board k → Plan → Type 0
  Of k o p = Refusal (served k w o p).number w (board k o) (served k w o p)

  settled_refusal : (k : Channel) (o : Board k) {x : Change k} → Settles k (part k w.state) o x → Of k o (lift k w.state x)
  unfolding served
  settled_refusal k o (L.Settles.refused n l m r v) =
      subst (Of k o) (sym (lift_stays k w.state (number n)))
      (quiet_refusal n (board k o) _ (omega arith) (record { world = rw over_none; reply = refl; value = v; report = r }))
  settled_refusal k o (L.Settles.accepted q kept e) = subst (Of k o) (sym (lift-change k w.state q _)) tt

refusal : {w : World} {c : Call} {o : Outcome} → Case w c o → Refusal o.number w c o
unfolding performed
refusal {w} {c} (C.idle n h) = quiet_refusal w n c _ (omega (arith, h.least)) (record { world = refl; reply = refl; value = refl; report = refl })
refusal {w} {c} (C.shown h) = tt
refusal {w} {c} (C.acted {b} {r} k o x e d f) = exchanged_refusal w b r (N.acts k o x e d f)
refusal {w} {c} (C.settles k o x e d) = settled_refusal w k o (H.settled k w.state.config (part k w.state) o x d)
refusal {w} {c} (C.forbidden {b} {r} a v e f) = exchanged_refusal w b r (N.forbids a v e f)
refusal {w} {c} (C.hindered {b} {r} a v e f g) = exchanged_refusal w b r (N.hinders a v e f g)
refusal {w} {c} (C.configured a v e f g) = tt
refusal {w} {c} (C.lowered o x e d) = tt
refusal {w} {c} (C.cleared e) = tt
refusal {w} {c} C.wiped = tt
refusal {w} {c} C.lent = tt

pub refusals_change_nothing : RefusalsChangeNothing
refusals_change_nothing w c = refusal (cases w c)

-- ---- the frame of `step`

-- a plan that keeps at most so many bytes
abbrev pub Keeps : ℕ → Plan → Type 0
Keeps n p = kept_count p.kept ≤ n

-- by channel: what a command keeps of its bytes
acts_keep : (k : Channel) (s : State) (b : List ℕ) (o : Command k) (x : Change k) → N.Admits s b (N.command_of k o)
    → Did k s.config (part k s) (act_of k s.config o b) x → kept_count (out_of k x).kept ≤ posted_length b
acts_keep peripheral s b o x e d = le_trans (P.acts_keep d) (P.posted_data (reads s b (N.command_of peripheral o) e))
acts_keep wires s b o x e d = le_trans (W.acts_keep d) zero-le

lift_keeps : (k : Channel) (s : State) (x : Change k) → (lift k s x).kept ≡ (out_of k x).kept
unfolding lift
lift_keeps k s x = refl

planned_keeps : {s : State} {b : List ℕ} {p : Plan} → Planned s b p → Keeps (posted_length b) p
planned_keeps {s} {b} (N.turned n h) = zero-le
planned_keeps {s} {b} (N.shows h) = zero-le
planned_keeps {s} {b} (N.acts k o x e d f) = subst (λ (z : Option Kept). kept_count z ≤ posted_length b) (sym (lift_keeps k s x)) (acts_keep k s b o x e d)
planned_keeps {s} {b} (N.forbids a v e f) = zero-le
planned_keeps {s} {b} (N.hinders a v e f g) = zero-le
planned_keeps {s} {b} (N.configures a v e f g) = zero-le
planned_keeps {s} {b} (N.lowers o x e d) = zero-le
planned_keeps {s} {b} (N.clears e) = zero-le

pub exchange_keeps : (s : State) (b : List ℕ) → Keeps (posted_length b) (E.exchange s b)
exchange_keeps s b = planned_keeps (Q.plans s b)

pub settled_keeps : (k : Channel) (s : State) (o : Board k) (x : Change k) → Settled k s.config (part k s) o x → Keeps (board_reads k o) (lift k s x)
unfolding lift
settled_keeps peripheral s o x d = P.settled-keep d
settled_keeps wires s o x d = W.settled-keep d

pub board_keeps : (k : Channel) (s : State) (o : Board k) → Keeps (board_reads k o) (M.settled k s o)
board_keeps k s o = settled_keeps k s o _ (Q.settled k s.config (part k s) o)

kept-length : (k : Option Kept) (b : List ℕ) → length (kept_bytes k b) ≤ kept_count k
kept-length None b = zero-le
kept-length (Some d) b = simp length-take (omega arith)

pub past_over : (p l : List ℕ) (n : ℕ) → length p ≤ n → drop n (over p l) ≡ drop n l
unfolding over
past_over p l n h =
    let e : n ≡ length p + (n - length p) = omega arith in
    ap (λ (k : ℕ). drop k (p ++ drop (length p) l)) e ∙ drop-append-add p (drop (length p) l) (n - length p)
    ∙ drop-drop (n - length p) (length p) l ∙ ap (λ (k : ℕ). drop k l) (sym e)

-- a store past the bytes that a plan keeps
pub past_kept : (p : Plan) (b l : List ℕ) (n : ℕ) → Keeps n p → drop n (over (kept_bytes p.kept b) l) ≡ drop n l
past_kept p b l n h = past_over (kept_bytes p.kept b) l n (le_trans (kept-length p.kept b) h)

-- the stores of an outcome, past these counts
record Past (w : World) (a r : ℕ) (o : Outcome) : Type 0 where
  at_write : drop a o.next.write ≡ drop a w.write
  at_read : drop r o.next.read ≡ drop r w.read

exchange_past : (w : World) (b : List ℕ) {p : Plan} → Planned w.state b p → Past w (posted_length b) 0 (performed w b p)
unfolding performed
exchange_past w b {p} h = record { at_write = past_kept p b w.write (posted_length b) (planned_keeps h); at_read = refl }

settled_past : (w : World) (k : Channel) (o : Board k) (p : Plan) → Keeps (board_reads k o) p → Past w 0 (board_reads k o) (served k w o p)
unfolding served
settled_past w k o p h = record { at_write = refl; at_read = past_kept p (given k o) w.read (board_reads k o) h }

past : {w : World} {c : Call} {o : Outcome} → Case w c o → is_lend c ≡ false → Past w (writes_at_most c) (reads_at_most c) o
past {w} (C.idle n h) e = record { at_write = refl; at_read = refl }
past {w} (C.shown {b} h) e = exchange_past w b (N.shows h)
past {w} (C.acted {b} k o x e d f) l = exchange_past w b (N.acts k o x e d f)
past {w} (C.settles k o x e d) l = settled_past w k o (lift k w.state x) (settled_keeps k w.state o x d)
past {w} (C.forbidden {b} a v e f) l = exchange_past w b (N.forbids a v e f)
past {w} (C.hindered {b} a v e f g) l = exchange_past w b (N.hinders a v e f g)
past {w} (C.configured {b} a v e f g) l = exchange_past w b (N.configures a v e f g)
past {w} (C.lowered {b} o x e d) l = exchange_past w b (N.lowers o x e d)
past {w} (C.cleared {b} e) l = exchange_past w b (N.clears e)
past {w} C.wiped l = record { at_write = refl; at_read = refl }
past {w} C.lent l = absurd (true≢false l)

pub calls_keep_stores : CallsKeepStores
calls_keep_stores w c e = let p = past (cases w c) e in record { write = p.at_write; read = p.at_read }
