-- Proof of P8: the case law gives every reply's response and body, the opcode its length.
use Rattle.std.specs.Prelude.{ℕ, zero, suc, ◌≤◌, Bool, true, false, ◌||◌, ◌≡◌, ltb, length}
use Rattle.std.proofs.Common.{true≢false, sym, subst, arith, ltb-false, eq-eqb}
use mathlib.Core.List.{List, []}
use Rattle.std.proofs.Math.Path.{refl}
use Rattle.base.specs.Pick.{pick_ind}
use Rattle.base.specs.Bytes.{low4}
use Rattle.peripheral.specs.Sound.{sound_request}
use Rattle.state.specs.Status.{status}
use Rattle.state.specs.State.{State}
use Rattle.state.specs.Facts.{sound_request_lem}
use Rattle.rules.specs.Rules.Channel.{Channel, peripheral, wires, Command, Change, next_of, out_of, part, put, act_of}
use Rattle.rules.specs.Rules.Lift.{lift, with_status}
use Rattle.rules.specs.Rules.Reply.{reply_bytes, closed}
use Rattle.rules.specs.Rules.Step.{World, Call, Outcome, performed, served, short_stores, reply_length, write_length, read_length}
use Rattle.rules.specs.Statements.Fields.{byte}
use Rattle.rules.specs.Statements.Plans as N
use Rattle.rules.specs.Statements.Plans.{Did, Planned}
use Rattle.rules.specs.Statements.Cases as C
use Rattle.rules.specs.Statements.Cases.{Case}
use Rattle.rules.specs.Statements.Shape.{Shape, reply_of, AcceptedReply, state_shown, ExchangeShape, RepliesHaveShape, OnlyExchangesReply}
use Rattle.rules.specs.Statements.Refusals.{is_exchange}
use Rattle.rules.proofs.Proofs.Reads as D
use Rattle.rules.proofs.Proofs.Plans.{plans}
use Rattle.rules.proofs.Proofs.Cases.{cases, exchange-step}
use Rattle.rules.proofs.Proofs.Replies.{ShapeOf, accepted_as, shown_as, with_body, bare, at}
use Rattle.rules.proofs.Proofs.StatusShown.{shown_same, shows_after, written_shows, lowered_shows, lowered_status}
use Rattle.rules.proofs.Proofs.Wires.Lowering.{lowered_bytes}
use Rattle.rules.proofs.Proofs.Peripheral.Shape as P
use Rattle.rules.proofs.Proofs.Wires.Shape as W
use Rattle.rules.specs.Rules.Plan.{Plan}

module _ (s : State) (reads : List ℕ) (enough : read_length ≤ length reads) where
  acts_shape : (b : List ℕ) → sound_request s.peripheral.request ≡ true → (k : Channel) (o : Command k) (x : Change k) → N.Admits s b (N.command_of k o)
      → Did k s.config (part k s) (act_of k s.config o b) x → ShapeOf s reads (byte b 0) (put k (next_of k x) s) (lift k s x)
  acts_shape b np peripheral o x e d = P.acts_shape s reads enough (byte b 0) np d (P.act_opcode s reads enough (D.reads s b (N.command_of peripheral o) e))
  acts_shape b np wires o x e d = W.acts_shape s reads (byte b 0) d (W.wire_opcode s reads (D.reads s b (N.command_of wires o) e))

  silent_shape : (n op : ℕ) (after : State) → 3 ≤ n → Shape n op s after []
  silent_shape zero op after h = absurd (omega arith)
  silent_shape (suc zero) op after h = absurd (omega arith)
  silent_shape (suc (suc zero)) op after h = absurd (omega arith)
  silent_shape (suc (suc (suc n))) op after h = refl

  planned_shape : {b : List ℕ} {p : Plan} → sound_request s.peripheral.request ≡ true → Planned s b p
      → ShapeOf s reads (byte b 0) (state_shown b s p.next) p
  unfolding reply_bytes closed lift
  planned_shape {b} np (N.turned n h) = silent_shape n (byte b 0) _ (omega (arith, h.least))
  planned_shape {b} np (N.shows (N.status e)) =
      accepted_as (shown_same b s) (at (byte b 0) 0x25 (D.reads s b _ e) (bare 0x25 0x08 s refl))
  planned_shape {b} np (N.shows (N.register a e)) =
      accepted_as (shown_same b s)
      (at (byte b 0) 0x21 (D.reads s b _ e).opcode (with_body 0x21 s (low4 _) refl refl (omega arith)))
  planned_shape {b} np (N.acts k o x e d f) =
      shown_as (out_of k x).number (byte b 0) s (put k (next_of k x) s) (state_shown b s (put k (next_of k x) s))
      (reply_bytes (with_status (out_of k x).say (status (put k (next_of k x) s))) s.wires reads)
      (λ z. shows_after k s b o x e d f (eq-eqb (out_of k x).number 0 z))
      (acts_shape b np k o x e d)
  planned_shape {b} np (N.forbids a v e f) = refl
  planned_shape {b} np (N.hinders a v e f g) = refl
  planned_shape {b} np (N.configures a v e f g) =
      let op = (D.reads s b _ e).opcode in
      accepted_as (written_shows s _ b op) (at (byte b 0) 0x22 op (with_body 0x22 s [] refl refl (omega arith)))
  planned_shape {b} np (N.lowers o x e d) =
      let l = lowered_bytes s b d (D.reads s b _ e) in
      accepted_as (lowered_shows s _ b l.lowers)
      (subst (λ (n : ℕ). AcceptedReply (byte b 0) s (reply_of 0x08 [] n)) (sym (lowered_status s b x.next l))
      (at (byte b 0) 0x04 l.opcode (bare 0x04 0x08 s refl)))
  planned_shape {b} np (N.clears e) = at (byte b 0) 0xFF (D.reads s b _ e) (record { reset = λ _. refl; replied = λ n. absurd (n refl) })

pub replies_have_shape : RepliesHaveShape
unfolding performed
replies_have_shape w h b reply =
    subst (ExchangeShape w b) (sym (exchange-step w b reply))
    (pick_ind (ExchangeShape w b) (short_stores reply w) (λ _. record { shape = refl; value = refl })
    λ e. record {
      shape = planned_shape w.state w.read (long e) (sound_request_lem w.state h.is_sound) (plans w.state b);
      value = refl;
    })
  where
    long : short_stores reply w ≡ false → read_length ≤ length w.read
    long e =
        ltb-false (length w.read) read_length
        (third (ltb (length reply) reply_length) (ltb (length w.write) write_length) (ltb (length w.read) read_length) e)
      where
        third : (x y z : Bool) → x || (y || z) ≡ false → z ≡ false
        third true y z e = absurd (true≢false e)
        third false true z e = absurd (true≢false e)
        third false false z e = e

replies_alone : {w : World} {c : Call} {o : Outcome} → Case w c o → is_exchange c ≡ false → o.reply ≡ []
unfolding served
replies_alone (C.idle n h) e = refl
replies_alone (C.shown h) e = absurd (true≢false e)
replies_alone (C.acted k o x a d f) e = absurd (true≢false e)
replies_alone (C.settles k o x a d) e = refl
replies_alone (C.forbidden a v f g) e = absurd (true≢false e)
replies_alone (C.hindered a v f g h) e = absurd (true≢false e)
replies_alone (C.configured a v f g h) e = absurd (true≢false e)
replies_alone (C.lowered o x a d) e = absurd (true≢false e)
replies_alone (C.cleared f) e = absurd (true≢false e)
replies_alone C.wiped e = refl
replies_alone C.lent e = refl

pub only_exchanges_reply : OnlyExchangesReply
only_exchanges_reply w c e = replies_alone (cases w c) e
