-- The words of runs in bytes and numbers: by their definitions.
use Rattle.std.specs.Prelude.{ℕ, ◌%◌, Bool, true, ◌&&◌, ◌||◌, ◌≡◌, refl, List, eqb}
use Rattle.std.proofs.Common.{true≢false, sym, ap, ◌∙◌, ⊎_elim, arith, eqb-true, eq-eqb}
use Rattle.base.specs.Pick.{pick_ind, taken, and_left, and_right, and_true, or_either}
use Rattle.registers.specs.declared.Config.{Config}
use Rattle.wires.specs.Groups.{read_wire, put_pairs}
use Rattle.wires.specs.Senders.{AllWires, with_groups}
use Rattle.rules.specs.Rules.Reset.{platform_reset}
use Rattle.rules.specs.Rules.Channel.{Channel, peripheral, wires, on}
use Rattle.rules.specs.Rules.Step.{World, Call, reset, exchange, board, short, lend, step}
use Rattle.rules.specs.Statements.Effects.{command_effect, exchange_effect}
use Rattle.rules.specs.Statements.Fields.{byte, pairs, register_at, register_value}
use Rattle.rules.specs.Statements.Reads.{request_in}
use Rattle.rules.specs.Statements.Events as E
use Rattle.rules.specs.Statements.Events.{accepted, disables, lowers_pltrst, ending, enables_at}
use Rattle.rules.specs.Statements.Requests.{asks, tells, gets, event, is_end}
use Rattle.rules.specs.Statements.WireSteps.{wire_of}
use Rattle.rules.specs.Statements.Words.{GetPc, get_pc, NonPosted, non_posted, Answer, answer, enable_bit, pltrst_read, Ending, by_reset, by_write_lem, by_packet, Accepted, AsksFor, ByteWords}
use Rattle.rules.proofs.Proofs.Requests.{Is, ask, get, tell, accepted-event, event-was, asked-event, got-event, end_is, ended-event}
use Rattle.rules.proofs.Proofs.View.{view_as}
use Rattle.rules.proofs.Proofs.Asked.{asked_as}
use Rattle.rules.proofs.Proofs.Effects.{effects}
use Rattle.rules.proofs.Proofs.Events.{lowering-ends}
use Rattle.rules.proofs.Proofs.WireReads.{read_level, reset_wire}

-- ---- requests, GET_PC, answers

get_of : {c : Call} → Is c gets → GetPc c
get_of (get g) = g

ask_of : {c : Call} → Is c asks → NonPosted c
ask_of (ask n) = n

tell_of : {c : Call} → Is c tells → Answer c
tell_of (tell a) = a

number_is : (w : World) (c : Call) → Accepted w c → accepted (step w c) ≡ true
number_is w c n = eq-eqb (step w c).number 0 n

get_is : (w : World) (c : Call) → Accepted w c → GetPc c → event w c ≡ gets
get_is w c n (get_pc {b} {r} e) = got-event w.state b r (step w (exchange b r)) (number_is w (exchange b r) n) e

ask-is : (w : World) (c : Call) → Accepted w c → NonPosted c → event w c ≡ asks
ask-is w c n (non_posted {b} {r} e) = asked-event w.state b r (step w (exchange b r)) (number_is w (exchange b r) n) e

tell_is : (w : World) (c : Call) → Accepted w c → Answer c → event w c ≡ tells
tell_is w c n answer = accepted-event w.state _ _ (number_is w _ n)

-- ---- ending events

enable_on : (k : Channel) (c : Config) → on k c ≡ eqb (enable_bit k c) 1
enable_on peripheral c = refl
enable_on wires c = refl

abbrev EndingAt : Channel → World → Call → Type 0
EndingAt k w c = Ending k w.state.config (pltrst_read w) (pltrst_read (step w c).next) c

-- a write, by its bytes
module _ (k : Channel) (w : World) (b r : List ℕ) where
  abbrev c₀ : Config
  c₀ = w.state.config

  write_of_lem : disables k w.state b ≡ true → EndingAt k w (exchange b r)
  write_of_lem e =
      let op = eqb (byte b 0) 0x22 in
      let at = enables_at k (register_at b) in
      let rest = and_right op (at && (on k c₀ && eqb (register_value b % 2) 0)) e in
      let bits = and_right at (on k c₀ && eqb (register_value b % 2) 0) rest in
      by_write_lem (eqb-true (byte b 0) 0x22 (and_left op (at && (on k c₀ && eqb (register_value b % 2) 0)) e))
      (and_left at (on k c₀ && eqb (register_value b % 2) 0) rest)
      (eqb-true (enable_bit k c₀) 1 (sym (enable_on k c₀) ∙ and_left (on k c₀) (eqb (register_value b % 2) 0) bits))
      (eqb-true (register_value b % 2) 0 (and_right (on k c₀) (eqb (register_value b % 2) 0) bits))

-- a packet, by what the board reads before and after it
module _ (w : World) (b r : List ℕ) (n : Accepted w (exchange b r)) where
  abbrev put : World
  put = command_effect wires w b

  -- it leaves group 3 as its pairs put it
  pltrst-after : byte b 0 ≡ 0x04 → pltrst_read (step w (exchange b r)).next ≡ read_wire (put_pairs w.state.wires.groups (pairs b)) 3 1
  pltrst-after e =
      read_level (step w (exchange b r)).next 3 1 refl
      ∙ ap (λ (v : World). wire_of v 3 1) (effects w (exchange b r) n ∙ ap (λ (op : ℕ). exchange_effect w op b) e)
      ∙ pick_ind (λ (v : World). wire_of v 3 1 ≡ wire_of put 3 1) (lowers_pltrst w.state b) (λ _. reset_wire put 3 1 (omega arith) platform_reset refl)
      (λ _. refl)
      ∙ ap (λ (v : AllWires). read_wire v.groups 3 1)
      (sym (taken (with_groups w.state.wires (put_pairs w.state.wires.groups (pairs b))) _ (eq-eqb (byte b 0) 0x04 e) refl))

  packet_of_lem : (k : Channel) → lowers_pltrst w.state b ≡ true → EndingAt k w (exchange b r)
  packet_of_lem k l =
      let op = eqb (byte b 0) 0x04 in
      let high = eqb (read_wire w.state.wires.groups 3 1) 1 in
      let low = eqb (read_wire (put_pairs w.state.wires.groups (pairs b)) 3 1) 0 in
      let e = eqb-true (byte b 0) 0x04 (and_left op (high && low) l) in
      let levels = and_right op (high && low) l in
      by_packet e (read_level w 3 1 refl ∙ eqb-true _ 1 (and_left high low levels)) (pltrst-after e ∙ eqb-true _ 0 (and_right high low levels))

  packet-is : byte b 0 ≡ 0x04 → pltrst_read w ≡ 1 → pltrst_read (step w (exchange b r)).next ≡ 0 → lowers_pltrst w.state b ≡ true
  packet-is e high low =
      and_true (eq-eqb (byte b 0) 0x04 e) (and_true (eq-eqb _ 1 (sym (read_level w 3 1 refl) ∙ high)) (eq-eqb _ 0 (sym (pltrst-after e) ∙ low)))

ending_of : (k : Channel) (w : World) (c : Call) → Accepted w c → ending k w.state c ≡ true → EndingAt k w c
ending_of k w (reset r) n e = by_reset
ending_of k w (exchange b r) n e =
    ⊎_elim (write_of_lem k w b r) (packet_of_lem w b r n k) (or_either (disables k w.state b) (lowers_pltrst w.state b) e)
ending_of k w (board j o) n e = absurd (true≢false (sym e))
ending_of k w (short state c) n e = absurd (true≢false (sym e))
ending_of k w (lend write read) n e = absurd (true≢false (sym e))

ending-is : (k : Channel) (w : World) (c : Call) → Accepted w c → EndingAt k w c → ending k w.state c ≡ true
ending-is k w c n by_reset = refl
ending-is k w c n (by_write_lem {b} {r} e f g h) =
    let s = w.state in
    ap (λ (t : Bool). t || lowers_pltrst s b)
    (and_true (eq-eqb (byte b 0) 0x22 e)
    (and_true f (and_true (enable_on k s.config ∙ eq-eqb (enable_bit k s.config) 1 g) (eq-eqb (register_value b % 2) 0 h))))
ending-is k w c n (by_packet {b} {r} e high low) = lowering-ends k w.state b (packet-is w b r n e high low)

ends_of : (k : Channel) (w : World) (c : Call) → E.ends k w c ≡ true → Accepted w c × EndingAt k w c
ends_of k w c e =
    let t = accepted (step w c) in
    let n = eqb-true (step w c).number 0 (and_left t (ending k w.state c) e) in
    (n, ending_of k w c n (and_right t (ending k w.state c) e))

-- ---- all of it

as_read : (c : Config) (b : List ℕ) → AsksFor b (request_in c b)
as_read c b = record { kind = refl; address = refl; length = refl; tag = refl; bytes = refl }

pub byte_words : ByteWords
byte_words =
    record {
      get = λ w c. (λ e. let x = event-was w c gets e (λ d. true≢false (cc)) (λ d. true≢false (cc)) in (x.0, get_of x.1), λ x. get_is w c x.0 x.1);
      ask = λ w c. (λ e. let x = event-was w c asks e (λ d. true≢false (cc)) (λ d. true≢false (cc)) in (x.0, ask_of x.1), λ x. ask-is w c x.0 x.1);
      held = λ w b r e. record { request = _; waits = asked_as (view_as w (exchange b r) e); asks = as_read w.state.config b };
      tell =
          λ w c. (λ e. let x = event-was w c tells e (λ d. true≢false (cc)) (λ d. true≢false (cc)) in (x.0, tell_of x.1), λ x. tell_is w c x.0 x.1);
      end = λ w c. (λ e. sym (end_is w c) ∙ ap is_end e, ended-event w c);
      ends = λ k w c. (ends_of k w c, λ x. and_true (number_is w c x.0) (ending-is k w c x.0 x.1));
    }
