-- P6 proved of the eleven calls over lent bytes.
use Rattle.std.specs.Prelude.{ℕ, ◌%◌, ◌≤◌, Bool, true, false, not, List, ◌≡◌, refl, ltb, length}
use Rattle.std.proofs.Common.{true≢false, sym, ◌∙◌, ltb-false}
use Rattle.std.proofs.lemmas.Bool.{not-false, not-true}
use Rattle.state.specs.State.{State}
use Rattle.state.specs.Layout.{state_length, unpacked, holds}
use Rattle.state.specs.Packing.{packed-holds, packed-found, holds-bytes, holds-sound}
use Rattle.rules.specs.Rules.Reset.{Reset, espi_reset, platform_reset}
use Rattle.rules.specs.Rules.Exchange as E
use Rattle.rules.specs.Rules.Step.{reply_length, write_length, read_length}
use Rattle.rules.specs.Rules.Calls.{Done, Exchanged, start_call, reset_call, espi_reset_call, platform_reset_call, exchange_call, exchange_planned}
use Rattle.rules.specs.Statements.Rows.{first_of}
use Rattle.rules.specs.Statements.FirstApplies.{Packs, Packing, command_rows, exchange_rows, start_rows, reset_rows, FirstApplies}
use Rattle.rules.proofs.Proofs.Rows.{first, read_off}
use Rattle.rules.proofs.Proofs.FirstApplies.{command_number}
use Rattle.rules.proofs.Proofs.WholeRows.{in_word}
use Rattle.rules.proofs.Proofs.Peripheral.WholeFirstApplies as P
use Rattle.rules.proofs.Proofs.Wires.WholeFirstApplies as W

-- ---- what the loader's test finds

packing : (st : List ℕ) → state_length ≤ length st → Packing st
packing st h =
    record {
      none = (λ e s p. true≢false (sym (packed-holds s st p.sound p.bytes) ∙ not-true (holds st) e), go (holds st) refl);
      some = λ e. found (not-false (holds st) e);
      alone = λ s p. sym (packed-found s st p.sound p.bytes);
    }
  where
    found : holds st ≡ true → Packs st (unpacked st)
    found e = record { sound = holds-sound st h e; bytes = holds-bytes st h e }

    go : (t : Bool) → holds st ≡ t → ((s : State) → Packs st s → ⊥) → not t ≡ true
    go true e n = absurd (n (unpacked st) (found e))
    go false e n = refl

-- ---- the exchange, start and the resets

exchange_first : (st command reply write read : List ℕ)
    → (exchange_call st command reply write read).word % 256 ≡ first_of (exchange_rows st command reply write read)
unfolding exchange_call exchange_planned
exchange_first st command reply write read =
    let f : Exchanged → ℕ = λ x. x.word % 256 in
    read_off f (ltb (length st) state_length) (λ _. refl)
    λ long. read_off f (ltb (length reply) reply_length) (λ _. refl)
    λ _. read_off f (ltb (length write) write_length) (λ _. refl)
    λ _. read_off f (ltb (length read) read_length) (λ _. refl)
    λ _. read_off f (not (holds st)) (λ _. refl)
    λ ok. let good = (holds-sound st (ltb-false (length st) state_length long) (not-false (holds st) ok)).is_sound in
    in_word (E.exchange (unpacked st) command).number (command_rows (unpacked st) command) refl (command_number (unpacked st) good command) _

start_first : (st : List ℕ) → (start_call st).word % 256 ≡ first_of (start_rows st)
unfolding start_call
start_first st = read_off (λ (x : Done). x.word % 256) (ltb (length st) state_length) (λ _. refl) (λ _. refl)

reset_first : (r : Reset) (st : List ℕ) → (reset_call r st).word % 256 ≡ first_of (reset_rows st)
unfolding reset_call
reset_first r st =
    let f : Done → ℕ = λ x. x.word % 256 in
    read_off f (ltb (length st) state_length) (λ _. refl) λ _. read_off f (not (holds st)) (λ _. refl) (λ _. refl)

pub first_applies : FirstApplies
unfolding espi_reset_call platform_reset_call
first_applies =
    record {
      packing = packing;
      exchange = λ st command reply write read. first refl (exchange_first st command reply write read);
      start = λ st. first refl (start_first st);
      espi_reset = λ st. first refl (reset_first espi_reset st);
      platform_reset = λ st. first refl (reset_first platform_reset st);
      look = λ st report. first refl (P.look_first st report);
      answer = λ st read serial success bytes. first refl (P.answer_first st read serial success bytes);
      take_write = λ st write report. first refl (P.take_first st write report);
      set_wire = λ st index bit value. first refl (W.set_first st index bit value);
      read_wire = λ st index bit. first refl (W.read_first st index bit);
      set_line = λ st line level. first refl (W.line_first st line level);
      pulse_line = λ st line. first refl (W.pulse_first st line);
    }
