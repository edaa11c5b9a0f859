-- P6 of the exported calls of channel 1.
use Prim.Native.Nat.{ℕ, ◌%◌}
use Rattle.std.specs.Prelude.{not, List, ◌≡◌, ltb, length}
use Rattle.std.proofs.Math.Path.{refl, ap}
use Rattle.std.proofs.Common.{sym, ◌∙◌}
use Rattle.registers.specs.declared.Config.{Config}
use Rattle.state.specs.Layout.{state_length, unpacked, holds}
use Rattle.rules.specs.Rules.Wires.{set_wire, read_wire, set_line, pulse_line}
use Rattle.rules.specs.Rules.Channel.{wires}
use Rattle.rules.specs.Rules.Lift.{lift}
use Rattle.rules.specs.Rules.Calls.{Done, set_wire_call, read_wire_call, set_line_call, pulse_line_call}
use Rattle.rules.specs.Statements.Rows.{first_of}
use Rattle.rules.specs.Statements.FirstApplies.{board_rows, set_rows, read_rows, line_rows, pulse_rows}
use Rattle.rules.proofs.Proofs.Rows.{read_off}
use Rattle.rules.proofs.Proofs.Wires.{read_is}
use Rattle.rules.specs.Rules.Plan.{WiresChange}
use Rattle.rules.proofs.Proofs.WholeRows.{in_word, settle-number, own}

module _ (st : List ℕ) where
  abbrev c : Config
  c = (unpacked st).config

  pub set_first : (index bit value : ℕ) → (set_wire_call st index bit value).word % 256 ≡ first_of (set_rows st index bit value)
  unfolding set_wire_call lift
  set_first index bit value =
      let f : Done → ℕ = λ x. x.word % 256 in
      read_off f (ltb (length st) state_length) (λ _. refl) λ _. read_off f (not (holds st)) (λ _. refl) λ _. own st wires (set_wire index bit value) refl

  pub line_first : (line level : ℕ) → (set_line_call st line level).word % 256 ≡ first_of (line_rows st line level)
  unfolding set_line_call lift
  line_first line level =
      let f : Done → ℕ = λ x. x.word % 256 in
      read_off f (ltb (length st) state_length) (λ _. refl) λ _. read_off f (not (holds st)) (λ _. refl) λ _. own st wires (set_line line level) refl

  pub pulse_first : (line : ℕ) → (pulse_line_call st line).word % 256 ≡ first_of (pulse_rows st line)
  unfolding pulse_line_call lift
  pulse_first line =
      let f : Done → ℕ = λ x. x.word % 256 in
      read_off f (ltb (length st) state_length) (λ _. refl) λ _. read_off f (not (holds st)) (λ _. refl) λ _. own st wires (pulse_line line) refl

  pub read_first : (index bit : ℕ) → read_wire_call st index bit % 256 ≡ first_of (read_rows st index bit)
  unfolding read_wire_call
  read_first index bit =
      let f : ℕ → ℕ = λ x. x % 256 in
      let n = ap (λ (x : WiresChange). x.out.number) (sym (read_is c (unpacked st).wires index bit)) ∙ settle-number wires c (unpacked st).wires
      (read_wire index bit) in
      read_off f (ltb (length st) state_length) (λ _. refl)
      λ _. read_off f (not (holds st)) (λ _. refl) λ _. in_word _ (board_rows wires c (unpacked st).wires (read_wire index bit)) refl n _
