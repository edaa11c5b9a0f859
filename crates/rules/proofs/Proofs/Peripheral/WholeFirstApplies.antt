-- P6 of the exported calls of channel 0.
use Prim.Native.Nat.{ℕ, ◌%◌}
use Rattle.std.specs.Prelude.{not, List, ◌≡◌, ltb, length}
use Rattle.std.proofs.Math.Path.{refl, ap}
use Rattle.std.proofs.Common.{sym, ◌∙◌}
use Rattle.registers.specs.declared.Config.{Config}
use Rattle.state.specs.Layout.{state_length, unpacked, holds}
use Rattle.rules.specs.Rules.Plan.{PeripheralChange}
use Rattle.rules.specs.Rules.Peripheral.{look, answer, take_write}
use Rattle.rules.specs.Rules.Channel.{peripheral}
use Rattle.rules.specs.Rules.Lift.{lift}
use Rattle.rules.specs.Rules.Step.{write_length, read_length, look_length, take_length}
use Rattle.rules.specs.Rules.Calls.{Stored, Looked, look_call, answer_call, take_write_call}
use Rattle.rules.specs.Statements.Rows.{first_of}
use Rattle.rules.specs.Statements.FirstApplies.{look_rows, take_rows, answer_rows}
use Rattle.rules.proofs.Proofs.Rows.{read_off}
use Rattle.rules.proofs.Proofs.Peripheral.{look_is}
use Rattle.rules.proofs.Proofs.WholeRows.{own}

module _ (st : List ℕ) where
  abbrev c : Config
  c = (unpacked st).config

  pub look_first : (report : List ℕ) → (look_call st report).word % 256 ≡ first_of (look_rows st report)
  unfolding look_call
  look_first report =
      let f : Looked → ℕ = λ x. x.word % 256 in
      read_off f (ltb (length st) state_length) (λ _. refl)
      λ _. read_off f (ltb (length report) look_length) (λ _. refl)
      λ _. read_off f (not (holds st)) (λ _. refl)
      λ _. ap (λ (x : PeripheralChange). x.out.number % 256) (sym (look_is c (unpacked st).peripheral report)) ∙ own st peripheral (look report) refl

  pub answer_first : (read : List ℕ) (serial success : ℕ) (bytes : List ℕ)
      → (answer_call st read serial success bytes).word % 256 ≡ first_of (answer_rows st read serial success bytes)
  unfolding answer_call lift
  answer_first read serial success bytes =
      let f : Stored → ℕ = λ x. x.word % 256 in
      read_off f (ltb (length st) state_length) (λ _. refl)
      λ _. read_off f (ltb (length read) read_length) (λ _. refl)
      λ _. read_off f (not (holds st)) (λ _. refl)
      λ _. own st peripheral (answer serial success bytes) refl

  pub take_first : (write report : List ℕ) → (take_write_call st write report).word % 256 ≡ first_of (take_rows st write report)
  unfolding take_write_call lift
  take_first write report =
      let f : Stored → ℕ = λ x. x.word % 256 in
      read_off f (ltb (length st) state_length) (λ _. refl)
      λ _. read_off f (ltb (length write) write_length) (λ _. refl)
      λ _. read_off f (ltb (length report) take_length) (λ _. refl)
      λ _. read_off f (not (holds st)) (λ _. refl)
      λ _. own st peripheral (take_write report) refl
