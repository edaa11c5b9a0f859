-- Channel 1's calls lifted, and that each is 10 on too short a state slice.
use Rattle.std.specs.Prelude.{ℕ, Bool, ◌≡◌, length}
use Rattle.std.proofs.Math.Bool.{true, false}
use mathlib.Core.List.{List, []}
use Rattle.std.proofs.Math.Path.{refl}
use Rattle.std.proofs.Math.Dec.{ltb}
use Rattle.base.specs.Pick.{pick}
use Rattle.base.specs.Bytes.{over}
use Rattle.wires.specs.Groups.{defined_bit}
use Rattle.state.specs.Layout.{state_length, unpacked}
use Rattle.rules.specs.Rules.Wires as W
use Rattle.rules.specs.Rules.Channel.{wires}
use Rattle.rules.specs.Rules.Lift as L
use Rattle.rules.specs.Rules.Step as S
use Rattle.rules.specs.Rules.Step.{step}
use Rattle.rules.specs.Rules.Calls as X
use Rattle.rules.proofs.Proofs.Wires.{read_is}
use Rattle.rules.proofs.Proofs.Sound.{board_sound}
use Rattle.promises.specs.ByteRuns.{ByteWorld, wires_bytes, lent, byte_step_value}
use Rattle.promises.specs.Statements.Lifted.{Holding, Agrees}
use Rattle.promises.proofs.Proofs.Meets.{meets, no_bytes, board, none_kept, good, long, pass, same, small, Ten, ten}

module _ (v : ByteWorld) (h : Holding v) where
  abbrev st : List ℕ
  st = v.state

  set_lifts : (index bit value : ℕ) → Agrees v (S.board wires (W.set_wire index bit value))
  unfolding byte_step_value step X.set_wire_call S.served over
  set_lifts index bit value =
      let o = W.set_wire index bit value in
      let p = L.settled wires (unpacked st) o in
      rw (long v h, pass v h, none_kept p.kept v.read)
      (board st h.long v.write v.read [] [] p.number p.next (small (unpacked st) wires o) (board_sound (good v h) wires o))

  line_lifts : (line level : ℕ) → Agrees v (S.board wires (W.set_line line level))
  unfolding byte_step_value step X.set_line_call S.served over
  line_lifts line level =
      let o = W.set_line line level in
      let p = L.settled wires (unpacked st) o in
      rw (long v h, pass v h, none_kept p.kept v.read)
      (board st h.long v.write v.read [] [] p.number p.next (small (unpacked st) wires o) (board_sound (good v h) wires o))

  pulse_lifts : (line : ℕ) → Agrees v (S.board wires (W.pulse_line line))
  unfolding byte_step_value step X.pulse_line_call S.served over
  pulse_lifts line =
      let o = W.pulse_line line in
      let p = L.settled wires (unpacked st) o in
      rw (long v h, pass v h, none_kept p.kept v.read)
      (board st h.long v.write v.read [] [] p.number p.next (small (unpacked st) wires o) (board_sound (good v h) wires o))

  read_lifts : (index bit : ℕ) → Agrees v (S.board wires (W.read_wire index bit))
  unfolding byte_step_value step X.read_wire_call S.served L.lift over
  read_lifts index bit =
      let value = W.read_value (unpacked st).wires index bit in
      rw (long v h, pass v h, read_is (unpacked st).config (unpacked st).wires index bit)
      (meets refl (by_test (defined_bit index bit)) refl (no_bytes value) refl refl (same v h))
    where
      by_test : (t : Bool) → ltb (pick t 0 22) 256 ≡ true
      by_test true = refl
      by_test false = refl

  pub wires_lifts : (o : W.Board) → Agrees v (S.board wires o)
  wires_lifts (W.set_wire index bit value) = set_lifts index bit value
  wires_lifts (W.read_wire index bit) = read_lifts index bit
  wires_lifts (W.set_line line level) = line_lifts line level
  wires_lifts (W.pulse_line line) = pulse_lifts line

module _ (v : ByteWorld) (state : List ℕ) (few : ltb (length state) state_length ≡ true) where
  pub short_wires : (o : W.Board) → Ten v (S.board wires o) (wires_bytes (lent v state) o)
  unfolding X.set_wire_call X.read_wire_call X.set_line_call X.pulse_line_call
  short_wires (W.set_wire index bit value) = rw few (ten v)
  short_wires (W.read_wire index bit) = rw few (ten v)
  short_wires (W.set_line line level) = rw few (ten v)
  short_wires (W.pulse_line line) = rw few (ten v)
