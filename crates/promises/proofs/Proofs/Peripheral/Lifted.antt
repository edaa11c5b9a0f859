-- Channel 0's calls lifted, and that each is 10 on too short a state slice.
use Rattle.std.specs.Prelude.{ℕ, ◌≡◌, length}
use Rattle.std.proofs.Math.Bool.{true}
use mathlib.Core.List.{List, []}
use Rattle.std.proofs.Math.Path.{refl}
use Rattle.std.proofs.Common.{sym, ap}
use Rattle.std.proofs.Math.Dec.{ltb}
use Rattle.base.specs.Bytes.{over, over_none}
use Rattle.peripheral.specs.declared.Np.{Np}
use Rattle.peripheral.specs.declared.Np.TheVariants.{Free, Waiting, Ready, Failed}
use Rattle.state.specs.Layout.{state_length, unpacked}
use Rattle.rules.specs.Rules.Peripheral as P
use Rattle.rules.specs.Rules.Channel.{peripheral}
use Rattle.rules.specs.Rules.Lift as L
use Rattle.rules.specs.Rules.Reply.{kept_bytes}
use Rattle.rules.specs.Rules.Step as S
use Rattle.rules.specs.Rules.Step.{Outcome, step}
use Rattle.rules.specs.Rules.Calls as X
use Rattle.rules.specs.Rules.Calls.{Stored, Looked}
use Rattle.rules.proofs.Proofs.Peripheral.{look_is}
use Rattle.rules.proofs.Proofs.Sound.{board_sound}
use Rattle.promises.specs.ByteRuns.{ByteWorld, after_look, after_answer, after_take, peripheral_bytes, lent, byte_step_value}
use Rattle.promises.specs.Statements.Lifted.{Holding, Meets, Agrees}
use Rattle.promises.proofs.Proofs.Meets.{one, two, meets, plain, board, none_kept, good, long, pass, same, short, small, Ten, ten}

module _ (v : ByteWorld) (h : Holding v) where
  abbrev st : List ℕ
  st = v.state

  look_lifts : (report : List ℕ) → Agrees v (S.board peripheral (P.look report))
  unfolding byte_step_value step X.look_call S.served L.lift
  look_lifts report =
      let q = (unpacked st).peripheral in
      rw (long v h, pass v h, look_is (unpacked st).config q report)
      (one (λ (x : Looked) (o : Outcome). Meets [] report (after_look v x) o) (short v h [] report)
      (meets (plain _) (by_request q.request) (sym (over_none [])) refl refl
      (ap (λ (l : List ℕ). record { state = unpacked st; write = v.write; read = l }) (sym (over_none v.read))) (same v h))
      (ltb (length report) S.look_length))
    where
      by_request : (np : Np) → ltb (P.look_number np) 256 ≡ true
      by_request Free = refl
      by_request (Waiting q) = refl
      by_request (Ready q k) = refl
      by_request (Failed q) = refl

  answer_lifts : (serial success : ℕ) (bytes : List ℕ) → Agrees v (S.board peripheral (P.answer serial success bytes))
  unfolding byte_step_value step X.answer_call S.served over
  answer_lifts serial success bytes =
      let o = P.answer serial success bytes in
      let p = L.settled peripheral (unpacked st) o in
      rw (long v h, pass v h)
      (one (λ (x : Stored) (z : Outcome). Meets [] [] (after_answer v x) z) (short v h [] [])
      (board st h.long v.write (over (kept_bytes p.kept bytes) v.read) [] [] p.number p.next
      (small (unpacked st) peripheral o) (board_sound (good v h) peripheral o))
      (ltb (length v.read) S.read_length))

  take_lifts : (report : List ℕ) → Agrees v (S.board peripheral (P.take_write report))
  unfolding byte_step_value step X.take_write_call S.served
  take_lifts report =
      let o = P.take_write report in
      let p = L.settled peripheral (unpacked st) o in
      rw (long v h, pass v h, none_kept p.kept v.read)
      (two (λ (x : Stored) (z : Outcome). Meets [] report (after_take v x) z) (short v h [] report)
      (board st h.long v.write v.read report (P.take_report (unpacked st).peripheral.write) p.number p.next
      (small (unpacked st) peripheral o) (board_sound (good v h) peripheral o))
      (ltb (length v.write) S.write_length) (ltb (length report) S.take_length))

  pub peripheral_lifts : (o : P.Board) → Agrees v (S.board peripheral o)
  peripheral_lifts (P.look report) = look_lifts report
  peripheral_lifts (P.answer serial success bytes) = answer_lifts serial success bytes
  peripheral_lifts (P.take_write report) = take_lifts report

module _ (v : ByteWorld) (state : List ℕ) (few : ltb (length state) state_length ≡ true) where
  pub short_peripheral_lem : (o : P.Board) → Ten v (S.board peripheral o) (peripheral_bytes (lent v state) o)
  unfolding X.look_call X.answer_call X.take_write_call
  short_peripheral_lem (P.look report) = rw few (ten v)
  short_peripheral_lem (P.answer serial success bytes) = rw few (ten v)
  short_peripheral_lem (P.take_write report) = rw few (ten v)
