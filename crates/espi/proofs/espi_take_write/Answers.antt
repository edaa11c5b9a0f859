use lib.Dec.{ltb}
use lib.ListN.{length}
use mathlib.Core.Bool.{◌||◌}
use mathlib.Core.Path.{◌∙◌}
use Rattle.state.specs.Layout.{state_length, unpacked}
use Rattle.rules.specs.Rules.Peripheral as P
use Rattle.rules.specs.Rules.Step.{write_length, take_length}
use Rattle.rules.specs.Rules.Calls.{stored, take_write_call}
use Rattle.espi.specs.Boundary.{refuses, goes_through, admitted, two_tests, taken_by, take-plain}
use Rattle.espi.proofs.espi_take_write.Goals as goal

pub returns-in-Err : goal.returns-in-Err
unfolding take_write_call P.settle
returns-in-Err c =
    let a = c.args in
    let l = a.state.now in
    let w = ltb (length a.write_store.now) write_length in
    let r = ltb (length a.report.now) take_length in
    refuses l (w || r) _ c.guard.ensures (λ n. stored n l a.report.now) _ _ _ c.number.ensures c.in-Err.is
    ∙ two_tests (ltb (length l) state_length) w r (stored 10 l a.report.now) _

pub take_write-p-requires : goal.take_write-p-requires
take_write-p-requires c =
    let a = c.args in
    let l = a.state.now in
    let w = ltb (length a.write_store.now) write_length in
    let r = ltb (length a.report.now) take_length in
    (admitted l (w || r) _ _ c.guard.ensures c.in_default.is).state

pub returns : goal.returns
unfolding take_write_call P.settle
returns c =
    let a = c.args in
    let l = a.state.now in
    let w = ltb (length a.write_store.now) write_length in
    let r = ltb (length a.report.now) take_length in
    let t = admitted l (w || r) _ _ c.guard.ensures c.in_default.is in
    goes_through l (w || r) _ c.guard.ensures (λ n. stored n l a.report.now) _ _ c.in_default.is
    (rw c.from.ensures
    (taken_by l _ c.take_write-p.result _ (take-plain (unpacked l)) t.state.long c.take_write-p.ensures _ _ _ c.unpack-h.ensures c.put_write.ensures))
    ∙ two_tests (ltb (length l) state_length) w r (stored 10 l a.report.now) _
