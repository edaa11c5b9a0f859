use mathlib.Core.Bool.{false}
use Rattle.state.specs.Layout.{unpacked}
use Rattle.rules.specs.Rules.Wires as W
use Rattle.rules.specs.Rules.Calls.{done, pulse_line_call}
use Rattle.espi.specs.Boundary.{refuses, goes_through, admitted, settled_by_lem, board_plain}
use Rattle.espi.proofs.espi_pulse_line.Goals as goal

pub returns-in-Err : goal.returns-in-Err
unfolding pulse_line_call W.settle
returns-in-Err c =
    refuses c.args.state.now false _ c.guard.ensures (λ n. done n c.args.state.now) _ _ _ c.number.ensures c.in-Err.is

pub pulse_line-p-requires : goal.pulse_line-p-requires
pulse_line-p-requires c = (admitted c.args.state.now false _ _ c.guard.ensures c.in_default.is).state

pub returns : goal.returns
unfolding pulse_line_call W.settle
returns c =
    let a = c.args in
    let l = a.state.now in
    let t = admitted l false _ _ c.guard.ensures c.in_default.is in
    goes_through l false _ c.guard.ensures (λ n. done n l) _ _ c.in_default.is
    (rw c.from.ensures
    (settled_by_lem l _ c.pulse_line-p.result _ (board_plain (unpacked l) (W.pulse_line a.line)) t.state.long c.pulse_line-p.ensures))
