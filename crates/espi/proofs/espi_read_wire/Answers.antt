use mathlib.Core.Bool.{false, not}
use mathlib.Core.Path.{ap, ◌∙◌}
use Rattle.state.specs.Layout.{unpacked}
use Rattle.rules.specs.Rules.Calls.{read_wire_call}
use Rattle.espi.specs.Boundary.{refuses, goes_through, wire_by, wire_refused}
use Rattle.espi.proofs.espi_read_wire.Goals as goal

pub returns-in-Err : goal.returns-in-Err
unfolding read_wire_call
returns-in-Err c = refuses c.args.state.now false _ c.guard.ensures (λ n. n) _ _ _ c.number.ensures c.in-Err.is

pub returns-then-not-defined_bit : goal.returns-then-not-defined_bit
unfolding read_wire_call
returns-then-not-defined_bit c =
    goes_through c.args.state.now false _ c.guard.ensures (λ n. n) _ _ c.in_default.is
    (c.number-then-not-defined_bit.ensures
    ∙ wire_refused (unpacked c.args.state.now).wires c.args.index c.args.bit _ c.defined_bit.ensures (ap not c.if-not-defined_bit.true))

pub returns : goal.returns
unfolding read_wire_call
returns c =
    goes_through c.args.state.now false _ c.guard.ensures (λ n. n) _ _ c.in_default.is
    (wire_by c.args.state.now _ c.args.index c.args.bit _ _ c.unpack-w.ensures c.defined_bit.ensures (ap not c.if-not-defined_bit.false)
    c.read.ensures)
