use mathlib.Core.Path.{sym, ap, ◌∙◌}
use Rattle.base.specs.Bytes.{bit}
use Rattle.wires.specs.Places.{cleared}
use Rattle.wires.specs.Lines.{map_in}
use Rattle.wires.specs.LineBits.{value_bit}
use Rattle.wires.specs.Going.{lines_passed, line_taken}
use Rattle.wires.proofs.sending.line_step.Goals as goal

pub returns-then-not-bit_at : goal.returns-then-not-bit_at
returns-then-not-bit_at c =
    let a = c.args in
    let q = c.quiet_run-k in
    lines_passed a.state.now a.reply.now a.g c.requires.0 c.requires.1 q.result q.ensures _ c.passed.ensures

pub returns : goal.returns
unfolding cleared
returns c =
    let a = c.args in
    let waits = value_bit (map_in 110 a.state.now) a.g.sender ∙ ap bit (sym c.bit_at.ensures ∙ c.if-not-bit_at.false) in
    let edge = value_bit (map_in 142 a.state.now) a.g.sender ∙ ap bit (sym c.bit_at-2.ensures ∙ c.if-bit_at.false) in
    line_taken a.state.now a.reply.now a.g c.requires.0 c.requires.1 c.requires.2 waits edge
    c.value_at-level.result c.value_at-level.ensures.0 _ _ _ c.put_bit.ensures c.put_level.ensures c.took.ensures
