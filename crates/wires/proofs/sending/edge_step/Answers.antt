use mathlib.Core.Bool.{false}
use mathlib.Core.List.{List}
use Prim.Native.Nat.{ℕ}
use mathlib.Core.Path.{ap, ◌∙◌}
use Rattle.wires.specs.Places.{cleared}
use Rattle.wires.specs.LineCode.{bit_put}
use Rattle.wires.specs.Going.{edge_full, edge-taken}
use Rattle.wires.proofs.sending.edge_step.Goals as goal

pub returns-then-g-lt2 : goal.returns-then-g-lt2
returns-then-g-lt2 c =
    let a = c.args in
    let p = c.requires in
    let full = c.if-g-lt2.true in
    edge_full a.state.now a.reply.now a.g p.range p.more p.line p.waits p.edge full _ c.passed.ensures

pub returns : goal.returns
unfolding cleared
returns c =
    let a = c.args in
    let p = c.requires in
    edge-taken a.state.now a.reply.now a.g p.range p.more p.line p.waits p.edge c.if-g-lt2.false
    c.value_at-held.result c.value_at-held.ensures.0 _ _ _
    (c.put_bit-2.ensures ∙ ap (λ (l : List ℕ). bit_put 142 l a.g.sender false) c.put_bit.ensures)
    c.put_levels.ensures c.took.ensures
