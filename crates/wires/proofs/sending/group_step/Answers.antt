use mathlib.Core.Path.{refl}
use native.Mathlib.Omega.{arith}
use Rattle.wires.specs.Going.{group_passed, group_taken, pair_put}
use Rattle.wires.proofs.sending.group_step.Goals as goal

pub returns-then-state-sender-ne1 : goal.returns-then-state-sender-ne1
returns-then-state-sender-ne1 c =
    let a = c.args in
    group_passed a.state.now a.reply.now a.g c.requires.0 c.requires.1 c.requires.2 c.if-state-sender-ne1.true c.after-next.result
    c.after-next.ensures.0 c.after-next.ensures.1 _ c.passed.ensures

pub returns : goal.returns
returns c =
    let a = c.args in
    let p = c.requires.0 in
    let e = c.pair-entry in
    group_taken a.state.now a.reply.now a.g p c.requires.1 c.requires.2 c.if-state-sender-ne1.false c.after-next.result
    c.after-next.ensures.0 _ _ _ refl
    (pair_put a.g.at _ _ e.result a.reply.now e.ensures (omega (arith, p.room, p.holds c.requires.1))) c.took.ensures
