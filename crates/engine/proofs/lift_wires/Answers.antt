use mathlib.Core.Path.{ap, ◌∙◌}
use Rattle.rules.specs.Rules.Lift.{with_status}
use Rattle.rules.specs.Rules.Channel.{wires}
use Rattle.state.specs.Layout.{unpacked}
use Rattle.engine.specs.Carried.{beside, carried}
use Rattle.engine.specs.declared.Outgoing.{Outgoing}
use Rattle.engine.specs.Laws.Stored.{lift-carried}
use Rattle.engine.specs.Laws.Loaded.{groups-status}
use native.Mathlib.Omega.{arith}
use Rattle.engine.proofs.lift_wires.Goals as goal

-- src/lib.rt:84:1
pub returns : goal.returns
unfolding unpacked
returns c =
    let a = c.args in
    let l = a.state.now in
    let x = beside (unpacked l).wires.lines a.x in
    ap (λ (z : Outgoing). carried z c.store.new.state) c.spoken.ensures
    ∙ lift-carried wires (unpacked l) x l c.requires.0 c.requires.1 _ _ c.requires.2 c.store.ensures
    (ap (with_status a.x.out.say)
    (groups-status l a.x c.requires.0 (λ k. omega (arith, c.slice_known-1.given k)) c.requires.1 _ _ _
    c.store.ensures c.status_in-others.ensures.0
    c.status_in.ensures.0))
