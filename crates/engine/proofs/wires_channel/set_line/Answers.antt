use native.Mathlib.Omega.{arith}
use mathlib.Core.Path.{refl, ap}
use Rattle.engine.specs.Laws.Loaded.{tidy_there}
use Rattle.engine.specs.Laws.Wires.{line_none, line_busy_lem, line_set}
use mathlib.Core.Bool.{not}
use Rattle.engine.proofs.wires_channel.set_line.Goals as goal

-- src/wires_channel.rt:85:9

pub returns-then-not-line-level : goal.returns-then-not-line-level
returns-then-not-line-level c =
    let a = c.args in line_none a.c a.state.now a.line a.level _ refl (ap not c.if-not-line-level.true)

-- src/wires_channel.rt:87:8

pub returns-then-edge_waits : goal.returns-then-edge_waits
returns-then-edge_waits c =
    let a = c.args in line_busy_lem a.c a.state.now a.line a.level _ refl
    (ap not c.if-not-line-level.false) _ c.edge_waits.ensures c.if-edge_waits.true

-- src/wires_channel.rt:91:5

pub returns : goal.returns
returns c =
    let a = c.args in
    line_set a.c a.state.now a.line a.level _ refl (ap not c.if-not-line-level.false) _ _ _
    (λ k. omega (arith, c.slice_known-1.given k)) c.requires.long
    (tidy_there a.state.now c.requires) c.edge_waits.ensures
    c.if-edge_waits.false c.on.ensures c.set_line.ensures
