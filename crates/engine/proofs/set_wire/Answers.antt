use mathlib.Core.Path.{ap}
use Rattle.state.specs.Layout.{unpacked}
use Rattle.rules.specs.Rules.Wires as W
use Rattle.rules.specs.Rules.Channel.{wires}
use Rattle.engine.specs.Carried.{settled_to}
use Rattle.engine.specs.Laws.Loaded.{set_there, lifted_by}
use Rattle.engine.specs.Laws.Wires.{settled-carried}
use Rattle.engine.proofs.set_wire.Goals as goal

-- src/lib.rt:328:1
pub returns : goal.returns
unfolding unpacked W.settle
returns c =
    let a = c.args in
    let l = a.state.now in
    let e = set_there l _ _ a.index a.bit a.value _
    c.unpack-c.ensures
    c.unpack.ensures
    c.setting-x.ensures in
    lifted_by wires l (settled-carried l c.requires (W.set_wire a.index a.bit a.value) _ _ _ _ c.silently.ensures e
    (ap (settled_to _) c.store.ensures)) e
