use Rattle.engine.specs.Laws.Wires.{set_refused, set_changed}
use mathlib.Core.Path.{ap}
use mathlib.Core.Bool.{not}
use Rattle.engine.proofs.wires_channel.setting.Goals as goal

-- src/wires_channel.rt:65:9

pub returns-then-not-settable : goal.returns-then-not-settable
returns-then-not-settable c =
    let a = c.args in
    λ l. set_refused a.c a.w l a.index a.bit a.value _ _ c.settable.ensures (ap not c.if-not-settable.true) c.number.ensures

-- src/wires_channel.rt:72:15

pub returns : goal.returns
returns c =
    let a = c.args in
    λ l. set_changed a.c a.w l a.index a.bit a.value _ _ _ _ c.settable.ensures
    (ap not c.if-not-settable.false) c.on.ensures c.set.ensures c.keep.ensures
