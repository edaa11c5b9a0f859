use mathlib.Core.Path.{refl, ap, ◌∙◌}
use Rattle.registers.specs.declared.Config.{Config}
use Rattle.wires.specs.Layout.{all_in}
use Rattle.state.specs.Layout.{unpacked}
use Rattle.rules.specs.Rules.Wires as W
use Rattle.engine.specs.Carried.{settled_by}
use Rattle.engine.specs.Laws.Wires.{settled-carried}
use Rattle.engine.proofs.pulse_line.Goals as goal

-- src/lib.rt:365:1
pub returns : goal.returns
unfolding unpacked W.settle
returns c =
    let a = c.args in
    let l = a.state.now in
    settled-carried l c.requires (W.pulse_line a.line) _ _ _ _ c.settled.ensures refl
    (c.pulse_line.ensures ∙ ap (λ (z : Config). settled_by (W.pulsing_line z (all_in l) a.line) l)
    c.unpack-c.ensures)
