use native.Mathlib.Omega.{arith}
use mathlib.Core.Path.{ap, ◌∙◌}
use Rattle.wires.specs.Groups.{enabled}
use Rattle.wires.specs.Lines.{raised, lines_in}
use Rattle.wires.specs.declared.Wires.{Wires}
use Rattle.rules.specs.Rules.Channel.{wires}
use Rattle.engine.specs.Carried.{put_part}
use Rattle.engine.specs.Laws.Wires.{both_stored}
use Rattle.engine.proofs.wires_channel.enable.Goals as goal

-- src/wires_channel.rt:135:1
pub returns : goal.returns
returns c =
    let l = c.args.state.now in
    both_stored l (λ k. omega (arith, c.slice_known-1.given k))
    c.requires raised _ _ c.enabled-q.result
    c.pack.ensures c.raise_lines.ensures
    ∙ ap (λ (z : Wires). put_part wires (record { groups = z; lines = raised (lines_in l) }) l)
    (c.enabled-q.ensures
    ∙ ap enabled c.unpack-w.ensures)
