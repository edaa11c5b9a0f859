use native.Mathlib.Omega.{arith}
use mathlib.Core.Path.{ap, ◌∙◌}
use Rattle.wires.specs.Groups.{disabled}
use Rattle.wires.specs.Lines.{dropped, lines_in}
use Rattle.wires.specs.declared.Wires.{Wires}
use Rattle.rules.specs.Rules.Channel.{wires}
use Rattle.engine.specs.Carried.{put_part}
use Rattle.engine.specs.Laws.Wires.{both_stored}
use Rattle.engine.proofs.wires_channel.disable.Goals as goal

-- src/wires_channel.rt:125:1
pub returns : goal.returns
returns c =
    let l = c.args.state.now in
    both_stored l (λ k. omega (arith, c.slice_known-1.given k))
    c.requires dropped _ _ c.disabled-q.result
    c.pack.ensures c.drop_lines.ensures
    ∙ ap (λ (z : Wires). put_part wires (record { groups = z; lines = dropped (lines_in l) }) l)
    (c.disabled-q.ensures
    ∙ ap disabled c.unpack-w.ensures)
