use mathlib.Core.Path.{ap, ◌∙◌}
use Rattle.base.specs.Bytes.{put}
use Rattle.wires.specs.Lines.{no_bits_value}
use Rattle.wires.specs.LineCode.{raised-put}
use borrow.Author.Rules.{rules}
use Rattle.wires.proofs.lines.raise_lines.Goals as goal

pub returns : goal.returns
returns c =
    c.clear_from.ensures
    ∙ ap (put 142 no_bits_value) c.levels_wait.ensures
    ∙ raised-put c.args.b.now c.requires (search rules)
