use mathlib.Core.Path.{◌∙◌}
use Rattle.wires.specs.LineCode.{dropped-put}
use borrow.Author.Rules.{rules}
use Rattle.wires.proofs.lines.drop_lines.Goals as goal

pub returns : goal.returns
returns c =
    c.clear_from.ensures ∙ dropped-put c.args.b.now c.requires (search rules)
