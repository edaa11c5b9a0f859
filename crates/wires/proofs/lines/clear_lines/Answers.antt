use mathlib.Core.Path.{◌∙◌}
use Rattle.wires.specs.LineCode.{cleared-put}
use borrow.Author.Rules.{rules}
use Rattle.wires.proofs.lines.clear_lines.Goals as goal

pub returns : goal.returns
returns c =
    c.clear_from.ensures ∙ cleared-put c.args.b.now c.requires (search rules)
