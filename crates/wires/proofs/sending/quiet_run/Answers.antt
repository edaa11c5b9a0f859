use mathlib.Core.Path.{sym, ◌∙◌}
use Rattle.wires.specs.Going.{quiet_8, quiet_64}
use Rattle.wires.proofs.sending.quiet_run.Goals as goal

pub returns-then-empty_word : goal.returns-then-empty_word
returns-then-empty_word c =
    let a = c.args in
    quiet_64 a.b.now a.line a.left c.requires.1 c.if-left-ge64.true (sym c.empty_word.ensures ∙ c.if-empty_word.true)

pub returns-then-empty_byte : goal.returns-then-empty_byte
returns-then-empty_byte c =
    let a = c.args in
    quiet_8 a.b.now a.line a.left c.requires.1 c.if-left-ge8.true (sym c.empty_byte.ensures ∙ c.if-empty_byte.true)
