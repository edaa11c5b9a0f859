use mathlib.Core.Path.{sym, ap, ◌∙◌}
use Rattle.rules.specs.Rules.Peripheral.{taken, taking}
use Rattle.engine.specs.Laws.Peripheral.{changed}
use Rattle.engine.proofs.peripheral_channel.taken.Goals as goal

pub returns-in-None : goal.returns-in-None
unfolding taken
returns-in-None c = c.refused.ensures ∙ ap (taking c.args.p) (sym c.in-None.is)

pub returns-in-Some : goal.returns-in-Some
unfolding taken
returns-in-Some c =
    changed c.emptied.ensures c.keep.ensures ∙ ap (taking c.args.p)
    (sym c.in-Some.is)
