use mathlib.Core.Path.{sym, ◌∙◌}
use native.Mathlib.Omega.{arith}
use Rattle.command.specs.Laws.{all_ff-end, all_ff_next, all_ff_stop}
use Rattle.command.proofs.all_ff.Goals as goal

pub returns-then-x : goal.returns-then-x
returns-then-x c = sym (all_ff_stop _ _ c.loop-x-test.true c.if-x.true) ∙ c.loop-x.invariant

pub loop-x-preserved : goal.loop-x-preserved
loop-x-preserved c = all_ff_next _ _ c.loop-x-test.true c.if-x.false ∙ c.loop-x.invariant

pub returns : goal.returns
returns c = sym (all_ff-end _ c.loop-x.x-index (omega (arith, c.loop-x-test.false))) ∙ c.loop-x.invariant
