use mathlib.Core.Path.{◌≡◌}
use lib.ListN.{drop}
use Rattle.command.specs.Needs.{all_ff}
use Rattle.command.proofs.all_ff.Given as goal

abbrev pub invariant-loop-x : goal.invariant-loop-x
invariant-loop-x l = all_ff (drop l.x-index l.b) ≡ all_ff l.b
