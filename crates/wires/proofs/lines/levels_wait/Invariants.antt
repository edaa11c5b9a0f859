use mathlib.Core.Path.{◌≡◌}
use lib.ListN.{length}
use Rattle.wires.specs.LineCode.{waits_from}
use Rattle.wires.proofs.lines.levels_wait.Given as goal

abbrev pub invariant-loop-i : goal.invariant-loop-i
invariant-loop-i l = ((length l.b ≡ length l.initial.b) × (l.b ≡ waits_from l.initial.b l.i))
