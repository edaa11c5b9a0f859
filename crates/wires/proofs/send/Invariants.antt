use mathlib.Core.Path.{◌≡◌}
use lib.ListN.{length}
use Rattle.wires.specs.Going.{state_end, reply_end, count_end, InRange}
use Rattle.wires.proofs.send.Given as goal

abbrev pub invariant-loop-g : goal.invariant-loop-g
invariant-loop-g l =
    InRange l.state l.reply l.g
    × ((state_end l.state l.g ≡ state_end l.initial.state l.initial.g)
    × ((reply_end l.state l.reply l.g ≡ reply_end l.initial.state l.initial.reply l.initial.g)
    × ((count_end l.state l.g ≡ count_end l.initial.state l.initial.g)
    × ((length l.state ≡ length l.initial.state) × (length l.reply ≡ length l.initial.reply)))))

abbrev pub decreases-loop-g : goal.decreases-loop-g
decreases-loop-g l = l.g.left
