use Prim.Native.Nat.{◌<◌}
use mathlib.Core.Path.{◌≡◌}
use lib.Seq.{paste}
use Rattle.wires.specs.Groups.{remarked}
use Rattle.wires.proofs.Wires.remarked.Given as goal

abbrev pub invariant-loop-i : goal.invariant-loop-i
invariant-loop-i l =
    (l.next.level ≡ l.self.level) × (l.next.pending ≡ paste l.self.pending 0 (remarked l.on l.self l.place).pending l.i)
    × (0 < l.i → l.next.place ≡ l.place)
