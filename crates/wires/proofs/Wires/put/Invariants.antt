-- The invariant: the pairs that are left lead from the course so far to where all lead.
use Prim.Native.Nat.{◌*◌}
use mathlib.Core.Path.{◌≡◌}
use lib.ListN.{drop}
use Rattle.wires.specs.Course.{course_of, past_pairs}
use Rattle.wires.proofs.Wires.put.Given as goal

abbrev pub invariant-loop-index : goal.invariant-loop-index
invariant-loop-index l = past_pairs l.course (drop (l.index-index * 2) l.bytes) ≡ past_pairs (course_of l.self) l.bytes
