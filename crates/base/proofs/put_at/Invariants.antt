-- The invariant: i elements are in place, and the rest of `dst` is as it was.
use Rattle.std.proofs.Common.{◌≡◌, length}
use Rattle.std.proofs.Math.Seq.{paste}
use Rattle.base.proofs.put_at.Given as goal

abbrev pub invariant-loop-i : goal.invariant-loop-i
invariant-loop-i l = (length l.dst ≡ length l.fn.dst) × (l.dst ≡ paste l.fn.dst l.at l.src l.i)
