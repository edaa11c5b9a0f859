use Rattle.std.proofs.Common.{◌≡◌, length}
use Rattle.housefile.specs.Format.{row_of}
use Rattle.housefile.specs.Tables.{Put}
use Rattle.housefile.proofs.put_rows.Given as goal

abbrev pub invariant-loop-i : goal.invariant-loop-i
invariant-loop-i l = (length l.out ≡ length l.initial.out) × Put (row_of l.kinds l.lengths) l.i l.initial.out l.out
