use Rattle.housefile.specs.Format.{row_at}
use Rattle.housefile.specs.Tables.{Kept}
use Rattle.housefile.proofs.rows_in.Given as goal

abbrev pub invariant-loop-i : goal.invariant-loop-i
invariant-loop-i l = Kept (row_at l.file) l.i l.total
