use Rattle.std.proofs.Common.{length}
use Rattle.housefile.specs.Format.{row_of}
use Rattle.housefile.specs.Tables.{Kept}
use Rattle.housefile.proofs.rows_given.Given as goal

abbrev pub invariant-loop-kind : goal.invariant-loop-kind
invariant-loop-kind l = Kept (row_of l.kinds l.lengths) (length l.yielded) l.total
