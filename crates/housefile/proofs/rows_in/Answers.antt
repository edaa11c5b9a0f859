-- `rows_in` meets its contract. The invariant: the first i rows may stand, and the total is that of their bodies.
use Rattle.housefile.specs.Format.{row_at}
use Rattle.housefile.specs.Tables.{none_yet, one_more, one_wrong}
use Rattle.housefile.proofs.rows_in.Goals as goal
use Rattle.std.proofs.Common.{rules}

pub loop-i-init : goal.loop-i-init
loop-i-init c = none_yet (row_at c.args.file.now)

pub loop-i-preserved : goal.loop-i-preserved
loop-i-preserved c = one_more _ _ _ _ c.loop-i.invariant c.row_at-row.ensures (search rules)

pub returns-then-not-row_fits : goal.returns-then-not-row_fits
returns-then-not-row_fits c = (one_wrong _ _ _ _ c.loop-i-test.true c.row_at-row.ensures.0 (search rules), tt)
