use Rattle.housefile.specs.Answers.{all_written}
use Rattle.housefile.proofs.write.Goals as goal

pub returns : goal.returns
returns c =
    all_written _ _ _ _ _ c.in_ok-total.ensures.0 c.if-total-bodies.false c.if-n-lengths.false c.if-size-gt-LONGEST.false c.if-out-size.false _ _
    c.put_rows.ensures c.put_at.ensures
