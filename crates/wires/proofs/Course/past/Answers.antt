use native.Mathlib.Omega.{arith}
use Rattle.wires.specs.Course.{past_over, past_as}
use Rattle.wires.proofs.Course.past.Goals as goal

pub returns-then-index-gt7 : goal.returns-then-index-gt7
returns-then-index-gt7 c = let a = c.args in past_over a.self a.index a.byte c.if-index-gt7.true

pub returns : goal.returns
returns c =
    let a = c.args in
    past_as a.self _ a.index a.byte (omega (arith, c.if-index-gt7.false)) (omega arith)
    (rw (c.from-at.ensures, c.from.ensures, c.from-2.ensures) at c.counted.ensures)
