use native.Mathlib.Omega.{arith}
use Rattle.wires.specs.Going.{after_next, after_last}
use Rattle.wires.proofs.sending.after.Goals as goal

pub returns-then-sender-lt258 : goal.returns-then-sender-lt258
returns-then-sender-lt258 c = (after_next c.args.sender c.if-sender-lt258.true, omega arith)

pub returns : goal.returns
returns c = (after_last c.args.sender c.if-sender-lt258.false, omega arith)
