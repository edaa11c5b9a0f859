use native.Mathlib.Omega.{arith}
use lib.ListN.{length-set}
use Rattle.wires.specs.LineCode.{waits_none, waits_next, waits_all}
use borrow.Author.Rules.{rules}
use Rattle.wires.proofs.lines.levels_wait.Goals as goal

pub loop-i-init : goal.loop-i-init
loop-i-init c = (search rules, waits_none c.args.b.now)

pub loop-i-preserved : goal.loop-i-preserved
loop-i-preserved c =
    let a = c.args in
    (simp length-set (omega arith), waits_next a.b.now c.loop-i.b c.loop-i.i (omega arith) (omega arith) c.loop-i.invariant.1)

pub returns : goal.returns
returns c =
    waits_all c.args.b.now _ c.loop-i.i (omega arith) c.loop-i.invariant.1
