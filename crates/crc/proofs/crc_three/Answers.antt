-- `crc::crc_three` meets its contract: the number with one, two and three bytes taken in, brought down.
use Prim.Native.Nat.{ℕ}
use mathlib.Core.Path.{ap, ◌∙◌}
use native.Mathlib.Omega.{arith}
use lib.Bits.{bit_xor}
use Rattle.crc.specs.Powers.{times}
use Rattle.crc.proofs.Steps.{sum_lt, taken_lt, three_lt, three-step}
use Rattle.crc.proofs.crc_three.Goals as goal

pub times-t-requires-2 : goal.times-t-requires-2
times-t-requires-2 c =
    let a = c.args in
    let et = c.times-t.ensures ∙ ap (times 0 1 2) c.from.ensures in
    let t = taken_lt {m = 8} {t = 0} {b = a.a} (omega arith) (omega arith) (omega arith) et in
    ((omega arith, omega arith), (omega arith, omega (arith, sum_lt {m = 10} {b = c.from-2.result} (omega arith) t (omega arith))))

pub times-t-requires-3 : goal.times-t-requires-3
times-t-requires-3 c =
    let a = c.args in
    let et = c.times-t.ensures ∙ ap (times 0 1 2) c.from.ensures in
    let t = taken_lt {m = 8} {t = 0} {b = a.a} (omega arith) (omega arith) (omega arith) et in
    let u = taken_lt {m = 10} {b = c.from-2.result} (omega arith) t (omega arith) c.times-t-2.ensures in
    ((omega arith, omega arith), (omega arith, omega (arith, sum_lt {m = 12} {b = c.from-3.result} (omega arith) u (omega arith))))

pub overflow_cast-result : goal.overflow_cast-result
overflow_cast-result c =
    record {
      fits =
          three_lt {a = c.from.result} {b = c.from-2.result} {c = c.from-3.result} (omega arith) (omega arith) (omega arith)
          c.times-t.ensures c.times-t-2.ensures
          c.times-t-3.ensures c.fold.ensures;
    }

pub returns : goal.returns
returns c =
    let a = c.args in
    let et = c.times-t.ensures ∙ ap (times 0 1 2) c.from.ensures in
    let eu = c.times-t-2.ensures ∙ ap (λ (x : ℕ). times 0 1 2 (bit_xor c.times-t.result x)) c.from-2.ensures in
    let ev = c.times-t-3.ensures ∙ ap (λ (x : ℕ). times 0 1 2 (bit_xor c.times-t-2.result x)) c.from-3.ensures in
    three-step {a = a.a} {b = a.b} {c = a.c} (omega arith) (omega arith) (omega arith) et eu ev c.fold.ensures
