use Prim.Native.Nat.{ℕ, ◌<◌, ◌+◌}
use mathlib.Core.Path.{◌≡◌, ap, ◌∙◌}
use native.Mathlib.Omega.{arith}
use lib.ListN.{get_or}
use Rattle.std.proofs.Common.{rules}
use Rattle.command.specs.Laws.{byte_from, high_next, power_next, within}
use Rattle.command.proofs.high_first.Goals as goal

-- the byte that the loop adds
added : (c : goal.After-from-in-loop-x) → (c.from-in-loop-x.result ≡ get_or c.args.b.now (c.args.at + c.loop-x.x-index) 0) × (c.loop-x.x-index < c.args.n)
added c =
    let (e, l) = byte_from c.args.b.now c.from-from.result c.from.result c.loop-x.x-index c.loop-x-test.true in
    (c.from-in-loop-x.ensures ∙ e ∙ ap (λ (k : ℕ). get_or c.args.b.now (k + c.loop-x.x-index) 0) c.from-from.ensures, omega arith)

pub overflow_mul-v : goal.overflow_mul-v
overflow_mul-v c = omega (arith, within 7 _ _ (search rules) c.loop-x.invariant.1)

pub overflow_add-v : goal.overflow_add-v
overflow_add-v c =
    let (e, l) = added c in omega (arith, within 7 _ _ (omega arith) c.loop-x.invariant.1, c.type_inv.b (c.args.at + c.loop-x.x-index))

pub loop-x-preserved : goal.loop-x-preserved
loop-x-preserved c =
    let (e, l) = added c in
    (high_next _ _ _ c.loop-x.invariant.0 e, power_next _ _ _ c.loop-x.invariant.1 (omega (arith, c.type_inv.b (c.args.at + c.loop-x.x-index))))
