use native.Mathlib.Omega.{arith}
use Rattle.wires.specs.Tidy.{holds_by}
use Rattle.wires.proofs.Wires.groups_hold.Goals as goal

pub returns : goal.returns
returns c =
    let l = c.args.b.now in
    rw c.join2-place.ensures.0
    (holds_by c.args.on l _ _ (λ k. omega (arith, c.type_inv.b k))
    (rw c.get8-low.ensures at c.levels_fit.ensures)
    (rw (c.get8-low.ensures, c.get4-high.ensures) at c.marks_fit.ensures))
