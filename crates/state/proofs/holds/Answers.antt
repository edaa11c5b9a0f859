use native.Mathlib.Omega.{arith}
use Rattle.state.specs.Coded.{holds_by}
use Rattle.state.proofs.holds.Goals as goal

-- src/lib.rt:59:1
pub returns : goal.returns
returns c =
    holds_by c.args.b.now (λ k. omega (arith, c.type_inv.b k)) c.requires
    c.unpack-c.ensures c.reachable.ensures (
      rw c.on.ensures at c.holds-peripheral.ensures,
      rw (c.on-2.ensures, c.operating_count.ensures) at c.holds-wires.ensures,
    )
