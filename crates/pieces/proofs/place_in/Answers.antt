use native.Mathlib.Nat.{mod-lt}
use native.Mathlib.Omega.{arith}
use Rattle.pieces.specs.Blocks.{low_bits}
use Rattle.pieces.proofs.place_in.Goals as goal

pub returns : goal.returns
returns c = let a = c.args in
    let e = low_bits a.n a.block c.requires in
    (e, omega (arith, e, mod-lt a.n {m = a.block} (omega (arith, c.requires.least))))
