use native.Mathlib.Omega.{arith}
use Rattle.pieces.specs.Edges.{place_low}
use Rattle.pieces.specs.Pieces.{next_size}
use Rattle.pieces.proofs.next_size.Goals as goal

pub returns : goal.returns
unfolding next_size
returns c =
    let a = c.args in
    omega (arith, c.place_in.ensures.0, place_low a.address a.payload a.sent c.requires.2.divides)
