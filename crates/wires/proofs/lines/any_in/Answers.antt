use native.Mathlib.Omega.{arith}
use Rattle.wires.specs.LineWords.{any_words}
use Rattle.wires.proofs.lines.any_in.Goals as goal

pub returns : goal.returns
returns c =
    rw (c.get8.ensures, c.get8-2.ensures, c.get8-3.ensures, c.get8-4.ensures)
    (any_words c.args.b.now (λ j. omega (arith, c.type_inv.b j)) c.args.map)
