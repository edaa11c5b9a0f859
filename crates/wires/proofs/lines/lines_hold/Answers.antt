use native.Mathlib.Omega.{arith}
use lib.Dec.{ltb}
use Rattle.wires.specs.LineWords.{sound_words}
use Rattle.wires.proofs.lines.lines_hold.Goals as goal

pub returns : goal.returns
returns c =
    let a = c.args in
    rw (
      c.wrong_in.ensures,
      c.wrong_in-2.ensures,
      c.wrong_in-3.ensures,
      c.wrong_in-4.ensures,
      c.mask_of-live.ensures,
      c.mask_of-room.ensures,
    )
    (sound_words a.b.now (λ j. omega (arith, c.type_inv.b j)) a.on (ltb 1 a.count))
