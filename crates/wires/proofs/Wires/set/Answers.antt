use native.Mathlib.Omega.{arith}
use lib.Pow.{pow-lt}
use Rattle.wires.specs.Rows.{settable-bit, bit_exact, bit_alone}
use Rattle.wires.proofs.Wires.set.Goals as goal

pub nibble_of-level-requires : goal.nibble_of-level-requires
nibble_of-level-requires c =
    let a = c.args in
    let s = settable-bit a.index a.bit a.value c.requires in
    rw (bit_alone a.bit s.defined.small) (omega (arith, pow-lt s.defined.small))

pub returns : goal.returns
returns c =
    let a = c.args in
    let s = settable-bit a.index a.bit a.value c.requires in
    simp (
      c.with.ensures,
      c.nibble_of-level.ensures,
      bit_alone a.bit s.defined.small,
      bit_exact a.bit a.value s.defined.small s.level,
    )
