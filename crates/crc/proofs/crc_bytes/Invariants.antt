-- The invariant: the bytes that are left make the whole of the register now.
use Prim.Native.Nat.{◌<◌}
use mathlib.Core.Path.{◌≡◌}
use lib.ListN.{drop}
use Rattle.crc.specs.Crc.{crc_from, crc}
use Rattle.crc.proofs.crc_bytes.Given as goal

abbrev pub invariant-loop-b : goal.invariant-loop-b
invariant-loop-b l = (l.x < 256) × (crc_from l.x (drop l.b-index l.s) ≡ crc l.s)
