-- The invariant: the bytes of the turns that are left make the whole of the two numbers now.
use Prim.Native.Nat.{◌+◌, ◌*◌, ◌^◌, ◌<◌}
use mathlib.Core.Path.{◌≡◌}
use lib.ListN.{drop}
use Rattle.crc.specs.Crc.{shifts, crc_from, crc}
use Rattle.crc.specs.Turns.{pair}
use Rattle.crc.proofs.crc_turns.Given as goal

abbrev pub invariant-loop-turn : goal.invariant-loop-turn
invariant-loop-turn l =
    ((l.a < 2 ^ 64) × (l.b < 2 ^ 64)) × (crc_from (shifts 8 (pair l.a l.b)) (drop (l.n + 16 * l.turn-index) l.s) ≡ crc l.s)
