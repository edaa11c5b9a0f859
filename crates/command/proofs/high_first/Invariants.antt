use Prim.Native.Nat.{◌<◌, ◌^◌}
use mathlib.Core.Path.{◌≡◌}
use Rattle.command.specs.Decode.{high_first}
use Rattle.command.proofs.high_first.Given as goal

abbrev pub invariant-loop-x : goal.invariant-loop-x
invariant-loop-x l = (l.v ≡ high_first l.x-index l.at l.b) × (l.v < 256 ^ l.x-index)
