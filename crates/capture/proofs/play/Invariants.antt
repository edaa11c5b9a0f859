use Rattle.std.proofs.Common.{◌≡◌, ◌≤◌, ◌<◌, length}
use Rattle.playback.specs.Places.{Stands}
use Rattle.capture.proofs.play.Given as goal

abbrev pub invariant-loop-place : goal.invariant-loop-place
invariant-loop-place g l =
    (l.at ≤ 65536) × (0 < l.place.left → Stands l.file l.place) × (length l.state ≡ 174) × (length l.reply ≡ 263) × (length l.write_store ≡ 256)
    × (length l.read_store ≡ 4096) × (length l.block ≡ 65536)

abbrev pub decreases-loop-place : goal.decreases-loop-place
decreases-loop-place g l = l.place.left
