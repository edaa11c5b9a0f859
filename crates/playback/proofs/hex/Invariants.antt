use Rattle.std.proofs.Common.{◌≡◌, length, take}
use Rattle.base.specs.Bytes.{put}
use Rattle.playback.specs.Lines.{hex_of}
use Rattle.playback.proofs.hex.Given as goal

abbrev pub invariant-loop-i : goal.invariant-loop-i
invariant-loop-i l = (length l.line ≡ length l.initial.line) × (l.line ≡ put l.at (hex_of (take l.i l.bytes)) l.initial.line)
