-- `crc::times` meets its contract: no digit goes out at the top.
use Prim.Native.Nat.{ℕ, ◌*◌, ◌^◌, ◌%◌, ◌<◌, ◌≤◌}
use mathlib.Core.Path.{◌≡◌, ap₂}
use Rattle.std.proofs.Common.{lt_of_le_of_lt, mod-eq_of_lt, pow_mono}
use Rattle.std.proofs.Math.Nat.{mul-le-mul_left}
use lib.Bits.{bit_xor}
use Rattle.crc.specs.Powers.{times}
use Rattle.crc.proofs.times.Goals as goal

shifted : (i k t : ℕ) → i ≤ k → t * 2 ^ k < 2 ^ 64 → (t * 2 ^ i) % 2 ^ 64 ≡ t * 2 ^ i
shifted i k t l h = mod-eq_of_lt (lt_of_le_of_lt (mul-le-mul_left t (pow_mono l)) h)

pub returns : goal.returns
unfolding times
returns g c =
    let r = c.requires in
    let h = r.1.1 in
    ap₂ bit_xor (ap₂ bit_xor (shifted _ _ _ r.0.0 h) (shifted _ _ _ r.0.1 h)) (mod-eq_of_lt h)
