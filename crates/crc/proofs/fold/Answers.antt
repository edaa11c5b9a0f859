-- `crc::fold` meets its contract: what is brought down is no higher than where it stood.
use Prim.Native.Nat.{ℕ, ◌*◌, ◌/◌, ◌^◌, ◌<◌, ◌≤◌}
use native.Mathlib.Omega.{arith}
use Rattle.std.proofs.Common.{lt_of_le_of_lt, pow_mono}
use Rattle.std.proofs.Math.Nat.{mul-le-mul_left}
use Rattle.std.proofs.lemmas.Nat.{shr_split}
use Rattle.crc.proofs.fold.Goals as goal

brought : (n k t : ℕ) → k ≤ n → t < 2 ^ 64 → t / 2 ^ n * 2 ^ k < 2 ^ 64
brought n k t l h =
    let e = shr_split t n in
    lt_of_le_of_lt (mul-le-mul_left (t / 2 ^ n) (pow_mono l)) (omega (arith, e, h))

pub times-requires : goal.times-requires
times-requires g c =
    let r = c.requires in
    (r.0, (lt_of_le_of_lt r.1.0 r.1.1, brought _ _ c.args.t r.1.0 (omega arith)))
