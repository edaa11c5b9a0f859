-- Powers of x that are sums of three small ones: by them a number's high part comes down. The first, x^8, is table 18; the others follow byte by byte.
use Rattle.std.specs.Prelude.{ℕ, zero, suc, ◌*◌, ◌/◌, ◌%◌, ◌^◌, ◌<◌, ◌≤◌, ◌≡◌, refl}
use Rattle.std.proofs.Common.{mod-lt, arith, pow_pos, shr_lt}
use Rattle.std.specs.Int.Bits.{bit_xor, xor_lt}
use Rattle.crc.specs.Crc.{crc_bit, shifts}
use Rattle.crc.specs.Each.{same_bytes}

-- a number times x^i + x^j + x^k
unfoldable pub times : ℕ → ℕ → ℕ → ℕ → ℕ
times i j k t = bit_xor (bit_xor (t * 2 ^ i) (t * 2 ^ j)) (t * 2 ^ k)

-- the digits from the n-th on brought down
unfoldable pub folded : ℕ → ℕ → ℕ → ℕ → ℕ → ℕ
folded n i j k t = bit_xor (t % 2 ^ n) (times i j k (t / 2 ^ n))

-- the same sum of the shifts of a byte
abbrev pub three : ℕ → ℕ → ℕ → ℕ → ℕ
three i j k r = bit_xor (bit_xor (shifts i r) (shifts j r)) (shifts k r)

-- x^n is x^i + x^j + x^k
pub record Power (n i j k : ℕ) : Type 0 where
  pub less : (i ≤ k) × ((j ≤ k) × (k ≤ n))
  pub same : (r : ℕ) → r < 256 → three i j k r ≡ shifts n r

-- two bytes, four and eight further

pub power16 : Power 16 0 2 4
unfolding shifts crc_bit
power16 = record { less = (omega arith, (omega arith, omega arith)); same = same_bytes (three 0 2 4) (shifts 16) refl }

pub power32 : Power 32 1 2 4
unfolding shifts crc_bit
power32 = record { less = (omega arith, (omega arith, omega arith)); same = same_bytes (three 1 2 4) (shifts 32) refl }

pub power64 : Power 64 0 1 4
unfolding shifts crc_bit
power64 = record { less = (omega arith, (omega arith, omega arith)); same = same_bytes (three 0 1 4) (shifts 64) refl }

-- sixteen further: x^128 is x
pub power128 : (r : ℕ) → r < 256 → crc_bit r ≡ shifts 128 r
unfolding shifts crc_bit
power128 = same_bytes crc_bit (shifts 128) refl

-- ---- times x

-- of a number below 2^64: the top digit comes down as x^64, which is 19
unfoldable pub doubled : ℕ → ℕ
doubled t = bit_xor (t % 2 ^ 63 * 2) (t / 2 ^ 63 * 19)

pub nineteen : (q : ℕ) → q < 2 → q * 19 ≡ times 0 1 4 q
unfolding times
nineteen zero h = refl
nineteen (suc zero) h = refl
nineteen (suc (suc q)) h = absurd (omega arith)

pub doubled_lt : (t : ℕ) → t < 2 ^ 64 → doubled t < 2 ^ 64
unfolding doubled
doubled_lt t h =
    let q = shr_lt {n = t} 1 63 h in
    let m = mod-lt t (pow_pos 63) in
    xor_lt 64 (t % 2 ^ 63 * 2) (t / 2 ^ 63 * 19) (omega (arith, m)) (omega (arith, q))
