-- Powers of x that are sums of three small ones: by them a number's high part comes down. The first, x^8, is table 18; the others follow byte by byte.
use Rattle.std.specs.Prelude.{ℕ, ◌+◌, ◌*◌, ◌/◌, ◌%◌, ◌^◌, ◌<◌, ◌≤◌, ◌≡◌, refl}
use Rattle.std.proofs.Math.Path.{sym, ap, ap₂}
use Rattle.std.proofs.Common.{◌∙◌, mod-lt, lt_of_le_of_lt, lt_of_lt_of_le, arith, pow_pos, pow_mono, shl_lt, shr_lt}
use Rattle.std.proofs.Math.Nat.{mul-le-mul_left}
use Rattle.std.specs.Int.Bits.{bit_xor, xor_lt, xor_comm}
use Rattle.std.proofs.Math.Pow.{split}
use Rattle.crc.specs.Crc.{crc_bit, shifts}
use Rattle.crc.specs.Each.{same_bytes}
use Rattle.crc.specs.Residue.{residue, residue_lt, residue_shift, shifts_lt, shifts-last}
use Rattle.crc.proofs.Residue.{residue_xor, residue-split, crc_bit_xor}
use Rattle.crc.specs.Table18.{table18}
use Rattle.crc.proofs.Table18.{equations_shift}
use Rattle.crc.specs.Powers.{Power, doubled, folded, nineteen, power64, three, times}

-- a byte further: the equations of table 18, by one test over the 256 bytes
equations : (r : ℕ) → r < 256 → three 0 1 2 r ≡ table18 r
unfolding shifts crc_bit table18
equations = same_bytes (three 0 1 2) table18 refl

pub power8 : Power 8 0 1 2
power8 = record { less = (omega arith, (omega arith, omega arith)); same = λ r h. equations r h ∙ equations_shift r h }

-- ---- laws of the two

module _ {n i j k : ℕ} (p : Power n i j k) where
  small : (t m : ℕ) → t * 2 ^ k < m → (t * 2 ^ i < m) × (t * 2 ^ j < m)
  small t m h =
      (lt_of_le_of_lt (mul-le-mul_left t (pow_mono p.less.0)) h, lt_of_le_of_lt (mul-le-mul_left t (pow_mono p.less.1.0)) h)

  -- so a sum of three is a product with x^n
  pub times-residue : (t : ℕ) → t * 2 ^ k < 2 ^ 72 → residue (times i j k t) ≡ shifts n (residue t)
  unfolding times
  times-residue t h =
      let s = small t (2 ^ 72) h in
      residue_xor (bit_xor (t * 2 ^ i) (t * 2 ^ j)) (t * 2 ^ k) (xor_lt 72 _ _ s.0 s.1) h
      ∙ ap₂ bit_xor
      (residue_xor (t * 2 ^ i) (t * 2 ^ j) s.0 s.1 ∙ ap₂ bit_xor (residue_shift i t s.0) (residue_shift j t s.1))
      (residue_shift k t h)
      ∙ p.same (residue t) (residue_lt t (omega (arith, mul-le-mul_left t (pow_pos k), h)))

  times_below : (m t : ℕ) → t * 2 ^ k < 2 ^ m → times i j k t < 2 ^ m
  unfolding times
  times_below m t h = let s = small t (2 ^ m) h in xor_lt m _ _ (xor_lt m _ _ s.0 s.1) h

  pub times_lt : (m a t : ℕ) → a + k ≤ m → t < 2 ^ a → times i j k t < 2 ^ m
  times_lt m a t l h = times_below m t (lt_of_lt_of_le (shl_lt a k h) (pow_mono l))

  -- and what is brought down leaves the residue
  pub folded-residue : (t : ℕ) → t < 2 ^ 72 → residue (folded n i j k t) ≡ residue t
  unfolding folded
  folded-residue t h =
      let e = split t n in
      let l = mul-le-mul_left (t / 2 ^ n) (pow_mono p.less.1.1) in
      let hk : t / 2 ^ n * 2 ^ k < 2 ^ 72 = omega (arith, e, l, h) in
      residue_xor (t % 2 ^ n) (times i j k (t / 2 ^ n)) (omega (arith, e, h)) (times_below 72 (t / 2 ^ n) hk)
      ∙ ap (bit_xor (residue (t % 2 ^ n))) (times-residue (t / 2 ^ n) hk)
      ∙ xor_comm (residue (t % 2 ^ n)) (shifts n (residue (t / 2 ^ n)))
      ∙ sym (residue-split n (t / 2 ^ n) (t % 2 ^ n) (mod-lt t (pow_pos n)) (omega (arith, e, h)) (omega (arith, e, h)))
      ∙ ap residue e

  pub folded_lt : (m a t : ℕ) → n ≤ m → a + k ≤ m → t < 2 ^ (a + n) → folded n i j k t < 2 ^ m
  unfolding folded
  folded_lt m a t low high h = xor_lt m _ _ (lt_of_lt_of_le (mod-lt t (pow_pos n)) (pow_mono low)) (times_lt m a (t / 2 ^ n) high (shr_lt a n h))

-- ---- times x

doubled_parts : (q m : ℕ) → q < 2 → m < 2 ^ 63 → residue (bit_xor (m * 2) (q * 19)) ≡ crc_bit (residue (q * 2 ^ 63 + m))
unfolding shifts
doubled_parts q m hq hm =
    let rq = residue_lt q (omega (arith, hq)) in
    let rm = residue_lt m (omega (arith, hm)) in
    ap (λ (x : ℕ). residue (bit_xor (m * 2) x)) (nineteen q hq)
    ∙ residue_xor (m * 2) (times 0 1 4 q) (omega (arith, hm)) (times_lt power64 72 1 q (omega arith) hq)
    ∙ ap₂ bit_xor (residue_shift 1 m (omega (arith, hm))) (times-residue power64 q (omega (arith, hq)))
    ∙ xor_comm (crc_bit (residue m)) (shifts 64 (residue q))
    ∙ ap (λ (x : ℕ). bit_xor x (crc_bit (residue m))) (shifts-last 63 (residue q))
    ∙ sym (crc_bit_xor (shifts 63 (residue q)) (residue m) (shifts_lt 63 (residue q) rq) rm)
    ∙ ap crc_bit (sym (residue-split 63 q m hm (omega (arith, hq)) (omega (arith, hm))))

pub doubled-residue : (t : ℕ) → t < 2 ^ 64 → residue (doubled t) ≡ crc_bit (residue t)
unfolding doubled
doubled-residue t h =
    doubled_parts (t / 2 ^ 63) (t % 2 ^ 63) (shr_lt 1 63 h) (mod-lt t (pow_pos 63)) ∙ ap (λ (x : ℕ). crc_bit (residue x)) (split t 63)
