-- A number as a polynomial over two elements, bit k the coefficient of x^k, and what it leaves on division by x^8 + x^2 + x + 1: a byte. Exclusive or is
-- the sum, a shift of the CRC register the product with x; so several bytes a turn are sums and shifts of one number.
use Rattle.std.specs.Prelude.{ℕ, zero, suc, ◌+◌, ◌*◌, ◌/◌, ◌%◌, ◌^◌, ◌<◌, ◌≡◌, refl}
use Rattle.std.proofs.Common.{sym, ap, ap₂, ◌∙◌, pow-suc, mul-one, mul_assoc, mul-div_cancel, zero-add, suc-add, arith, pow_pos}
use Rattle.std.proofs.Math.Nat.{mul-mod_left}
use Rattle.std.specs.Int.Bits.{bit_xor, xor_zero_r}
use Rattle.std.proofs.lemmas.Nat.{xor_lt}
use Rattle.crc.specs.Crc.{crc_bit, shifts}
use Rattle.crc.specs.Each.{same_bytes, byte-bytes}

-- ---- the shifts of a byte

pub bit_lt : (r : ℕ) → r < 256 → crc_bit r < 256
unfolding crc_bit
bit_lt = byte-bytes crc_bit refl

-- bit 7 apart from the rest
unfoldable pub parted : ℕ → ℕ
parted r = bit_xor (r / 128 * 7) (r % 128 * 2)

pub sevens : (x y : ℕ) → x < 2 → y < 2 → bit_xor x y * 7 ≡ bit_xor (x * 7) (y * 7)
sevens zero y hx hy = refl
sevens (suc zero) zero hx hy = refl
sevens (suc zero) (suc zero) hx hy = refl
sevens (suc zero) (suc (suc y)) hx hy = absurd (omega arith)
sevens (suc (suc x)) y hx hy = absurd (omega arith)

pub shifts_lt : (n r : ℕ) → r < 256 → shifts n r < 256
unfolding shifts
shifts_lt zero r h = h
shifts_lt (suc n) r h = shifts_lt n (crc_bit r) (bit_lt r h)

pub shifts-last : (n r : ℕ) → shifts n (crc_bit r) ≡ crc_bit (shifts n r)
unfolding shifts
shifts-last zero r = refl
shifts-last (suc n) r = shifts-last n (crc_bit r)

pub shifts_add : (m n r : ℕ) → shifts m (shifts n r) ≡ shifts (n + m) r
unfolding shifts
shifts_add m zero r = simp zero-add
shifts_add m (suc n) r = shifts_add m n (crc_bit r) ∙ simp suc-add

-- ---- the division, digit by digit from the top

-- of a number of k digits and eight
unfoldable pub divided : ℕ → ℕ → ℕ
divided zero t = t
divided (suc k) t = bit_xor (crc_bit (divided k (t / 2))) (t % 2)

pub halved : (k t : ℕ) → t < 256 * 2 ^ suc k → t / 2 < 256 * 2 ^ k
halved k t h = omega (arith, h, pow-suc 2 k)

pub divided_lt : (k t : ℕ) → t < 256 * 2 ^ k → divided k t < 256
unfolding divided
divided_lt zero t h = h
divided_lt (suc k) t h =
    xor_lt 8 _ _ (bit_lt (divided k (t / 2)) (divided_lt k (t / 2) (halved k t h))) (omega arith)

-- a byte's own digits
unfoldable digits : ℕ → ℕ
digits t = bit_xor (crc_bit (t / 2)) (t % 2)

digits-byte : (t : ℕ) → t < 256 → digits t ≡ t
unfolding crc_bit digits
digits-byte = same_bytes digits (λ t. t) refl

-- a digit more than there is
divided_more : (k t : ℕ) → t < 256 * 2 ^ k → divided (suc k) t ≡ divided k t
unfolding divided digits
divided_more zero t h = digits-byte t h
divided_more (suc k) t h = ap (λ (x : ℕ). bit_xor (crc_bit x) (t % 2)) (divided_more k (t / 2) (halved k t h))

divided-byte : (k t : ℕ) → t < 256 → divided k t ≡ t
unfolding divided
divided-byte zero t h = refl
divided-byte (suc k) t h = divided_more k t (omega (arith, h, pow_pos k)) ∙ divided-byte k t h

-- ---- the residue of a number below 2^72

unfoldable pub residue : ℕ → ℕ
residue t = divided 64 t

pub residue_lt : (t : ℕ) → t < 2 ^ 72 → residue t < 256
unfolding residue
residue_lt t h = divided_lt 64 t h

pub residue-byte : (t : ℕ) → t < 256 → residue t ≡ t
unfolding residue
residue-byte t h = divided-byte 64 t h

residue_double : (t : ℕ) → t * 2 < 2 ^ 72 → residue (t * 2) ≡ crc_bit (residue t)
unfolding residue divided
residue_double t h =
    ap₂ (λ (x y : ℕ). bit_xor (crc_bit (divided 63 x)) y) (mul-div_cancel t (omega arith)) (mul-mod_left t 2)
    ∙ xor_zero_r (crc_bit (divided 63 t))
    ∙ ap crc_bit (sym (divided_more 63 t (omega (arith, h))))

next_power : (n t : ℕ) → t * 2 ^ suc n ≡ t * 2 ^ n * 2
next_power n t = ap (λ (x : ℕ). t * x) (pow-suc 2 n) ∙ sym (mul_assoc t (2 ^ n) 2)

pub residue_shift : (n t : ℕ) → t * 2 ^ n < 2 ^ 72 → residue (t * 2 ^ n) ≡ shifts n (residue t)
unfolding shifts
residue_shift zero t h = ap residue (mul-one t)
residue_shift (suc n) t h =
    let e = next_power n t in
    ap residue e
    ∙ residue_double (t * 2 ^ n) (omega (arith, h, e))
    ∙ ap crc_bit (residue_shift n t (omega (arith, h, e)))
    ∙ sym (shifts-last n (residue t))
