-- A number as a polynomial over two elements, bit k the coefficient of x^k, and what it leaves on division by x^8 + x^2 + x + 1: a byte. Exclusive or is
-- the sum, a shift of the CRC register the product with x; so several bytes a turn are sums and shifts of one number.
-- ---- the shifts of a byte
use Rattle.std.specs.Prelude.{ℕ, zero, suc, ◌+◌, ◌*◌, ◌/◌, ◌%◌, ◌^◌, ◌<◌, ◌≡◌, refl}
use Rattle.std.proofs.Common.{sym, ap, ap₂, ◌∙◌, arith}
use Rattle.std.specs.Int.Bits.{bit_xor, xor_shifted}
use Rattle.std.proofs.lemmas.Nat.{xor_lt, xor_shr, xor_mod}
use Rattle.crc.specs.Crc.{crc_bit, shifts}
use Rattle.crc.specs.Each.{same_bytes}
use Rattle.crc.specs.Xor.{xor_swap, xor_shift}
use Rattle.crc.specs.Residue.{bit_lt, divided, divided_lt, halved, parted, residue, residue_shift, sevens}

bit-parted : (r : ℕ) → r < 256 → crc_bit r ≡ parted r
unfolding crc_bit parted
bit-parted = same_bytes crc_bit parted refl

-- a sum is shifted term by term
pub crc_bit_xor : (a b : ℕ) → a < 256 → b < 256 → crc_bit (bit_xor a b) ≡ bit_xor (crc_bit a) (crc_bit b)
unfolding parted
crc_bit_xor a b ha hb =
    bit-parted (bit_xor a b) (xor_lt 8 a b ha hb)
    ∙ ap₂ (λ (x y : ℕ). bit_xor (x * 7) (y * 2)) (xor_shr a b 7) (xor_mod a b 7)
    ∙ ap₂ bit_xor (sevens (a / 128) (b / 128) (omega arith) (omega arith)) (xor_shift 1 (a % 128) (b % 128))
    ∙ xor_swap (a / 128 * 7) (b / 128 * 7) (a % 128 * 2) (b % 128 * 2)
    ∙ sym (ap₂ bit_xor (bit-parted a ha) (bit-parted b hb))

pub shifts_xor : (n a b : ℕ) → a < 256 → b < 256 → shifts n (bit_xor a b) ≡ bit_xor (shifts n a) (shifts n b)
unfolding shifts
shifts_xor zero a b ha hb = refl
shifts_xor (suc n) a b ha hb = ap (shifts n) (crc_bit_xor a b ha hb) ∙ shifts_xor n (crc_bit a) (crc_bit b) (bit_lt a ha) (bit_lt b hb)

-- ---- the division, digit by digit from the top

divided_xor : (k s t : ℕ) → s < 256 * 2 ^ k → t < 256 * 2 ^ k → divided k (bit_xor s t) ≡ bit_xor (divided k s) (divided k t)
unfolding divided
divided_xor zero s t hs ht = refl
divided_xor (suc k) s t hs ht =
    let p = halved k s hs in
    let q = halved k t ht in
    ap₂ (λ (x y : ℕ). bit_xor (crc_bit (divided k x)) y) (xor_shr s t 1) (xor_mod s t 1)
    ∙ ap (λ (x : ℕ). bit_xor (crc_bit x) (bit_xor (s % 2) (t % 2))) (divided_xor k (s / 2) (t / 2) p q)
    ∙ ap (λ (x : ℕ). bit_xor x (bit_xor (s % 2) (t % 2))) (crc_bit_xor (divided k (s / 2)) (divided k (t / 2)) (divided_lt k (s / 2) p)
    (divided_lt k (t / 2) q))
    ∙ xor_swap (crc_bit (divided k (s / 2))) (crc_bit (divided k (t / 2))) (s % 2) (t % 2)

-- ---- the residue of a number below 2^72

pub residue_xor : (s t : ℕ) → s < 2 ^ 72 → t < 2 ^ 72 → residue (bit_xor s t) ≡ bit_xor (residue s) (residue t)
unfolding residue
residue_xor s t hs ht = divided_xor 64 s t hs ht

-- the digits above the low n, and those
pub residue-split : (n h l : ℕ) → l < 2 ^ n → h * 2 ^ n < 2 ^ 72 → l < 2 ^ 72 → residue (h * 2 ^ n + l) ≡ bit_xor (shifts n (residue h)) (residue l)
residue-split n h l hl hh short =
    ap residue (sym (xor_shifted h n l hl))
    ∙ residue_xor (h * 2 ^ n) l hh short
    ∙ ap (λ (x : ℕ). bit_xor x (residue l)) (residue_shift n h hh)
