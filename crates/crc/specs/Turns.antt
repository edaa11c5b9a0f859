-- Bytes as one number, and the CRC of eight and of sixteen more.
use Prim.Native.Nat.{ℕ, zero, suc, ◌+◌, ◌*◌, ◌^◌, ◌<◌, ◌≤◌}
use Rattle.std.specs.Prelude.{List, ◌≡◌, length, drop}
use Rattle.std.proofs.Math.Path.{refl, sym, ap}
use Rattle.std.proofs.Common.{◌∙◌, suc-mul, add-zero, add-suc, add_assoc, pow-add}
use native.Mathlib.Omega.{arith}
use Rattle.std.proofs.Math.ListN.{get_or}
use Rattle.std.specs.Int.Bits.{bit_xor, xor_lt}
use Rattle.crc.specs.Crc.{crc_bit, shifts, crc_byte, crc_from, crc_from_next}
use Rattle.base.specs.Bytes.{joined4}
use Rattle.crc.specs.Residue.{residue, residue_lt, shifts_lt}

-- n bytes from a place on, the first the highest: "starts with bit[7] of byte 0 and proceeds from bit[7] to bit[0] of each byte" (004, 5.2)
unfoldable pub word : ℕ → ℕ → List ℕ → ℕ
word zero at s = 0
word (suc n) at s = word n at s * 256 + get_or s (at + n) 0

-- four of them, given low first
pub word_four : (s : List ℕ) (at : ℕ) → joined4 (get_or s (at + 3) 0) (get_or s (at + 2) 0) (get_or s (at + 1) 0) (get_or s at 0) ≡ word 4 at s
unfolding word
word_four s at = let e = ap (λ (k : ℕ). get_or s k 0) (add-zero at) in omega (arith, e)

pub byte_power : (n : ℕ) → 2 ^ (suc n * 8) ≡ 2 ^ (n * 8) * 256
byte_power n = ap (λ (k : ℕ). 2 ^ k) (suc-mul n 8) ∙ pow-add 2 (n * 8) 8

-- m bytes and n after them
pub word_add : (s : List ℕ) (m n at : ℕ) → word (m + n) at s ≡ word m at s * 2 ^ (n * 8) + word n (at + m) s
unfolding word
word_add s m zero at = let e = ap (λ (k : ℕ). word k at s) (add-zero m) in omega (arith, e)
word_add s m (suc n) at =
    let e = ap (λ (k : ℕ). word k at s) (add-suc m n) in
    let g = ap (λ (k : ℕ). get_or s k 0) (sym (add_assoc at m n)) in
    let ih = word_add s m n at in
    let sum : word (m + suc n) at s ≡ word m at s * (2 ^ (n * 8) * 256) + (word n (at + m) s * 256 + get_or s (at + m + n) 0) = omega (arith, e, g, ih) in
    sum ∙ sym (ap (λ (p : ℕ). word m at s * p + (word n (at + m) s * 256 + get_or s (at + m + n) 0)) (byte_power n))

-- the register once n bytes from a place on are taken in
unfoldable pub after : ℕ → List ℕ → ℕ → ℕ → ℕ
after r s at zero = r
after r s at (suc n) = crc_byte (after r s at n) (get_or s (at + n) 0)

pub after-from : (s : List ℕ) (r at n : ℕ) → at + n ≤ length s → crc_from (after r s at n) (drop (at + n) s) ≡ crc_from r (drop at s)
unfolding after
after-from s r at zero h = ap (λ (k : ℕ). crc_from r (drop k s)) (add-zero at)
after-from s r at (suc n) h =
    let e : at + suc n ≡ at + n + 1 = omega arith in
    ap (λ (k : ℕ). crc_from (crc_byte (after r s at n) (get_or s (at + n) 0)) (drop k s)) e
    ∙ crc_from_next s (after r s at n) _ (at + n) (omega (arith, h)) refl
    ∙ after-from s r at n (omega (arith, h))

-- ---- sixteen bytes a turn: two numbers, the first sixty-four places up

unfoldable pub pair : ℕ → ℕ → ℕ
pair a b = bit_xor (shifts 64 (residue a)) (residue b)

pub pair_lt : (a b : ℕ) → a < 2 ^ 64 → b < 2 ^ 64 → pair a b < 256
unfolding pair
pair_lt a b ha hb = xor_lt 8 _ _ (shifts_lt 64 (residue a) (residue_lt a (omega (arith, ha)))) (residue_lt b (omega (arith, hb)))

-- ---- the first bytes

pub shifts-zero : (n : ℕ) → shifts n 0 ≡ 0
unfolding shifts crc_bit
shifts-zero zero = refl
shifts-zero (suc n) = shifts-zero n
