-- Four bits a group in one word, bit by bit: bit k of group i is the word's bit i * 4 + k.
use Rattle.std.specs.Prelude.{ℕ, zero, suc, ◌+◌, ◌-◌, ◌*◌, ◌/◌, ◌%◌, ◌^◌, ◌<◌, Bool, true, false, ◌≡◌, refl, eqb, ltb}
use Rattle.std.proofs.Common.{sym, ap, ◌∙◌, arith, mul_assoc, pow-add, shr-shr, eqb-true, ltb-true, ltb-false}
use Rattle.std.specs.Int.Bits.{shifted_even}
use Rattle.std.proofs.lemmas.Nat.{shl-shr}
use Rattle.std.proofs.lemmas.Bool.{eqb-false}
use Rattle.base.specs.Pick.{pick}
use Rattle.wires.specs.Nibbles.{bit_of, zero_bit}

-- a bit of a word is one of what is shifted down
pub lane_bit : (x n k : ℕ) → bit_of x (n + k) ≡ bit_of (x / 2 ^ n) k
lane_bit x n k = ap (λ (y : ℕ). y % 2) (sym (shr-shr x n k))

-- the low four bits are the number's own
pub low_bit : (x k : ℕ) → k < 4 → bit_of (x % 16) k ≡ bit_of x k
low_bit x zero h = omega arith
low_bit x (suc zero) h = omega arith
low_bit x (suc (suc zero)) h = omega arith
low_bit x (suc (suc (suc zero))) h = omega arith
low_bit x (suc (suc (suc (suc k)))) h = absurd (omega arith)

-- ---- four bits at a place: beside them nothing

above : (x n k : ℕ) → x < 16 → bit_of (x * 2 ^ n) (n + (4 + k)) ≡ 0
above x n k h =
    let e : x / 16 ≡ 0 = omega arith in
    lane_bit (x * 2 ^ n) n (4 + k) ∙ ap (λ (y : ℕ). bit_of y (4 + k)) (shl-shr x n) ∙ lane_bit x 4 k ∙ ap (λ (y : ℕ). bit_of y k) e ∙ zero_bit k

beneath : (x p k : ℕ) → bit_of (x * 2 ^ (suc k + p)) p ≡ 0
beneath x p k =
    ap (λ (y : ℕ). bit_of (x * y) p) (pow-add 2 (suc k) p)
    ∙ ap (λ (y : ℕ). bit_of y p) (sym (mul_assoc x (2 ^ suc k) (2 ^ p)))
    ∙ ap (λ (y : ℕ). y % 2) (shl-shr (x * 2 ^ suc k) p)
    ∙ shifted_even x k

pub group_bit : (x i j k : ℕ) → x < 16 → k < 4 → bit_of (x * 2 ^ (i * 4)) (j * 4 + k) ≡ pick (eqb i j) (bit_of x k) 0
group_bit x i j k h l = go (eqb i j) refl
  where
    other : (t : Bool) → ltb i j ≡ t → (i ≡ j → ⊥) → bit_of (x * 2 ^ (i * 4)) (j * 4 + k) ≡ 0
    other true e n =
        let b = ltb-true i j e in
        let p : j * 4 + k ≡ i * 4 + (4 + (j * 4 + k - i * 4 - 4)) = omega arith in
        ap (bit_of (x * 2 ^ (i * 4))) p ∙ above x (i * 4) (j * 4 + k - i * 4 - 4) h
    other false e n =
        let b = ltb-false i j e in
        let s : i * 4 ≡ suc (i * 4 - (j * 4 + k) - 1) + (j * 4 + k) = omega (arith, n) in
        ap (λ (y : ℕ). bit_of (x * 2 ^ y) (j * 4 + k)) s ∙ beneath x (j * 4 + k) (i * 4 - (j * 4 + k) - 1)

    go : (t : Bool) → eqb i j ≡ t → bit_of (x * 2 ^ (i * 4)) (j * 4 + k) ≡ pick t (bit_of x k) 0
    go true e =
        ap (λ (y : ℕ). bit_of (x * 2 ^ (y * 4)) (j * 4 + k)) (eqb-true i j e)
        ∙ lane_bit (x * 2 ^ (j * 4)) (j * 4) k ∙ ap (λ (y : ℕ). bit_of y k) (shl-shr x (j * 4))
    go false e = other (ltb i j) refl (eqb-false i j e)

-- ---- a word without a one is 0

pub zero_word : (n x : ℕ) → x < 2 ^ n → ((p : ℕ) → p < n → bit_of x p ≡ 0) → x ≡ 0
zero_word zero x h f = omega arith
zero_word (suc n) x h f =
    let d = zero_word n (x / 2) (omega (arith, h, pow-add 2 1 n)) (λ p l. sym (lane_bit x 1 p) ∙ f (1 + p) (omega arith)) in
    omega (arith, d, f 0 (omega arith))
