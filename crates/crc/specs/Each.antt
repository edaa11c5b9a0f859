-- A test at every number of n binary digits, computed, and what it gives at each.
use Rattle.std.specs.Prelude.{ℕ, zero, suc, ◌+◌, ◌*◌, ◌/◌, ◌%◌, ◌^◌, ◌<◌, Bool, true, ◌&&◌, ◌≡◌, refl, eqb, ltb}
use Rattle.std.proofs.Common.{ap, ◌∙◌, pow-suc, arith, eqb-true, ltb-true}
use Rattle.std.proofs.Math.Arith.{lt-one}
use Rattle.base.specs.Pick.{and_left, and_right}

abbrev pub each : ℕ → (ℕ → Bool) → Bool
each zero f = f 0
each (suc n) f = each n (λ k. f (k * 2)) && each n (λ k. f (k * 2 + 1))

pub at_each : (n : ℕ) (f : ℕ → Bool) → each n f ≡ true → (k : ℕ) → k < 2 ^ n → f k ≡ true
at_each zero f e k h = ap f (lt-one h) ∙ e
at_each (suc n) f e k h =
    let evens : Bool = each n (λ (j : ℕ). f (j * 2)) in
    go (k % 2) refl (at_each n (λ (j : ℕ). f (j * 2)) (and_left evens _ e) (k / 2)) (at_each n (λ (j : ℕ). f (j * 2 + 1)) (and_right evens _ e) (k / 2))
  where
    half : k / 2 < 2 ^ n
    half = omega (arith, h, pow-suc 2 n)

    go : (b : ℕ) → k % 2 ≡ b → (k / 2 < 2 ^ n → f (k / 2 * 2) ≡ true) → (k / 2 < 2 ^ n → f (k / 2 * 2 + 1) ≡ true) → f k ≡ true
    go zero q even odd = ap f (omega (arith, q)) ∙ even half
    go (suc zero) q even odd = ap f (omega (arith, q)) ∙ odd half
    go (suc (suc b)) q even odd = absurd (omega (arith, q))

-- two functions of a byte that are the same at each of the 256
pub same_bytes : (f g : ℕ → ℕ) → each 8 (λ r. eqb (f r) (g r)) ≡ true → (r : ℕ) → r < 256 → f r ≡ g r
same_bytes f g e r h = eqb-true _ _ (at_each 8 (λ (k : ℕ). eqb (f k) (g k)) e r h)

-- a function from bytes to bytes
pub byte-bytes : (f : ℕ → ℕ) → each 8 (λ r. ltb (f r) 256) ≡ true → (r : ℕ) → r < 256 → f r < 256
byte-bytes f e r h = ltb-true _ _ (at_each 8 (λ (k : ℕ). ltb (f k) 256) e r h)
