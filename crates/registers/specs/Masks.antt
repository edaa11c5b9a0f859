-- Masked writes over each other: what a write leaves, what the next one sees.
use Rattle.std.specs.Prelude.{ℕ, ◌+◌, ◌-◌, ◌*◌, ◌/◌, ◌%◌, ◌^◌, min, max, ◌≡◌, refl}
use Rattle.std.proofs.Common.{sym, ap, ap₂, ◌∙◌, arith}
use Rattle.std.proofs.Math.Arith.{bin_ind}
use Rattle.std.specs.Int.Bits.{bit_and, bit_or, and_step, or_step, and_zero_r, or_zero_r}

-- ---- digit by digit

join : {r s c d : ℕ} → r ≡ s → c ≡ d → r * 2 + c ≡ s * 2 + d
join p q = ap₂ (λ (x y : ℕ). x * 2 + y) p q

half_and : (a b : ℕ) → bit_and a b / 2 ≡ bit_and (a / 2) (b / 2)
half_and a b = omega (arith, and_step a b)

odd_and : (a b : ℕ) → bit_and a b % 2 ≡ min (a % 2) (b % 2)
odd_and a b = omega (arith, and_step a b)

half_or : (a b : ℕ) → bit_or a b / 2 ≡ bit_or (a / 2) (b / 2)
half_or a b = omega (arith, or_step a b)

odd_or : (a b : ℕ) → bit_or a b % 2 ≡ max (a % 2) (b % 2)
odd_or a b = omega (arith, or_step a b)

and_assoc : (a b c : ℕ) → bit_and (bit_and a b) c ≡ bit_and a (bit_and b c)
and_assoc =
    bin_ind (λ (n : ℕ). (b c : ℕ) → bit_and (bit_and n b) c ≡ bit_and n (bit_and b c)) (λ b c. refl)
    λ n ih b c. and_step (bit_and n b) c
    ∙ join (ap (λ (x : ℕ). bit_and x (c / 2)) (half_and n b) ∙ ih (b / 2) (c / 2) ∙ ap (bit_and (n / 2)) (sym (half_and b c)))
    (ap (λ (x : ℕ). min x (c % 2)) (odd_and n b) ∙ digit (n % 2) (b % 2) (c % 2) ∙ ap (min (n % 2)) (sym (odd_and b c)))
    ∙ sym (and_step n (bit_and b c))
  where
    digit : (x y z : ℕ) → min (min x y) z ≡ min x (min y z)
    digit x y z = omega arith

and_over_or : (a b c : ℕ) → bit_and (bit_or a b) c ≡ bit_or (bit_and a c) (bit_and b c)
and_over_or =
    bin_ind (λ (n : ℕ). (b c : ℕ) → bit_and (bit_or n b) c ≡ bit_or (bit_and n c) (bit_and b c)) (λ b c. refl)
    λ n ih b c. and_step (bit_or n b) c
    ∙ join (ap (λ (x : ℕ). bit_and x (c / 2)) (half_or n b) ∙ ih (b / 2) (c / 2) ∙ ap₂ bit_or (sym (half_and n c)) (sym (half_and b c)))
    (ap (λ (x : ℕ). min x (c % 2)) (odd_or n b) ∙ digit (n % 2) (b % 2) (c % 2) ∙ ap₂ max (sym (odd_and n c)) (sym (odd_and b c)))
    ∙ sym (or_step (bit_and n c) (bit_and b c))
  where
    digit : (x y z : ℕ) → min (max x y) z ≡ max (min x z) (min y z)
    digit x y z = omega arith

-- ---- what a mask sees of a masked write: all of the old value, or all of the new

module _ (a x M K C : ℕ) where
  abbrev joined : ℕ
  joined = bit_or (bit_and a M) (bit_and x K)

  pub apart : bit_and joined C ≡ bit_or (bit_and a (bit_and M C)) (bit_and x (bit_and K C))
  apart = and_over_or (bit_and a M) (bit_and x K) C ∙ ap₂ bit_or (and_assoc a M C) (and_assoc x K C)

  pub sees_old : bit_and M C ≡ C → bit_and K C ≡ 0 → bit_and joined C ≡ bit_and a C
  sees_old e f = apart ∙ ap₂ (λ (m k : ℕ). bit_or (bit_and a m) (bit_and x k)) e f ∙ ap (bit_or (bit_and a C)) (and_zero_r x) ∙ or_zero_r (bit_and a C)

  pub sees_new : bit_and M C ≡ 0 → bit_and K C ≡ C → bit_and joined C ≡ bit_and x C
  sees_new e f = apart ∙ ap₂ (λ (m k : ℕ). bit_or (bit_and a m) (bit_and x k)) e f ∙ ap (λ (y : ℕ). bit_or y (bit_and x C)) (and_zero_r a)

-- ---- a value that its own write to the reset value f leaves: any write leaves such a value. The premises are refl at numerals

abbrev pub beside : ℕ → ℕ
beside W = 2 ^ 32 - 1 - W
