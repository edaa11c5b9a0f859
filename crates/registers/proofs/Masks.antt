-- Masked writes over each other: what a write leaves, what the next one sees.
-- ---- digit by digit
use Rattle.std.specs.Prelude.{ℕ, ◌*◌, ◌%◌, ◌≡◌}
use Rattle.std.proofs.Common.{sym, ap, ap₂, ◌∙◌}
use Rattle.std.specs.Int.Bits.{bit_and, bit_or, and_self}
use Rattle.std.proofs.lemmas.Nat.{and_comm}
use Rattle.registers.specs.Registers.{field, masked, readied}
use Rattle.registers.specs.Fields.{field-written}
use Rattle.registers.proofs.Fields.{bit-zero}
use Rattle.registers.specs.Masks.{apart, beside, sees_new, sees_old}

-- ---- a value that its own write to the reset value f leaves: any write leaves such a value. The premises are refl at numerals

module _ (W : ℕ) (z : bit_and W (beside W) ≡ 0) where
  -- the second write counts
  over : (a x v : ℕ) → masked (masked a x W) v W ≡ masked a v W
  over a x v = ap (λ (y : ℕ). bit_or y (bit_and v W)) (sees_old a x (beside W) W (beside W) (and_self (beside W)) z)

  -- what was written is written once more
  once_more : (a b v : ℕ) → masked a (masked b v W) W ≡ masked a v W
  once_more a b v = ap (bit_or (bit_and a (beside W))) (sees_new b v (beside W) W W (and_comm (beside W) W ∙ z) (and_self W))

  pub own_again : (f r v : ℕ) → masked f r W ≡ r → masked f (masked r v W) W ≡ masked r v W
  own_again f r v e = once_more f r v ∙ sym (over f r v) ∙ ap (λ (x : ℕ). masked x v W) e

  -- the same with a ready bit, which no write reaches and enable decides
  module _ (seen : bit_and (beside 2) W ≡ W) (none : bit_and 2 W ≡ 0) (o : field W 0 1 ≡ 1) (n : field (beside W) 0 1 ≡ 0)
      (kept : bit_and (beside 2) (bit_and (beside W) (beside 2)) ≡ bit_and (beside W) (beside 2)) (gone : bit_and 2 (bit_and (beside W) (beside 2)) ≡ 0) where
    enable : (a v : ℕ) → masked a v W % 2 ≡ v % 2
    enable a v = sym (bit-zero (masked a v W)) ∙ field-written a v W 0 1 o n ∙ bit-zero v

    -- the old ready bit counts no more
    ready_over : (y v : ℕ) → readied (masked (readied y) v W) ≡ readied (masked y v W)
    ready_over y v =
        ap₂ (λ (p q : ℕ). bit_or p (bit_and (2 * q) 2))
        (apart (readied y) v (beside W) W (beside 2)
        ∙ ap (λ (p : ℕ). bit_or p (bit_and v (bit_and W (beside 2)))) (sees_old y (2 * (y % 2)) (beside 2) 2 (bit_and (beside W) (beside 2)) kept gone)
        ∙ sym (apart y v (beside W) W (beside 2)))
        (enable (readied y) v ∙ sym (enable y v))

    ready_unseen : (a y : ℕ) → masked a (readied y) W ≡ masked a y W
    ready_unseen a y = ap (bit_or (bit_and a (beside W))) (sees_old y (2 * (y % 2)) (beside 2) 2 W seen none)

    pub ready_again : (f r v : ℕ) → readied (masked f r W) ≡ r → readied (masked f (readied (masked r v W)) W) ≡ readied (masked r v W)
    ready_again f r v e =
        ap readied (ready_unseen f (masked r v W) ∙ once_more f r v ∙ sym (over f r v))
        ∙ sym (ready_over (masked f r W) v) ∙ ap (λ (x : ℕ). readied (masked x v W)) e
