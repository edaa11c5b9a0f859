-- Bytes that a caller hands over are below 256, and so is what an I/O write keeps of them below its size.
use Rattle.std.specs.Prelude.{ℕ, zero, suc, ◌+◌, ◌*◌, ◌^◌, ◌≤◌, ◌<◌, true, List, [], ◌∷◌, ◌≡◌, ltb, get_or, take, drop}
use Rattle.std.proofs.Common.{inl, inr, sym, subst, arith, lit<, length-take, get_or-take, get_or-drop, ltb-true}
use Rattle.std.proofs.Math.ListN.{get_or-eq_default}
use Rattle.base.specs.Pick.{and_left, and_right}
use Rattle.base.specs.Bytes.{joined4}
use Rattle.command.specs.Facts.{IsBytes, SizeFits}
use Rattle.rules.specs.Rules.Peripheral.{bytes_of}
use Rattle.rules.specs.Rules.Step.{are_bytes}

pub bytes_below : (b : List ℕ) → are_bytes b ≡ true → IsBytes b
unfolding are_bytes
bytes_below [] e i = lit< tt
bytes_below (x ∷ xs) e zero = ltb-true x 256 (and_left (ltb x 256) (are_bytes xs) e)
bytes_below (x ∷ xs) e (suc i) = bytes_below xs (and_right (ltb x 256) (are_bytes xs) e) i

dropped_below : (n : ℕ) (b : List ℕ) → IsBytes b → IsBytes (drop n b)
dropped_below n b h i = rw (get_or-drop n b i 0) (h (n + i))

past_take : (n : ℕ) (l : List ℕ) (i : ℕ) → n ≤ i → get_or (take n l) i 0 ≡ 0
past_take n l i h = get_or-eq_default (take n l) 0 (rw (length-take n l) (omega arith))

-- the first n of four bytes, 0 past them
module _ (l : List ℕ) (h : IsBytes l) where
  taken_below : (n i : ℕ) → i < n → get_or (take n l) i 0 < 256
  taken_below n i lt = rw (get_or-take n l i 0 lt) (h i)

  abbrev joined_of : ℕ → ℕ
  joined_of n = joined4 (get_or (take n l) 0 0) (get_or (take n l) 1 0) (get_or (take n l) 2 0) (get_or (take n l) 3 0)

  joined-fits : (n : ℕ) → SizeFits n → joined_of n < 2 ^ (8 * n)
  joined-fits n (inl e) =
      subst (λ (m : ℕ). joined_of m < 2 ^ (8 * m)) (sym e)
      (omega (arith, taken_below 1 0 (omega arith), past_take 1 l 1 (omega arith), past_take 1 l 2 (omega arith), past_take 1 l 3 (omega arith)))
  joined-fits n (inr (inl e)) =
      subst (λ (m : ℕ). joined_of m < 2 ^ (8 * m)) (sym e)
      (omega (arith, taken_below 2 0 (omega arith), taken_below 2 1 (omega arith), past_take 2 l 2 (omega arith), past_take 2 l 3 (omega arith)))
  joined-fits n (inr (inr e)) =
      subst (λ (m : ℕ). joined_of m < 2 ^ (8 * m)) (sym e)
      (omega (arith, taken_below 4 0 (omega arith), taken_below 4 1 (omega arith), taken_below 4 2 (omega arith), taken_below 4 3 (omega arith)))

-- an I/O write's bytes are as many as it writes
pub io_bytes_lem : (n : ℕ) (b : List ℕ) → IsBytes b → SizeFits n → bytes_of n b < 2 ^ (8 * n)
io_bytes_lem n b h f = joined-fits (drop 3 b) (dropped_below 3 b h) n f
