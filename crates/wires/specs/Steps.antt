-- Going round step by step: what is taken from here on, after one sender is asked, or several in a row that do not wait.
use Prim.Native.Nat.{ℕ, zero, suc, ◌+◌, ◌-◌, ◌≤◌, ◌<◌}
use Rattle.std.specs.Prelude.{Bool, true, false, ◌≡◌, ltb, leb}
use mathlib.Core.List.{List, [], ◌∷◌}
use Rattle.std.proofs.Math.Path.{refl, ap}
use Rattle.std.proofs.Common.{sym, ◌∙◌, lt-ltb, le-leb, ltb-true, ltb-false}
use native.Mathlib.Omega.{arith}
use Rattle.std.proofs.lemmas.Bool.{lt-leb}
use Rattle.base.specs.Pick.{pick}
use Rattle.wires.specs.Turn.{turn, after}
use Rattle.wires.specs.Round.{after_below, steps, steps_up, steps_add, steps_round}

-- ---- one sender is asked

module _ (size : ℕ → ℕ) (waits : ℕ → Bool) (n : ℕ) where
  pub turn-over : (capacity i : ℕ) → turn size waits n 0 capacity i ≡ []
  unfolding turn
  turn-over capacity i = refl

  -- it does not wait
  pub turn_none : (left capacity i : ℕ) → 0 < left → waits i ≡ false → turn size waits n left capacity i ≡ turn size waits n (left - 1) capacity (after n i)
  unfolding turn
  turn_none zero capacity i l e = absurd (omega arith)
  turn_none (suc left) capacity i l e =
      let t = turn size waits n left in
      let f : left ≡ suc left - 1 = omega arith in
      ap (λ (b : Bool). pick b (pick (leb (size i) capacity) (i ∷ t (capacity - size i) (after n i)) []) (t capacity (after n i))) e
      ∙ ap (λ (x : ℕ). turn size waits n x capacity (after n i)) f

  -- it waits and does not fit
  pub turn_closes : (left capacity i : ℕ) → waits i ≡ true → capacity < size i → turn size waits n left capacity i ≡ []
  unfolding turn
  turn_closes zero capacity i e c = refl
  turn_closes (suc left) capacity i e c =
      let t = turn size waits n left in
      ap (λ (b : Bool). pick b (pick (leb (size i) capacity) (i ∷ t (capacity - size i) (after n i)) []) (t capacity (after n i))) e
      ∙ ap (λ (b : Bool). pick b (i ∷ t (capacity - size i) (after n i)) []) (lt-leb (size i) capacity c)

  -- it waits and fits
  pub turn-takes : (left capacity i : ℕ) → 0 < left → waits i ≡ true → size i ≤ capacity
      → turn size waits n left capacity i ≡ i ∷ turn size waits n (left - 1) (capacity - size i) (after n i)
  unfolding turn
  turn-takes zero capacity i l e c = absurd (omega arith)
  turn-takes (suc left) capacity i l e c =
      let t = turn size waits n left in
      let f : left ≡ suc left - 1 = omega arith in
      ap (λ (b : Bool). pick b (pick (leb (size i) capacity) (i ∷ t (capacity - size i) (after n i)) []) (t capacity (after n i))) e
      ∙ ap (λ (b : Bool). pick b (i ∷ t (capacity - size i) (after n i)) []) (le-leb (size i) capacity c)
      ∙ ap (λ (x : ℕ). i ∷ turn size waits n x (capacity - size i) (after n i)) f

  -- several in a row that do not wait
  pub turn_past : (k left capacity i : ℕ) → i + k < n → ((j : ℕ) → j < k → waits (i + j) ≡ false)
      → turn size waits n (k + left) capacity i ≡ turn size waits n left capacity (i + k)
  unfolding after
  turn_past zero left capacity i l h =
      let e : 0 + left ≡ left = omega arith in
      let z : i ≡ i + 0 = omega arith in
      ap (λ (x : ℕ). turn size waits n x capacity i) e ∙ ap (λ (x : ℕ). turn size waits n left capacity x) z
  turn_past (suc k) left capacity i l h =
      let e : suc k + left - 1 ≡ k + left = omega arith in
      let f : suc i + k ≡ i + suc k = omega arith in
      let z : i + 0 ≡ i = omega arith in
      turn_none (suc k + left) capacity i (omega arith) (ap waits (sym z) ∙ h 0 (omega arith))
      ∙ ap (λ (x : ℕ). turn size waits n x capacity (after n i)) e
      ∙ ap (λ (b : Bool). turn size waits n (k + left) capacity (pick b (suc i) 0)) (lt-ltb (suc i) n (omega arith))
      ∙ turn_past k left capacity (suc i) (omega arith) (λ j q. let g : suc i + j ≡ i + suc j = omega arith in ap waits g ∙ h (suc j) (omega arith))
      ∙ ap (λ (x : ℕ). turn size waits n left capacity x) f

-- ---- what is asked from here on does not see what is said of others

module _ (n : ℕ) where
  -- those that wait, and their sizes, being the same
  pub turn-same : (size size' : ℕ → ℕ) (waits waits' : ℕ → Bool) (left capacity i : ℕ)
      → ((j : ℕ) → j < left → (waits (steps n j i) ≡ waits' (steps n j i)) × (size (steps n j i) ≡ size' (steps n j i)))
      → turn size waits n left capacity i ≡ turn size' waits' n left capacity i
  unfolding turn steps
  turn-same size size' waits waits' zero capacity i h = refl
  turn-same size size' waits waits' (suc left) capacity i h =
      let t = turn size waits n left in
      let on : (c : ℕ) → turn size waits n left c (after n i) ≡ turn size' waits' n left c (after n i) = λ c.
      turn-same size size' waits waits' left c (after n i) (λ j l. h (suc j) (omega arith)) in
      ap (λ (b : Bool). pick b (pick (leb (size i) capacity) (i ∷ t (capacity - size i) (after n i)) []) (t capacity (after n i))) (h 0 (omega arith)).0
      ∙ ap (λ (k : ℕ). pick (waits' i) (pick (leb k capacity) (i ∷ t (capacity - k) (after n i)) []) (t capacity (after n i))) (h 0 (omega arith)).1
      ∙ ap (λ (xs : List ℕ). pick (waits' i) (pick (leb (size' i) capacity) (i ∷ xs) []) (t capacity (after n i))) (on (capacity - size' i))
      ∙ ap (λ (xs : List ℕ). pick (waits' i) (pick (leb (size' i) capacity) (i ∷ turn size' waits' n left (capacity - size' i) (after n i)) []) xs)
      (on capacity)

  -- what a list of them gives, each giving the same
  pub turn_gives : {A : Type 0} (size : ℕ → ℕ) (waits : ℕ → Bool) (f g : List ℕ → A) (left capacity i : ℕ)
      → f [] ≡ g [] → ((j : ℕ) → j < left → (xs : List ℕ) → f xs ≡ g xs → f (steps n j i ∷ xs) ≡ g (steps n j i ∷ xs))
      → f (turn size waits n left capacity i) ≡ g (turn size waits n left capacity i)
  unfolding turn steps
  turn_gives size waits f g zero capacity i none more = none
  turn_gives {A} size waits f g (suc left) capacity i none more =
      go (waits i) (leb (size i) capacity) (λ c. turn_gives size waits f g left c (after n i) none (λ j l. more (suc j) (omega arith)))
    where
      t : ℕ → List ℕ
      t c = turn size waits n left c (after n i)

      go : (a b : Bool) → ((c : ℕ) → f (t c) ≡ g (t c))
          → f (pick a (pick b (i ∷ t (capacity - size i)) []) (t capacity)) ≡ g (pick a (pick b (i ∷ t (capacity - size i)) []) (t capacity))
      go true true on = more 0 (omega arith) (t (capacity - size i)) (on (capacity - size i))
      go true false on = none
      go false b on = on capacity

  pub steps_below : (j i : ℕ) → i < n → steps n j i < n
  unfolding steps
  steps_below zero i h = h
  steps_below (suc j) i h = steps_below j (after n i) (after_below n i h)

  -- fewer than n steps on no sender is met again
  pub steps_apart : (i j : ℕ) → i < n → 0 < j → j < n → steps n j i ≡ i → ⊥
  steps_apart i j hi hj h e = go (ltb (i + j) n) refl
    where
      go : (b : Bool) → ltb (i + j) n ≡ b → ⊥
      go true q = let t = steps_up n j i (ltb-true (i + j) n q) in omega arith
      go false q =
          let f = ltb-false (i + j) n q in
          let d = j - (n - i) in
          let s : j ≡ n - i + d = omega arith in
          let t : steps n j i ≡ d = ap (λ (x : ℕ). steps n x i) s ∙ steps_add n (n - i) d i ∙ ap (steps n d) (steps_round n i hi)
          ∙ steps_up n d 0 (omega arith) ∙ omega arith in
          omega arith
