-- Tests over the numbers below n: at each, at some, at how many.
use Rattle.std.specs.Prelude.{ℕ, zero, suc, ◌+◌, ◌<◌, ◌≤◌, Bool, true, false, ◌&&◌, ◌||◌, ◌≡◌, refl, eqb}
use Rattle.std.proofs.Common.{true≢false, sym, ap, ◌∙◌, arith, eqb-true}
use Rattle.std.proofs.lemmas.Bool.{eqb-false}
use Rattle.base.specs.Pick.{and_left, and_right, and_true}
use Rattle.base.specs.Bytes.{bit}

-- at each number below n: "one test over all rows" of the wire table (01, What form each place takes)
abbrev pub every : ℕ → (ℕ → Bool) → Bool
every zero f = true
every (suc n) f = f n && every n f

-- at some: "a group is pending" (01, Registers and status)
abbrev pub some : ℕ → (ℕ → Bool) → Bool
some zero f = false
some (suc n) f = some n f || f n

-- at how many: "min(pending, operating count)" (01, Wires)
abbrev pub count : ℕ → (ℕ → Bool) → ℕ
count zero f = 0
count (suc n) f = bit (f n) + count n f

-- the same two, shut: for as many numbers as there are lines (02, Q-4)
unfoldable pub all : ℕ → (ℕ → Bool) → Bool
all n f = every n f

-- .. at some (02, Q-4: "while an edge waits")
unfoldable pub any : ℕ → (ℕ → Bool) → Bool
any n f = some n f

-- ---- laws

pub at_every : (n : ℕ) (f : ℕ → Bool) → every n f ≡ true → (k : ℕ) → k < n → f k ≡ true
at_every zero f e k h = absurd (omega arith)
at_every (suc n) f e k h = go (eqb k n) refl (at_every n f (and_right (f n) _ e) k)
  where
    go : (b : Bool) → eqb k n ≡ b → (k < n → f k ≡ true) → f k ≡ true
    go true q below = ap f (eqb-true k n q) ∙ and_left (f n) _ e
    go false q below = below (omega (arith, eqb-false k n q))

pub every-at : (n : ℕ) (f : ℕ → Bool) → ((k : ℕ) → k < n → f k ≡ true) → every n f ≡ true
every-at zero f h = refl
every-at (suc n) f h = and_true (h n (omega arith)) (every-at n f (λ k l. h k (omega arith)))

-- the same over pairs
pub at_both : (m n : ℕ) (f : ℕ → ℕ → Bool) → every m (λ (a : ℕ). every n (f a)) ≡ true → (a b : ℕ) → a < m → b < n → f a b ≡ true
at_both m n f e a b ha hb = at_every n (f a) (at_every m (λ (x : ℕ). every n (f x)) e a ha) b hb

-- some, or the count is 0
pub some-counted : (n : ℕ) (f : ℕ → Bool) → bit (some n f) ≤ count n f
some-counted zero f = omega arith
some-counted (suc n) f = go (some n f) (f n) (some-counted n f)
  where
    go : (a b : Bool) → bit a ≤ count n f → bit (a || b) ≤ bit b + count n f
    go true b h = omega arith
    go false b h = omega arith

pub none_counted : (n : ℕ) (f : ℕ → Bool) → some n f ≡ false → count n f ≡ 0
none_counted zero f e = refl
none_counted (suc n) f e = go (some n f) (f n) e (none_counted n f)
  where
    go : (a b : Bool) → a || b ≡ false → (a ≡ false → count n f ≡ 0) → bit b + count n f ≡ 0
    go true b q h = absurd (true≢false q)
    go false true q h = absurd (true≢false q)
    go false false q h = omega (arith, h refl)

pub none_at : (n : ℕ) (f : ℕ → Bool) → ((k : ℕ) → k < n → f k ≡ false) → some n f ≡ false
none_at zero f h = refl
none_at (suc n) f h = ap (λ (b : Bool). b || f n) (none_at n f (λ k l. h k (omega arith))) ∙ h n (omega arith)

pub at_none : (n : ℕ) (f : ℕ → Bool) → some n f ≡ false → (k : ℕ) → k < n → f k ≡ false
at_none zero f e k h = absurd (omega arith)
at_none (suc n) f e k h = let both = neither (some n f) (f n) e in go (eqb k n) refl both.1 (at_none n f both.0 k)
  where
    neither : (a b : Bool) → a || b ≡ false → (a ≡ false) × (b ≡ false)
    neither true b q = absurd (true≢false q)
    neither false b q = (refl, q)

    go : (t : Bool) → eqb k n ≡ t → f n ≡ false → (k < n → f k ≡ false) → f k ≡ false
    go true q last below = ap f (eqb-true k n q) ∙ last
    go false q last below = below (omega (arith, eqb-false k n q))

-- ---- of the shut ones

pub all-at : (n : ℕ) (f : ℕ → Bool) → all n f ≡ true → (k : ℕ) → k < n → f k ≡ true
unfolding all
all-at n f e k h = at_every n f e k h

pub at_all : (n : ℕ) (f : ℕ → Bool) → ((k : ℕ) → k < n → f k ≡ true) → all n f ≡ true
unfolding all
at_all n f h = every-at n f h

pub any_at : (n : ℕ) (f : ℕ → Bool) → any n f ≡ false → (k : ℕ) → k < n → f k ≡ false
unfolding any
any_at n f e k h = at_none n f e k h

pub at-any : (n : ℕ) (f : ℕ → Bool) → ((k : ℕ) → k < n → f k ≡ false) → any n f ≡ false
unfolding any
at-any n f h = none_at n f h

pub any-one : (n : ℕ) (f : ℕ → Bool) (k : ℕ) → k < n → f k ≡ true → any n f ≡ true
any-one n f k h e = go (any n f) refl
  where
    go : (b : Bool) → any n f ≡ b → b ≡ true
    go true q = refl
    go false q = absurd (true≢false (sym e ∙ any_at n f q k h))

pub any-suc : (n : ℕ) (f : ℕ → Bool) → any (suc n) f ≡ any n f || f n
unfolding any
any-suc n f = refl
