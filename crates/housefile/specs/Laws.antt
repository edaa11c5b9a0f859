-- The laws of the house file for those above: rows one after the other, and what a good file is.
use Rattle.std.specs.Prelude.{ℕ, zero, suc, ◌+◌, ◌<◌, ◌≤◌, Bool, true, false, not, List, ◌≡◌, refl, eqb, ltb, length, drop, Some}
use Rattle.std.proofs.Common.{inl, inr, sym, subst, ap, ◌∙◌, eq-or-lt_of_le, arith}
use borrow.Author.Tests.{lt-ltb, le-ltb, eq-eqb, ne_eqb, ltb-false, eqb-true, not-false}
use Rattle.base.specs.Pick.{pick, pick_ind, and_left, and_right}
use Rattle.housefile.specs.Kinds.{row_fits_value}
use Rattle.housefile.specs.Format.{Entry, Capture, bad, good, longest, count_of, rows_end, row_at, total, all_fit, entries, read, found}
use Rattle.housefile.specs.Statements.{AddsUp}
use Rattle.housefile.specs.declared.Row.{Row}

-- ---- rows one after the other

-- one row more at the end
pub total_next : (rows : ℕ → Row) (n i : ℕ) → total rows (suc n) i ≡ total rows n i + (rows (i + n)).length
unfolding total
total_next rows zero i = let e : (rows (i + 0)).length ≡ (rows i).length = ap (λ (k : ℕ). (rows k).length) (omega arith) in omega arith
total_next rows (suc n) i =
    let e : (rows (suc i + n)).length ≡ (rows (i + suc n)).length = ap (λ (k : ℕ). (rows k).length) (omega arith) in
    omega (arith, total_next rows n (suc i))

below : (rows : ℕ → Row) (k n i : ℕ) → k ≤ n → total rows k i ≤ total rows n i
unfolding total
below rows zero n i h = omega arith
below rows (suc k) zero i h = absurd (omega arith)
below rows (suc k) (suc n) i h = omega (arith, below rows k n (suc i) (omega arith))

-- fewer rows, no longer bodies
pub total_below : (rows : ℕ → Row) (k n : ℕ) → k ≤ n → total rows k 0 ≤ total rows n 0
total_below rows k n h = below rows k n 0 h

fit_from : (rows : ℕ → Row) (n i k : ℕ) → all_fit rows n i ≡ true → i ≤ k → k < i + n → row_fits_value (rows k) ≡ true
unfolding all_fit
fit_from rows zero i k e h l = absurd (omega arith)
fit_from rows (suc n) i k e h l =
    elim (eq-or-lt_of_le h) [
      | inl q ↦ subst (λ (j : ℕ). row_fits_value (rows j) ≡ true) q (and_left (row_fits_value (rows i)) (all_fit rows n (suc i)) e)
      | inr p ↦ fit_from rows n (suc i) k (and_right (row_fits_value (rows i)) (all_fit rows n (suc i)) e) p (omega arith)
    ]

-- each of rows that all may stand
pub fit_at : (rows : ℕ → Row) (n k : ℕ) → all_fit rows n 0 ≡ true → k < n → row_fits_value (rows k) ≡ true
fit_at rows n k e h = fit_from rows n 0 k e (omega arith) (omega arith)

-- ---- entries

-- as many as rows
pub length-entries : (rows : ℕ → Row) (n i : ℕ) (l : List ℕ) → length (entries rows n i l) ≡ n
unfolding entries
length-entries rows zero i l = refl
length-entries rows (suc n) i l = ap suc (length-entries rows n (suc i) (drop (rows i).length l))

-- ---- a good file

-- what a file is whose reading gives entries: no longer than it may be, its table adds up to it, each row may stand, and these are its entries
pub record IsGood (file : List ℕ) (es : List Entry) : Type 0 where
  pub short : length file ≤ longest
  pub adds : AddsUp file
  pub fit : all_fit (row_at file) (count_of file) 0 ≡ true
  pub is : es ≡ entries (row_at file) (count_of file) 0 (drop (rows_end (count_of file)) file)

-- a guard that was passed
kept : (b : Bool) (x : Capture) (es : List Entry) → pick b bad x ≡ good es → (b ≡ false) × (x ≡ good es)
kept true x es e = absurd (let z : ◌≡◌ {A = ℕ} 0 1 = cc in omega arith)
kept false x es e = (refl, e)

-- .. which it is
pub good_is : (file : List ℕ) (es : List Entry) → read file ≡ good es → IsGood file es
unfolding read
good_is file es e =
    let n = count_of file in
    let a = kept (ltb longest (length file)) _ es e in
    let b = kept (not (eqb (rows_end n + total (row_at file) n 0) (length file))) _ es a.1 in
    let d = kept (not (all_fit (row_at file) n 0)) _ es b.1 in
    record {
      short = ltb-false _ _ a.0;
      adds = eqb-true _ _ (not-false _ b.0);
      fit = not-false _ d.0;
      is = cc;
    }

tell : (file : List ℕ) (c : Capture) → read file ≡ c → (n : ℕ) → Some n ≡ found c
    → (n ≡ count_of file) × (read file ≡ good (entries (row_at file) n 0 (drop (rows_end n) file)))
tell file bad e n f = absurd (let z : ◌≡◌ {A = ℕ} 0 1 = cc in omega arith)
tell file (good es) e n f =
    let g = good_is file es e in
    let k : n ≡ length es = cc in
    let c = k ∙ ap length g.is ∙ length-entries (row_at file) (count_of file) 0 (drop (rows_end (count_of file)) file) in
    (c, e ∙ ap good (g.is ∙ ap (λ (j : ℕ). entries (row_at file) j 0 (drop (rows_end j) file)) (sym c)))

-- where the code's reader tells of n entries, the file counts n, and these are they
pub found-entries : (file : List ℕ) (n : ℕ) → Some n ≡ found (read file)
    → (n ≡ count_of file) × (read file ≡ good (entries (row_at file) n 0 (drop (rows_end n) file)))
found-entries file n e = tell file (read file) refl n e

-- and when it is good, or bad: whichever sentence refuses it
module _ (file : List ℕ) where
  pub is_good : length file ≤ longest → AddsUp file → all_fit (row_at file) (count_of file) 0 ≡ true
      → read file ≡ good (entries (row_at file) (count_of file) 0 (drop (rows_end (count_of file)) file))
  unfolding read
  is_good short adds fit = rw (le-ltb longest (length file) short, eq-eqb _ _ adds, fit)

  pub bad_longer : longest < length file → read file ≡ bad
  unfolding read
  bad_longer h = rw (lt-ltb longest (length file) h)

  pub bad_unequal : (AddsUp file → ⊥) → read file ≡ bad
  unfolding read
  bad_unequal h = pick_ind (λ (z : Capture). z ≡ bad) (ltb longest (length file)) (λ _. refl) (λ _. rw (ne_eqb _ _ h))

  pub bad_unfit : all_fit (row_at file) (count_of file) 0 ≡ false → read file ≡ bad
  unfolding read
  bad_unfit e =
      pick_ind (λ (z : Capture). z ≡ bad) (ltb longest (length file)) (λ _. refl)
      (λ _. pick_ind (λ (z : Capture). z ≡ bad) (not (eqb (rows_end (count_of file) + total (row_at file) (count_of file) 0) (length file))) (λ _. refl)
      (λ _. rw e))
