-- A file is good, or bad by a sentence of document 02.
use Rattle.std.specs.Prelude.{ℕ, zero, suc, ◌+◌, ◌<◌, ◌≤◌, true, false, List, ◌⊎◌, ◌≡◌, refl, eqb, leb, ltb, length, drop}
use Rattle.std.proofs.Common.{true≢false, inl, inr, sym, subst, ◌∙◌, eq-or-lt_of_le, pos_of_ne-zero, arith, ltb-true, ltb-false, eqb-true, leb-true, leb-false}
use Rattle.std.proofs.lemmas.Bool.{cases_Bool, eqb-false}
use Rattle.base.specs.Pick.{and_left, goes_on}
use Rattle.housefile.specs.Kinds.{kind_of, body_fits, row_fits_value}
use Rattle.housefile.specs.Format.{longest, count_of, rows_end, row, row_at, total, all_fit, entries}
use Rattle.housefile.specs.Statements.{AddsUp, WrongLength, answer_under, failure_over, wire_not, bodied}
use Rattle.housefile.specs.Statements.{Refused, longer, unequal, unknown, wrong, Good, Spoilt}
use Rattle.housefile.specs.Laws.{fit_at, length-entries, is_good, bad_longer, bad_unequal, bad_unfit}
use Rattle.housefile.specs.declared.Row.{Row}

-- ---- one row

-- a kind is one of seven, or above them
by_kind : (Q : ℕ → Type 0) → Q 0 → Q 1 → Q 2 → Q 3 → Q 4 → Q 5 → Q 6 → ((k : ℕ) → 6 < k → Q k) → (k : ℕ) → Q k
by_kind Q a b c d e f g h zero = a
by_kind Q a b c d e f g h (suc zero) = b
by_kind Q a b c d e f g h (suc (suc zero)) = c
by_kind Q a b c d e f g h (suc (suc (suc zero))) = d
by_kind Q a b c d e f g h (suc (suc (suc (suc zero)))) = e
by_kind Q a b c d e f g h (suc (suc (suc (suc (suc zero))))) = f
by_kind Q a b c d e f g h (suc (suc (suc (suc (suc (suc zero)))))) = g
by_kind Q a b c d e f g h (suc (suc (suc (suc (suc (suc (suc k))))))) = h _ (omega arith)

unlike4 : (length : ℕ) → (length ≡ 4 → ⊥) → WrongLength 2 length
unlike4 length n =
    elim (cases_Bool (ltb length 4)) [
      | inl e ↦ answer_under (inr refl) (ltb-true length 4 e)
      | inr e ↦ elim (eq-or-lt_of_le (ltb-false length 4 e)) [
        | inl q ↦ absurd (n (sym q))
        | inr h ↦ failure_over refl h
      ]
    ]

-- a row that may not stand has an unknown kind, or a body of the wrong length for its kind
row_wrong : (kind length : ℕ) → row_fits_value (row kind length) ≡ false → (6 < kind) ⊎ WrongLength kind length
row_wrong kind length =
    by_kind (λ (k : ℕ). row_fits_value (row k length) ≡ false → (6 < k) ⊎ WrongLength k length) (λ e. absurd (true≢false e))
    (λ e. inr (answer_under (inl refl) (leb-false 4 length e)))
    (λ e. inr (unlike4 length (eqb-false length 4 e)))
    (λ e. inr (wire_not refl (eqb-false length 3 e)))
    (λ e. inr (bodied (omega arith) (omega arith) (pos_of_ne-zero (eqb-false length 0 e))))
    (λ e. inr (bodied (omega arith) (omega arith) (pos_of_ne-zero (eqb-false length 0 e))))
    (λ e. inr (bodied (omega arith) (omega arith) (pos_of_ne-zero (eqb-false length 0 e))))
    (λ k h e. inl h)
    kind

-- kinds 4 to 6 have no body
no_body : (kind length : ℕ) → 4 ≤ kind → kind ≤ 6 → row_fits_value (row kind length) ≡ true → length ≡ 0
no_body kind length =
    by_kind (λ (k : ℕ). 4 ≤ k → k ≤ 6 → row_fits_value (row k length) ≡ true → length ≡ 0)
    (λ a b e. absurd (omega arith))
    (λ a b e. absurd (omega arith))
    (λ a b e. absurd (omega arith))
    (λ a b e. absurd (omega arith))
    (λ a b e. eqb-true length 0 e)
    (λ a b e. eqb-true length 0 e)
    (λ a b e. eqb-true length 0 e)
    (λ k h a b e. absurd (omega arith))
    kind

-- one that may stand has neither
row-known : (kind length : ℕ) → row_fits_value (row kind length) ≡ true → kind ≤ 6
row-known kind length e = leb-true kind 6 (and_left (leb kind 6) (body_fits (kind_of kind) length) e)

row_right : (kind length : ℕ) → row_fits_value (row kind length) ≡ true → WrongLength kind length → ⊥
row_right kind length e (answer_under (inl q) u) = omega (arith, leb-true 4 length (subst (λ (k : ℕ). row_fits_value (row k length) ≡ true) q e))
row_right kind length e (answer_under (inr q) u) = omega (arith, eqb-true length 4 (subst (λ (k : ℕ). row_fits_value (row k length) ≡ true) q e))
row_right kind length e (failure_over q u) = omega (arith, eqb-true length 4 (subst (λ (k : ℕ). row_fits_value (row k length) ≡ true) q e))
row_right kind length e (wire_not q n) = n (eqb-true length 3 (subst (λ (k : ℕ). row_fits_value (row k length) ≡ true) q e))
row_right kind length e (bodied a b u) = omega (arith, no_body kind length a b e)

-- ---- all rows

-- of rows that may not all stand one may not
record Unfit (rows : ℕ → Row) (n i : ℕ) : Type 0 where
  place : ℕ
  from : i ≤ place
  upto : place < i + n
  unfit : row_fits_value (rows place) ≡ false

unfit_at : (rows : ℕ → Row) (n i : ℕ) → all_fit rows n i ≡ false → Unfit rows n i
unfolding all_fit
unfit_at rows zero i e = absurd (true≢false e)
unfit_at rows (suc n) i e =
    elim (cases_Bool (row_fits_value (rows i))) [
      | inl t ↦
          let r = unfit_at rows n (suc i) (goes_on (all_fit rows n (suc i)) t ∙ e) in
          record { place = r.place; from = omega arith; upto = omega arith; unfit = r.unfit }
      | inr f ↦ record { place = i; from = omega arith; upto = omega arith; unfit = f }
    ]

-- ---- a file

unfit_refused : (file : List ℕ) → all_fit (row_at file) (count_of file) 0 ≡ false → Refused file
unfit_refused file e =
    let u = unfit_at (row_at file) (count_of file) 0 e in
    let r = row_at file u.place in
    elim (row_wrong r.kind r.length u.unfit) [
      | inl h ↦ unknown u.place (omega arith) h
      | inr w ↦ wrong u.place (omega arith) w
    ]

module _ (file : List ℕ) (short : length file ≤ longest) (adds : AddsUp file) (fit : all_fit (row_at file) (count_of file) 0 ≡ true) where
  kept : Refused file → ⊥
  kept (longer h) = omega arith
  kept (unequal n) = n adds
  kept (unknown i l h) = omega (arith, row-known (row_at file i).kind (row_at file i).length (fit_at (row_at file) (count_of file) i fit l))
  kept (wrong i l w) = row_right (row_at file i).kind (row_at file i).length (fit_at (row_at file) (count_of file) i fit l) w

  whole : Good file
  whole = record {
    entries = entries (row_at file) (count_of file) 0 (drop (rows_end (count_of file)) file);
    read = is_good file short adds fit;
    counted = length-entries (row_at file) (count_of file) 0 (drop (rows_end (count_of file)) file);
    kept = kept;
  }

pub judged : (file : List ℕ) → Good file ⊎ Spoilt file
judged file =
    let n = count_of file in
    let rows = row_at file in
    elim (cases_Bool (ltb longest (length file))) [
      | inl e ↦ let h = ltb-true longest (length file) e in inr (record { read = bad_longer file h; refused = longer h })
      | inr short ↦ elim (cases_Bool (eqb (rows_end n + total rows n 0) (length file))) [
        | inr e ↦ let h = eqb-false (rows_end n + total rows n 0) (length file) e in inr (record { read = bad_unequal file h; refused = unequal h })
        | inl adds ↦ elim (cases_Bool (all_fit rows n 0)) [
          | inr e ↦ inr (record { read = bad_unfit file e; refused = unfit_refused file e })
          | inl fit ↦ inl (whole file (ltb-false longest (length file) short) (eqb-true (rows_end n + total rows n 0) (length file) adds) fit)
        ]
      ]
    ]
