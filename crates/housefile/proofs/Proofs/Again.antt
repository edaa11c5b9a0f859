-- A capture that fits is what its file is read as.
use Rattle.std.specs.Prelude.{ℕ, suc, ◌+◌, ◌*◌, ◌<◌, ◌≤◌, List, [], ◌∷◌, ◌++◌, ◌≡◌, refl, length, get_or, drop}
use Rattle.std.proofs.Common.{append_assoc, subst, ap, ◌∙◌, arith, length-append, drop_at}
use Rattle.base.specs.Bytes.{low2}
use Rattle.base.specs.Numbers.{past}
use Rattle.housefile.specs.Format.{
  Entry,
  good,
  longest,
  number2,
  count_of,
  rows_begin,
  rows_end,
  row,
  row_at,
  total,
  all_fit,
  entries,
  read,
  rows_of,
  bodies_of,
  write,
}
use Rattle.housefile.specs.Statements.{EachFits, Fits}
use Rattle.housefile.specs.Laws.{is_good}
use Rattle.housefile.specs.Entries.{Agree, total_of, fit_of, entries_of_lem}
use Rattle.housefile.proofs.Proofs.Bytes.{back2}

-- ---- the rows of the file are those of the entries

row_past : (p l : List ℕ) (i : ℕ) → length p ≡ rows_end i → row_at (p ++ l) i ≡ row (get_or l 0 0) (number2 1 l)
row_past p l i s =
    rw (
      past p l (rows_begin + 3 * i) 0 (omega arith),
      past p l (rows_begin + 3 * i + 1) 1 (omega arith),
      past p l (rows_begin + 3 * i + 1 + 1) 2 (omega arith),
    )

agree-written : (p : List ℕ) (es : List Entry) (rest : List ℕ) (i : ℕ) → length p ≡ rows_end i → length (bodies_of es) < 65536
    → Agree (row_at (p ++ (rows_of es ++ rest))) i es
unfolding Agree rows_of bodies_of
agree-written p [] rest i s h = tt
agree-written p (e ∷ es) rest i s h =
    let q = e.kind ∷ low2 (length e.body) in
    let l : length (e.body ++ bodies_of es) ≡ length e.body + length (bodies_of es) = length-append e.body (bodies_of es) in (
      row_past p (q ++ (rows_of es ++ rest)) i s ∙ ap (row e.kind) (back2 (length e.body) (omega arith)),
      subst (λ (z : List ℕ). Agree (row_at z) (suc i) es) (append_assoc p q (rows_of es ++ rest))
          (agree-written (p ++ q) es rest (suc i) (length-append p q ∙ omega arith) (omega arith)),
    )

length-rows_of : (es : List Entry) → length (rows_of es) ≡ 3 * length es
unfolding rows_of
length-rows_of [] = refl
length-rows_of (e ∷ es) = omega (arith, length-rows_of es)

length-written : (es : List Entry) → length (write es) ≡ rows_end (length es) + length (bodies_of es)
unfolding write
length-written es = omega (arith, length-append (rows_of es) (bodies_of es), length-rows_of es)

-- ---- so it is read as they are

read_as : (file : List ℕ) (es : List Entry) → count_of file ≡ length es → Agree (row_at file) 0 es → EachFits es
    → drop (rows_end (length es)) file ≡ bodies_of es → length file ≡ rows_end (length es) + length (bodies_of es) → length file ≤ longest → read file ≡ good es
read_as file es c a f d l s =
    is_good file s (ap (λ (k : ℕ). rows_end k + total (row_at file) k 0) c ∙ omega (arith, total_of (row_at file) es 0 a))
    (ap (λ (k : ℕ). all_fit (row_at file) k 0) c ∙ fit_of (row_at file) es 0 a f)
    ∙ ap good
    (ap (λ (k : ℕ). entries (row_at file) k 0 (drop (rows_end k) file)) c ∙ ap (entries (row_at file) (length es) 0) d ∙ entries_of_lem (row_at file) es 0 a)

pub again : (es : List Entry) → Fits es → read (write es) ≡ good es
unfolding write
again es f =
    let l = length-written es in
    let front = low2 (length es) in
    let d : drop (rows_end (length es)) (front ++ rows_of es ++ bodies_of es) ≡ bodies_of es =
    drop_at (front ++ rows_of es) (bodies_of es) (rows_end (length es)) (omega (arith, length-rows_of es)) in
    read_as (write es) es (back2 (length es) (omega arith)) (agree-written front es (bodies_of es) 0 refl (omega arith)) f.each d l f.size
