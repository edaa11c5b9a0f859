-- A good file of bytes is what its entries are written as; they fit, and their file is bytes.
use Rattle.std.specs.Prelude.{ℕ, zero, suc, ◌+◌, ◌≤◌, true, List, [], ◌∷◌, ◌++◌, ◌≡◌, leb, length, get_or, drop}
use Rattle.std.proofs.Common.{sym, subst, ap, ◌∙◌, arith, add-one, length-drop, drop-cons, leb-true}
use Rattle.base.specs.Bytes.{low2}
use Rattle.base.specs.AllBytes.{AllBytes, all_none, all_cons, all_append}
use Rattle.base.specs.Numbers.{join}
use Rattle.base.specs.Pick.{and_left, and_right}
use Rattle.housefile.specs.Kinds.{kind_of, body_fits, row_fits_value}
use Rattle.housefile.specs.Format.{Entry, good, longest, read, entries, write, rows_of, bodies_of}
use Rattle.housefile.specs.Format.{count_of, rows_end, row_at, total, all_fit}
use Rattle.housefile.specs.Tables.{row_bytes, contents_bytes}
use Rattle.housefile.specs.Statements.{EachFits, Fits}
use Rattle.housefile.specs.Laws.{IsGood, good_is, length-entries}
use Rattle.housefile.specs.Entries.{Agree, agree-entries, bodies-entries, write_entries}
use Rattle.housefile.proofs.Proofs.Bytes.{low2-number2, all-low2, all_left, all_right, all_drop}
use Rattle.housefile.specs.declared.Row.{Row}

-- ---- the file again

three : (l : List ℕ) (k m : ℕ) → m ≡ k + 3 → m ≤ length l → get_or l k 0 ∷ get_or l (k + 1) 0 ∷ get_or l (k + 1 + 1) 0 ∷ drop m l ≡ drop k l
three l k m e h =
    let j : m ≡ suc (suc (suc k)) = omega arith in
    rw (j, add-one k, add-one (suc k), drop-cons l k 0 (omega arith), drop-cons l (suc k) 0 (omega arith), drop-cons l (suc (suc k)) 0 (omega arith))

rows_back : (l : List ℕ) → AllBytes l → (n i m : ℕ) → m ≡ i + n → rows_end m ≤ length l → row_bytes (row_at l) n i ++ drop (rows_end m) l ≡ drop (rows_end i) l
unfolding row_bytes
rows_back l h zero i m e s = let j : m ≡ i = omega arith in ap (λ (k : ℕ). drop (rows_end k) l) j
rows_back l h (suc n) i m e s =
    let k = rows_end i in
    ap (λ (z : List ℕ). get_or l k 0 ∷ low2 (row_at l i).length ++ z) (rows_back l h n (suc i) m (omega arith) s)
    ∙ ap (λ (z : List ℕ). get_or l k 0 ∷ z ++ drop (rows_end (suc i)) l) (low2-number2 l h (k + 1))
    ∙ three l k (rows_end (suc i)) (omega arith) (omega arith)

contents_back : (file : List ℕ) → AllBytes file → rows_end (count_of file) ≤ length file
    → contents_bytes (row_at file) (count_of file) ++ drop (rows_end (count_of file)) file ≡ file
contents_back file h s =
    join (low2-number2 file h 0) (rows_back file h (count_of file) 0 (count_of file) (omega arith) s)
    ∙ sym (drop-cons file 0 0 (omega arith) ∙ ap (λ (z : List ℕ). get_or file 0 0 ∷ z) (drop-cons file 1 0 (omega arith)))

module _ (file : List ℕ) (h : AllBytes file) (es : List Entry) (e : read file ≡ good es) where
  g : IsGood file es
  g = good_is file es e

  abbrev bodies : List ℕ
  bodies = drop (rows_end (count_of file)) file

  pub whole : total (row_at file) (count_of file) 0 ≡ length bodies
  whole = simp length-drop (omega (arith, g.adds))

  pub back : write es ≡ file
  back = ap write g.is ∙ write_entries (row_at file) (count_of file) bodies whole ∙ contents_back file h (omega (arith, g.adds))

-- ---- its entries fit

each_of : (rows : ℕ → Row) (es : List Entry) (i : ℕ) → Agree rows i es → all_fit rows (length es) i ≡ true → AllBytes (bodies_of es) → EachFits es
unfolding Agree all_fit EachFits bodies_of
each_of rows [] i a f b = tt
each_of rows (e ∷ es) i (a, r) f b = (
  subst (λ (x : Row). row_fits_value x ≡ true) a (and_left (row_fits_value (rows i)) (all_fit rows (length es) (suc i)) f),
  (
    all_left e.body (bodies_of es) b,
    each_of rows es (suc i) r (and_right (row_fits_value (rows i)) (all_fit rows (length es) (suc i)) f) (all_right e.body (bodies_of es) b),
  ),
)

pub fits : (file : List ℕ) → AllBytes file → (es : List Entry) → read file ≡ good es → Fits es
fits file h es e =
    let n = count_of file in
    let rows = row_at file in
    let l = drop (rows_end n) file in
    let g = good_is file es e in
    let w = whole file h es e in
    let f : all_fit rows (length (entries rows n 0 l)) 0 ≡ true = ap (λ (k : ℕ). all_fit rows k 0) (length-entries rows n 0 l) ∙ g.fit in
    let b : AllBytes (bodies_of (entries rows n 0 l)) = subst AllBytes (sym (bodies-entries rows n 0 l w)) (all_drop (rows_end n) file h) in
    record {
      each = subst EachFits (sym g.is) (each_of rows (entries rows n 0 l) 0 (agree-entries rows n 0 l (omega arith)) f b);
      size = subst (λ (z : List ℕ). length z ≤ longest) (sym (back file h es e)) g.short;
    }

-- ---- a file is bytes

rows-bytes : (es : List Entry) → EachFits es → AllBytes (rows_of es)
unfolding EachFits rows_of
rows-bytes [] f = all_none
rows-bytes (e ∷ es) (f, (_, g)) =
    let k = leb-true e.kind 6 (and_left (leb e.kind 6) (body_fits (kind_of e.kind) (length e.body)) f) in
    all_cons (omega arith) (all_append (low2 (length e.body)) (all-low2 (length e.body)) (rows-bytes es g))

bodies-bytes : (es : List Entry) → EachFits es → AllBytes (bodies_of es)
unfolding EachFits bodies_of
bodies-bytes [] f = all_none
bodies-bytes (e ∷ es) (_, (f, g)) = all_append e.body f (bodies-bytes es g)

pub bytes : (es : List Entry) → Fits es → AllBytes (write es)
unfolding write
bytes es f = all_append (low2 (length es)) (all-low2 (length es)) (all_append (rows_of es) (rows-bytes es f.each) (bodies-bytes es f.each))
