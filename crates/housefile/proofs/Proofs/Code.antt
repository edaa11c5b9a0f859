-- The code's reader and writer agree: a good file's rows and bodies, handed to the writer, give the file.
use Rattle.std.specs.Prelude.{ℕ, ◌≤◌, ◌<◌, List, ◌≡◌, length, drop, Some}
use Rattle.std.proofs.Common.{sym, subst, ap, ◌∙◌, arith}
use Rattle.base.specs.Bytes.{over}
use Rattle.base.specs.AllBytes.{AllBytes}
use Rattle.housefile.specs.Format.{Entry, good, count_of, rows_end, row_at, total, all_fit, entries, read, bodies_of, write}
use Rattle.housefile.specs.Format.{row_of, written, write_into}
use Rattle.housefile.specs.Statements.{Fits}
use Rattle.housefile.specs.Laws.{good_is, length-entries}
use Rattle.housefile.specs.Entries.{Agree, agree_same, total_of, fit_of, entries_of_lem, agree-entries, bodies-entries}
use Rattle.housefile.specs.Answers.{into}
use Rattle.housefile.proofs.Proofs.Back.{whole, back, fits}

-- slices with the kinds, the lengths and the bodies of a capture are written as its file
pub writes : (kinds lengths out : List ℕ) (es : List Entry) → Fits es
    → length kinds ≡ length es → length lengths ≡ length es → Agree (row_of kinds lengths) 0 es → length (write es) ≤ length out
    → write_into kinds lengths (bodies_of es) out ≡ written (Some (length (write es))) (over (write es) out)
writes kinds lengths out es f k l a room =
    let rows = row_of kinds lengths in
    let w = ap write (ap (λ (j : ℕ). entries rows j 0 (bodies_of es)) k ∙ entries_of_lem rows es 0 a) in
    let t = ap (λ (j : ℕ). total rows j 0) k ∙ total_of rows es 0 a in
    let g = ap (λ (j : ℕ). all_fit rows j 0) k ∙ fit_of rows es 0 a f.each in
    sym (into kinds lengths (bodies_of es) out (write es) w (k ∙ sym l) t g f.size room)

-- the slices list a file's rows
pub record Listed (file kinds lengths : List ℕ) : Type 0 where
  pub many : length kinds ≡ count_of file
  pub like : length lengths ≡ count_of file
  pub rows : (i : ℕ) → i < count_of file → row_of kinds lengths i ≡ row_at file i

-- a good file of bytes is written again by its own rows and bodies
pub writes_back : (file kinds lengths out : List ℕ) → AllBytes file → (es : List Entry) → read file ≡ good es → Listed file kinds lengths
    → length file ≤ length out → write_into kinds lengths (drop (rows_end (count_of file)) file) out ≡ written (Some (length file)) (over file out)
writes_back file kinds lengths out h es e s room =
    let n = count_of file in
    let l = drop (rows_end n) file in
    let g = good_is file es e in
    let w = whole file h es e in
    let o = back file h es e in
    let c : length es ≡ n = ap length g.is ∙ length-entries (row_at file) n 0 l in
    let b : bodies_of es ≡ l = ap bodies_of g.is ∙ bodies-entries (row_at file) n 0 l w in
    let a = subst (Agree (row_at file) 0) (sym g.is) (agree-entries (row_at file) n 0 l (omega arith)) in
    let r = agree_same (row_at file) (row_of kinds lengths) es 0 (λ k _ u. s.rows k (omega arith)) a in
    let done = writes kinds lengths out es (fits file h es e) (s.many ∙ sym c) (s.like ∙ sym c) r (rw o room) in
    ap (λ (z : List ℕ). write_into kinds lengths z out) (sym b) ∙ done ∙ ap (λ (z : List ℕ). written (Some (length z)) (over z out)) o
