-- Rows and entries that agree: what a table says of entries, and what entries are written as.
use Prim.Native.Nat.{ℕ, zero, suc, ◌+◌, ◌<◌, ◌≤◌}
use Rattle.std.specs.Prelude.{true, ◌≡◌, length, drop}
use mathlib.Core.List.{List, [], ◌∷◌, ◌++◌}
use Rattle.std.proofs.Math.Path.{refl, sym, ap}
use Rattle.std.proofs.Common.{◌∙◌, arith, length-take-le}
use Rattle.std.proofs.Math.ListN.{take, length-append, length-drop, take-append-drop}
use Rattle.std.proofs.Math.Seq.{take-append_seam, drop-append_seam}
use Rattle.base.specs.Pick.{and_true}
use Rattle.housefile.specs.Format.{Entry, rows_end, row, total, all_fit, entries, rows_of, bodies_of, write}
use Rattle.housefile.specs.Statements.{EachFits}
use Rattle.housefile.specs.Laws.{length-entries}
use Rattle.housefile.specs.Tables.{row_bytes, contents_bytes, length-rows}
use Rattle.housefile.specs.declared.Row.{Row}

-- the rows from i on are those of the entries: "for each entry a kind byte and a 16-bit length" (02, Q-2)
unfoldable pub Agree : (ℕ → Row) → ℕ → List Entry → Type 0
Agree rows i [] = Unit {0}
Agree rows i (e ∷ es) = (rows i ≡ row e.kind (length e.body)) × Agree rows (suc i) es

-- other rows that are the same there agree too
pub agree_same : (rows others : ℕ → Row) (es : List Entry) (i : ℕ)
    → ((k : ℕ) → i ≤ k → k < i + length es → others k ≡ rows k) → Agree rows i es → Agree others i es
unfolding Agree
agree_same rows others [] i s a = tt
agree_same rows others (e ∷ es) i s (a, b) =
    (s i (omega arith) (omega arith) ∙ a, agree_same rows others es (suc i) (λ k h l. s k (omega arith) (omega arith)) b)

module _ (rows : ℕ → Row) where
  -- ---- rows that agree with entries

  rows_of_lem : (es : List Entry) (i : ℕ) → Agree rows i es → rows_of es ≡ row_bytes rows (length es) i
  unfolding Agree rows_of row_bytes
  rows_of_lem [] i a = refl
  rows_of_lem (e ∷ es) i (a, b) = rw (a, rows_of_lem es (suc i) b)

  pub total_of : (es : List Entry) (i : ℕ) → Agree rows i es → total rows (length es) i ≡ length (bodies_of es)
  unfolding Agree total bodies_of
  total_of [] i a = refl
  total_of (e ∷ es) i (a, b) = rw (a, length-append, total_of es (suc i) b)

  pub fit_of : (es : List Entry) (i : ℕ) → Agree rows i es → EachFits es → all_fit rows (length es) i ≡ true
  unfolding Agree all_fit EachFits
  fit_of [] i a f = refl
  fit_of (e ∷ es) i (a, b) (f, (_, g)) = rw a (and_true f (fit_of es (suc i) b g))

  pub entries_of_lem : (es : List Entry) (i : ℕ) → Agree rows i es → entries rows (length es) i (bodies_of es) ≡ es
  unfolding Agree entries bodies_of
  entries_of_lem [] i a = refl
  entries_of_lem (e ∷ es) i (a, b) = rw (a, take-append_seam, drop-append_seam, entries_of_lem es (suc i) b)

  -- ---- entries that are cut by rows

  pub agree-entries : (n i : ℕ) (l : List ℕ) → total rows n i ≤ length l → Agree rows i (entries rows n i l)
  unfolding Agree entries total
  agree-entries zero i l h = tt
  agree-entries (suc n) i l h = (
    sym (ap (row (rows i).kind) (length-take-le (rows i).length l (omega arith))),
    agree-entries n (suc i) (drop (rows i).length l) (simp length-drop (omega arith)),
  )

  pub bodies-entries : (n i : ℕ) (l : List ℕ) → total rows n i ≡ length l → bodies_of (entries rows n i l) ≡ l
  unfolding entries bodies_of total
  bodies-entries zero i [] h = refl
  bodies-entries zero i (x ∷ l) h = absurd (omega arith)
  bodies-entries (suc n) i l h =
      ap (λ (z : List ℕ). take (rows i).length l ++ z) (bodies-entries n (suc i) (drop (rows i).length l) (simp length-drop (omega arith)))
      ∙ take-append-drop (rows i).length l

  pub write_entries : (n : ℕ) (l : List ℕ) → total rows n 0 ≡ length l → write (entries rows n 0 l) ≡ contents_bytes rows n ++ l
  unfolding write
  write_entries n l h =
      rw (
        rows_of_lem (entries rows n 0 l) 0 (agree-entries n 0 l (omega arith)),
        bodies-entries n 0 l h,
        length-entries rows n 0 l,
      )

  pub length-write : (n : ℕ) (l : List ℕ) → total rows n 0 ≡ length l → length (write (entries rows n 0 l)) ≡ rows_end n + length l
  length-write n l h = ap length (write_entries n l h) ∙ rw (length-append, length-rows) (omega arith)
