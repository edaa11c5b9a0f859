-- What the reader and the writer answer, guard by guard: the premises are what the code knows there.
use Prim.Native.Nat.{ℕ, ◌+◌, ◌<◌, ◌≤◌}
use Rattle.std.specs.Prelude.{Bool, true, false, ◌≡◌, eqb, drop, Some, None}
use Rattle.std.proofs.Math.Bool.{not}
use mathlib.Core.List.{List}
use Rattle.std.proofs.Math.Path.{refl}
use Rattle.std.proofs.Common.{sym, ap, ◌∙◌, arith}
use Rattle.std.proofs.Math.ListN.{length}
use borrow.Author.Tests.{lt-ltb, le-ltb, eq-eqb, ne_eqb, eqb-true}
use Rattle.base.specs.Bytes.{over, put, put-over}
use Rattle.base.specs.Pick.{pick, taken, passed}
use Rattle.housefile.specs.Format.{bad, longest, count_of, rows_end, row_at, total, all_fit, entries, read, found}
use Rattle.housefile.specs.Format.{row_of, write, Written, written, write_into}
use Rattle.housefile.specs.Laws.{length-entries, is_good, bad_longer, bad_unequal, bad_unfit}
use Rattle.housefile.specs.Tables.{sizes_of, sizes_none, sizes_some, contents_bytes, length-rows}
use Rattle.housefile.specs.Entries.{write_entries, length-write}
use Rattle.housefile.specs.declared.Row.{Row}

-- ---- reading

module _ (file : List ℕ) where
  no_file : read file ≡ bad → None ≡ found (read file)
  no_file e = sym (ap found e)

  pub too_long : longest < length file → None ≡ found (read file)
  too_long h = no_file (bad_longer file h)

  pub cut_off : (n : ℕ) → n ≡ count_of file → length file < rows_end n → None ≡ found (read file)
  cut_off n c h = no_file (bad_unequal file (λ e. omega arith))

  -- whether or not each row may stand: "a contents table that does not add up to the file" (02, Q-2)
  pub other_total : (n : ℕ) → n ≡ count_of file → (rows_end n + total (row_at file) n 0 ≡ length file → ⊥) → None ≡ found (read file)
  other_total n c h = no_file (bad_unequal file (λ a. h (rw c a)))

  module _ (n : ℕ) (c : n ≡ count_of file) where
    pub not_fit : None ≡ sizes_of (row_at file) n → None ≡ found (read file)
    not_fit e = no_file (bad_unfit file (sizes_none _ _ (e ∙ ap (sizes_of (row_at file)) c)))

    module _ (t : ℕ) (e : Some t ≡ sizes_of (row_at file) n) where
      summed : (all_fit (row_at file) (count_of file) 0 ≡ true) × (t ≡ total (row_at file) (count_of file) 0)
      summed = sizes_some _ _ t (e ∙ ap (sizes_of (row_at file)) c)

      pub not_summed : (rows_end n + t ≡ length file → ⊥) → None ≡ found (read file)
      not_summed h = other_total n c (λ a. h (ap (λ (k : ℕ). rows_end n + k) (sizes_some _ _ t e).1 ∙ a))

      pub all_read : length file ≤ longest → rows_end n + t ≡ length file → Some n ≡ found (read file)
      all_read short adds =
          ap Some (c ∙ sym (length-entries (row_at file) (count_of file) 0 (drop (rows_end (count_of file)) file)))
          ∙ sym (ap found (is_good file short (omega (arith, summed.1)) summed.0))

-- ---- writing

-- a guard that answers as what follows it
same : (b : Bool) (x : Written) → pick b x x ≡ x
same true x = refl
same false x = refl

module _ (kinds lengths bodies out : List ℕ) where
  pub unlike : (length kinds ≡ length lengths → ⊥) → written None out ≡ write_into kinds lengths bodies out
  unfolding write_into
  unlike h = taken _ _ (ap not (ne_eqb _ _ h)) refl

  -- no file holds so many rows, whatever the bodies
  pub too_many : longest < length kinds → written None out ≡ write_into kinds lengths bodies out
  unfolding write_into
  too_many h = go (eqb (total rows n 0) (length bodies)) refl
    where
      n : ℕ
      n = length kinds

      rows : ℕ → Row
      rows = row_of kinds lengths

      go : (b : Bool) → eqb (total rows n 0) (length bodies) ≡ b → written None out ≡ write_into kinds lengths bodies out
      go true e =
          let size = length-write rows n bodies (eqb-true (total rows n 0) (length bodies) e) in
          simp (lt-ltb longest (length (write (entries rows n 0 bodies))) (omega (arith, size)), same)
      go false e = simp (e, same)

  -- past all guards
  pub into : (file : List ℕ) → write (entries (row_of kinds lengths) (length kinds) 0 bodies) ≡ file → length kinds ≡ length lengths
      → total (row_of kinds lengths) (length kinds) 0 ≡ length bodies → all_fit (row_of kinds lengths) (length kinds) 0 ≡ true
      → length file ≤ longest → length file ≤ length out → written (Some (length file)) (over file out) ≡ write_into kinds lengths bodies out
  unfolding write_into
  into file w like sum fit small room =
      let is = write (entries (row_of kinds lengths) (length kinds) 0 bodies) in
      passed _ _ (ap not (eq-eqb _ _ like))
      (passed _ _ (ap not (eq-eqb _ _ sum))
      (passed _ _ (ap not fit)
      (passed _ _ (le-ltb longest (length is) (rw w small))
      (passed _ _ (le-ltb (length out) (length is) (rw w room)) (ap (λ (z : List ℕ). written (Some (length z)) (over z out)) (sym w))))))

  -- whether or not each row may stand: no contents table that adds up to these bodies (02, Q-2)
  pub other_sum : (total (row_of kinds lengths) (length kinds) 0 ≡ length bodies → ⊥) → written None out ≡ write_into kinds lengths bodies out
  unfolding write_into
  other_sum h = simp (ne_eqb (total (row_of kinds lengths) (length kinds) 0) (length bodies) h, same)

  module _ (b : total (row_of kinds lengths) (length kinds) 0 ≡ length bodies) where
    length_is : length (write (entries (row_of kinds lengths) (length kinds) 0 bodies))
        ≡ rows_end (length kinds) + total (row_of kinds lengths) (length kinds) 0
    length_is = length-write (row_of kinds lengths) (length kinds) bodies b ∙ ap (λ (k : ℕ). rows_end (length kinds) + k) (sym b)

    -- .. nor a file that is "at most 64 KiB" (02, Q-2)
    pub sum_too_large : longest < rows_end (length kinds) + total (row_of kinds lengths) (length kinds) 0
        → written None out ≡ write_into kinds lengths bodies out
    unfolding write_into
    sum_too_large h = simp (length_is, lt-ltb longest (rows_end (length kinds) + total (row_of kinds lengths) (length kinds) 0) h, same)

    -- .. nor room for it in the lent slice (02, Q-2; docs/DECISIONS.md, 57)
    pub sum_no_room : length out < rows_end (length kinds) + total (row_of kinds lengths) (length kinds) 0
        → written None out ≡ write_into kinds lengths bodies out
    unfolding write_into
    sum_no_room h = simp (length_is, lt-ltb (length out) (rows_end (length kinds) + total (row_of kinds lengths) (length kinds) 0) h, same)

  pub unfit : None ≡ sizes_of (row_of kinds lengths) (length kinds) → written None out ≡ write_into kinds lengths bodies out
  unfolding write_into
  unfit e = simp (sizes_none _ _ e, same)

  module _ (t : ℕ) (e : Some t ≡ sizes_of (row_of kinds lengths) (length kinds)) where
    given : (all_fit (row_of kinds lengths) (length kinds) 0 ≡ true) × (t ≡ total (row_of kinds lengths) (length kinds) 0)
    given = sizes_some _ _ t e

    pub other_bodies : (t ≡ length bodies → ⊥) → written None out ≡ write_into kinds lengths bodies out
    other_bodies h = other_sum (λ a. h (given.1 ∙ a))

    module _ (b : t ≡ length bodies) where
      size : length (write (entries (row_of kinds lengths) (length kinds) 0 bodies)) ≡ rows_end (length kinds) + t
      size = length_is (sym given.1 ∙ b) ∙ ap (λ (k : ℕ). rows_end (length kinds) + k) (sym given.1)

      pub too_large : longest < rows_end (length kinds) + t → written None out ≡ write_into kinds lengths bodies out
      too_large h = sum_too_large (sym given.1 ∙ b) (omega (arith, given.1))

      pub no_room : length out < rows_end (length kinds) + t → written None out ≡ write_into kinds lengths bodies out
      no_room h = sum_no_room (sym given.1 ∙ b) (omega (arith, given.1))

      pub all_written : length kinds ≡ length lengths → rows_end (length kinds) + t ≤ longest → rows_end (length kinds) + t ≤ length out
          → (mid end : List ℕ) → mid ≡ over (contents_bytes (row_of kinds lengths) (length kinds)) out → end ≡ put (rows_end (length kinds)) bodies mid
          → written (Some (rows_end (length kinds) + t)) end ≡ write_into kinds lengths bodies out
      all_written like small room mid end m p =
          let rows = row_of kinds lengths in
          let n = length kinds in
          let whole = put-over (contents_bytes rows n) bodies out (rows_end n) (omega (arith, length-rows rows n 0)) in
          let is = p ∙ ap (put (rows_end n) bodies) m ∙ whole ∙ ap (λ (z : List ℕ). over z out) (sym (write_entries rows n bodies (sym given.1 ∙ b))) in
          ap (λ (k : ℕ). written (Some k) end) (sym size)
          ∙ ap (written (Some (length (write (entries rows n 0 bodies))))) is
          ∙ into _ refl like (sym given.1 ∙ b) given.0 (rw size small) (rw size room)

-- ---- by name, for the attributes of the code

pub ruleset reading = (too_long, cut_off, not_fit, not_summed, all_read)

pub ruleset no_writing = (unlike, too_many, unfit, other_bodies, too_large, no_room)
