-- The house file (02, Q-2): reading it and writing it, and both as the code has them.
use Rattle.std.specs.Prelude.{ℕ, zero, suc, ◌+◌, ◌*◌, Bool, true, ◌&&◌, not, List, [], ◌∷◌, ◌++◌, eqb, ltb, length, get_or, take, drop, Option, Some, None}
use Rattle.base.specs.Pick.{pick}
use Rattle.base.specs.Bytes.{over, low2}
use Rattle.housefile.specs.Kinds.{row_fits_value}
use Rattle.housefile.specs.declared.Row.{Row}

-- an entry: its kind, 0 to 6, and its body (02, Q-2)
pub record Entry : Type 0 where
  pub kind : ℕ
  pub body : List ℕ

-- what a file is: "refused before the first entry runs", or the entries of a capture (02, Q-2)
pub data Capture : Type 0 where
  bad : Capture
  good : List Entry → Capture

-- "the file is at most 64 KiB" (02, Q-2)
abbrev pub longest : ℕ
longest = 65536

-- ---- the contents

-- a 16-bit number: "Numbers are low byte first" (02, Q-2)
abbrev pub number2 : ℕ → List ℕ → ℕ
number2 at l = get_or l at 0 + get_or l (at + 1) 0 * 256

-- "a 16-bit entry count" (02, Q-2)
abbrev pub count_of : List ℕ → ℕ
count_of file = number2 0 file

-- .. after which the rows begin (02, Q-2)
abbrev pub rows_begin : ℕ
rows_begin = 2

-- and where n rows of three bytes end: "the bodies follow" (02, Q-2)
abbrev pub rows_end : ℕ → ℕ
rows_end n = rows_begin + 3 * n

-- "for each entry a kind byte and a 16-bit length" (02, Q-2)
abbrev pub row : ℕ → ℕ → Row
row kind length = record { kind = kind; length = length }

-- .. that of entry i, from 0, in a file (02, Q-2)
abbrev pub row_at : List ℕ → ℕ → Row
row_at file i = row (get_or file (rows_begin + 3 * i) 0) (number2 (rows_begin + 3 * i + 1) file)

-- n rows from row i on: how long their bodies are together ("add up to the file", 02, Q-2)
unfoldable pub total : (ℕ → Row) → (n i : ℕ) → ℕ
total rows zero i = 0
total rows (suc n) i = (rows i).length + total rows n (suc i)

-- .. and whether each may stand: no "unknown kind", no "body of the wrong length for its kind" (02, Q-2)
unfoldable pub all_fit : (ℕ → Row) → (n i : ℕ) → Bool
all_fit rows zero i = true
all_fit rows (suc n) i = row_fits_value (rows i) && all_fit rows n (suc i)

-- ---- reading

-- the entries of n rows from row i on: "the bodies follow in that order" (02, Q-2)
unfoldable pub entries : (ℕ → Row) → (n i : ℕ) → (bodies : List ℕ) → List Entry
entries rows zero i bodies = []
entries rows (suc n) i bodies =
    record { kind = (rows i).kind; body = take (rows i).length bodies } ∷ entries rows n (suc i) (drop (rows i).length bodies)

-- "A longer file, a contents table that does not add up to the file, an unknown kind, or a body of the wrong length for its kind .. is refused" (02, Q-2)
unfoldable pub read : List ℕ → Capture
read file =
    let n = count_of file in
    pick (ltb longest (length file)) bad
    (pick (not (eqb (rows_end n + total (row_at file) n 0) (length file))) bad
    (pick (not (all_fit (row_at file) n 0)) bad
    (good (entries (row_at file) n 0 (drop (rows_end n) file)))))

-- ---- writing

-- the rows of entries: "a kind byte and a 16-bit length" (02, Q-2)
unfoldable pub rows_of : List Entry → List ℕ
rows_of [] = []
rows_of (e ∷ es) = e.kind ∷ low2 (length e.body) ++ rows_of es

-- .. and their bodies, "in that order" (02, Q-2)
unfoldable pub bodies_of : List Entry → List ℕ
bodies_of [] = []
bodies_of (e ∷ es) = e.body ++ bodies_of es

-- "a 16-bit entry count, then for each entry a kind byte and a 16-bit length; the bodies follow in that order" (02, Q-2)
unfoldable pub write : List Entry → List ℕ
write es = low2 (length es) ++ (rows_of es ++ bodies_of es)

-- ---- the same in code: a capture is its file, or slices with the kinds, the lengths and the bodies one behind the other (docs/DECISIONS.md, 57)

-- what the reader answers: nothing of a bad file, or how many entries (02, Q-2)
abbrev pub found : Capture → Option ℕ
found bad = None
found (good es) = Some (length es)

-- the row of entry i in the slices that the writer is given (docs/DECISIONS.md, 57)
abbrev pub row_of : (kinds lengths : List ℕ) → ℕ → Row
row_of kinds lengths i = row (get_or kinds i 0) (get_or lengths i 0)

-- what the writer leaves: how long the file is, if there is one, and the lent slice (docs/DECISIONS.md, 57)
pub record Written : Type 0 where
  pub size : Option ℕ
  pub out : List ℕ

-- .. part by part (docs/DECISIONS.md, 57)
abbrev pub written : Option ℕ → List ℕ → Written
written size out = record { size = size; out = out }

-- the file of the capture with these kinds, lengths and bodies, at the start of the lent slice; none, and nothing written, where the slices are no capture,
-- no file can hold it, or the slice is too short (02, Q-2; docs/DECISIONS.md, 57)
unfoldable pub write_into : (kinds lengths bodies out : List ℕ) → Written
write_into kinds lengths bodies out =
    let n = length kinds in
    let rows = row_of kinds lengths in
    let file = write (entries rows n 0 bodies) in
    pick (not (eqb n (length lengths))) (written None out)
    (pick (not (eqb (total rows n 0) (length bodies))) (written None out)
    (pick (not (all_fit rows n 0)) (written None out)
    (pick (ltb longest (length file)) (written None out)
    (pick (ltb (length out) (length file)) (written None out)
    (written (Some (length file)) (over file out))))))
