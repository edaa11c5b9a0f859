-- What is claimed of the house file: reading and writing agree, and a file is bad by document 02's sentences. Proved in Proofs.
use Rattle.std.specs.Prelude.{ℕ, ◌+◌, ◌<◌, ◌≤◌, true, List, [], ◌∷◌, ◌⊎◌, ◌≡◌, length}
use Rattle.base.specs.AllBytes.{AllBytes}
use Rattle.housefile.specs.Kinds.{row_fits_value}
use Rattle.housefile.specs.Format.{Entry, bad, good, count_of, rows_end, row, row_at, total, read, write}

-- ---- a file is bad by document 02's sentences

-- "a contents table that does not add up to the file" is one for which this fails: count, rows and bodies are the whole file (02, Q-2)
abbrev pub AddsUp : List ℕ → Type 0
AddsUp file = rows_end (count_of file) + total (row_at file) (count_of file) 0 ≡ length file

-- "a body of the wrong length for its kind (an answer under 4 bytes, a failure answer over 4, a set wire not of 3)"; "kinds 4 to 6 have no body" (02, Q-2)
pub data WrongLength (kind length : ℕ) : Type 0 where
  answer_under : (kind ≡ 1) ⊎ (kind ≡ 2) → length < 4 → WrongLength kind length
  failure_over : kind ≡ 2 → 4 < length → WrongLength kind length
  wire_not : kind ≡ 3 → (length ≡ 3 → ⊥) → WrongLength kind length
  bodied : 4 ≤ kind → kind ≤ 6 → 0 < length → WrongLength kind length

-- "A longer file, a contents table that does not add up to the file, an unknown kind, or a body of the wrong length for its kind .. is refused" (02, Q-2)
pub data Refused (file : List ℕ) : Type 0 where
  longer : 65536 < length file → Refused file
  unequal : (AddsUp file → ⊥) → Refused file
  unknown : (i : ℕ) → i < count_of file → 6 < (row_at file i).kind → Refused file
  wrong : (i : ℕ) → i < count_of file → WrongLength (row_at file i).kind (row_at file i).length → Refused file

-- a good file: no sentence refuses it, and reading gives its entries, as many as it counts (02, Q-2)
pub record Good (file : List ℕ) : Type 0 where
  pub entries : List Entry
  pub read : read file ≡ good entries
  pub counted : length entries ≡ count_of file
  pub kept : Refused file → ⊥

-- a bad one: a sentence refuses it (02, Q-2)
pub record Spoilt (file : List ℕ) : Type 0 where
  pub read : read file ≡ bad
  pub refused : Refused file

-- ---- "Reading the format and writing it back must agree" (02, Q-2)

-- each entry may stand, and its body is bytes (02, Q-2: "an unknown kind, or a body of the wrong length for its kind" may not)
unfoldable pub EachFits : List Entry → Type 0
EachFits [] = Unit {0}
EachFits (e ∷ es) = (row_fits_value (row e.kind (length e.body)) ≡ true) × (AllBytes e.body × EachFits es)

-- a capture that a file can hold: "the file is at most 64 KiB" (02, Q-2)
pub record Fits (es : List Entry) : Type 0 where
  pub each : EachFits es
  pub size : length (write es) ≤ 65536

-- "The file 01 00 00 02 00 25 FB" (02, Q-2) holds one command; an empty file and one of one byte are bad, 00 00 is a capture of no entries
-- (docs/DECISIONS.md, 56)
pub record Examples : Type 0 where
  pub document : read (0x01 ∷ 0x00 ∷ 0x00 ∷ 0x02 ∷ 0x00 ∷ 0x25 ∷ 0xFB ∷ []) ≡ good (record { kind = 0; body = 0x25 ∷ 0xFB ∷ [] } ∷ [])
  pub empty : read [] ≡ bad
  pub one : (b : ℕ) → read (b ∷ []) ≡ bad
  pub none : read (0x00 ∷ 0x00 ∷ []) ≡ good []

-- the file that a good one was written as: itself; and the capture that was written is read (02, Q-2)
pub record House : Type 0 where
  pub judged : (file : List ℕ) → Good file ⊎ Spoilt file
  pub back : (file : List ℕ) → AllBytes file → (es : List Entry) → read file ≡ good es → write es ≡ file
  pub again : (es : List Entry) → Fits es → read (write es) ≡ good es
  pub fits : (file : List ℕ) → AllBytes file → (es : List Entry) → read file ≡ good es → Fits es
  pub bytes : (es : List Entry) → Fits es → AllBytes (write es)
  pub examples : Examples
