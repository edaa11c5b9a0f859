-- Rows, of which the first that applies counts (01, Replies and refusals).
use Rattle.std.specs.Prelude.{ℕ, Bool, true, ◌&&◌, not, List, [], ◌∷◌, ◌↔◌, ◌≡◌}
use Rattle.base.specs.Pick.{pick}

-- a row of the table, "No." and "When": its number, and whether it applies (01, Replies and refusals)
pub record Row : Type 0 where
  pub number : ℕ
  pub applies : Bool

-- .. with this number (01, Replies and refusals: "No.")
abbrev pub row : ℕ → Bool → Row
row n t = record { number = n; applies = t }

-- "The first that applies counts" (01, Replies and refusals)
abbrev pub first_of : List Row → ℕ
first_of [] = 0
first_of (r ∷ rs) = pick r.applies r.number (first_of rs)

-- .. and none does: 0, "accepted or deferred" (01, Replies and refusals)
abbrev pub none_applies : List Row → Bool
none_applies [] = true
none_applies (r ∷ rs) = not r.applies && none_applies rs

-- a call's number is that of the first row that applies, and 0 exactly where none does
-- ("The first that applies counts, in this order", 01, Replies and refusals; "where no number applies", 01, What each contract must settle)
pub record First (number : ℕ) (rows : List Row) : Type 0 where
  pub first : number ≡ first_of rows
  pub accepted : (number ≡ 0) ↔ (none_applies rows ≡ true)
