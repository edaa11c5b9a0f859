-- Places of a good file: where an entry's row and body stand.
use Rattle.std.specs.Prelude.{ℕ, ◌+◌, ◌≤◌, true, List, ◌≡◌, length}
use Rattle.housefile.specs.Format.{longest, count_of, rows_end, row_at, total, all_fit}
use Rattle.housefile.specs.Statements.{AddsUp}
use Rattle.playback.specs.declared.Place.{Place}

-- a place of a good file: so many entries before it, the rest to come, their bodies from there on (02, Q-2: "the bodies follow in that order")
pub record Stands (file : List ℕ) (p : Place) : Type 0 where
  pub short : length file ≤ longest
  pub adds : AddsUp file
  pub fit : all_fit (row_at file) (count_of file) 0 ≡ true
  pub counted : p.number + p.left ≡ count_of file
  pub body : p.body ≡ rows_end (count_of file) + total (row_at file) p.number 0
