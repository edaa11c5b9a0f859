-- Channel 1's clauses of "Sound state" (01, Wires, last paragraph; 02, Q-4).
use Rattle.std.specs.Prelude.{ℕ, ◌-◌, ◌≤◌, ◌<◌, Bool, true, false, ◌≡◌}
use Rattle.wires.specs.Table.{is_group, row_at}
use Rattle.wires.specs.Groups.{level_at, mark_at, defined_bit, read_wire}
use Rattle.wires.specs.Senders.{AllWires}
use Rattle.wires.specs.declared.Wires.{Wires}
use Rattle.rules.specs.Statements.Wires.Rows.{at_line}

-- ---- "undefined wire bits are 0"

-- a group has four bits: "undefined wire bits are 0" (01, Sound state)
pub record GroupRight (w : Wires) (i : ℕ) : Type 0 where
  pub four : level_at w i < 16
  pub undefined : (bit : ℕ) → bit < 4 → defined_bit i bit ≡ false → read_wire w i bit ≡ 0

-- ---- the clauses of channel 1

-- from "undefined wire bits are 0" to "none while channel 1 is off" (01, Sound state); "sound state admits waiting lines and their turns" (02, Q-4), channel 1
-- being on or off and the operating count being this
pub record Clauses (on : Bool) (count : ℕ) (w : AllWires) : Type 0 where
  pub groups : (i : ℕ) → is_group i ≡ true → GroupRight w.groups i
  -- "up groups alone are pending, and none while channel 1 is off"
  pub pending_up : (i : ℕ) → is_group i ≡ true → mark_at w.groups i ≡ true → (row_at (i - 2)).down ≡ false
  pub pending_on : (i : ℕ) → is_group i ≡ true → mark_at w.groups i ≡ true → on ≡ true
  -- the going-round place is a sender's: "lines 0 to 255, then groups 4 to 6" (02, Q-4)
  pub place : w.groups.place < 259
  -- an edge is one that waits, no line waits while channel 1 is off, and no edge while "the operating count is 1" (02, Q-4)
  pub edge_waits_lem : (n : ℕ) → n < 256 → at_line w.lines.edges n ≡ true → at_line w.lines.waits n ≡ true
  pub line_on_lem : (n : ℕ) → n < 256 → at_line w.lines.waits n ≡ true → on ≡ true
  pub edge_room : (n : ℕ) → n < 256 → at_line w.lines.edges n ≡ true → 2 ≤ count
