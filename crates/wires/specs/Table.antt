-- The wire table (01, Wires; reset values of 2 and 3: 004, tables 9 and 10): index, direction, defined bits, reset value.
use Rattle.std.specs.Prelude.{ℕ, ◌+◌, ◌-◌, Bool, true, false, ◌&&◌, not, List, [], ◌∷◌, map, get_or, length, take, ltb, leb}
use Rattle.base.specs.Pick.{pick}
use Rattle.wires.specs.declared.WireRow.{WireRow}

-- a row of the table that goes "down": from the host (01, Wires; 004, tables 9, 10 and 14: "Controller to Target")
abbrev pub down : ℕ → ℕ → ℕ → WireRow
down i d r = record { index = i; down = true; defined = d; reset = r }

-- a row that goes "up": the board's (01, Wires; 004, tables 11 to 13: "Target to Controller")
abbrev pub up : ℕ → ℕ → ℕ → WireRow
up i d r = record { index = i; down = false; defined = d; reset = r }

-- "2 down 7h; 3 down 7h (reset values: source 004, tables 9 and 10); 4 up Dh, Ch; 5 up Fh, 0h; 6 up Fh, 7h; 7 down 7h, 6h" (01, Wires)
abbrev pub table : List WireRow
table = down 2 0x7 0x0 ∷ down 3 0x7 0x0 ∷ up 4 0xD 0xC ∷ up 5 0xF 0x0 ∷ up 6 0xF 0x7 ∷ down 7 0x7 0x6 ∷ []

-- no row: nothing is defined; past "six wire groups, indexes 2 to 7" (01, Wires)
abbrev pub no_row : WireRow
no_row = record { index = 0; down = false; defined = 0; reset = 0 }

-- the row at a place of the table; index i stands at place i - 2: "indexes 2 to 7" (01, Wires)
abbrev pub row_at : ℕ → WireRow
row_at k = get_or table k no_row

-- "indexes 2 to 7" (01, Wires; 004, table 8: System Event)
abbrev pub is_group : ℕ → Bool
is_group i = leb 2 i && leb i 7

-- the "reset value" of each row (01, Wires)
abbrev pub resets : List ℕ
resets = map (λ (r : WireRow). r.reset) table

-- ---- the senders: the lines, then the up rows in the table's order, numbered from 0

-- the rows that go up, those that GET_VWIRE can send: "up groups alone are pending" (01, Sound state)
abbrev pub up_rows : List WireRow → List WireRow
up_rows [] = []
up_rows (r ∷ rs) = pick r.down (up_rows rs) (r ∷ up_rows rs)

-- how many up rows stand before a place of the table (01, Wires: the table)
abbrev pub ups_before : ℕ → ℕ
ups_before k = length (up_rows (take k table))

-- how many groups go up: 4, 5 and 6 (01, Wires: the table)
abbrev pub up_groups : ℕ
up_groups = ups_before (length table)

-- "256 lines" (02, Q-4)
abbrev pub line_count : ℕ
line_count = 256

-- a sender's number is a line's: "lines 0 to 255, then groups 4 to 6" (02, Q-4)
abbrev pub is_line : ℕ → Bool
is_line k = ltb k line_count

-- how many senders there are: "Turns go over lines 0 to 255, then groups 4 to 6" (02, Q-4)
abbrev pub senders : ℕ
senders = line_count + up_groups

-- sender k's group, the lines being passed (01, Wires: the table's "index"; 02, Q-4)
abbrev pub group_at : ℕ → ℕ
group_at k = (get_or (up_rows table) (k - line_count) no_row).index

-- the sender of a group (01, Wires: the table; 02, Q-4: "then groups 4 to 6")
abbrev pub sender_of : ℕ → ℕ
sender_of i = line_count + ups_before (i - 2)

-- the group is the board's: "an up group" (01, Wires)
abbrev pub is_up : ℕ → Bool
is_up i = is_group i && not (row_at (i - 2)).down
