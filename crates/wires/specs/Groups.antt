-- The six groups of virtual wires (01, Wires): levels, pending marks and the going-round place, and what each command and board call makes of them.
use Rattle.std.specs.Prelude.{ℕ, ◌+◌, ◌-◌, ◌*◌, ◌/◌, ◌%◌, ◌^◌, Bool, true, false, ◌&&◌, ◌||◌, not, List, [], ◌∷◌, map, get_or, set, length, eqb, ltb, leb}
use Rattle.std.specs.Int.Bits.{bit_and, bit_or}
use Rattle.base.specs.Pick.{pick}
use Rattle.wires.specs.Below.{every}
use Rattle.wires.specs.Table.{table, row_at, is_group, resets, senders, sender_of}
use Rattle.wires.specs.declared.WireRow.{WireRow}
use Rattle.wires.specs.declared.Wires.{Wires}

-- ---- the state of the wires

-- "A reset group is not pending": no group is (01, Wires)
abbrev pub no_marks : List Bool
no_marks = map (λ (r : WireRow). false) table

-- "from 4 itself at first, after an eSPI or platform reset and after a disabling of channel 1" (01, Wires): "still begin at group 4" (02, Q-4); the
-- place is a sender's number
abbrev pub first_place : ℕ
first_place = sender_of 4

-- after a start and an eSPI reset: all groups at their "reset value", none pending, going round from 4 (01, Wires)
abbrev pub fresh_wires : Wires
fresh_wires = record { level = resets; pending = no_marks; place = first_place }

-- the four bits of a group: "an array of six nibbles" (01, What form each place takes)
abbrev pub level_at : Wires → ℕ → ℕ
level_at w i = get_or w.level (i - 2) 0

-- .. "and one of pending marks" (01, What form each place takes)
abbrev pub mark_at : Wires → ℕ → Bool
mark_at w i = get_or w.pending (i - 2) false

-- the one place where the wires change: a group's level and mark, and the place ("changed at one place", 01, What form each place takes)
abbrev pub with_group : Wires → ℕ → ℕ → Bool → ℕ → Wires
with_group w i level mark p = record { level = set w.level (i - 2) level; pending = set w.pending (i - 2) mark; place = p }

-- four bits: those of val where the mask has ones, those of old elsewhere ("which of bits 3:0 are valid", 01, Wires)
abbrev pub nibble : ℕ → ℕ → ℕ → ℕ
nibble old val mask = bit_or (bit_and old (15 - mask)) (bit_and val mask)

-- ---- PUT_VWIRE

-- the group is the host's: "other groups are passed over" (01, Wires)
abbrev pub is_down : ℕ → Bool
is_down i = is_group i && (row_at (i - 2)).down

-- "Data bits 7:4 say which of bits 3:0 are valid"; "only valid and defined bits of down groups change" (01, Wires)
abbrev pub put_pair : Wires → ℕ → ℕ → Wires
put_pair w i d =
    pick (is_down i)
    (with_group w i (nibble (level_at w i) (d % 16) (bit_and (d / 16) (row_at (i - 2)).defined)) (mark_at w i) w.place)
    w

-- "PUT_VWIRE applies pairs in order" (01, Wires)
unfoldable pub put_pairs : Wires → List ℕ → Wires
put_pairs w [] = w
put_pairs w (i ∷ []) = w
put_pairs w (i ∷ d ∷ ps) = put_pairs (put_pair w i d) ps

-- ---- the board sets and reads a wire

-- else 22, "no such defined wire" (01, Replies and refusals): an index of 2 to 7, and a bit that its row defines (01, Wires: the table)
abbrev pub defined_bit : ℕ → ℕ → Bool
defined_bit i bit = is_group i && (ltb bit 4 && eqb ((row_at (i - 2)).defined / 2 ^ bit % 2) 1)

-- "one defined bit of an up group"; "value above 1" is refused (01, Wires; Replies and refusals, 22)
abbrev pub settable : ℕ → ℕ → ℕ → Bool
settable i bit value = defined_bit i bit && (not (row_at (i - 2)).down && leb value 1)

-- the group with this one bit set: "The board sets one defined bit" (01, Wires)
abbrev pub set_level : Wires → ℕ → ℕ → ℕ → ℕ
set_level w i bit value = nibble (level_at w i) (value * 2 ^ bit) (2 ^ bit)

-- "a real change while channel 1 is enabled makes it pending" (01, Wires)
abbrev pub set_wire : Bool → Wires → ℕ → ℕ → ℕ → Wires
set_wire on w i bit value =
    with_group w i (set_level w i bit value) (mark_at w i || (on && not (eqb (set_level w i bit value) (level_at w i)))) w.place

-- the level of one wire: "read a wire" (01, What the engine covers)
abbrev pub read_wire : Wires → ℕ → ℕ → ℕ
read_wire w i bit = level_at w i / 2 ^ bit % 2

-- ---- GET_VWIRE: a group's entry

-- "index and data" (01, Commands: PUT_VWIRE) of a group "with all defined bits valid" (01, Wires)
abbrev pub pair_at : (i level : ℕ) → List ℕ
pair_at i level = i ∷ ((row_at (i - 2)).defined * 16 + level) ∷ []

-- the data byte of that pair: valid bits 7:4, levels 3:0 (01, Wires: "Data bits 7:4 say which of bits 3:0 are valid")
abbrev pub group_byte : Wires → ℕ → ℕ
group_byte w i = (row_at (i - 2)).defined * 16 + level_at w i

-- its pending mark goes, and the next packet begins with this place (01, Wires: "and their pending marks go")
abbrev pub unmarked : Wires → ℕ → ℕ → Wires
unmarked w i p = with_group w i (level_at w i) false p

-- another going-round place alone (01, Wires: "going round from the index after the last one sent")
abbrev pub with_place : Wires → ℕ → Wires
with_place w p = record { level = w.level; pending = w.pending; place = p }

-- ---- enabling, disabling and resets

-- an "up group pending that differs from its reset value" (01, Wires)
abbrev pub differs : Wires → ℕ → Bool
differs w i = not (row_at (i - 2)).down && not (eqb (level_at w i) (row_at (i - 2)).reset)

-- each group's mark anew, by whether the channel is on now; levels stay: "keeps values" (01, Wires)
abbrev pub remarked : Bool → Wires → ℕ → Wires
remarked on w p = record { level = w.level; pending = map (λ (r : WireRow). on && differs w r.index) table; place = p }

-- "Enabling it from disabled makes each up group pending that differs from its reset value"; the place stays (01, Wires; docs/DECISIONS.md, 21)
abbrev pub enabled : Wires → Wires
enabled w = remarked true w w.place

-- "Disabling channel 1 drops pending marks and keeps values"; going round from 4 "after a disabling of channel 1" (01, Wires)
abbrev pub disabled : Wires → Wires
disabled w = remarked false w first_place

-- "A reset group is not pending"; going round from 4 again (01, Wires)
abbrev pub reset_group : Wires → ℕ → Wires
reset_group w i = with_group w i (row_at (i - 2)).reset false first_place

-- "Platform reset also resets .. wire groups 6 and 7" (01, Requests, answers, pieces)
abbrev pub platform_wires : Wires → Wires
platform_wires w = reset_group (reset_group w 6) 7

-- ---- soundness (01, Sound state), clause by clause

-- "undefined wire bits are 0" (01, Sound state), of a row's four bits
abbrev pub in_row : ℕ → ℕ → Bool
in_row k level = eqb (bit_and level (15 - (row_at k).defined)) 0 && ltb level 16

-- .. of a group's (01, Sound state)
abbrev pub only_defined : Wires → ℕ → Bool
only_defined w i = in_row (i - 2) (level_at w i)

-- "up groups alone are pending, and none while channel 1 is off" (01, Sound state)
abbrev pub mark_right : Bool → Wires → ℕ → Bool
mark_right on w i = not (mark_at w i) || (on && not (row_at (i - 2)).down)

-- both, of one group (01, Sound state)
abbrev pub group_right : Bool → Wires → ℕ → Bool
group_right on w i = only_defined w i && mark_right on w i

-- so each of the first n (01, Sound state)
abbrev pub groups_right : Bool → Wires → ℕ → Bool
groups_right on w n = every n (λ (k : ℕ). group_right on w (k + 2))

-- the going-round place is a sender's: "sound state admits waiting lines and their turns" (02, Q-4; 01, Sound state: "4 to 6")
abbrev pub place_right : Wires → Bool
place_right w = ltb w.place senders

-- channel 1's clauses of "Sound state" together, for all six groups (01, Wires, last paragraph)
abbrev pub sound_wires : Bool → Wires → Bool
sound_wires on w = groups_right on w (length table) && place_right w

-- six groups: what the code's arrays have by their type ("six wire groups, indexes 2 to 7", 01, Wires)
abbrev pub whole_wires : Wires → Bool
whole_wires w = eqb (length w.level) 6 && eqb (length w.pending) 6
