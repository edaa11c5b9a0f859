-- Channel 1's rows, in the order and words of documents 01 and 02: credit (1), size (1), transitions (1), a waiting edge (2), and its board calls' own (22,
-- 24).
use Rattle.std.specs.Prelude.{ℕ, ◌+◌, ◌/◌, ◌%◌, ◌^◌, Bool, false, ◌&&◌, ◌||◌, not, List, [], ◌∷◌, eqb, ltb, get_or}
use Rattle.registers.specs.Registers.{bits}
use Rattle.registers.specs.declared.Config.{Config}
use Rattle.wires.specs.Below.{any}
use Rattle.wires.specs.Groups.{read_wire as level_of}
use Rattle.wires.specs.Transitions.{values_given, transitions}
use Rattle.wires.specs.Senders.{AllWires}
use Rattle.wires.specs.declared.Wires.{Wires}
use Rattle.rules.specs.Rules.Wires.{Board, set_wire, read_wire, set_line, pulse_line}
use Rattle.rules.specs.Rules.Channel.{wires}
use Rattle.rules.specs.Statements.Fields.{byte, groups, pairs, register_at, register_value}
use Rattle.rules.specs.Statements.Sizes.{is_enabled}
use Rattle.rules.specs.Statements.Rows.{Row, row}

-- the marks of groups 4, 5 and 6; group 2 stands first ("up groups alone are pending", 01, Sound state)
abbrev pub group_pending : Wires → Bool
group_pending w = get_or w.pending 2 false || (get_or w.pending 3 false || get_or w.pending 4 false)

-- a line's bit of a map, of the "256 lines" (02, Q-4): line n in byte n / 8, bit n mod 8 (docs/STATE.md)
abbrev pub at_line : List ℕ → ℕ → Bool
at_line m n = eqb (get_or m (n / 8) 0 / 2 ^ (n % 8) % 2) 1

-- one of the "256 lines" has it (02, Q-4)
abbrev pub some_line : List ℕ → Bool
some_line m = any 256 (at_line m)

-- a group is pending (01, Registers and status), or a line "waits to be sent" (02, Q-4)
abbrev pub some_pending : AllWires → Bool
some_pending w = group_pending w.groups || some_line w.lines.waits

-- "GET_VWIRE with nothing pending" (01, Replies and refusals, 1)
abbrev pub credit_rows : AllWires → List ℕ → List Row
credit_rows w b = row 1 (eqb (byte b 0) 0x05 && not (some_pending w)) ∷ []

-- "PUT_VWIRE over the operating count is 1" (01, Size rules)
abbrev pub size_rows : Config → List ℕ → List Row
size_rows c b = row 1 (eqb (byte b 0) 0x04 && ltb (bits 21 16 c.r020.value + 1) (groups b)) ∷ []

-- "A transition is a value differing from the one just before, beginning with the held value" (02, Q-6): a wire has more than two
abbrev pub more_than_two : Wires → List ℕ → ℕ → ℕ → Bool
more_than_two w b i bit = ltb 2 (transitions (level_of w i bit ∷ values_given (pairs b) i bit))

-- one of a group's three wires, bits 2:0 (01, Wires: "2 down 7h; 3 down 7h ..; 7 down 7h")
abbrev pub more_in_group : Wires → List ℕ → ℕ → Bool
more_in_group w b i = more_than_two w b i 0 || (more_than_two w b i 1 || more_than_two w b i 2)

-- "a third transition of a wire in one packet", of a wire of a group that goes down: 2, 3 or 7 (02, Q-6; 01, Wires)
abbrev pub transition_rows : Wires → List ℕ → List Row
transition_rows w b = row 1 (eqb (byte b 0) 0x04 && (more_in_group w b 2 || (more_in_group w b 3 || more_in_group w b 7))) ∷ []

-- "The operating count may not be lowered to 1 while an edge waits (number 2), unless the write disables channel 1" (02, Q-4): a SET_CONFIGURATION of 020h
-- whose value has bit 0 (enable) 1 and bits 21:16, the count less one, 0
abbrev pub edge_rows : AllWires → List ℕ → List Row
edge_rows w b =
    row 2 (eqb (byte b 0) 0x22
    && (eqb (register_at b) 0x020 && (eqb (bits 0 0 (register_value b)) 1 && (eqb (bits 21 16 (register_value b)) 0 && some_line w.lines.edges)))) ∷ []

-- the defined bits of the table: 2, 3 and 7 have 7h, 4 has Dh, 5 and 6 have Fh (01, Wires; 004, tables 9 to 14)
abbrev pub wire_defined : ℕ → ℕ → Bool
wire_defined index bit =
    (eqb index 2 || (eqb index 3 || eqb index 7)) && ltb bit 3
    || (eqb index 4 && (eqb bit 0 || (eqb bit 2 || eqb bit 3))
    || (eqb index 5 || eqb index 6) && ltb bit 4)

-- the board's: a defined bit of 4, 5 or 6, the groups that go "up" (01, Wires)
abbrev pub wire_of_board : ℕ → ℕ → Bool
wire_of_board index bit = (eqb index 4 || (eqb index 5 || eqb index 6)) && wire_defined index bit

-- "set: wire not the board's, or value above 1; read: no such defined wire" (01, Replies and refusals, 22); of a line "22 for no such line comes first", then
-- 24, "a raise or lower while its edge waits", "an edge while channel 1 is off", "or the operating count is 1", "an edge on a line that already waits to be
-- sent" (02, Q-4)
abbrev pub board_rows : Config → AllWires → Board → List Row
board_rows c w (set_wire index bit value) = row 22 (not (wire_of_board index bit) || ltb 1 value) ∷ []
board_rows c w (read_wire index bit) = row 22 (not (wire_defined index bit)) ∷ []
board_rows c w (set_line line level) = row 22 (ltb 255 line || ltb 1 level) ∷ row 24 (at_line w.lines.edges line) ∷ []
board_rows c w (pulse_line line) =
    row 22 (ltb 255 line)
    ∷ row 24 (not (is_enabled wires c))
    ∷ row 24 (eqb (bits 21 16 c.r020.value + 1) 1)
    ∷ row 24 (at_line w.lines.waits line)
    ∷ []
