-- P11, channel 1's rows: for every accepted command of it and call of the board the wires after, in full, from those before; and what resets and
-- an edge of its enable bit make of them (01, Wires).
use Rattle.std.specs.Prelude.{ℕ, ◌+◌, Bool, true, false, not, List, [], ◌∷◌, eqb, get_or, set}
use Rattle.base.specs.Pick.{pick}
use Rattle.registers.specs.Registers.{bits}
use Rattle.registers.specs.declared.Config.{Config}
use Rattle.wires.specs.Groups.{put_pairs, set_wire as with_wire}
use Rattle.wires.specs.Lines.{Lines, set_line as with_line, pulse_line as with_edge}
use Rattle.wires.specs.Senders.{AllWires, with_groups, with_lines, sent, after_sent}
use Rattle.wires.specs.declared.Wires.{Wires}
use Rattle.rules.specs.Rules.Reset.{Reset, start, espi_reset, platform_reset}
use Rattle.rules.specs.Rules.Wires.{Board, set_wire, read_wire, set_line, pulse_line}
use Rattle.rules.specs.Rules.Channel.{wires}
use Rattle.rules.specs.Statements.Fields.{byte, pairs}
use Rattle.rules.specs.Statements.Sizes.{is_enabled}

-- ---- commands

-- the senders that go: "min(pending, operating count) groups" (01, Wires), lines too: "A packet closes at the first sender that does not fit" (02, Q-4)
abbrev pub senders_sent : Config → AllWires → List ℕ
senders_sent c v = sent v (bits 21 16 c.r020.value + 1)

-- "PUT_VWIRE applies pairs in order"; GET_VWIRE: "their pending marks go", and the place follows the last one sent (01, Wires)
abbrev pub command_part : Config → AllWires → List ℕ → AllWires
command_part c v b =
    pick (eqb (byte b 0) 0x04) (with_groups v (put_pairs v.groups (pairs b)))
    (pick (eqb (byte b 0) 0x05) (after_sent v (senders_sent c v))
    v)

-- ---- the board's calls

-- "a real change while channel 1 is enabled makes it pending"; reading a wire changes nothing (01, Wires); "raises and lowers a line, or asks for an edge"
-- (02, Q-4), line by line in Statements/Wires/LineEffects
abbrev pub board_part : Config → AllWires → Board → AllWires
board_part c v (set_wire index bit value) = with_groups v (with_wire (is_enabled wires c) v.groups index bit value)
board_part c v (read_wire index bit) = v
board_part c v (set_line line level) = with_lines v (with_line (is_enabled wires c) v.lines line level)
board_part c v (pulse_line line) = with_lines v (with_edge v.lines line)

-- ---- resets and configuration

-- "A reset group is not pending", "Disabling channel 1 drops pending marks": none of the six is (01, Wires)
abbrev pub none_marked : List Bool
none_marked = false ∷ false ∷ false ∷ false ∷ false ∷ false ∷ []

-- of no line: 32 bytes that are 0 (docs/STATE.md; 02, Q-4: "lower all lines and drop their waits and edges")
abbrev pub of_no_line : List ℕ
of_no_line =
    0 ∷ 0 ∷ 0 ∷ 0 ∷ 0 ∷ 0 ∷ 0 ∷ 0 ∷ 0 ∷ 0 ∷ 0 ∷ 0 ∷ 0 ∷ 0 ∷ 0 ∷ 0
    ∷ 0 ∷ 0 ∷ 0 ∷ 0 ∷ 0 ∷ 0 ∷ 0 ∷ 0 ∷ 0 ∷ 0 ∷ 0 ∷ 0 ∷ 0 ∷ 0 ∷ 0 ∷ 0 ∷ []

-- "Both resets lower all lines and drop their waits and edges" (02, Q-4)
abbrev pub lowered_lines : Lines
lowered_lines = record { level = of_no_line; waits = of_no_line; edges = of_no_line }

-- groups 2 to 7: "Ch", "0h", "7h" and "6h" of 4 to 7 (01, Wires); 2 and 3 are 0 (004, tables 9 and 10)
abbrev pub table_values : List ℕ
table_values = 0x0 ∷ 0x0 ∷ 0xC ∷ 0x0 ∷ 0x7 ∷ 0x6 ∷ []

-- group 4's turn, behind the 256 lines': turns "still begin at group 4" (02, Q-4; 01, Wires: "from 4 itself at first")
abbrev pub group_four : ℕ
group_four = 256

-- all six groups at their reset values, none pending (01, Wires), no line high, waiting or an edge (02, Q-4)
abbrev pub as_at_first : AllWires
as_at_first = record { groups = record { level = table_values; pending = none_marked; place = group_four }; lines = lowered_lines }

-- "eSPI reset also resets all .. groups"; "Platform reset also resets .. wire groups 6 and 7" (01, Requests, answers, pieces); "A reset group is not
-- pending" (01, Wires); "Both resets lower all lines" (02, Q-4)
abbrev pub reset_part : Reset → AllWires → AllWires
reset_part start v = as_at_first
reset_part espi_reset v = as_at_first
reset_part platform_reset v =
    record {
      groups =
          record {
            level = set (set v.groups.level 4 0x7) 5 0x6;
            pending = set (set v.groups.pending 4 false) 5 false;
            place = group_four;
          };
      lines = lowered_lines;
    }

-- "makes each up group pending that differs from its reset value" (01, Wires)
abbrev pub differing : Wires → List Bool
differing v =
    false ∷ false
    ∷ not (eqb (get_or v.level 2 0) 0xC) ∷ not (eqb (get_or v.level 3 0) 0x0) ∷ not (eqb (get_or v.level 4 0) 0x7)
    ∷ false ∷ []

-- from enabled or not to enabled or not: "Disabling channel 1 drops pending marks and keeps values", and the place is group 4's; "Enabling it from disabled
-- makes .. pending" (01, Wires), and "every high line" (02, Q-4); 0 to 0 and 1 to 1 leave all
abbrev pub switched : Bool → Bool → AllWires → AllWires
switched true true v = v
switched true false v =
    record {
      groups = record { level = v.groups.level; pending = none_marked; place = group_four };
      lines = record { level = v.lines.level; waits = of_no_line; edges = of_no_line };
    }
switched false true v =
    record {
      groups = record { level = v.groups.level; pending = differing v.groups; place = v.groups.place };
      lines = record { level = v.lines.level; waits = v.lines.level; edges = of_no_line };
    }
switched false false v = v
