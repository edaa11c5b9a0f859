-- Channel 1: what its commands and the board's calls make of its own part, under the configuration (01, Wires).
use Rattle.std.specs.Prelude.{ℕ, ◌*◌, Bool, false, ◌&&◌, not, List, [], ◌∷◌, eqb, ltb, take, drop, None}
use Rattle.base.specs.Pick.{pick}
use Rattle.registers.specs.Registers.{on1, operating_count}
use Rattle.registers.specs.declared.Config.{Config}
use Rattle.wires.specs.Table.{is_line}
use Rattle.wires.specs.Groups as G
use Rattle.wires.specs.Transitions.{third_transition}
use Rattle.wires.specs.Groups.{put_pairs, settable, defined_bit}
use Rattle.wires.specs.Lines as L
use Rattle.wires.specs.Lines.{line_level_ok, line_bit, can_pulse}
use Rattle.wires.specs.Senders.{AllWires, with_groups, with_lines, sent, packet_of, after_sent, all_enabled, all_disabled, fresh_all, all_platform}
use Rattle.command.specs.declared.WiresCommand.{WiresCommand}
use Rattle.command.specs.declared.WiresCommand.TheVariants.{PutVwire, GetVwire}
use Rattle.rules.specs.Rules.Numbers.{no_such_wire, line_busy}
use Rattle.rules.specs.Rules.Reset.{Reset, start, espi_reset, platform_reset}
use Rattle.rules.specs.Rules.Out.{fatal, accept, number, keep}
use Rattle.rules.specs.declared.Body.TheVariants as B
use Rattle.rules.specs.declared.Out.{Out}
use Rattle.rules.specs.Rules.Plan.{WiresChange}

-- what a command or call of channel 1 makes: its part after it, and what goes out (01, Replies and refusals: "Reply; state and stores")
abbrev pub change : AllWires → Out → WiresChange
change w out = record { next = w; out = out }

-- what a command of the channel is: PUT_VWIRE of so many groups with these pairs, GET_VWIRE (docs/DECISIONS.md, 30)
pub data Act : Type 0 where
  puts : (count : ℕ) (pairs : List ℕ) → Act
  gets : Act

-- "a byte whose low six bits are the group count less one .., then index and data pairs": the pairs from the third byte on (01, Commands)
abbrev pub act_of : WiresCommand → List ℕ → Act
act_of (PutVwire n) b = puts n (take (n * 2) (drop 2 b))
act_of GetVwire b = gets

-- "PUT_VWIRE over the operating count is 1" (01, Size rules); a third transition of a wire too: "such a PUT_VWIRE refused with FATAL (number 1) and no wire
-- changed", "The check comes after the operating count" (02, Q-6); else it "applies pairs in order" (01, Wires)
unfoldable pub put_vwire : Config → AllWires → ℕ → List ℕ → WiresChange
put_vwire c w n pairs =
    pick (ltb (operating_count c.r020) n) (change w fatal)
    (pick (third_transition w.groups pairs) (change w fatal)
    (change (with_groups w (put_pairs w.groups pairs)) (accept B.Nothing None)))

-- "GET_VWIRE with nothing pending" is 1; else the packet goes out, "and their pending marks go" (01, Replies and refusals; Wires)
abbrev pub sent_out : AllWires → ℕ → List ℕ → WiresChange
sent_out w capacity [] = change w fatal
sent_out w capacity (k ∷ ks) = change (after_sent w (k ∷ ks)) (accept (B.Groups (packet_of w capacity)) None)

-- "GET_VWIRE sends min(pending, operating count) groups" (01, Wires); "A packet closes at the first sender that does not fit" (02, Q-4)
unfoldable pub get_vwire : Config → AllWires → WiresChange
get_vwire c w = sent_out w (operating_count c.r020) (sent w (operating_count c.r020))

-- a command of channel 1, the channel being on (01, Wires: PUT_VWIRE, GET_VWIRE)
abbrev pub acting : Config → AllWires → Act → WiresChange
acting c w (puts n pairs) = put_vwire c w n pairs
acting c w gets = get_vwire c w

-- the same of a decoded command and its bytes (docs/DECISIONS.md, 30)
unfoldable pub decide : Config → AllWires → WiresCommand → List ℕ → WiresChange
decide c w o b = acting c w (act_of o b)

-- ---- PLTRST#

-- the level of PLTRST#, bit 1 of group 3 (004, table 10)
abbrev pub pltrst : AllWires → ℕ
pltrst w = G.read_wire w.groups 3 1

-- "when an accepted PUT_VWIRE ends with PLTRST# low that was high before" (02, Q-1): by the wires before the whole packet and after it, which a refused
-- one leaves
abbrev pub reset_follows : AllWires → Act → AllWires → Bool
reset_follows before (puts n pairs) after = eqb (pltrst before) 1 && eqb (pltrst after) 0
reset_follows before gets after = false

-- ---- the board sets and reads a wire: 22; it raises or lowers a line, or asks for an edge: 22, 24

-- the board's "set a wire, read a wire" (01, What the engine covers); "raises and lowers a line, or asks for an edge" (02, Q-4)
pub data Board : Type 0 where
  set_wire : (index bit value : ℕ) → Board
  read_wire : (index bit : ℕ) → Board
  set_line : (line level : ℕ) → Board
  pulse_line : (line : ℕ) → Board

-- 22, "set: wire not the board's, or value above 1"; else "The board sets one defined bit of an up group" (01, Replies and refusals; Wires)
unfoldable pub setting : Config → AllWires → (index bit value : ℕ) → WiresChange
setting c w index bit value =
    pick (not (settable index bit value)) (change w (number no_such_wire))
    (change (with_groups w (G.set_wire (on1 c.r020) w.groups index bit value)) (keep None))

-- 22, "read: no such defined wire" (01, Replies and refusals)
abbrev pub read_number : ℕ → ℕ → ℕ
read_number index bit = pick (defined_bit index bit) 0 no_such_wire

-- the wire's level, and 0 with a refusal: "a refused one yields only its number" (01, Replies and refusals)
abbrev pub read_value : AllWires → ℕ → ℕ → ℕ
read_value w index bit = pick (defined_bit index bit) (G.read_wire w.groups index bit) 0

-- "22 for no such line comes first", then 24, "a raise or lower while its edge waits"; else "The board raises and lowers a line" (02, Q-4)
unfoldable pub setting_line : Config → AllWires → (line level : ℕ) → WiresChange
setting_line c w line level =
    pick (not (line_level_ok line level)) (change w (number no_such_wire))
    (pick (line_bit w.lines.edges line) (change w (number line_busy))
    (change (with_lines w (L.set_line (on1 c.r020) w.lines line level)) (keep None)))

-- 22, then 24, "an edge while channel 1 is off or the operating count is 1, an edge on a line that already waits"; else it waits (02, Q-4)
unfoldable pub pulsing_line : Config → AllWires → (line : ℕ) → WiresChange
pulsing_line c w line =
    pick (not (is_line line)) (change w (number no_such_wire))
    (pick (not (can_pulse (on1 c.r020) (operating_count c.r020) w.lines line)) (change w (number line_busy))
    (change (with_lines w (L.pulse_line w.lines line)) (keep None)))

-- one of these; a read changes nothing (01, What the engine covers: "set a wire, read a wire"; 02, Q-4)
unfoldable pub settle : Config → AllWires → Board → WiresChange
settle c w (set_wire index bit value) = setting c w index bit value
settle c w (read_wire index bit) = change w (number (read_number index bit))
settle c w (set_line line level) = setting_line c w line level
settle c w (pulse_line line) = pulsing_line c w line

-- what a call yields besides its number: a read the wire's level (01, What the engine covers: "read a wire"); no call reads a line
abbrev pub value_of : AllWires → Board → ℕ
value_of w (set_wire index bit value) = 0
value_of w (read_wire index bit) = read_value w index bit
value_of w (set_line line level) = 0
value_of w (pulse_line line) = 0

-- ---- configuration and resets

-- "Disabling channel 1 drops pending marks and keeps values", "Enabling it from disabled makes each up group pending that differs" (01, Wires;
-- docs/DECISIONS.md, 20)
abbrev pub enable_edge : Bool → Bool → AllWires → AllWires
enable_edge was is w = pick (was && not is) (all_disabled w) (pick (not was && is) (all_enabled w) w)

-- "The operating count may not be lowered to 1 while an edge waits (number 2), unless the write disables channel 1" (02, Q-4): by the configuration that the
-- write would leave
abbrev pub edge_hinders : Config → AllWires → Bool
edge_hinders c w = on1 c.r020 && (eqb (operating_count c.r020) 1 && L.any_edge w.lines)

-- "eSPI reset also resets all .. groups", "Platform reset also resets .. wire groups 6 and 7" (01, Requests, answers, pieces); "Both resets lower all lines
-- and drop their waits and edges" (02, Q-4)
abbrev pub reset : Reset → AllWires → AllWires
reset start w = fresh_all
reset espi_reset w = fresh_all
reset platform_reset w = all_platform w
