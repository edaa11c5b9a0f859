-- The words of the statements over runs of channel 1: what a call was for the wires, in bytes and numbers.
use Rattle.std.specs.Prelude.{ℕ, ◌+◌, ◌%◌, Bool, ◌&&◌, not, List, [], ◌∷◌, eqb}
use Rattle.base.specs.Pick.{pick}
use Rattle.registers.specs.Registers.{operating_count}
use Rattle.wires.specs.Lines.{Lines}
use Rattle.wires.specs.Senders.{AllWires}
use Rattle.wires.specs.declared.Wires.{Wires}
use Rattle.state.specs.State.{State}
use Rattle.rules.specs.Rules.Wires as W
use Rattle.rules.specs.Rules.Channel.{Channel, peripheral, wires, Board, on}
use Rattle.rules.specs.Rules.Step.{World, Call, reset, exchange, board, short, lend, Outcome, step}
use Rattle.rules.specs.Statements.Fields.{byte, register_at, register_value}
use Rattle.rules.specs.Statements.Events.{accepted, enables_at, ends_with}

-- ---- events: refused calls are idle, what an accepted exchange was its bytes say

-- puts: PUT_VWIRE; gets: GET_VWIRE; sets: the board set a wire; enables: an enabling of channel 1; ends: "a start, such a reset or a disabling" (01, Wires);
-- raises: "The board raises and lowers a line"; pulses: "or asks for an edge" (02, Q-4)
pub data WireEvent : Type 0 where
  idle puts gets sets raises pulses enables ends : WireEvent

-- an enabling: SET_CONFIGURATION of 020h, bit 0 of the value being 1 while the register's is 0 ("Enabling it from disabled", 01, Wires)
abbrev pub switches_on : State → List ℕ → Bool
switches_on s b = eqb (byte b 0) 0x22 && (enables_at wires (register_at b) && (not (on wires s.config) && eqb (register_value b % 2) 1))

-- an accepted command: PUT_VWIRE, GET_VWIRE, an enabling, or none of these (01, Wires)
abbrev pub command_wire : State → List ℕ → WireEvent
command_wire s b = pick (eqb (byte b 0) 0x04) puts (pick (eqb (byte b 0) 0x05) gets (pick (switches_on s b) enables idle))

-- an accepted call of the board: "The board sets one defined bit" (01, Wires), or a read; "raises and lowers a line, or asks for an edge" (02, Q-4)
abbrev pub wires_board : W.Board → WireEvent
wires_board (W.set_wire index bit value) = sets
wires_board (W.read_wire index bit) = idle
wires_board (W.set_line line level) = raises
wires_board (W.pulse_line line) = pulses

-- .. of any channel (01, What the engine covers: "set a wire, read a wire")
abbrev pub board_wire : (k : Channel) → Board k → WireEvent
board_wire peripheral o = idle
board_wire wires o = wires_board o

-- of an accepted call that is no ending event ("unless a start, such a reset or a disabling comes first", 01, Wires)
abbrev pub accepted_wire : State → Call → WireEvent
accepted_wire s (reset r) = idle
accepted_wire s (exchange command reply) = command_wire s command
accepted_wire s (board k o) = board_wire k o
accepted_wire s (short state c) = idle
accepted_wire s (lend write read) = idle

-- a call on a state, and what it gave: "accepted" is number 0 (01, Replies and refusals)
unfoldable pub wire_event_of : State → Call → Outcome → WireEvent
wire_event_of s c o = pick (ends_with wires s c o) ends (pick (accepted o) (accepted_wire s c) idle)

-- .. of a call on a world (01, Wires: "by the third accepted GET_VWIRE")
abbrev pub wire_event : World → Call → WireEvent
wire_event w c = wire_event_of w.state c (step w c)

-- ---- runs

-- "The state holds six wire groups" (01, Wires), and "256 lines" (02, Q-4)
abbrev pub wires_of : World → AllWires
wires_of w = w.state.wires

-- .. the groups (01, Wires)
abbrev pub groups_of : World → Wires
groups_of w = w.state.wires.groups

-- .. the lines (02, Q-4)
abbrev pub lines_of : World → Lines
lines_of w = w.state.wires.lines

-- "The operating wire count is bits 21:16 plus one" (01, Registers and status)
abbrev pub count_of : World → ℕ
count_of w = operating_count w.state.config.r020

-- an accepted GET_VWIRE counts (01, Wires: "by the third accepted GET_VWIRE")
abbrev pub one_if_gets : WireEvent → ℕ
one_if_gets idle = 0
one_if_gets puts = 0
one_if_gets gets = 1
one_if_gets sets = 0
one_if_gets raises = 0
one_if_gets pulses = 0
one_if_gets enables = 0
one_if_gets ends = 0

-- the accepted GET_VWIREs of a run (01, Wires: "is sent by the third accepted GET_VWIRE")
unfoldable pub gets_in : World → List Call → ℕ
gets_in w [] = 0
gets_in w (c ∷ cs) = one_if_gets (wire_event w c) + gets_in (step w c).next cs
