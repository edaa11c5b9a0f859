-- The words of runs, in document 01's: an event of a run is read off its number and its bytes.
use Rattle.std.specs.Prelude.{ℕ, ◌%◌, Bool, true, false, ◌&&◌, ◌||◌, not, List, [], ◌∷◌, eqb}
use Rattle.wires.specs.Groups.{put_pairs, read_wire}
use Rattle.state.specs.State.{State}
use Rattle.rules.specs.Rules.Channel.{Channel, peripheral, wires, on}
use Rattle.rules.specs.Rules.Step.{World, Call, reset, exchange, board, short, lend, Outcome, step}
use Rattle.rules.specs.Statements.Fields.{byte, pairs, register_at, register_value}

-- number 0: "accepted or deferred" (01, Replies and refusals)
abbrev pub accepted : Outcome → Bool
accepted o = eqb o.number 0

-- bit 0 of the register at this address enables the channel (01, Registers and status: "bit 0 (enable)"; 004, table 21)
abbrev pub enables_at : Channel → ℕ → Bool
enables_at peripheral a = eqb a 0x010
enables_at wires a = eqb a 0x020

-- a disabling: SET_CONFIGURATION of that register, bit 0 of the value being 0 while the register's is 1 (docs/DECISIONS.md, 20)
abbrev pub disables : Channel → State → List ℕ → Bool
disables k s b = eqb (byte b 0) 0x22 && (enables_at k (register_at b) && (on k s.config && eqb (register_value b % 2) 0))

-- a PUT_VWIRE that "ends with PLTRST# low that was high before" (02, Q-1): bit 1 of group 3 (004, table 10), before the packet and after all its pairs
abbrev pub lowers_pltrst : State → List ℕ → Bool
lowers_pltrst s b = eqb (byte b 0) 0x04 && (eqb (read_wire s.wires.groups 3 1) 1 && eqb (read_wire (put_pairs s.wires.groups (pairs b)) 3 1) 0)

-- .. of any call (02, Q-1)
abbrev pub lowering : State → Call → Bool
lowering s (reset r) = false
lowering s (exchange command reply) = lowers_pltrst s command
lowering s (board j o) = false
lowering s (short state c) = false
lowering s (lend write read) = false

-- .. that was accepted: such a packet counts "as a platform reset" (02, Q-1)
abbrev pub pltrst_falls : World → Call → Bool
pltrst_falls w c = accepted (step w c) && lowering w.state c

-- "a start, an eSPI reset, a platform reset or a disabling of [the] channel" (demand 3; 01, Wires: "a start, such a reset or a disabling"); "Demand 3's ending
-- events .. now count this packet as a platform reset" (02, Q-1)
abbrev pub ending : Channel → State → Call → Bool
ending k s (reset r) = true
ending k s (exchange command reply) = disables k s command || lowers_pltrst s command
ending k s (board j o) = false
ending k s (short state c) = false
ending k s (lend write read) = false

-- "refused ones apart" (demand 3)
abbrev pub ends_with : Channel → State → Call → Outcome → Bool
ends_with k s c o = accepted o && ending k s c

-- .. of a call on a world: an ending event of it, "refused ones apart" (demand 3)
abbrev pub ends : Channel → World → Call → Bool
ends k w c = ends_with k w.state c (step w c)

-- no such event in the run: "Until a start, .." (demand 3)
unfoldable pub unended : Channel → World → List Call → Bool
unended k w [] = true
unended k w (c ∷ cs) = not (ends k w c) && unended k (step w c).next cs
