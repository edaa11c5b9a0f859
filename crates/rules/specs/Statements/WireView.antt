-- All that a call can do to the wires, by the call's event. The theorems about wires go by cases on it and look at no command again.
use Rattle.std.specs.Prelude.{ℕ, ◌-◌, true, false, List, ◌∷◌, ◌≡◌}
use Rattle.wires.specs.Table.{is_line}
use Rattle.wires.specs.Groups as G
use Rattle.wires.specs.Groups.{settable, put_pairs}
use Rattle.wires.specs.Transitions.{third_transition}
use Rattle.wires.specs.Lines as L
use Rattle.wires.specs.Lines.{line_bit, line_level_ok, can_pulse}
use Rattle.wires.specs.Senders as A
use Rattle.wires.specs.Senders.{with_groups, with_lines, entries, pair_bytes, after_sent, fresh_all, all_enabled, all_disabled, all_platform}
use Rattle.state.specs.Status.{status}
use Rattle.rules.specs.Rules.Wires as W
use Rattle.rules.specs.Rules.Channel.{wires, on}
use Rattle.rules.specs.Rules.Reply.{closed}
use Rattle.rules.specs.Rules.Step.{World, Call, exchange, board, Outcome, step}
use Rattle.rules.specs.Statements.Events.{lowers_pltrst}
use Rattle.rules.specs.Statements.Fields.{pairs}
use Rattle.rules.specs.Statements.WireEvents.{WireEvent, idle, puts, gets, sets, raises, pulses, enables, ends, switches_on, wire_event, wires_of, groups_of, lines_of, count_of}

-- the board's calls ("set a wire", 01, What the engine covers)
abbrev pub sets_wire : (index bit value : ℕ) → Call
sets_wire index bit value = board wires (W.set_wire index bit value)

-- .. "read a wire" (01, What the engine covers)
abbrev pub reads_wire : (index bit : ℕ) → Call
reads_wire index bit = board wires (W.read_wire index bit)

-- .. "The board raises and lowers a line" (02, Q-4)
abbrev pub sets_line : (line level : ℕ) → Call
sets_line line level = board wires (W.set_line line level)

-- .. "or asks for an edge" (02, Q-4)
abbrev pub pulses_line : (line : ℕ) → Call
pulses_line line = board wires (W.pulse_line line)

-- put: "PUT_VWIRE applies pairs in order", and no wire has "a third transition" (02, Q-6); sent: "GET_VWIRE sends min(pending, operating count) groups";
-- set: "The board sets one defined bit of an up group"; enabled: "Enabling it from disabled"; disabled: "Disabling channel 1 drops pending marks and keeps
-- values" (01, Wires); wiped, platformWiped: "eSPI reset also resets all registers and groups", "Platform reset also resets 010h and wire groups 6 and 7"
-- (01, Requests, answers, pieces); lowered: the pairs, and then "the platform reset follows" (02, Q-1); lineSet: "The board raises and lowers a line", pulsed:
-- "or asks for an edge" (02, Q-4)
pub data WireMove (w : World) (c : Call) (o : Outcome) : WireEvent → Type 0 where
  still : wires_of o.next ≡ wires_of w → WireMove w c o idle
  put : (b r : List ℕ) → c ≡ exchange b r → third_transition (groups_of w) (pairs b) ≡ false
      → wires_of o.next ≡ with_groups (wires_of w) (put_pairs (groups_of w) (pairs b)) → WireMove w c o puts
  sent : (k : ℕ) (ks : List ℕ) → A.sent (wires_of w) (count_of w) ≡ k ∷ ks
      → wires_of o.next ≡ after_sent (wires_of w) (A.sent (wires_of w) (count_of w))
      → o.reply ≡ closed (0x08 ∷ (entries (wires_of w) (A.sent (wires_of w) (count_of w)) - 1) ∷ pair_bytes (wires_of w) (A.sent (wires_of w) (count_of w)))
      (status o.next.state)
      → WireMove w c o gets
  set : (i bit value : ℕ) → c ≡ sets_wire i bit value → settable i bit value ≡ true
      → wires_of o.next ≡ with_groups (wires_of w) (G.set_wire (on wires w.state.config) (groups_of w) i bit value) → WireMove w c o sets
  line_set_lem : (n level : ℕ) → c ≡ sets_line n level → line_level_ok n level ≡ true → line_bit (lines_of w).edges n ≡ false
      → wires_of o.next ≡ with_lines (wires_of w) (L.set_line (on wires w.state.config) (lines_of w) n level) → WireMove w c o raises
  pulsed : (n : ℕ) → c ≡ pulses_line n → is_line n ≡ true → can_pulse (on wires w.state.config) (count_of w) (lines_of w) n ≡ true
      → wires_of o.next ≡ with_lines (wires_of w) (L.pulse_line (lines_of w) n) → WireMove w c o pulses
  enabled : (b r : List ℕ) → c ≡ exchange b r → switches_on w.state b ≡ true → wires_of o.next ≡ all_enabled (wires_of w) → WireMove w c o enables
  disabled : wires_of o.next ≡ all_disabled (wires_of w) → WireMove w c o ends
  wiped : wires_of o.next ≡ fresh_all → WireMove w c o ends
  platform_wiped : wires_of o.next ≡ all_platform (wires_of w) → WireMove w c o ends
  lowered : (b r : List ℕ) → c ≡ exchange b r → third_transition (groups_of w) (pairs b) ≡ false → lowers_pltrst w.state b ≡ true
      → wires_of o.next ≡ all_platform (with_groups (wires_of w) (put_pairs (groups_of w) (pairs b))) → WireMove w c o ends

-- so of every call: "wires and queues afterwards" (00, demand 2), and for the bound "unless a start, such a reset or a disabling comes first" (01, Wires)
abbrev pub WireView : Type 0
WireView = (w : World) (c : Call) → WireMove w c (step w c) (wire_event w c)
