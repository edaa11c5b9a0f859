-- All that channel 1 does, each with the tests that led to it (01, Wires). The statements read this law and unfold no decision.
pub mod Effects
pub mod LineEffects
pub mod SoundMeans
pub mod Rows
use Rattle.std.specs.Prelude.{ℕ, true, false, List, [], ◌∷◌, ◌≡◌, ltb, None}
use Rattle.registers.specs.Registers.{on1, operating_count}
use Rattle.registers.specs.declared.Config.{Config}
use Rattle.wires.specs.Groups as G
use Rattle.wires.specs.Transitions.{third_transition}
use Rattle.wires.specs.Table.{is_line}
use Rattle.wires.specs.Groups.{put_pairs, read_wire as level, settable, defined_bit}
use Rattle.wires.specs.Lines as L
use Rattle.wires.specs.Lines.{line_bit, line_level_ok, can_pulse}
use Rattle.wires.specs.Senders.{AllWires, with_groups, with_lines, sent, packet_of, after_sent}
use Rattle.rules.specs.Rules.Numbers.{no_such_wire, line_busy}
use Rattle.rules.specs.Rules.Out.{fatal, accept, number, keep}
use Rattle.rules.specs.Rules.Wires.{Act, puts, gets, Board, set_wire, read_wire, set_line, pulse_line, change}
use Rattle.rules.specs.declared.Body.TheVariants as B
use Rattle.rules.specs.Rules.Plan.{WiresChange}

-- ---- commands

-- overCount: "PUT_VWIRE over the operating count is 1"; nonePending: 1, "GET_VWIRE with nothing pending" (01, Replies and refusals); third: "refused with
-- FATAL (number 1) and no wire changed" (02, Q-6); put: "PUT_VWIRE applies pairs in order"; sentOff: "GET_VWIRE sends min(pending, operating count) groups"
-- (01, Wires), "A packet closes at the first sender that does not fit" (02, Q-4)
pub data Did (c : Config) (w : AllWires) : Act → WiresChange → Type 0 where
  over_count : {n : ℕ} {pairs : List ℕ} → ltb (operating_count c.r020) n ≡ true → Did c w (puts n pairs) (change w fatal)
  third : {n : ℕ} {pairs : List ℕ} → ltb (operating_count c.r020) n ≡ false → third_transition w.groups pairs ≡ true
      → Did c w (puts n pairs) (change w fatal)
  put : {n : ℕ} {pairs : List ℕ} → ltb (operating_count c.r020) n ≡ false → third_transition w.groups pairs ≡ false
      → Did c w (puts n pairs) (change (with_groups w (put_pairs w.groups pairs)) (accept B.Nothing None))
  none_pending_lem : sent w (operating_count c.r020) ≡ [] → Did c w gets (change w fatal)
  sent_off_lem : {k : ℕ} {ks : List ℕ} → sent w (operating_count c.r020) ≡ k ∷ ks
      → Did c w gets (change (after_sent w (k ∷ ks)) (accept (B.Groups (packet_of w (operating_count c.r020))) None))

-- of these, "an accepted PUT_VWIRE [that] ends with PLTRST# low that was high before" (02, Q-1)
pub data Lowers (c : Config) (w : AllWires) : Act → WiresChange → Type 0 where
  lowered : {n : ℕ} {pairs : List ℕ} → ltb (operating_count c.r020) n ≡ false → third_transition w.groups pairs ≡ false → level w.groups 3 1 ≡ 1
      → level (put_pairs w.groups pairs) 3 1 ≡ 0
      → Lowers c w (puts n pairs) (change (with_groups w (put_pairs w.groups pairs)) (accept B.Nothing None))

-- ---- the board's calls

-- 22: "set: wire not the board's, or value above 1; read: no such defined wire" (01, Replies and refusals); set: "The board sets one defined bit of an up
-- group" (01, Wires); read: no wire changes ("read a wire", 01, What the engine covers); no_line_lem, noLineToPulse: "22 for no such line comes first";
-- edgeWaits: 24, "a raise or lower while its edge waits"; cannotPulse: 24, "an edge while channel 1 is off or the operating count is 1, an edge on a line
-- that already waits"; lineSet: "The board raises and lowers a line"; pulsed: "or asks for an edge" (02, Q-4)
pub data Settled (c : Config) (w : AllWires) : Board → WiresChange → Type 0 where
  not_boards : {index bit value : ℕ} → settable index bit value ≡ false → Settled c w (set_wire index bit value) (change w (number no_such_wire))
  set : {index bit value : ℕ} → settable index bit value ≡ true
      → Settled c w (set_wire index bit value) (change (with_groups w (G.set_wire (on1 c.r020) w.groups index bit value)) (keep None))
  no_wire_lem : {index bit : ℕ} → defined_bit index bit ≡ false → Settled c w (read_wire index bit) (change w (number no_such_wire))
  read : {index bit : ℕ} → defined_bit index bit ≡ true → Settled c w (read_wire index bit) (change w (number 0))
  no_line_lem : {line level : ℕ} → line_level_ok line level ≡ false → Settled c w (set_line line level) (change w (number no_such_wire))
  edge_waits_lem : {line level : ℕ} → line_level_ok line level ≡ true → line_bit w.lines.edges line ≡ true
      → Settled c w (set_line line level) (change w (number line_busy))
  line_set_lem : {line level : ℕ} → line_level_ok line level ≡ true → line_bit w.lines.edges line ≡ false
      → Settled c w (set_line line level) (change (with_lines w (L.set_line (on1 c.r020) w.lines line level)) (keep None))
  no_line_to_pulse : {line : ℕ} → is_line line ≡ false → Settled c w (pulse_line line) (change w (number no_such_wire))
  cannot_pulse : {line : ℕ} → is_line line ≡ true → can_pulse (on1 c.r020) (operating_count c.r020) w.lines line ≡ false
      → Settled c w (pulse_line line) (change w (number line_busy))
  pulsed : {line : ℕ} → is_line line ≡ true → can_pulse (on1 c.r020) (operating_count c.r020) w.lines line ≡ true
      → Settled c w (pulse_line line) (change (with_lines w (L.pulse_line w.lines line)) (keep None))
