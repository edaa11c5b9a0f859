-- P6. "The first that applies counts" (01, Replies and refusals): for each call a list of rows, in the order and words of 01 and 02; the call's
-- number is that of the first row that applies, and 0 exactly where none does. One row is a test of the engine's definitions: 11's is the
-- loader's, and `Packing` says beside it what that means. A channel's own rows are its Rows.
use Rattle.std.specs.Prelude.{ℕ, ◌%◌, ◌≤◌, Bool, true, false, ◌&&◌, ◌||◌, not, List, [], ◌∷◌, ◌++◌, ◌↔◌, ◌≡◌, eqb, ltb, length, take}
use Rattle.registers.specs.Registers.{bits}
use Rattle.registers.specs.declared.Config.{Config}
use Rattle.state.specs.State.{State}
use Rattle.state.specs.Layout.{state_length, packed, unpacked, holds}
use Rattle.state.specs.Sound.{Sound}
use Rattle.rules.specs.Rules.Peripheral.{look, answer, take_write}
use Rattle.rules.specs.Rules.Wires.{set_wire, read_wire, set_line, pulse_line}
use Rattle.rules.specs.Rules.Channel.{Channel, peripheral, wires, Part, Board, part}
use Rattle.rules.specs.Rules.Calls.{start_call, espi_reset_call, platform_reset_call, exchange_call, look_call, answer_call, take_write_call, set_wire_call, read_wire_call, set_line_call, pulse_line_call}
use Rattle.rules.specs.Statements.Fields.{byte, is_listed, is_reset, register_at, register_value, whole_length, crc_right}
use Rattle.rules.specs.Statements.Sizes.{is_of, is_enabled}
use Rattle.rules.specs.Statements.Rows.{Row, row, First}
use Rattle.rules.specs.Statements.Peripheral.Rows as P
use Rattle.rules.specs.Statements.Wires.Rows as W

-- ---- by channel

-- "credit (1)", each channel its own (01, Replies and refusals)
abbrev pub credit_rows : (k : Channel) → Part k → List ℕ → List Row
credit_rows peripheral p b = P.credit_rows p b
credit_rows wires p b = W.credit_rows p b

-- "size (1)", each channel its own (01, Replies and refusals)
abbrev pub size_rows : (k : Channel) → Config → List ℕ → List Row
size_rows peripheral c b = P.size_rows c b
size_rows wires c b = W.size_rows c b

-- "The check comes after the operating count" (02, Q-6): 1, channel 1's own
abbrev pub transition_rows : (k : Channel) → Part k → List ℕ → List Row
transition_rows peripheral p b = []
transition_rows wires p b = W.transition_rows p.groups b

-- an edge that stands against a write of 020h: 2, channel 1's own (02, Q-4)
abbrev pub edge_rows : (k : Channel) → Part k → List ℕ → List Row
edge_rows peripheral p b = []
edge_rows wires p b = W.edge_rows p b

-- "their own from 20 up", each channel its own (01, Replies and refusals)
abbrev pub board_rows : (k : Channel) → Config → Part k → Board k → List Row
board_rows peripheral c p o = P.board_rows p o
board_rows wires c p o = W.board_rows c p o

-- the rows of all channels (an opcode is of one channel, so that "in this order" is kept, 01, Replies and refusals)
abbrev pub by_channel_value : ((k : Channel) → List Row) → List Row
by_channel_value rows = rows peripheral ++ rows wires

-- ---- 10, 11

-- "a lent store too short"
abbrev pub too_short_value : List ℕ → ℕ → Row
too_short_value store least = row 10 (ltb (length store) least)

-- "bytes that pack no state are 11"
abbrev pub packs_none : List ℕ → Row
packs_none st = row 11 (not (holds st))

-- the first bytes are those of this sound state ("State bytes lent, .. with bytes past it neither read nor written", 01, What the engine covers)
pub record Packs (st : List ℕ) (s : State) : Type 0 where
  pub sound : Sound s
  pub bytes : take state_length st ≡ packed s

-- row 11 applies exactly where they are no sound state's; where it does not they are one's, and the rows after it read that one
-- (11, "state not sound", 01, Replies and refusals; docs/DECISIONS.md, 23)
pub record Packing (st : List ℕ) : Type 0 where
  pub none : ((packs_none st).applies ≡ true) ↔ ((s : State) → Packs st s → ⊥)
  pub some : (packs_none st).applies ≡ false → Packs st (unpacked st)
  pub alone : (s : State) → Packs st s → s ≡ unpacked st

-- ---- 12 to 16

-- "unknown opcode, or FFh not a RESET"
abbrev pub unknown_opcode : List ℕ → Bool
unknown_opcode b = not (is_listed (byte b 0)) || (eqb (byte b 0) 0xFF && not (is_reset b))

-- "channel disabled"
abbrev pub disabled_rows : Config → List ℕ → List Row
disabled_rows c b = by_channel_value (λ (k : Channel). row 14 (is_of k (byte b 0) && not (is_enabled k c)) ∷ [])

-- "a missing header byte needed next (12)": the cycle type
abbrev pub cycle_missing : List ℕ → Bool
cycle_missing b = (eqb (byte b 0) 0x00 || eqb (byte b 0) 0x02) && ltb (length b) 2

-- "cycle type not listed"
abbrev pub cycle_unlisted : List ℕ → Bool
cycle_unlisted b =
    eqb (byte b 0) 0x00 && not (eqb (byte b 1) 0x01 || eqb (byte b 1) 0x03)
    || eqb (byte b 0) 0x02 && not (eqb (byte b 1) 0x00 || eqb (byte b 1) 0x02)

-- the length bytes of PUT_PC, the count of PUT_VWIRE ("a missing header byte needed next (12)", 01, Replies and refusals)
abbrev pub header_missing : List ℕ → Bool
header_missing b = eqb (byte b 0) 0x00 && ltb (length b) 4 || eqb (byte b 0) 0x04 && ltb (length b) 2

-- "exact length": RESET has none
abbrev pub length_wrong : List ℕ → Bool
length_wrong b = not (eqb (byte b 0) 0xFF) && not (eqb (length b) (whole_length b))

-- "CRC wrong while checked": "checked only while register 008h bit 31 is 1"; RESET has none
abbrev pub crc_wrong : Config → List ℕ → Bool
crc_wrong c b = not (eqb (byte b 0) 0xFF) && (eqb (bits 31 31 c.r008.value) 1 && not (crc_right b))

-- "empty (12), 13, 14, a missing header byte needed next (12) or 15, exact length (12), 16"
abbrev pub form_rows : Config → List ℕ → List Row
form_rows c b =
    row 12 (eqb (length b) 0)
    ∷ row 13 (unknown_opcode b)
    ∷ (disabled_rows c b
    ++ (row 12 (cycle_missing b)
    ∷ row 15 (cycle_unlisted b)
    ∷ row 12 (header_missing b)
    ∷ row 12 (length_wrong b)
    ∷ row 16 (crc_wrong c b)
    ∷ []))

-- ---- 2

-- 008h: "bits 27:26 = 11; 22:20 above 100"; 010h: "14:12 = 000; 10:8 = 000 or above 011"; 020h: none, "its forbidden entry goes away" (02, Q-5)
abbrev pub value_forbidden : ℕ → ℕ → Bool
value_forbidden a v =
    eqb a 0x008 && (eqb (bits 27 26 v) 3 || ltb 4 (bits 22 20 v))
    || eqb a 0x010 && (eqb (bits 14 12 v) 0 || (eqb (bits 10 8 v) 0 || ltb 3 (bits 10 8 v)))

-- 2, "forbidden configuration value", of SET_CONFIGURATION (01, Replies and refusals)
abbrev pub value_rows : List ℕ → List Row
value_rows b = row 2 (eqb (byte b 0) 0x22 && value_forbidden (register_at b) (register_value b)) ∷ []

-- ---- an exchange: "10, 11, empty (12), 13, 14, a missing header byte needed next (12) or 15, exact length (12), 16, credit (1), size (1), 2"; a third
-- transition (1) after size (02, Q-6)

-- "size (1)", of all channels (01, Replies and refusals)
abbrev pub all_sizes : Config → List ℕ → List Row
all_sizes c b = by_channel_value (λ (k : Channel). size_rows k c b)

-- after the decoder: "16, credit (1), size (1), 2" (01, Replies and refusals); with size, "after the operating count", transitions (1) (02, Q-6); with 2,
-- "while an edge waits (number 2)" (02, Q-4)
abbrev pub later_rows : State → List ℕ → List Row
later_rows s b =
    by_channel_value (λ (k : Channel). credit_rows k (part k s) b)
    ++ (all_sizes s.config b
    ++ (by_channel_value (λ (k : Channel). transition_rows k (part k s) b)
    ++ (value_rows b
    ++ by_channel_value (λ (k : Channel). edge_rows k (part k s) b))))

-- the decoder's rows come first: "A decode that gives no command ends the exchange at once" (01, Replies and refusals)
abbrev pub command_rows : State → List ℕ → List Row
command_rows s b = form_rows s.config b ++ later_rows s b

-- "reply at least 263 bytes, write store at least 256, read store at least 4,096"; "an exchange uses all three"
abbrev pub exchange_rows : (st command reply write read : List ℕ) → List Row
exchange_rows st command reply write read =
    too_short_value st state_length ∷ too_short_value reply 263 ∷ too_short_value write 256 ∷ too_short_value read 4096 ∷ packs_none st
    ∷ command_rows (unpacked st) command

-- ---- the board's calls: "10, 11, then their own from 20 up"

-- "Start takes no state": 10 alone
abbrev pub start_rows : List ℕ → List Row
start_rows st = too_short_value st state_length ∷ []

-- eSPI reset and platform reset: "10, 11", and none of their own (01, Replies and refusals)
abbrev pub reset_rows : List ℕ → List Row
reset_rows st = too_short_value st state_length ∷ packs_none st ∷ []

-- 11, then the channel's own ("11, then their own from 20 up", 01, Replies and refusals)
abbrev pub own_rows : (k : Channel) → List ℕ → Board k → List Row
own_rows k st o = packs_none st ∷ board_rows k (unpacked st).config (part k (unpacked st)) o

-- a report has 19 bytes, a take's 10; "an answer [uses] the read store, a take the write store"
abbrev pub look_rows : (st report : List ℕ) → List Row
look_rows st report = too_short_value st state_length ∷ too_short_value report 19 ∷ own_rows peripheral st (look report)

-- "read store at least 4,096" (01, What the engine covers), then 20 and 21
abbrev pub answer_rows : (st read : List ℕ) (serial success : ℕ) (bytes : List ℕ) → List Row
answer_rows st read serial success bytes = too_short_value st state_length ∷ too_short_value read 4096 ∷ own_rows peripheral st (answer serial success bytes)

-- "write store at least 256" (01, What the engine covers), then 23
abbrev pub take_rows : (st write report : List ℕ) → List Row
take_rows st write report = too_short_value st state_length ∷ too_short_value write 256 ∷ too_short_value report 10 ∷ own_rows peripheral st (take_write report)

-- no store but the state's, then 22: "set: wire not the board's, or value above 1" (01, Replies and refusals)
abbrev pub set_rows : (st : List ℕ) (index bit value : ℕ) → List Row
set_rows st index bit value = too_short_value st state_length ∷ own_rows wires st (set_wire index bit value)

-- .. then 22: "read: no such defined wire" (01, Replies and refusals)
abbrev pub read_rows : (st : List ℕ) (index bit : ℕ) → List Row
read_rows st index bit = too_short_value st state_length ∷ own_rows wires st (read_wire index bit)

-- .. then 22 and 24: "22 for no such line comes first" (02, Q-4)
abbrev pub line_rows : (st : List ℕ) (line level : ℕ) → List Row
line_rows st line level = too_short_value st state_length ∷ own_rows wires st (set_line line level)

-- .. of an edge (02, Q-4)
abbrev pub pulse_rows : (st : List ℕ) (line : ℕ) → List Row
pulse_rows st line = too_short_value st state_length ∷ own_rows wires st (pulse_line line)

-- ---- the statement; the number is in the word's bits 7:0

-- "The first that applies counts", of each call (01, Replies and refusals)
pub record FirstApplies : Type 0 where
  -- of any numbers, as many as a state has at least: fewer are 10
  pub packing : (st : List ℕ) → state_length ≤ length st → Packing st
  pub exchange : (st command reply write read : List ℕ)
      → First ((exchange_call st command reply write read).word % 256) (exchange_rows st command reply write read)
  pub start : (st : List ℕ) → First ((start_call st).word % 256) (start_rows st)
  pub espi_reset : (st : List ℕ) → First ((espi_reset_call st).word % 256) (reset_rows st)
  pub platform_reset : (st : List ℕ) → First ((platform_reset_call st).word % 256) (reset_rows st)
  pub look : (st report : List ℕ) → First ((look_call st report).word % 256) (look_rows st report)
  pub answer : (st read : List ℕ) (serial success : ℕ) (bytes : List ℕ)
      → First ((answer_call st read serial success bytes).word % 256) (answer_rows st read serial success bytes)
  pub take_write : (st write report : List ℕ) → First ((take_write_call st write report).word % 256) (take_rows st write report)
  pub set_wire : (st : List ℕ) (index bit value : ℕ) → First ((set_wire_call st index bit value).word % 256) (set_rows st index bit value)
  pub read_wire : (st : List ℕ) (index bit : ℕ) → First (read_wire_call st index bit % 256) (read_rows st index bit)
  pub set_line : (st : List ℕ) (line level : ℕ) → First ((set_line_call st line level).word % 256) (line_rows st line level)
  pub pulse_line : (st : List ℕ) (line : ℕ) → First ((pulse_line_call st line).word % 256) (pulse_rows st line)
