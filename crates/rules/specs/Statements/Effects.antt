-- P11. The table of effects: for every accepted call the state and the stores after it, in full, from those before (01, Registers and status;
-- Requests, answers, pieces; Wires). A channel's rows are in its own file and name its part alone; what a row does not name stays.
use Rattle.std.specs.Prelude.{ℕ, ◌-◌, ◌*◌, ◌%◌, Bool, true, false, List, ◌≡◌, eqb}
use Rattle.std.specs.Int.Bits.{bit_and, bit_or}
use Rattle.base.specs.Pick.{pick}
use Rattle.registers.specs.Registers.{bits}
use Rattle.registers.specs.declared.Config.{Config}
use Rattle.state.specs.State.{State}
use Rattle.rules.specs.Rules.Reset.{Reset, start, espi_reset, platform_reset}
use Rattle.rules.specs.Rules.Channel.{Channel, peripheral, wires, Part, Board, part, put, each, same}
use Rattle.rules.specs.Rules.Step.{World, Call, reset, exchange, board, short, lend, with_state, step}
use Rattle.rules.specs.Statements.Fields.{byte, register_at, register_value}
use Rattle.rules.specs.Statements.Sizes.{is_of, is_enabled}
use Rattle.rules.specs.Statements.Events.{enables_at, lowers_pltrst, pltrst_falls}
use Rattle.rules.specs.Statements.Peripheral.Effects as P
use Rattle.rules.specs.Statements.Wires.Effects as W

-- ---- the channels' rows

-- a channel's part after an accepted command of it ("queues afterwards", demand 2; the rows: 01, Requests, answers, pieces; Wires)
abbrev pub command_part : (k : Channel) → Config → Part k → List ℕ → Part k
command_part peripheral = P.command_part
command_part wires = W.command_part

-- the write store after a command: channel 0's alone has data (01, Requests, answers, pieces: "its data at the start of the write store")
abbrev pub command_write : Channel → List ℕ → List ℕ → List ℕ
command_write peripheral b store = P.command_write b store
command_write wires b store = store

-- a channel's part after an accepted call of the board (01, Requests, answers, pieces; Wires)
abbrev pub board_part : (k : Channel) → Config → Part k → Board k → Part k
board_part peripheral c p o = P.board_part p o
board_part wires c p o = W.board_part c p o

-- the read store after a call of the board: an answer's alone (01, What the engine covers: "an answer the read store")
abbrev pub board_read : (k : Channel) → Board k → List ℕ → List ℕ
board_read peripheral o store = P.board_read o store
board_read wires o store = store

-- after a start and each reset (01, Requests, answers, pieces: "Disabling channel 0, platform reset and eSPI reset"; Wires: "A reset group")
abbrev pub reset_part : (k : Channel) → Reset → Part k → Part k
reset_part peripheral = P.reset_part
reset_part wires = W.reset_part

-- an edge of its enable bit: from enabled or not to enabled or not (docs/DECISIONS.md, 20)
abbrev pub switched : (k : Channel) → Bool → Bool → Part k → Part k
switched peripheral = P.switched
switched wires = W.switched

-- its command changes its part and the write store, nothing else: "Store bytes that no rule writes are unchanged" (01, Replies and refusals)
abbrev pub command_effect : (k : Channel) → World → List ℕ → World
command_effect k w b =
    record {
      state = put k (command_part k w.state.config (part k w.state) b) w.state;
      write = command_write k b w.write;
      read = w.read;
    }

-- the board's call changes its part and the read store, nothing else (01, Replies and refusals: "Store bytes that no rule writes")
abbrev pub board_effect : (k : Channel) → World → Board k → World
board_effect k w o =
    record {
      state = put k (board_part k w.state.config (part k w.state) o) w.state;
      write = w.write;
      read = board_read k o w.read;
    }

-- ---- registers

-- the three registers that hold state: 008h, 010h and 020h (01, Registers and status: the table)
abbrev pub registers : (r008 r010 r020 : ℕ) → Config
registers a b c = record { r008 = record { value = a }; r010 = record { value = b }; r020 = record { value = c } }

-- the registers alone: "resets register 008h and nothing else" (01, Commands)
abbrev pub with_registers : State → Config → State
with_registers s c = each (λ k p. p) c s

-- the table's reset values, 020h's by 02, Q-5; "Platform reset also resets 010h", "eSPI reset also resets all registers", "Start .. gives the fresh one" (01)
abbrev pub registers_reset : Reset → Config → Config
registers_reset start c = registers 0x030C0003 0x00001133 0x00003F00
registers_reset espi_reset c = registers 0x030C0003 0x00001133 0x00003F00
registers_reset platform_reset c = registers c.r008.value 0x00001133 c.r020.value

-- all parts and the registers; "store bytes stay" (01, Requests, answers, pieces)
abbrev pub reset_effect : World → Reset → World
reset_effect w r = with_state w (each (λ k. reset_part k r) (registers_reset r w.state.config) w.state)

-- the bits of the value where the mask has ones, those of the register elsewhere (01, Registers and status: the table's "Writable")
abbrev pub masked_by : ℕ → ℕ → ℕ → ℕ
masked_by mask old value = bit_or (bit_and old (0xFFFFFFFF - mask)) (bit_and value mask)

-- "Bit 1 (ready) of 010h and 020h equals bit 0 (enable)" (01, Registers and status)
abbrev pub with_ready : ℕ → ℕ
with_ready v = masked_by 0x00000002 v (2 * (v % 2))

-- 008h written, by its row: "DCF0F000h" (01, Registers and status)
abbrev pub after008 : Config → ℕ → Config
after008 c v = registers (masked_by 0xDCF0F000 c.r008.value v) c.r010.value c.r020.value

-- 010h written, by its row: "00007705h" (01, Registers and status)
abbrev pub after010 : Config → ℕ → Config
after010 c v = registers c.r008.value (with_ready (masked_by 0x00007705 c.r010.value v)) c.r020.value

-- 020h written, by its row: "003F0001h" (01, Registers and status)
abbrev pub after020 : Config → ℕ → Config
after020 c v = registers c.r008.value c.r010.value (with_ready (masked_by 0x003F0001 c.r020.value v))

-- "Other addresses .. take writes without effect", 004h too (01, Registers and status)
abbrev pub written_registers : Config → ℕ → ℕ → Config
written_registers c a v = pick (eqb a 0x008) (after008 c v) (pick (eqb a 0x010) (after010 c v) (pick (eqb a 0x020) (after020 c v) c))

-- "bit 0 (enable)" of a value (01, Registers and status)
abbrev pub value_enables : ℕ → Bool
value_enables v = eqb (bits 0 0 v) 1

-- a write of a channel's register enables it or not; of another, all is as it was (01, Registers and status: "bit 0 (enable)")
abbrev pub enabled_after : Channel → Config → ℕ → ℕ → Bool
enabled_after k c a v = pick (enables_at k a) (value_enables v) (is_enabled k c)

-- an edge for the part whose register it is: "Disabling channel 0" (01, Requests, answers, pieces), "Disabling channel 1", "Enabling it from disabled"
-- (01, Wires)
abbrev pub written_part : Config → ℕ → ℕ → (k : Channel) → Part k → Part k
written_part c a v k = switched k (is_enabled k c) (enabled_after k c a v)

-- SET_CONFIGURATION: registers and parts, once "A write takes effect" (01, Registers and status)
abbrev pub written_state : State → ℕ → ℕ → State
written_state s a v = each (written_part s.config a v) (written_registers s.config a v) s

-- "RESET .. resets register 008h and nothing else" (01, Commands)
abbrev pub cleared_state : State → State
cleared_state s = with_registers s (registers 0x030C0003 s.config.r010.value s.config.r020.value)

-- ---- the table

-- a wire command, and the platform reset that "follows after that reply" (02, Q-1): groups 6 and 7 are reset whatever the packet put there
abbrev pub wires_effect : World → List ℕ → World
wires_effect w b = pick (lowers_pltrst w.state b) (reset_effect (command_effect wires w b) platform_reset) (command_effect wires w b)

-- by the opcode; GET_CONFIGURATION and GET_STATUS change nothing (01, Commands; 004, 3.6 and 3.7)
abbrev pub exchange_effect : World → ℕ → List ℕ → World
exchange_effect w op b =
    pick (is_of peripheral op) (command_effect peripheral w b)
    (pick (is_of wires op) (wires_effect w b)
    (pick (eqb op 0x22) (with_state w (written_state w.state (register_at b) (register_value b)))
    (pick (eqb op 0xFF) (with_state w (cleared_state w.state))
    w)))

-- "A command or board call that document 01 allows takes effect; no other does" (demand 2); one with a state slice too short is never accepted
abbrev pub effect : World → Call → World
effect w (reset r) = reset_effect w r
effect w (exchange command reply) = exchange_effect w (byte command 0) command
effect w (board k o) = board_effect k w o
effect w (short state c) = w
effect w (lend write read) = record { state = w.state; write = write; read = read }

-- the statement over all rows: "register values, wires and queues afterwards are those of" 01 (demand 2)
abbrev pub Effects : Type 0
Effects = (w : World) (c : Call) → (step w c).number ≡ 0 → (step w c).next ≡ effect w c

-- ---- what follows for the parts, whatever the number

-- whose traffic a call is: "one channel's commands and board calls" (02, Q-14; 01, Wires: "Wire traffic and channel 0")
abbrev pub traffic_of : Channel → Call → Bool
traffic_of k (reset r) = false
traffic_of k (exchange command reply) = is_of k (byte command 0)
traffic_of k (board j o) = same k j
traffic_of k (short state c) = traffic_of k c
traffic_of k (lend write read) = false

-- the registers and every other channel's part stay (02, Q-14: "No channel tells on another")
pub record Frames (k : Channel) (before after : World) : Type 0 where
  pub config : after.state.config ≡ before.state.config
  pub others : (j : Channel) → same k j ≡ false → part j after.state ≡ part j before.state

-- .. whatever the number of the call, but for a packet that counts "as a platform reset" (02, Q-14; Q-1)
abbrev pub PartsKept : Type 0
PartsKept = (w : World) (c : Call) (k : Channel) → traffic_of k c ≡ true → pltrst_falls w c ≡ false → Frames k w (step w c).next
