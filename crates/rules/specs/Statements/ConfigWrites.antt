-- P10. Configuration: what an accepted write leaves of each bit, what a read gives, and the calls that change nothing (01, Registers and
-- status).
use Rattle.std.specs.Prelude.{ℕ, ◌/◌, ◌%◌, ◌^◌, ◌<◌, Bool, true, false, ◌&&◌, ◌||◌, not, List, [], ◌∷◌, ◌≢◌, ◌≡◌, eqb}
use Rattle.base.specs.Pick.{pick}
use Rattle.registers.specs.declared.Config.{Config}
use Rattle.state.specs.Status.{status}
use Rattle.rules.specs.Rules.Peripheral as P
use Rattle.rules.specs.Rules.Wires as W
use Rattle.rules.specs.Rules.Channel.{Channel, peripheral, wires, Board, part}
use Rattle.rules.specs.Rules.Step.{World, Call, reset, exchange, board, short, lend, step}
use Rattle.rules.specs.Statements.Fields.{byte, register_at, register_value}
use Rattle.rules.specs.Statements.Sizes.{is_enabled}
use Rattle.rules.specs.Statements.Events.{enables_at}
use Rattle.rules.specs.Statements.Effects.{value_enables}
use Rattle.rules.specs.Statements.Shape.{reply_of}

-- bit k of a number (of `BitsWritten`; 01, Registers and status: "the reset value of each register .., with its writable bits")
abbrev pub bit_of : ℕ → ℕ → ℕ
bit_of k v = v / 2 ^ k % 2

-- the table's writable bits: 008h DCF0F000h, 010h 00007705h, 020h 003F0001h, all others none ("Writable", 01, Registers and status)
abbrev pub writable_bits : ℕ → ℕ
writable_bits a = pick (eqb a 0x008) 0xDCF0F000 (pick (eqb a 0x010) 0x00007705 (pick (eqb a 0x020) 0x003F0001 0))

-- what stands at an address: 004h is 00000001h, "Other addresses read 0"
abbrev pub value_at : Config → ℕ → ℕ
value_at c a =
    pick (eqb a 0x004) 0x00000001
    (pick (eqb a 0x008) c.r008.value
    (pick (eqb a 0x010) c.r010.value
    (pick (eqb a 0x020) c.r020.value
    0)))

-- "Bit 1 (ready) of 010h and 020h equals bit 0 (enable)"
abbrev pub is_ready : ℕ → ℕ → Bool
is_ready a k = (eqb a 0x010 || eqb a 0x020) && eqb k 1

-- the register written: each writable bit takes the value's, ready the value's enable, every other stays
-- ("Writable", "Bit 1 (ready) of 010h and 020h equals bit 0 (enable)", 01, Registers and status)
pub record BitsWritten (a value old new : ℕ) : Type 0 where
  pub written : (k : ℕ) → k < 32 → bit_of k (writable_bits a) ≡ 1 → bit_of k new ≡ bit_of k value
  pub ready : is_ready a 1 ≡ true → bit_of 1 new ≡ bit_of 0 value
  pub kept : (k : ℕ) → k < 32 → bit_of k (writable_bits a) ≡ 0 → is_ready a k ≡ false → bit_of k new ≡ bit_of k old

-- the edge that changes a channel's part: of channel 0 a disabling, of channel 1 a disabling or an enabling
-- ("Disabling channel 0", 01, Requests, answers, pieces; "Disabling channel 1", "Enabling it from disabled", 01, Wires; docs/DECISIONS.md, 20)
abbrev pub turns : Channel → Bool → Bool → Bool
turns peripheral was is = was && not is
turns wires was is = was && not is || not was && is

-- an accepted SET_CONFIGURATION ("A write takes effect after its own reply", 01, Registers and status)
pub record Configured (w : World) (b : List ℕ) (after : World) : Type 0 where
  pub bits : BitsWritten (register_at b) (register_value b) (value_at w.state.config (register_at b)) (value_at after.state.config (register_at b))
  -- every other register stays
  pub others : (a : ℕ) → a ≢ register_at b → value_at after.state.config a ≡ value_at w.state.config a
  -- queues stay but for a disabling of channel 0, wires, marks and place but for an edge of channel 1
  pub parts : (k : Channel) → (enables_at k (register_at b) && turns k (is_enabled k w.state.config) (value_enables (register_value b))) ≡ false
      → part k after.state ≡ part k w.state
  pub stores : (after.write ≡ w.write) × (after.read ≡ w.read)

-- the board's calls that change nothing: "Looking .. changes nothing", reading a wire
abbrev pub peripheral_reads : P.Board → Bool
peripheral_reads (P.look report) = true
peripheral_reads (P.answer serial success bytes) = false
peripheral_reads (P.take_write report) = false

-- .. "read a wire" (01, What the engine covers)
abbrev pub wires_reads : W.Board → Bool
wires_reads (W.set_wire index bit value) = false
wires_reads (W.read_wire index bit) = true
wires_reads (W.set_line line level) = false
wires_reads (W.pulse_line line) = false

-- .. of any channel (01, What the engine covers: "look at the request", "read a wire")
abbrev pub board_only_reads : (k : Channel) → Board k → Bool
board_only_reads peripheral o = peripheral_reads o
board_only_reads wires o = wires_reads o

-- the calls that change nothing, whatever their number
-- ("GET_CONFIGURATION 21h", "GET_STATUS 25h", 01, Commands; too short a state slice is 10, "none; unchanged", 01, Replies and refusals)
abbrev pub only_reads : Call → Bool
only_reads (reset r) = false
only_reads (exchange command reply) = eqb (byte command 0) 0x21 || eqb (byte command 0) 0x25
only_reads (board k o) = board_only_reads k o
only_reads (short state c) = true
only_reads (lend write read) = false

-- low byte first ("data low byte first", 01, Commands: Configuration)
abbrev pub register_bytes : ℕ → List ℕ
register_bytes v = v % 256 ∷ v / 256 % 256 ∷ v / 65536 % 256 ∷ v / 16777216 % 256 ∷ []

-- writes: "A write takes effect"; reads: "Other addresses read 0" (01, Registers and status); "register values .. afterwards" (00, demand 2)
pub record ConfigWrites : Type 0 where
  pub writes : (w : World) (b reply : List ℕ) → byte b 0 ≡ 0x22 → (step w (exchange b reply)).number ≡ 0 → Configured w b (step w (exchange b reply)).next
  pub reads : (w : World) (b reply : List ℕ) → byte b 0 ≡ 0x21 → (step w (exchange b reply)).number ≡ 0
      → (step w (exchange b reply)).reply ≡ reply_of 0x08 (register_bytes (value_at w.state.config (register_at b))) (status w.state)
  pub changes_nothing : (w : World) (c : Call) → only_reads c ≡ true → (step w c).next ≡ w
