-- No channel tells on another, for every channel x: two runs that differ in x's own calls alone show the same of all other calls, but for x's
-- status bits and the CRC byte, and leave the same registers, the same other parts and the other channels' stores alike. A packet that lowers PLTRST# is a
-- platform reset for the others, and both runs have it. Of runs that differ in wires one thing more is asked: that a waiting edge has no write of 020h
-- refused. P22 ("Wire traffic and channel 0") is the case of the wires; its mirror is that of channel 0.
use Rattle.std.specs.Prelude.{ℕ, ◌+◌, ◌-◌, ◌*◌, ◌/◌, ◌%◌, Bool, true, false, ◌&&◌, List, [], ◌∷◌, ◌++◌, map, ◌≡◌, eqb, get_or, length, take}
use Rattle.base.specs.Pick.{pick}
use Rattle.registers.specs.Registers.{bits}
use Rattle.state.specs.State.{State}
use Rattle.rules.specs.Rules.Reset.{platform_reset}
use Rattle.rules.specs.Rules.Channel.{Channel, peripheral, wires, part, same}
use Rattle.rules.specs.Rules.Step.{World, Call, reset, exchange, board, short, lend, Outcome, step, run, short_stores}
use Rattle.rules.specs.Statements.Events.{pltrst_falls}
use Rattle.rules.specs.Statements.Fields.{byte, register_at, register_value}
use Rattle.rules.specs.Statements.Requests.{without}
use Rattle.rules.specs.Statements.Sizes.{is_of}
use Rattle.rules.specs.Statements.Wires.Rows.{some_line}

-- ---- what is a channel's own besides its opcodes: its stores, its status bits

-- the write and the read store are channel 0's: its commands and calls alone read and write them
-- (the channels' "stores" of 02, Q-14; "an answer the read store, a take the write store", 01, What the engine covers)
abbrev pub stores_of : Channel → (write read : List ℕ) → List (List ℕ)
stores_of peripheral write read = write ∷ read ∷ []
stores_of wires write read = []

-- a status word with the channel's bits at 0: 0, 1 and 4 (PC_FREE, NP_FREE, PC_AVAIL); 6 (VWIRE_AVAIL; 2, VWIRE_FREE, "always 1")
abbrev pub clear : Channel → ℕ → ℕ
clear peripheral n = n - n % 4 - n / 16 % 2 * 16
clear wires n = n - n / 64 % 2 * 64

-- ---- a channel's own calls

-- "commands": those that begin with one of its opcodes
abbrev pub is_command_of : Channel → List ℕ → Bool
is_command_of x [] = false
is_command_of x (op ∷ rest) = is_of x op

-- refused ones too, and those that were lent too short a state
-- ("one channel's commands and board calls", 02, Q-14; "differing wire commands and wire settings", 01, Wires)
abbrev pub is_call_of : Channel → Call → Bool
is_call_of x (reset r) = false
is_call_of x (exchange command reply) = is_command_of x command
is_call_of x (board k o) = same x k
is_call_of x (short state c) = is_call_of x c
is_call_of x (lend write read) = false

-- the calls of a run that are not x's: "equal resets, equal calls and commands on channel 0, status and configuration" (01, Wires)
unfoldable pub others : Channel → List Call → List Call
others x [] = []
others x (c ∷ cs) = pick (is_call_of x c) (others x cs) (c ∷ others x cs)

-- what remains of a call of a run: of x's own nothing, but a platform reset in the place of a packet that counts "as a platform reset" (02, Q-1); whether a
-- packet is such a one the wires before it say, so it is asked of the world in which it comes
abbrev pub remaining : Channel → World → Call → List Call
remaining x w c = pick (is_call_of x c) (pick (pltrst_falls w c) (reset platform_reset ∷ []) []) (c ∷ [])

-- .. and of a run: "that rule holds for runs with the same such packets" (02, Q-1)
unfoldable pub remains : Channel → World → List Call → List Call
remains x w [] = []
remains x w (c ∷ cs) = remaining x w c ++ remains x (step w c).next cs

-- ---- the one thing that the others see of the wires

-- a write that would leave channel 1 on with operating count 1 "while an edge waits" (02, Q-4): SET_CONFIGURATION of 020h, bit 0 (enable) of the value
-- being 1 and bits 21:16 (the count less one) 0
abbrev pub writes_against : State → List ℕ → Bool
writes_against s b =
    eqb (byte b 0) 0x22 && (eqb (register_at b) 0x020
    && (eqb (bits 0 0 (register_value b)) 1 && (eqb (bits 21 16 (register_value b)) 0 && some_line s.wires.lines.edges)))

-- .. of any call (02, Q-4)
abbrev pub against_edge : State → Call → Bool
against_edge s (reset r) = false
against_edge s (exchange command reply) = writes_against s command
against_edge s (board k o) = false
against_edge s (short state c) = false
against_edge s (lend write read) = false

-- .. that was refused: "The operating count may not be lowered to 1 while an edge waits (number 2)" (02, Q-4); such bytes that are no command by their
-- length or CRC, or come with too short stores, have another number
abbrev pub edge_refuses : World → Call → Bool
edge_refuses w c = eqb (step w c).number 2 && against_edge w.state c

-- "The wire-independence rule then holds for runs without such a refused write" (02, Q-4): asked where x is the wires; two runs that differ in another
-- channel have the same wires, and so the same such writes
abbrev pub Unhindered : Channel → World → List Call → Type 0
Unhindered x w cs = same x wires ≡ true → without edge_refuses w cs ≡ true

-- ---- what a call shows

-- a reply "but for [its] status bit[s] and the CRC byte": the last three bytes are status, low byte first, and CRC; the status as one number
abbrev pub reply_but : Channel → List ℕ → List ℕ
reply_but x reply =
    pick (eqb (length reply) 0) []
    (take (length reply - 3) reply ++ (clear x (get_or reply (length reply - 3) 0 + 256 * get_or reply (length reply - 2) 0) ∷ []))

-- the number, the value (a reply's length, a wire's value), a report, the reply ("the other channels' replies", "their stores and refusals", 02, Q-14)
pub record Seen : Type 0 where
  pub number : ℕ
  pub value : ℕ
  pub report : List ℕ
  pub reply : List ℕ

-- .. of an outcome, its reply "but for that channel's status bits and the CRC" (02, Q-14)
unfoldable pub seen : Channel → Outcome → Seen
seen x o = record { number = o.number; value = o.value; report = o.report; reply = reply_but x o.reply }

-- what the calls of a run show, x's own apart ("give each peripheral command the same reply", 01, Wires: here every call that is not x's); a packet that
-- counts "as a platform reset" (02, Q-1) shows what such a reset shows there, its number
unfoldable pub seeing : Channel → World → List Call → List Seen
seeing x w [] = []
seeing x w (c ∷ cs) = map (λ (d : Call). seen x (step w d)) (remaining x w c) ++ seeing x (step w c).next cs

-- "the other channels' replies are equal, .. and their stores and refusals are equal" (02, Q-14)
pub record RunsAlike (x : Channel) (Same : World → World → Type 0) (w v : World) (cs ds : List Call) : Type 0 where
  pub calls : seeing x w cs ≡ seeing x v ds
  pub after : Same (run w cs) (run v ds)

-- ---- the statement

-- of "equal sound starts" (01, Wires) no more is asked than equal registers and equal parts of the other channels
pub record StatesAlike (x : Channel) (s t : State) : Type 0 where
  pub config : s.config ≡ t.config
  pub parts : (y : Channel) → same x y ≡ false → part y s ≡ part y t

-- alike but for x. Of x's own stores only this is asked: they are long enough for an exchange (10) in both worlds, or in neither
-- ("equal stores long enough", 01, Wires; docs/DECISIONS.md, 32)
pub record Alike (x : Channel) (w v : World) : Type 0 where
  pub state : StatesAlike x w.state v.state
  pub stores : (y : Channel) → same x y ≡ false → stores_of y w.write w.read ≡ stores_of y v.write v.read
  pub room : (reply : List ℕ) → short_stores reply w ≡ short_stores reply v

-- "State the wire-independence rule for every pair of the four channels" (02, Q-14), of the two that there are. Both runs are to be without a write that an
-- edge refuses (02, Q-4): a run against the same run without its wire calls fails from a start in which an edge waits, since nothing sends it there, and the
-- write of operating count 1 that the first accepts behind its GET_VWIRE the second refuses
abbrev pub NoneTells : Type 0
NoneTells =
    (x : Channel) (w v : World) (cs ds : List Call) → Alike x w v → Unhindered x w cs → Unhindered x v ds → remains x w cs ≡ remains x v ds
    → RunsAlike x (Alike x) w v cs ds

-- ---- P22, and its mirror

-- any two states that agree but for levels, marks, place and lines, sound or not, and stores of any length: neither is needed
-- ("equal sound starts, equal stores long enough", 01, Wires)
pub record SameButWires (w v : World) : Type 0 where
  pub state : StatesAlike wires w.state v.state
  pub write : w.write ≡ v.write
  pub read : w.read ≡ v.read

-- "Wire traffic and channel 0: two runs .. give each peripheral command the same reply but for status bit 6 and the CRC byte" (01, Wires), "for runs with the
-- same such packets" (02, Q-1): a packet of one run may stand against a packet of other bytes or the board's platform reset of the other; and "for runs
-- without such a refused write" (02, Q-4), in both
abbrev pub WiresApart : Type 0
WiresApart =
    (w v : World) (cs ds : List Call) → SameButWires w v → without edge_refuses w cs ≡ true → without edge_refuses v ds ≡ true
    → remains wires w cs ≡ remains wires v ds → RunsAlike wires SameButWires w v cs ds

-- any two that agree but for held write, request and serial, and stores of any bytes
-- (docs/DECISIONS.md, 32: the stores differ with channel 0; 02, Q-14: "equal stores long enough")
pub record SameButPeripheral (w v : World) : Type 0 where
  pub state : StatesAlike peripheral w.state v.state
  pub room : (reply : List ℕ) → short_stores reply w ≡ short_stores reply v

-- the rule the other way round: "One argument should serve all pairs" (02, Q-14)
abbrev pub PeripheralApart : Type 0
PeripheralApart =
    (w v : World) (cs ds : List Call) → SameButPeripheral w v → others peripheral cs ≡ others peripheral ds → RunsAlike peripheral SameButPeripheral w v cs ds
