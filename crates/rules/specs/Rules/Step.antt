-- One call on a state and the stores, and a run of calls. The state is handed over whole from call to call; docs/STATE.md has its bytes.
use Rattle.std.specs.Prelude.{ℕ, Bool, true, false, ◌&&◌, ◌||◌, List, [], ◌∷◌, ltb, length}
use Rattle.base.specs.Pick.{pick}
use Rattle.base.specs.Bytes.{over}
use Rattle.state.specs.State.{State}
use Rattle.state.specs.Layout.{state_length}
use Rattle.rules.specs.Rules.Numbers.{store_too_short}
use Rattle.rules.specs.Rules.Reset.{Reset}
use Rattle.rules.specs.Rules.Peripheral as P
use Rattle.rules.specs.Rules.Channel.{Channel, peripheral, wires, Board, part, report_of, value_of, given}
use Rattle.rules.specs.Rules.Lift as L
use Rattle.rules.specs.Rules.Exchange as E
use Rattle.rules.specs.Rules.Reply.{reply_bytes, kept_bytes}
use Rattle.rules.specs.Rules.Plan.{Plan}

-- "reply at least 263 bytes" (01, What the engine covers)
abbrev pub reply_length : ℕ
reply_length = 263

-- "write store at least 256" (01, What the engine covers)
abbrev pub write_length : ℕ
write_length = 256

-- "read store at least 4,096" (01, What the engine covers)
abbrev pub read_length : ℕ
read_length = 4096

-- a look's report: kind, address, length, serial and an I/O write's bytes, 19 (01, Requests, answers, pieces: "Looking yields"; docs/DECISIONS.md, 14)
abbrev pub look_length : ℕ
look_length = 19

-- a take's report: address and length, 10 (01, Requests, answers, pieces: "the take yields its address and length")
abbrev pub take_length : ℕ
take_length = 10

-- the state, and the write and read store as the last call left them: "each call gets the state that the last one left" (demand 3)
pub record World : Type 0 where
  pub state : State
  pub write : List ℕ
  pub read : List ℕ

-- a call with what it is lent besides (01, What the engine covers); `short`: this call was lent too short a state slice (docs/DECISIONS.md, 31);
-- `lend` is no call of the engine: from here on these are the write and read store (demand 3: "from the answer on the read store too")
pub data Call : Type 0 where
  reset : Reset → Call
  exchange : (command reply : List ℕ) → Call
  board : (k : Channel) → Board k → Call
  short : (state : List ℕ) → Call → Call
  lend : (write read : List ℕ) → Call

-- what a call gives: its number, its value (a reply's length, a wire's value), the reply's bytes, the report's bytes, the world after
-- ("result, state and each byte of each lent store", 01, What each contract must settle)
pub record Outcome : Type 0 where
  pub number : ℕ
  pub value : ℕ
  pub reply : List ℕ
  pub report : List ℕ
  pub next : World

-- the world with another state; a reset has "store bytes stay" (01, Requests, answers, pieces)
abbrev pub with_state : World → State → World
with_state w s = record { state = s; write = w.write; read = w.read }

-- "a refused one yields only its number" (01, Replies and refusals); the world of a call that is not refused may be another
abbrev pub only : ℕ → World → Outcome
only number w = record { number = number; value = 0; reply = []; report = []; next = w }

-- an exchange's plan carried out: its data is kept "at the start of the write store" (01, Requests, answers, pieces)
unfoldable pub performed : World → List ℕ → Plan → Outcome
performed w command p =
    record {
      number = p.number;
      value = length (reply_bytes p.reply w.state.wires w.read);
      reply = reply_bytes p.reply w.state.wires w.read;
      report = [];
      next = record { state = p.next; write = over (kept_bytes p.kept command) w.write; read = w.read };
    }

-- a board call's plan carried out: its data is kept at "the start of the read store" (01, Requests, answers, pieces)
unfoldable pub served : (k : Channel) → World → Board k → Plan → Outcome
served k w o p =
    record {
      number = p.number;
      value = value_of k (part k w.state) o;
      reply = [];
      report = report_of k (part k w.state) o;
      next = record { state = p.next; write = w.write; read = over (kept_bytes p.kept (given k o)) w.read };
    }

-- number 10 (01, Replies and refusals): "an exchange uses all three" (01, What the engine covers) ..
abbrev pub short_stores : List ℕ → World → Bool
short_stores reply w = ltb (length reply) reply_length || (ltb (length w.write) write_length || ltb (length w.read) read_length)

-- .. "an answer the read store, a take the write store" (01, What the engine covers); a report is lent too (docs/DECISIONS.md, 14)
abbrev pub short_peripheral : P.Board → World → Bool
short_peripheral (P.look report) w = ltb (length report) look_length
short_peripheral (P.answer serial success bytes) w = ltb (length w.read) read_length
short_peripheral (P.take_write report) w = ltb (length w.write) write_length || ltb (length report) take_length

-- .. a wire's call none: "A call needs only those it uses" (01, What the engine covers)
abbrev pub short_for : (k : Channel) → Board k → World → Bool
short_for peripheral o w = short_peripheral o w
short_for wires o w = false

-- one call of a sound state: "10, 11, then their own" (01, Replies and refusals); 10 for a state slice by `short`; 11 never, since "Every call keeps
-- it" (01, Sound state)
unfoldable pub step : World → Call → Outcome
step w (reset r) = only 0 (with_state w (E.was_reset r w.state))
step w (exchange command reply) = pick (short_stores reply w) (only store_too_short w) (performed w command (E.exchange w.state command))
step w (board k o) = pick (short_for k o w) (only store_too_short w) (served k w o (L.settled k w.state o))
step w (short state c) = only store_too_short w
step w (lend write read) = only 0 (record { state = w.state; write = write; read = read })

-- a run: "each call gets the state that the last one left" (demand 3)
unfoldable pub run : World → List Call → World
run w [] = w
run w (c ∷ cs) = run (step w c).next cs

-- ---- what a caller in C can hand over: a slice's bytes are below 256; `short` means what it says

-- "command bytes to reply bytes" (01, What the engine covers): each below 256 (docs/DECISIONS.md, 26)
unfoldable pub are_bytes : List ℕ → Bool
are_bytes [] = true
are_bytes (x ∷ xs) = ltb x 256 && are_bytes xs

-- one of the board side's calls or an exchange (01, What the engine covers), with its stores as they are
abbrev pub of_engine : Call → Bool
of_engine (reset r) = true
of_engine (exchange command reply) = true
of_engine (board k o) = true
of_engine (short state c) = false
of_engine (lend write read) = false

-- a caller in C can hand it over: bytes of the command, and in `short` a call of the engine on a slice that is short (docs/DECISIONS.md, 26 and 31)
abbrev pub handed_over : Call → Bool
handed_over (reset r) = true
handed_over (exchange command reply) = are_bytes command
handed_over (board k o) = true
handed_over (short state c) = of_engine c && ltb (length state) state_length
handed_over (lend write read) = true

-- so each call of a run (docs/DECISIONS.md, 26)
unfoldable pub all_handed : List Call → Bool
all_handed [] = true
all_handed (c ∷ cs) = handed_over c && all_handed cs
