-- The eleven calls on the bytes that a caller in C keeps, and runs of them: each call gets the state bytes and the stores that the last one left.
use Rattle.std.specs.Prelude.{ℕ, List, [], ◌∷◌}
use Rattle.rules.specs.Rules.Reset as R
use Rattle.rules.specs.Rules.Reset.{Reset}
use Rattle.rules.specs.Rules.Peripheral as P
use Rattle.rules.specs.Rules.Wires as W
use Rattle.rules.specs.Rules.Channel.{Channel, peripheral, wires, Board}
use Rattle.rules.specs.Rules.Step.{Call, reset, exchange, board, short, lend}
use Rattle.rules.specs.Rules.Calls.{Done, Exchanged, Stored, Looked, start_call, espi_reset_call, platform_reset_call, exchange_call, look_call, answer_call}
use Rattle.rules.specs.Rules.Calls.{take_write_call, set_wire_call, set_line_call, pulse_line_call, read_wire_call}

-- the bytes that a caller in C keeps: "State bytes lent", write store, read store (01, What the engine covers)
pub record ByteWorld : Type 0 where
  pub state : List ℕ
  pub write : List ℕ
  pub read : List ℕ

-- the word, the reply store and the report as the call left them (none where none is lent), the bytes kept ("each byte of each lent store",
-- 01, What each contract must settle)
pub record ByteOutcome : Type 0 where
  pub word : ℕ
  pub reply : List ℕ
  pub report : List ℕ
  pub next : ByteWorld

-- after a start, a reset or a set wire: "A call needs only those it uses" (01, What the engine covers), so the stores stay
abbrev pub after_state : ByteWorld → Done → ByteOutcome
after_state v d = record { word = d.word; reply = []; report = []; next = record { state = d.state; write = v.write; read = v.read } }

-- after an exchange: reply and write store; the read store is read alone (01, What the engine covers: "an exchange uses all three")
abbrev pub after_exchange : ByteWorld → Exchanged → ByteOutcome
after_exchange v x = record { word = x.word; reply = x.reply; report = []; next = record { state = x.state; write = x.write; read = v.read } }

-- after a look: the report; it "changes nothing" (01, Requests, answers, pieces)
abbrev pub after_look : ByteWorld → Looked → ByteOutcome
after_look v x = record { word = x.word; reply = []; report = x.report; next = v }

-- an answer's store is the read store: "copies exactly L bytes to the start of the read store" (01, Requests, answers, pieces)
abbrev pub after_answer : ByteWorld → Stored → ByteOutcome
after_answer v x = record { word = x.word; reply = []; report = []; next = record { state = x.state; write = v.write; read = x.store } }

-- a take's is the report: "the take yields its address and length, .. and leaves the store" (01, Requests, answers, pieces)
abbrev pub after_take : ByteWorld → Stored → ByteOutcome
after_take v x = record { word = x.word; reply = []; report = x.store; next = record { state = x.state; write = v.write; read = v.read } }

-- after a read wire: a number and a value, nothing written (01, What the engine covers: "read a wire")
abbrev pub after_word : ByteWorld → ℕ → ByteOutcome
after_word v word = record { word = word; reply = []; report = []; next = v }

-- the board's calls, channel by channel: "look at the request, answer a request, take a write" (01, What the engine covers)
abbrev pub peripheral_bytes : ByteWorld → P.Board → ByteOutcome
peripheral_bytes v (P.look report) = after_look v (look_call v.state report)
peripheral_bytes v (P.answer serial success bytes) = after_answer v (answer_call v.state v.read serial success bytes)
peripheral_bytes v (P.take_write report) = after_take v (take_write_call v.state v.write report)

-- .. "set a wire, read a wire" (01, What the engine covers), "raises and lowers a line, or asks for an edge" (02, Q-4)
abbrev pub wires_bytes : ByteWorld → W.Board → ByteOutcome
wires_bytes v (W.set_wire index bit value) = after_state v (set_wire_call v.state index bit value)
wires_bytes v (W.read_wire index bit) = after_word v (read_wire_call v.state index bit)
wires_bytes v (W.set_line line level) = after_state v (set_line_call v.state line level)
wires_bytes v (W.pulse_line line) = after_state v (pulse_line_call v.state line)

-- .. by their channel (01, What the engine covers: "The board side has calls of its own")
abbrev pub board_bytes : (k : Channel) → ByteWorld → Board k → ByteOutcome
board_bytes peripheral v o = peripheral_bytes v o
board_bytes wires v o = wires_bytes v o

-- "start, eSPI reset, platform reset" (01, What the engine covers)
abbrev pub reset_bytes : Reset → List ℕ → Done
reset_bytes R.start st = start_call st
reset_bytes R.espi_reset st = espi_reset_call st
reset_bytes R.platform_reset st = platform_reset_call st

-- these state bytes were lent instead, "a lent store too short" (01, Replies and refusals; docs/DECISIONS.md, 31)
abbrev pub lent : ByteWorld → List ℕ → ByteWorld
lent v st = record { state = st; write = v.write; read = v.read }

-- and the caller's own are as they were (docs/DECISIONS.md, 31)
abbrev pub back : ByteWorld → ByteOutcome → ByteOutcome
back v x = record { word = x.word; reply = x.reply; report = x.report; next = record { state = v.state; write = x.next.write; read = x.next.read } }

-- one of the eleven calls: "The board firmware is in C and calls the exchange and these" (01, What the engine covers)
unfoldable pub byte_step_value : ByteWorld → Call → ByteOutcome
byte_step_value v (reset r) = after_state v (reset_bytes r v.state)
byte_step_value v (exchange command reply) = after_exchange v (exchange_call v.state command reply v.write v.read)
byte_step_value v (board k o) = board_bytes k v o
byte_step_value v (short state c) = back v (byte_step_value (lent v state) c)
byte_step_value v (lend write read) = after_word (record { state = v.state; write = write; read = read }) 0

-- a run: "each call gets the state that the last one left, and from the answer on the read store too" (demand 3)
unfoldable pub byte_run : ByteWorld → List Call → ByteWorld
byte_run v [] = v
byte_run v (c ∷ cs) = byte_run (byte_step_value v c).next cs
