-- The eleven calls as the C boundary has them: numbers 10 and 11 first, the state as bytes, the word's bits 7:0 the number and 31:8 the value.
use Rattle.std.specs.Prelude.{ℕ, ◌+◌, ◌*◌, not, List, ltb, length}
use Rattle.base.specs.Pick.{pick}
use Rattle.base.specs.Bytes.{over}
use Rattle.state.specs.Fresh.{fresh_state}
use Rattle.state.specs.State.{State}
use Rattle.state.specs.Layout.{state_length, packed, unpacked, holds}
use Rattle.rules.specs.Rules.Numbers.{store_too_short, state_not_sound}
use Rattle.rules.specs.Rules.Reset.{Reset, espi_reset, platform_reset}
use Rattle.rules.specs.Rules.Peripheral as P
use Rattle.rules.specs.Rules.Wires as W
use Rattle.rules.specs.Rules.Channel.{peripheral, wires}
use Rattle.rules.specs.Rules.Lift as L
use Rattle.rules.specs.Rules.Exchange as E
use Rattle.rules.specs.Rules.Reply.{reply_bytes, kept_bytes}
use Rattle.rules.specs.Rules.Step.{reply_length, write_length, read_length, look_length, take_length}
use Rattle.rules.specs.Rules.Plan.{Plan}

-- number in bits 7:0, value in bits 31:8: "through plain numbers and byte slices" (01, What the engine covers)
abbrev pub word : ℕ → ℕ → ℕ
word number value = number + 256 * value

-- what a call leaves: its word and the lent slices that it may write ("each byte of each lent store", 01, What each contract must settle)
pub record Done : Type 0 where
  pub word : ℕ
  pub state : List ℕ

-- an exchange, which "uses all three": it reads the read store, and may write the others (01, What the engine covers)
pub record Exchanged : Type 0 where
  pub word : ℕ
  pub state : List ℕ
  pub reply : List ℕ
  pub write : List ℕ

-- an answer and a take: the read store, or the report (01, What the engine covers: "an answer the read store")
pub record Stored : Type 0 where
  pub word : ℕ
  pub state : List ℕ
  pub store : List ℕ

-- a look: the report; it "changes nothing" (01, Requests, answers, pieces)
pub record Looked : Type 0 where
  pub word : ℕ
  pub report : List ℕ

-- the outcome of a start, a reset and a set wire, part by part ("result, state", 01, What each contract must settle)
abbrev pub done : ℕ → List ℕ → Done
done n st = record { word = n; state = st }

-- of an exchange (01, What each contract must settle)
abbrev pub exchanged : ℕ → List ℕ → List ℕ → List ℕ → Exchanged
exchanged n st reply write = record { word = n; state = st; reply = reply; write = write }

-- of an answer and a take (01, What each contract must settle)
abbrev pub stored : ℕ → List ℕ → List ℕ → Stored
stored n st store = record { word = n; state = st; store = store }

-- of a look (01, What each contract must settle)
abbrev pub looked : ℕ → List ℕ → Looked
looked n report = record { word = n; report = report }

-- the state's bytes after a call; those past its length stay: "bytes past it neither read nor written" (01, What the engine covers)
abbrev pub kept : State → List ℕ → List ℕ
kept s st = over (packed s) st

-- ---- start and resets

-- "Start takes no state and gives the fresh one" (01, What the engine covers); 10 is its one refusal (docs/DECISIONS.md, 16)
unfoldable pub start_call : List ℕ → Done
start_call st = pick (ltb (length st) state_length) (done store_too_short st) (done 0 (kept fresh_state st))

-- "Board calls: 10, 11, then their own": a reset has none (01, Replies and refusals)
unfoldable pub reset_call : Reset → List ℕ → Done
reset_call r st =
    pick (ltb (length st) state_length) (done store_too_short st)
    (pick (not (holds st)) (done state_not_sound st)
    (done 0 (kept (E.was_reset r (unpacked st)) st)))

-- the board side's "eSPI reset" (01, What the engine covers)
unfoldable pub espi_reset_call : List ℕ → Done
espi_reset_call st = reset_call espi_reset st

-- the board side's "platform reset" (01, What the engine covers)
unfoldable pub platform_reset_call : List ℕ → Done
platform_reset_call st = reset_call platform_reset st

-- ---- the exchange

-- a plan carried out: the reply's bytes over the lent reply, the data over the write store; "Store bytes that no rule writes are unchanged"
-- (01, Replies and refusals)
unfoldable pub exchange_planned : Plan → (st command reply write read : List ℕ) → Exchanged
exchange_planned p st command reply write read =
    let r = reply_bytes p.reply (unpacked st).wires read in
    exchanged (word p.number (length r)) (kept p.next st) (over r reply) (over (kept_bytes p.kept command) write)

-- "in this order: 10, 11, empty (12)" and on: 10 for the state and all three stores, then 11, then the exchange of the state (01, Replies and refusals)
unfoldable pub exchange_call : (st command reply write read : List ℕ) → Exchanged
exchange_call st command reply write read =
    pick (ltb (length st) state_length) (exchanged store_too_short st reply write)
    (pick (ltb (length reply) reply_length) (exchanged store_too_short st reply write)
    (pick (ltb (length write) write_length) (exchanged store_too_short st reply write)
    (pick (ltb (length read) read_length) (exchanged store_too_short st reply write)
    (pick (not (holds st)) (exchanged state_not_sound st reply write)
    (exchange_planned (E.exchange (unpacked st) command) st command reply write read)))))

-- ---- the board's calls

-- "look at the request" (01, What the engine covers): 10 for the state and the report (docs/DECISIONS.md, 14), 11, then 23
unfoldable pub look_call : (st report : List ℕ) → Looked
look_call st report =
    pick (ltb (length st) state_length) (looked store_too_short report)
    (pick (ltb (length report) look_length) (looked store_too_short report)
    (pick (not (holds st)) (looked state_not_sound report)
    (looked (P.look_number (unpacked st).peripheral.request)
    (over (P.look_report (unpacked st).peripheral.request (unpacked st).peripheral.serial) report))))

-- "answer a request": 10, for "an answer the read store", 11, then 20 and 21 (01, What the engine covers; Replies and refusals)
unfoldable pub answer_call : (st read : List ℕ) (serial success : ℕ) (bytes : List ℕ) → Stored
answer_call st read serial success bytes =
    pick (ltb (length st) state_length) (stored store_too_short st read)
    (pick (ltb (length read) read_length) (stored store_too_short st read)
    (pick (not (holds st)) (stored state_not_sound st read)
    (let p = L.settled peripheral (unpacked st) (P.answer serial success bytes) in
    stored p.number (kept p.next st) (over (kept_bytes p.kept bytes) read))))

-- "take a write": 10, for "a take the write store" (01, What the engine covers; docs/DECISIONS.md, 15) and the report, 11, then 23; the store stays
unfoldable pub take_write_call : (st write report : List ℕ) → Stored
take_write_call st write report =
    pick (ltb (length st) state_length) (stored store_too_short st report)
    (pick (ltb (length write) write_length) (stored store_too_short st report)
    (pick (ltb (length report) take_length) (stored store_too_short st report)
    (pick (not (holds st)) (stored state_not_sound st report)
    (let p = L.settled peripheral (unpacked st) (P.take_write report) in
    stored p.number (kept p.next st) (over (P.take_report (unpacked st).peripheral.write) report)))))

-- "set a wire": 10, 11, then 22 (01, What the engine covers; Replies and refusals)
unfoldable pub set_wire_call : (st : List ℕ) (index bit value : ℕ) → Done
set_wire_call st index bit value =
    pick (ltb (length st) state_length) (done store_too_short st)
    (pick (not (holds st)) (done state_not_sound st)
    (let p = L.settled wires (unpacked st) (W.set_wire index bit value) in
    done p.number (kept p.next st)))

-- "read a wire": 10, 11, then 22; its level is the value (01, What the engine covers; Replies and refusals)
unfoldable pub read_wire_call : (st : List ℕ) (index bit : ℕ) → ℕ
read_wire_call st index bit =
    pick (ltb (length st) state_length) store_too_short
    (pick (not (holds st)) state_not_sound
    (word (W.read_number index bit) (W.read_value (unpacked st).wires index bit)))

-- "The board raises and lowers a line": 10, 11, then 22 and 24 (02, Q-4)
unfoldable pub set_line_call : (st : List ℕ) (line level : ℕ) → Done
set_line_call st line level =
    pick (ltb (length st) state_length) (done store_too_short st)
    (pick (not (holds st)) (done state_not_sound st)
    (let p = L.settled wires (unpacked st) (W.set_line line level) in
    done p.number (kept p.next st)))

-- "or asks for an edge": 10, 11, then 22 and 24 (02, Q-4)
unfoldable pub pulse_line_call : (st : List ℕ) (line : ℕ) → Done
pulse_line_call st line =
    pick (ltb (length st) state_length) (done store_too_short st)
    (pick (not (holds st)) (done state_not_sound st)
    (let p = L.settled wires (unpacked st) (W.pulse_line line) in
    done p.number (kept p.next st)))
