-- P5. "A refusal, silent or not, changes no state and no buffer, but for the four bytes of an error reply" (demand 1), and which bytes of a
-- lent store an accepted call leaves (01, Replies and refusals: "Store bytes that no rule writes are unchanged").
use Rattle.std.specs.Prelude.{ℕ, zero, suc, ◌/◌, ◌%◌, Bool, true, false, List, [], ◌∷◌, ◌++◌, ◌≢◌, ◌≡◌, eqb, length, drop, Option, Some, None}
use Rattle.base.specs.Pick.{pick}
use Rattle.crc.specs.Crc.{crc}
use Rattle.state.specs.Status.{status}
use Rattle.state.specs.State.{State}
use Rattle.state.specs.Layout.{state_length, unpacked}
use Rattle.rules.specs.Rules.Peripheral as P
use Rattle.rules.specs.Rules.Channel.{Channel, peripheral, wires, Board}
use Rattle.rules.specs.Rules.Step.{World, Call, reset, exchange, board, short, lend, Outcome, step, look_length, take_length}
use Rattle.rules.specs.Rules.Calls.{word, Exchanged, done, exchanged, stored, looked, start_call, espi_reset_call, platform_reset_call, exchange_call, look_call, answer_call, take_write_call, set_wire_call, read_wire_call, set_line_call, pulse_line_call}
use Rattle.rules.specs.declared.Kept.{Kept}
use Rattle.rules.specs.Statements.Fields.{byte, is_posted, access_length}

-- ---- refusals of `step`

-- 10 to 23: "none; unchanged"; "a refused one yields only its number"
pub record Quiet (w : World) (o : Outcome) : Type 0 where
  pub world : o.next ≡ w
  pub reply : o.reply ≡ []
  pub value : o.value ≡ 0
  pub report : o.report ≡ []

-- "status low byte first" (01, Replies and refusals)
abbrev pub status_bytes : State → List ℕ → List ℕ
status_bytes s rest = status s % 256 ∷ status s / 256 % 256 ∷ rest

-- "FATAL, 4 bytes", "NON_FATAL, 4 bytes": response byte, status low byte first, CRC over all before it
abbrev pub error_reply : ℕ → State → List ℕ
error_reply code s = code ∷ status_bytes s (crc (code ∷ status_bytes s []) ∷ [])

-- an exchange, "the whole command phase of one Chip Select# assertion" (01, What the engine covers)
abbrev pub is_exchange : Call → Bool
is_exchange (reset r) = false
is_exchange (exchange command reply) = true
is_exchange (board k o) = false
is_exchange (short state c) = false
is_exchange (lend write read) = false

-- 1 and 2, of an exchange alone: "otherwise unchanged"
pub record Error (code : ℕ) (w : World) (c : Call) (o : Outcome) : Type 0 where
  pub of_exchange : is_exchange c ≡ true
  pub world : o.next ≡ w
  pub reply : o.reply ≡ error_reply code w.state
  pub value : o.value ≡ 4
  pub report : o.report ≡ []

-- by the number: 0 is no refusal, 1 is FATAL (03h), 2 is NON_FATAL (02h), all others are quiet ("FATAL 03h", "NON_FATAL 02h", 01, Replies and refusals)
abbrev pub Refusal : ℕ → World → Call → Outcome → Type 0
Refusal zero w c o = Unit {0}
Refusal (suc zero) w c o = Error 0x03 w c o
Refusal (suc (suc zero)) w c o = Error 0x02 w c o
Refusal (suc (suc (suc n))) w c o = Quiet w o

-- "A refusal, silent or not, changes no state and no buffer, but for the four bytes of an error reply" (00, demand 1)
abbrev pub RefusalsChangeNothing : Type 0
RefusalsChangeNothing = (w : World) (c : Call) → Refusal (step w c).number w c (step w c)

-- ---- the frame of `step`

-- the data bytes of a posted write; no other command has any for the write store ("its data at the start of the write store", 01, Requests, answers, pieces)
abbrev pub posted_length : List ℕ → ℕ
posted_length b = pick (is_posted (byte b 0)) (access_length b) 0

-- of the write store, as many bytes at its start as the exchange's command posts, and none by another call
-- (of `StoresKept`; "its data at the start of the write store"; a take "leaves the store", 01, Requests, answers, pieces)
abbrev pub writes_at_most : Call → ℕ
writes_at_most (reset r) = 0
writes_at_most (exchange command reply) = posted_length command
writes_at_most (board k o) = 0
writes_at_most (short state c) = 0
writes_at_most (lend write read) = 0

-- of the read store, as many bytes at its start as the answer has (a failure has none), and none by another call
-- ("copies exactly L bytes to the start of the read store", "failure has 0", 01, Requests, answers, pieces)
abbrev pub answer_bytes : P.Board → ℕ
answer_bytes (P.look report) = 0
answer_bytes (P.answer serial success bytes) = pick (eqb success 0) 0 (length bytes)
answer_bytes (P.take_write report) = 0

-- .. by channel: "an answer the read store" (01, What the engine covers)
abbrev pub board_reads : (k : Channel) → Board k → ℕ
board_reads peripheral o = answer_bytes o
board_reads wires o = 0

-- .. of any call (01, What the engine covers: "A call needs only those it uses")
abbrev pub reads_at_most : Call → ℕ
reads_at_most (reset r) = 0
reads_at_most (exchange command reply) = 0
reads_at_most (board k o) = board_reads k o
reads_at_most (short state c) = 0
reads_at_most (lend write read) = 0

-- `lend` is no call of the engine ("Stores lent to a call", 01, What the engine covers)
abbrev pub is_lend : Call → Bool
is_lend (reset r) = false
is_lend (exchange command reply) = false
is_lend (board k o) = false
is_lend (short state c) = false
is_lend (lend write read) = true

-- as many bytes as are kept
-- ("its data at the start of the write store", "copies exactly L bytes to the start of the read store", 01, Requests, answers, pieces)
abbrev pub kept_count : Option Kept → ℕ
kept_count None = 0
kept_count (Some d) = d.count

-- "Store bytes that no rule writes are unchanged" (01, Replies and refusals)
pub record StoresKept (w : World) (c : Call) : Type 0 where
  pub write : drop (writes_at_most c) (step w c).next.write ≡ drop (writes_at_most c) w.write
  pub read : drop (reads_at_most c) (step w c).next.read ≡ drop (reads_at_most c) w.read

-- .. by any call of the engine, refused or not ("Store bytes that no rule writes", 01, Replies and refusals)
abbrev pub CallsKeepStores : Type 0
CallsKeepStores = (w : World) (c : Call) → is_lend c ≡ false → StoresKept w c

-- ---- the same of the eleven calls over lent bytes

-- a word's bits 7:0 ("through plain numbers", 01, What the engine covers)
abbrev pub number_of : ℕ → ℕ
number_of word = word % 256

-- by the number: the word is number and reply length, and every slice is as it was but for the four bytes
-- ("but for the four bytes of an error reply", 00, demand 1)
abbrev pub ExchangeRefusal : ℕ → (st reply write : List ℕ) → Exchanged → Type 0
ExchangeRefusal zero st reply write x = Unit {0}
ExchangeRefusal (suc zero) st reply write x = x ≡ exchanged (word 1 4) st (error_reply 0x03 (unpacked st) ++ drop 4 reply) write
ExchangeRefusal (suc (suc zero)) st reply write x = x ≡ exchanged (word 2 4) st (error_reply 0x02 (unpacked st) ++ drop 4 reply) write
ExchangeRefusal (suc (suc (suc n))) st reply write x = x ≡ exchanged (suc (suc (suc n))) st reply write

-- "A refusal, silent or not, changes no state and no buffer" (00, demand 1), of each lent slice; "a refused one yields only its
-- number" (01, Replies and refusals)
pub record CallsRefuse : Type 0 where
  pub exchange : (st command reply write read : List ℕ)
      → ExchangeRefusal (number_of (exchange_call st command reply write read).word) st reply write (exchange_call st command reply write read)
  pub start : (st : List ℕ) → number_of (start_call st).word ≢ 0 → start_call st ≡ done (number_of (start_call st).word) st
  pub espi_reset : (st : List ℕ) → number_of (espi_reset_call st).word ≢ 0 → espi_reset_call st ≡ done (number_of (espi_reset_call st).word) st
  pub platform_reset : (st : List ℕ) → number_of (platform_reset_call st).word ≢ 0 → platform_reset_call st ≡ done (number_of (platform_reset_call st).word) st
  pub look : (st report : List ℕ) → number_of (look_call st report).word ≢ 0 → look_call st report ≡ looked (number_of (look_call st report).word) report
  pub answer : (st read : List ℕ) (serial success : ℕ) (bytes : List ℕ)
      → number_of (answer_call st read serial success bytes).word ≢ 0
      → answer_call st read serial success bytes ≡ stored (number_of (answer_call st read serial success bytes).word) st read
  pub take_write : (st write report : List ℕ)
      → number_of (take_write_call st write report).word ≢ 0
      → take_write_call st write report ≡ stored (number_of (take_write_call st write report).word) st report
  pub set_wire : (st : List ℕ) (index bit value : ℕ)
      → number_of (set_wire_call st index bit value).word ≢ 0
      → set_wire_call st index bit value ≡ done (number_of (set_wire_call st index bit value).word) st
  pub read_wire : (st : List ℕ) (index bit : ℕ)
      → number_of (read_wire_call st index bit) ≢ 0 → read_wire_call st index bit ≡ number_of (read_wire_call st index bit)
  pub set_line : (st : List ℕ) (line level : ℕ)
      → number_of (set_line_call st line level).word ≢ 0 → set_line_call st line level ≡ done (number_of (set_line_call st line level).word) st
  pub pulse_line : (st : List ℕ) (line : ℕ)
      → number_of (pulse_line_call st line).word ≢ 0 → pulse_line_call st line ≡ done (number_of (pulse_line_call st line).word) st

-- past the state's length, the reply's, a report's and the data's, every byte is as it was, whatever the number
-- ("Store bytes that no rule writes are unchanged", 01, Replies and refusals; "with bytes past it neither read nor written", 01, What the engine covers)
pub record CallsKeepBytes : Type 0 where
  pub exchange_state : (st command reply write read : List ℕ) → drop state_length (exchange_call st command reply write read).state ≡ drop state_length st
  pub exchange_reply : (st command reply write read : List ℕ)
      → drop ((exchange_call st command reply write read).word / 256) (exchange_call st command reply write read).reply
      ≡ drop ((exchange_call st command reply write read).word / 256) reply
  pub exchange_write : (st command reply write read : List ℕ)
      → drop (posted_length command) (exchange_call st command reply write read).write ≡ drop (posted_length command) write
  pub start : (st : List ℕ) → drop state_length (start_call st).state ≡ drop state_length st
  pub espi_reset : (st : List ℕ) → drop state_length (espi_reset_call st).state ≡ drop state_length st
  pub platform_reset : (st : List ℕ) → drop state_length (platform_reset_call st).state ≡ drop state_length st
  pub look : (st report : List ℕ) → drop look_length (look_call st report).report ≡ drop look_length report
  pub answer_state : (st read : List ℕ) (serial success : ℕ) (bytes : List ℕ)
      → drop state_length (answer_call st read serial success bytes).state ≡ drop state_length st
  pub answer_read : (st read : List ℕ) (serial success : ℕ) (bytes : List ℕ)
      → drop (answer_bytes (P.answer serial success bytes)) (answer_call st read serial success bytes).store
      ≡ drop (answer_bytes (P.answer serial success bytes)) read
  pub take_state : (st write report : List ℕ) → drop state_length (take_write_call st write report).state ≡ drop state_length st
  pub take_report : (st write report : List ℕ) → drop take_length (take_write_call st write report).store ≡ drop take_length report
  pub set_wire : (st : List ℕ) (index bit value : ℕ) → drop state_length (set_wire_call st index bit value).state ≡ drop state_length st
  pub set_line : (st : List ℕ) (line level : ℕ) → drop state_length (set_line_call st line level).state ≡ drop state_length st
  pub pulse_line : (st : List ℕ) (line : ℕ) → drop state_length (pulse_line_call st line).state ≡ drop state_length st
