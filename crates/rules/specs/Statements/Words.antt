-- The words of the statements over runs, in bytes and numbers, for every world and call: so for every call of every run.
use Rattle.std.specs.Prelude.{ℕ, ◌%◌, true, List, ◌≡◌}
use Rattle.registers.specs.declared.Config.{Config}
use Rattle.peripheral.specs.declared.Np.TheVariants.{Waiting}
use Rattle.peripheral.specs.declared.Request.{Request}
use Rattle.rules.specs.Rules.Reset.{Reset}
use Rattle.rules.specs.Rules.Channel.{Channel, peripheral, wires}
use Rattle.rules.specs.Rules.Step.{World, Call, reset, exchange, step}
use Rattle.rules.specs.Statements.Fields.{byte, is_non_posted, access_address, access_length, access_tag, request_kind, io_bytes, register_at, register_value}
use Rattle.rules.specs.Statements.Events.{enables_at, ends}
use Rattle.rules.specs.Statements.Requests.{asks, tells, gets, event, answers_with, held}
use Rattle.rules.specs.Statements.Requests as R
use Rattle.rules.specs.Statements.WireView.{reads_wire}

-- a GET_PC: "GET_PC 01h" (01, Commands)
pub data GetPc : Call → Type 0 where
  get_pc : {b r : List ℕ} → byte b 0 ≡ 0x01 → GetPc (exchange b r)

-- a non-posted request: "One non-posted request is held" (01, Requests, answers, pieces), "An I/O write is non-posted" (01, Commands)
pub data NonPosted : Call → Type 0 where
  non_posted : {b r : List ℕ} → is_non_posted (byte b 0) ≡ true → NonPosted (exchange b r)

-- "An answer names the serial" (01, Requests, answers, pieces)
pub data Answer : Call → Type 0 where
  answer : {serial success : ℕ} {d : List ℕ} → Answer (answers_with serial success d)

-- bit 0 of the channel's register ("bit 0 (enable)", 01, Registers and status)
abbrev pub enable_bit : Channel → Config → ℕ
enable_bit peripheral c = c.r010.value % 2
enable_bit wires c = c.r020.value % 2

-- PLTRST#, as the board reads it: bit 1 of group 3 (004, table 10; 01, What the engine covers: "read a wire")
abbrev pub pltrst_read : World → ℕ
pltrst_read w = (step w (reads_wire 3 1)).value

-- "a start, an eSPI reset, a platform reset or a disabling": SET_CONFIGURATION of that register, its bit 0 going from 1 to 0 (demand 3; 01); and a PUT_VWIRE
-- that "ends with PLTRST# low that was high before" (02, Q-1): the levels before and after the call
pub data Ending (k : Channel) (c : Config) (before after : ℕ) : Call → Type 0 where
  by_reset : {r : Reset} → Ending k c before after (reset r)
  by_write_lem : {b r : List ℕ} → byte b 0 ≡ 0x22 → enables_at k (register_at b) ≡ true → enable_bit k c ≡ 1 → register_value b % 2 ≡ 0
      → Ending k c before after (exchange b r)
  by_packet : {b r : List ℕ} → byte b 0 ≡ 0x04 → before ≡ 1 → after ≡ 0 → Ending k c before after (exchange b r)

-- each from the other, so that the words "accepted", "refused" and "answered" (00, demand 3) say no more and no less than bytes and numbers
abbrev pub Exactly : Type 0 → Type 0 → Type 0
Exactly A B = (A → B) × (B → A)

-- 0, "accepted or deferred" (01, Replies and refusals)
abbrev pub Accepted : World → Call → Type 0
Accepted w c = (step w c).number ≡ 0

-- a request as its command's bytes ask it
-- ("Looking yields the request's kind, address, length, serial and such bytes", "with its tag", 01, Requests, answers, pieces)
pub record AsksFor (b : List ℕ) (q : Request) : Type 0 where
  pub kind : q.kind ≡ request_kind (byte b 0)
  pub address : q.address ≡ access_address b
  pub length : q.length ≡ access_length b
  pub tag : q.tag ≡ access_tag b
  pub bytes : q.bytes ≡ io_bytes b

-- "One non-posted request is held" (01, Requests, answers, pieces): the one that its command asks
pub record HeldRequest (w : World) (b r : List ℕ) : Type 0 where
  pub request : Request
  pub waits : held (step w (exchange b r)).next ≡ Waiting request
  pub asks : AsksFor b request

-- what demand 3 speaks of: "accepted GET_PC commands", "a request accepted later", "answered by the device", "such an event" (00, demand 3)
pub record ByteWords : Type 0 where
  pub get : (w : World) (c : Call) → Exactly (event w c ≡ gets) (Accepted w c × GetPc c)
  pub ask : (w : World) (c : Call) → Exactly (event w c ≡ asks) (Accepted w c × NonPosted c)
  pub held : (w : World) (b r : List ℕ) → event w (exchange b r) ≡ asks → HeldRequest w b r
  pub tell : (w : World) (c : Call) → Exactly (event w c ≡ tells) (Accepted w c × Answer c)
  pub end : (w : World) (c : Call) → Exactly (event w c ≡ R.ends) (ends peripheral w c ≡ true)
  pub ends : (k : Channel) (w : World) (c : Call) → Exactly (ends k w c ≡ true)
      (Accepted w c × Ending k w.state.config (pltrst_read w) (pltrst_read (step w c).next) c)
