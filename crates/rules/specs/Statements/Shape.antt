-- P8. Which numbers have a reply, and its shape (01, Replies and refusals: "Reply: response byte .., body, status low byte first, CRC over
-- all before it").
use Rattle.std.specs.Prelude.{ℕ, zero, suc, ◌+◌, ◌*◌, ◌/◌, ◌%◌, ◌≤◌, Bool, false, ◌||◌, List, [], ◌∷◌, ◌++◌, ◌≢◌, ◌≡◌, eqb, length}
use Rattle.base.specs.Pick.{pick}
use Rattle.crc.specs.Crc.{crc}
use Rattle.state.specs.Status.{status}
use Rattle.state.specs.State.{State}
use Rattle.state.specs.Sound.{Sound}
use Rattle.rules.specs.Statements.Fields.{byte, is_non_posted}
use Rattle.rules.specs.Statements.Events.{lowers_pltrst}
use Rattle.rules.specs.Statements.Refusals.{is_exchange}
use Rattle.rules.specs.Rules.Step.{World, Call, exchange, Outcome, step, reply_length}

-- "CRC over all before it" (01, Replies and refusals)
abbrev pub with_crc : List ℕ → List ℕ
with_crc m = m ++ (crc m ∷ [])

-- "Reply: response byte .., body, status low byte first, CRC" (01, Replies and refusals)
abbrev pub reply_of : ℕ → List ℕ → ℕ → List ℕ
reply_of code body word = with_crc ((code ∷ body) ++ (word % 256 ∷ word / 256 % 256 ∷ []))

-- "ACCEPT 08h, DEFER 01h": "Accepting it replies DEFER" (01, Replies and refusals; Requests, answers, pieces)
abbrev pub accept_code : ℕ → ℕ
accept_code op = pick (is_non_posted op) 0x01 0x08

-- the length of the body by its command: a completion's 3-byte header says how many data bytes follow, a wire packet's first byte the count
-- of groups less one, GET_CONFIGURATION has a register, all others nothing (01, Replies and refusals: "The body of a completion"; 004, 3.7 and 4.2.2)
abbrev pub body_length : ℕ → List ℕ → ℕ
body_length op body =
    pick (eqb op 0x01) (3 + (byte body 1 % 16 * 256 + byte body 2))
    (pick (eqb op 0x05) (1 + 2 * (byte body 0 % 64 + 1))
    (pick (eqb op 0x21) 4
    0))

-- what comes after the reply: "A write takes effect after its own reply" (01, Registers and status), "the platform reset follows after that reply" (02, Q-1)
abbrev pub effect_follows : State → List ℕ → Bool
effect_follows s b = eqb (byte b 0) 0x22 || lowers_pltrst s b

-- then a reply shows the status before that, "the old ones", "the status before it", and it is the one before the command: a packet's own wires have no
-- bit in it. "All other replies show the status after the command" (01, Registers and status; 02, Q-1)
abbrev pub state_shown : List ℕ → State → State → State
state_shown b before after = pick (effect_follows before b) before after

-- the reply of an accepted command: 0, "as the rules say" (01, Replies and refusals)
pub record Replied (op : ℕ) (shown : State) (reply : List ℕ) : Type 0 where
  pub body : List ℕ
  pub bytes : reply ≡ reply_of (accept_code op) body (status shown)
  pub of_kind : length body ≡ body_length op body
  pub small : length reply ≤ reply_length

-- "RESET 0 bytes" (01, Replies and refusals); every other has a reply
pub record AcceptedReply (op : ℕ) (shown : State) (reply : List ℕ) : Type 0 where
  pub reset : op ≡ 0xFF → reply ≡ []
  pub replied : op ≢ 0xFF → Replied op shown reply

-- by the number: 0, 1 "FATAL, 4 bytes", 2 "NON_FATAL, 4 bytes", all others none (01, Replies and refusals)
abbrev pub Shape : ℕ → ℕ → State → State → List ℕ → Type 0
Shape zero op before shown reply = AcceptedReply op shown reply
Shape (suc zero) op before shown reply = reply ≡ reply_of 0x03 [] (status before)
Shape (suc (suc zero)) op before shown reply = reply ≡ reply_of 0x02 [] (status before)
Shape (suc (suc (suc n))) op before shown reply = reply ≡ []

-- .. of an exchange's outcome, its opcode, the state before and the one that an accepted one shows (01, Replies and refusals)
abbrev pub shape_of : World → List ℕ → Outcome → Type 0
shape_of w b o = Shape o.number (byte b 0) w.state (state_shown b w.state o.next.state) o.reply

-- the value of an exchange is its reply's length (01, What each contract must settle: "result")
pub record ExchangeShape (w : World) (b : List ℕ) (o : Outcome) : Type 0 where
  pub shape : shape_of w b o
  pub value : o.value ≡ length o.reply

-- so every exchange of a sound state (demand 2: "the reply bytes, CRC, status word")
abbrev pub RepliesHaveShape : Type 0
RepliesHaveShape = (w : World) → Sound w.state → (b reply : List ℕ) → ExchangeShape w b (step w (exchange b reply))

-- no other call has a reply: a board call "yields only its number" or a report (01, Replies and refusals)
abbrev pub OnlyExchangesReply : Type 0
OnlyExchangesReply = (w : World) (c : Call) → is_exchange c ≡ false → (step w c).reply ≡ []
