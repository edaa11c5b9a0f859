-- All that a call can do to channel 0's request, its serial and the read store, and what its reply shows of them, by the call's event.
-- The theorems over runs go by cases on it and look at no command again.
use Rattle.std.specs.Prelude.{ℕ, Bool, true, false, List, [], ◌∷◌, ◌++◌, ◌≡◌, length}
use Rattle.base.specs.Pick.{pick}
use Rattle.base.specs.Bytes.{over, bit}
use Rattle.peripheral.specs.Status.{np_free, pc_avail}
use Rattle.peripheral.specs.Upward.{upward, handed}
use Rattle.peripheral.specs.declared.Completion.{Completion}
use Rattle.peripheral.specs.declared.Np.{Np}
use Rattle.peripheral.specs.declared.Np.TheVariants.{Free, Waiting, Ready, Failed}
use Rattle.peripheral.specs.declared.Request.{Request}
use Rattle.peripheral.specs.Queues as F
use Rattle.state.specs.Status.{status}
use Rattle.rules.specs.Rules.Peripheral.{next_serial, succeeded, bytes_for}
use Rattle.rules.specs.Rules.Reply.{closed, header_bytes, data_bytes}
use Rattle.rules.specs.Rules.Step.{World, Call, exchange, lend, Outcome, step}
use Rattle.rules.specs.Statements.Reads.{request_in}
use Rattle.rules.specs.Statements.Requests.{Event, idle, asks, tells, gets, ends, lends, event, is_start, answers_with, held, serial_of, shows_bit}

-- the status of a held request: bit 1, NP_FREE, and bit 4, PC_AVAIL
-- ("1 NP_FREE (no request held)", "4 PC_AVAIL (a completion is ready)", 01, Registers and status)
pub record Shown (n : Np) (reply : List ℕ) : Type 0 where
  pub np : shows_bit 1 (bit (np_free n)) reply
  pub pc : shows_bit 4 (bit (pc_avail n)) reply

-- "Success", with no byte sent yet, or failure
abbrev pub answered_as : Request → Bool → Np
answered_as q true = Ready q 0
answered_as q false = Failed q

-- asked: "Accepting it replies DEFER"; told: "An answer names the serial"; sent: a completion, and "held .. until its last completion is sent"; dropped:
-- "Disabling channel 0, platform reset and eSPI reset drop held write, request and completions" (01, Requests, answers, pieces)
pub data Move (w : World) (c : Call) (o : Outcome) : Event → Type 0 where
  same : held o.next ≡ held w → serial_of o.next ≡ serial_of w → o.next.read ≡ w.read → Shown (held w) o.reply → Move w c o idle
  asked : (b r : List ℕ) → c ≡ exchange b r → held w ≡ Free → held o.next ≡ Waiting (request_in w.state.config b)
      → serial_of o.next ≡ next_serial (serial_of w) → o.next.read ≡ w.read
      → o.reply ≡ closed (0x01 ∷ []) (status o.next.state) → Shown (held o.next) o.reply → Move w c o asks
  told : (q : Request) (serial success : ℕ) (d : List ℕ) → c ≡ answers_with serial success d → held w ≡ Waiting q → serial ≡ serial_of w
      → length d ≡ bytes_for q (succeeded success) → held o.next ≡ answered_as q (succeeded success)
      → serial_of o.next ≡ serial_of w → o.next.read ≡ over d w.read → o.reply ≡ [] → Move w c o tells
  sent : (k : Completion) (ks : List Completion) → upward (held w) ≡ k ∷ ks → held o.next ≡ handed (held w)
      → serial_of o.next ≡ serial_of w → o.next.read ≡ w.read
      → o.reply ≡ closed (0x08 ∷ header_bytes k ++ data_bytes k w.read) (status o.next.state)
      → Shown (handed (held w)) o.reply → Move w c o gets
  lent : (write read : List ℕ) → c ≡ lend write read → held o.next ≡ held w → serial_of o.next ≡ serial_of w → o.next.read ≡ read
      → o.reply ≡ [] → Move w c o lends
  -- nothing is held, and only a start sets the serial; a disabling's own reply shows the status of before
  dropped : o.next.state.peripheral ≡ F.idle (pick (is_start c) 0 (serial_of w)) → o.next.read ≡ w.read → Shown (held w) o.reply → Move w c o ends

-- so of every call, for all that "Anything else may come between" (00, demand 3)
abbrev pub View : Type 0
View = (w : World) (c : Call) → Move w c (step w c) (event w c)
