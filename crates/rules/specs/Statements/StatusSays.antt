-- P9. The status word is the queues: no bit stands or falls by itself (01, Registers and status: "Status bits"). In a sound state, with stores
-- long enough and a CRC good or unchecked, each bit says what the next command gets.
use Rattle.std.specs.Prelude.{ℕ, ◌+◌, ◌*◌, List, [], ◌≢◌, ◌≡◌}
use Rattle.base.specs.Bytes.{bit}
use Rattle.state.specs.Status.{status}
use Rattle.state.specs.Sound.{Sound}
use Rattle.rules.specs.Rules.Channel.{Channel, peripheral, wires}
use Rattle.rules.specs.Rules.Step.{World, exchange, step}
use Rattle.rules.specs.Statements.Requests.{status_in}
use Rattle.rules.specs.Statements.Status.{LongEnough, status_bit, ShowsAvail}
use Rattle.rules.specs.Statements.Peripheral.Status as P
use Rattle.rules.specs.Statements.Wires.Rows.{some_pending}
use Rattle.rules.specs.Statements.Shape.{state_shown}

module _ (w : World) (lent : List ℕ) where
  -- "6 VWIRE_AVAIL (a group is pending)" (01, Registers and status), or a line waits (02, Q-4), channel 1 on or off; and so of the next GET_VWIRE
  pub record WireBit : Type 0 where
    pub pending : status_bit w 6 ≡ bit (some_pending w.state.wires)
    pub gets : ShowsAvail w lent 6 0x05

  -- each channel's (01, Registers and status: "Status bits")
  abbrev pub BitsOf : Channel → Type 0
  BitsOf peripheral = P.Bits w lent
  BitsOf wires = WireBit

  -- the whole word: "Status bits: .. the rest 0" (01, Registers and status)
  pub record StatusBits : Type 0 where
    -- "2 VWIRE_FREE (always 1) .. the rest 0"
    pub word : status w.state ≡ status_bit w 0 + 2 * status_bit w 1 + 4 + 16 * status_bit w 4 + 64 * status_bit w 6
    pub of_channel_lem : (k : Channel) → BitsOf k

-- "whose .. status are the old ones. All other replies show the status after the command" (01, Registers and status), "which shows the status before it"
-- (02, Q-1); an error changes no state
abbrev pub ShowsStatus : World → List ℕ → Type 0
ShowsStatus w reply =
    (b : List ℕ) → (step w (exchange b reply)).reply ≢ []
    → status_in (step w (exchange b reply)).reply ≡ status (state_shown b w.state (step w (exchange b reply)).next.state)

-- "Status bits" in each state, and "All other replies show the status after the command" (01, Registers and status)
pub record StatusSays : Type 0 where
  pub bits : (w : World) (reply : List ℕ) → Sound w.state → LongEnough w reply → StatusBits w reply
  pub shown : (w : World) (reply : List ℕ) → ShowsStatus w reply
