-- What a call does: the one case law for `step`. A call is idle, a channel acted on a command or served a call of the board, the
-- configuration was written, PLTRST# went low, all channels were reset, or stores were lent. The statements go by these cases and unfold no decision.
use Rattle.std.specs.Prelude.{ℕ, true, false, List, ◌≡◌}
use Rattle.registers.specs.Registers.{forbidden_at, write_at}
use Rattle.command.specs.declared.Command.TheVariants as C
use Rattle.rules.specs.Rules.Reset.{Reset}
use Rattle.rules.specs.Rules.Channel.{Channel, wires, Command, Board, Change, next_of, part, put, act_of, reset_follows}
use Rattle.rules.specs.Rules.Lift.{lift, show, non_fatal, accept_then, quietly}
use Rattle.rules.specs.Rules.Exchange as E
use Rattle.rules.specs.Rules.Exchange.{reconfigured, reset008h, was_reset, then_reset}
use Rattle.rules.specs.Rules.Step as S
use Rattle.rules.specs.Rules.Step.{World, Call, Outcome, exchange, board, reset, lend, only, with_state, short_for, performed, served}
use Rattle.rules.specs.Statements.Wires as W
pub use Rattle.rules.specs.Statements.Plans.{Did, Settled, command_of, Admits, Shows, status, register, Silent}
use Rattle.rules.specs.declared.Body.{Body}

-- ---- the cases

-- idle: "none; unchanged"; forbidden: 2, "forbidden configuration value" (01, Replies and refusals); hindered: "The operating count may not be lowered to
-- 1 while an edge waits (number 2)" (02, Q-4); configured: "A write takes effect after its own reply" (01, Registers and status); cleared: RESET, "It resets
-- register 008h and nothing else" (01, Commands); wiped: "start, eSPI reset, platform reset" (01, What the engine covers); lowered: "the platform reset
-- follows after that reply" (02, Q-1); acted and settles: the channel's own law
pub data Case (w : World) : Call → Outcome → Type 0 where
  idle : {c : Call} (n : ℕ) → Silent n → Case w c (only n w)
  shown : {b r : List ℕ} {body : Body} → Shows w.state b body → Case w (exchange b r) (performed w b (show body w.state))
  acted : {b r : List ℕ} (k : Channel) (o : Command k) (x : Change k) → Admits w.state b (command_of k o)
      → Did k w.state.config (part k w.state) (act_of k w.state.config o b) x
      → reset_follows k (part k w.state) (act_of k w.state.config o b) (next_of k x) ≡ false → Case w (exchange b r) (performed w b (lift k w.state x))
  settles : (k : Channel) (o : Board k) (x : Change k) → short_for k o w ≡ false
      → Settled k w.state.config (part k w.state) o x → Case w (board k o) (served k w o (lift k w.state x))
  forbidden : {b r : List ℕ} (a v : ℕ) → Admits w.state b (C.SetConfiguration a v) → forbidden_at a v ≡ true
      → Case w (exchange b r) (performed w b (non_fatal w.state))
  hindered : {b r : List ℕ} (a v : ℕ) → Admits w.state b (C.SetConfiguration a v) → forbidden_at a v ≡ false → E.hindered w.state a v ≡ true
      → Case w (exchange b r) (performed w b (non_fatal w.state))
  configured : {b r : List ℕ} (a v : ℕ) → Admits w.state b (C.SetConfiguration a v) → forbidden_at a v ≡ false → E.hindered w.state a v ≡ false
      → Case w (exchange b r) (performed w b (accept_then w.state (reconfigured w.state (write_at w.state.config a v))))
  lowered : {b r : List ℕ} (o : Command wires) (x : Change wires) → Admits w.state b (command_of wires o)
      → W.Lowers w.state.config w.state.wires (act_of wires w.state.config o b) x
      → Case w (exchange b r) (performed w b (then_reset (put wires x.next w.state)))
  cleared : {b r : List ℕ} → Admits w.state b C.Reset → Case w (exchange b r) (performed w b (quietly (reset008h w.state)))
  wiped : {r : Reset} → Case w (reset r) (only 0 (with_state w (was_reset r w.state)))
  lent : {write read : List ℕ} → Case w (lend write read) (only 0 (record { state = w.state; write = write; read = read }))

-- so of every call: "A command or board call that document 01 allows takes effect; no other does" (00, demand 2)
abbrev pub Cases : Type 0
Cases = (w : World) (c : Call) → Case w c (S.step w c)
