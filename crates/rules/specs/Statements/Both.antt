-- The case law for two worlds of one configuration: a call is the same case in both, for what it is depends on the configuration, on its own bytes,
-- on whether its stores are long enough, and on whether an edge stands against it.
use Rattle.std.specs.Prelude.{ℕ, ◌≤◌, false, List, ◌≡◌}
use Rattle.registers.specs.Registers.{read_at_value, write_at}
use Rattle.command.specs.declared.Command.TheVariants as C
use Rattle.rules.specs.Rules.Reset.{Reset}
use Rattle.rules.specs.Rules.Channel.{Channel, Command, Board, act_of}
use Rattle.rules.specs.Rules.Lift as L
use Rattle.rules.specs.Rules.Lift.{show, non_fatal, accept_then, quietly}
use Rattle.rules.specs.Rules.Exchange as E
use Rattle.rules.specs.Rules.Exchange.{reconfigured, hindered, reset008h, was_reset}
use Rattle.rules.specs.Rules.Step as S
use Rattle.rules.specs.Rules.Step.{World, Call, Outcome, exchange, board, reset, short, lend, only, with_state, short_stores, short_for, performed, served}
use Rattle.rules.specs.Statements.Plans.{command_of, Admits}
use Rattle.rules.specs.declared.Body.TheVariants as B

-- a call's outcome, of each world

-- GET_CONFIGURATION ("GET_CONFIGURATION 21h", 01, Commands)
abbrev pub registered : List ℕ → ℕ → World → Outcome
registered b a w = performed w b (show (B.Word (read_at_value w.state.config a)) w.state)

-- a channel's command, in each world by its part (01, Commands: "a decoded command is one of a few kinds")
abbrev pub acted_on : (k : Channel) → Command k → List ℕ → World → Outcome
acted_on k o b w = performed w b (E.acted k w.state (act_of k w.state.config o b))

-- a call of the board ("The board side has calls of its own", 01, What the engine covers)
abbrev pub boarded : (k : Channel) → Board k → World → Outcome
boarded k o w = served k w o (L.settled k w.state o)

-- SET_CONFIGURATION ("A write takes effect after its own reply", 01, Registers and status)
abbrev pub written : List ℕ → ℕ → ℕ → World → Outcome
written b a n w = performed w b (accept_then w.state (reconfigured w.state (write_at w.state.config a n)))

-- a lend: from here on these stores ("written by nobody else", 01, Wires: both worlds get the same)
abbrev pub restored : (write read : List ℕ) → World → Outcome
restored write read w = only 0 (record { state = w.state; write = write; read = read })

-- "two runs with .. equal resets, equal calls and commands on channel 0, status and configuration" (01, Wires), call by call
pub data Both (w v : World) : Call → Outcome → Outcome → Type 0 where
  idle : {c : Call} (n : ℕ) → 10 ≤ n → Both w v c (only n w) (only n v)
  status : {b r : List ℕ} → Admits w.state b C.GetStatus
      → Both w v (exchange b r) (performed w b (show B.Nothing w.state)) (performed v b (show B.Nothing v.state))
  register : {b r : List ℕ} (a : ℕ) → Admits w.state b (C.GetConfiguration a) → Both w v (exchange b r) (registered b a w) (registered b a v)
  acted : {b r : List ℕ} (k : Channel) (o : Command k) → short_stores r w ≡ false → Admits w.state b (command_of k o)
      → Both w v (exchange b r) (acted_on k o b w) (acted_on k o b v)
  settles : (k : Channel) (o : Board k) → short_for k o w ≡ false → Both w v (board k o) (boarded k o w) (boarded k o v)
  forbidden : {b r : List ℕ} → Both w v (exchange b r) (performed w b (non_fatal w.state)) (performed v b (non_fatal v.state))
  configured : {b r : List ℕ} (a n : ℕ) → Admits w.state b (C.SetConfiguration a n) → Both w v (exchange b r) (written b a n w) (written b a n v)
  cleared : {b r : List ℕ} → Admits w.state b C.Reset
      → Both w v (exchange b r) (performed w b (quietly (reset008h w.state))) (performed v b (quietly (reset008h v.state)))
  wiped : {r : Reset} → Both w v (reset r) (only 0 (with_state w (was_reset r w.state))) (only 0 (with_state v (was_reset r v.state)))
  lent : {write read : List ℕ} → Both w v (lend write read) (restored write read w) (restored write read v)

-- the call's stores are long enough in both worlds, or in neither
-- (10, "a lent store too short", 01, Replies and refusals; "equal stores long enough", 01, Wires; docs/DECISIONS.md, 32)
abbrev pub SameRoom : World → World → Call → Type 0
SameRoom w v (reset r) = Unit {0}
SameRoom w v (exchange b r) = short_stores r w ≡ short_stores r v
SameRoom w v (board k o) = short_for k o w ≡ short_for k o v
SameRoom w v (short state c) = Unit {0}
SameRoom w v (lend write read) = Unit {0}

-- an edge stands against the write of an exchange in both worlds, or in neither: "The wire-independence rule then holds for runs without such a refused
-- write" (02, Q-4); asked where the stores are long enough, else the number is 10 and the write is not looked at
abbrev pub SameHindrance : World → World → Call → Type 0
SameHindrance w v (reset r) = Unit {0}
SameHindrance w v (exchange b r) =
    short_stores r w ≡ false → (a n : ℕ) → Admits w.state b (C.SetConfiguration a n) → hindered w.state a n ≡ hindered v.state a n
SameHindrance w v (board k o) = Unit {0}
SameHindrance w v (short state c) = Unit {0}
SameHindrance w v (lend write read) = Unit {0}

-- for the rule "Wire traffic and channel 0" (01, Wires) and its like of every channel: registers alike, a call is one case in both
abbrev pub BothCases : Type 0
BothCases =
    (w v : World) (c : Call) → w.state.config ≡ v.state.config → SameRoom w v c → SameHindrance w v c → Both w v c (S.step w c) (S.step v c)
