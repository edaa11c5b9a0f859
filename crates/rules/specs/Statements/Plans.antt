-- The plan of an exchange by cases: the decoder gave no command, the command shows and changes nothing, its channel acted, the
-- configuration was written or its value is forbidden or hindered by an edge, PLTRST# went low, or register 008h was reset.
use Rattle.std.specs.Prelude.{ℕ, ◌≤◌, true, false, List, ◌≡◌}
use Rattle.registers.specs.Registers.{crc_checked, read_at_value, forbidden_at, write_at}
use Rattle.registers.specs.declared.Config.{Config}
use Rattle.command.specs.Decode.{admit}
use Rattle.command.specs.declared.Command as C₀
use Rattle.command.specs.declared.Command.TheVariants as C
use Rattle.state.specs.State.{State}
use Rattle.rules.specs.Rules.Channel.{Channel, peripheral, wires, Part, Command, Act, Board, Change, next_of, part, put, act_of, reset_follows}
use Rattle.rules.specs.Rules.Lift.{lift, silent, show, non_fatal, accept_then, quietly}
use Rattle.rules.specs.Rules.Exchange as E
use Rattle.rules.specs.Rules.Exchange.{channels_of, reconfigured, hindered, reset008h, then_reset}
use Rattle.rules.specs.Statements.Peripheral as P
use Rattle.rules.specs.Statements.Wires as W
use Rattle.rules.specs.declared.Body.{Body}
use Rattle.rules.specs.declared.Body.TheVariants as B
use Rattle.rules.specs.Rules.Plan.{Plan}
use Rattle.std.specs.Prelude.{Ok, Err}
use Rattle.command.specs.declared.Refusal.{Refusal}
use Rattle.command.specs.Numbers.{number_of}

-- ---- a channel's law, by channel

-- what a command of it may do: 0, "as the rules say", or 1 (01, Replies and refusals)
abbrev pub Did : (k : Channel) → Config → Part k → Act k → Change k → Type 0
Did peripheral = P.Did
Did wires = W.Did

-- .. and what a call of the board: 0, or "their own from 20 up" (01, Replies and refusals)
abbrev pub Settled : (k : Channel) → Config → Part k → Board k → Change k → Type 0
Settled peripheral c p o x = P.Settled p o x
Settled wires c p o x = W.Settled c p o x

-- a channel's command among all commands ("a decoded command is one of a few kinds", 01, Commands)
abbrev pub command_of : (k : Channel) → Command k → C₀.Command
command_of peripheral o = C.Peripheral o
command_of wires o = C.Wires o

-- the decoder gave this command, and its CRC was good or not checked ("checked only while register 008h bit 31 is 1", 01, Commands)
abbrev pub Admits : State → List ℕ → C₀.Command → Type 0
Admits s b o = admit (channels_of s.config) (crc_checked s.config.r008) b ≡ Ok o

-- GET_STATUS and GET_CONFIGURATION: accepted, and nothing changes
-- ("All other replies show the status after the command"; "Other addresses read 0", 01, Registers and status)
pub data Shows (s : State) (b : List ℕ) : Body → Type 0 where
  status : Admits s b C.GetStatus → Shows s b B.Nothing
  register : (a : ℕ) → Admits s b (C.GetConfiguration a) → Shows s b (B.Word (read_at_value s.config a))

-- stores too short (10), no sound state (11), or the decoder gave no command (12 to 16) ("none; unchanged", 01, Replies and refusals)
pub record Silent (n : ℕ) : Type 0 where
  pub least : 10 ≤ n
  pub most : n ≤ 16

-- the decoder's refusal ("empty (12), 13, 14, a missing header byte needed next (12) or 15, exact length (12), 16", 01, Replies and refusals)
pub record Refuses (s : State) (b : List ℕ) (n : ℕ) : Type 0 where
  pub refusal : Refusal
  pub given : admit (channels_of s.config) (crc_checked s.config.r008) b ≡ Err refusal
  pub number : n ≡ number_of refusal
  pub least : 12 ≤ n
  pub most : n ≤ 16

-- turned: "A decode that gives no command ends the exchange at once"; forbids: 2, "forbidden configuration value" (01, Replies and refusals); hinders:
-- "The operating count may not be lowered to 1 while an edge waits (number 2)" (02, Q-4); configures: "A write takes effect after its own reply" (01,
-- Registers and status); lowers: "the platform reset follows after that reply" (02, Q-1); clears: RESET, "resets register 008h and nothing else" (01, Commands)
pub data Planned (s : State) (b : List ℕ) : Plan → Type 0 where
  turned : (n : ℕ) → Refuses s b n → Planned s b (silent n s)
  shows : {body : Body} → Shows s b body → Planned s b (show body s)
  acts : (k : Channel) (o : Command k) (x : Change k) → Admits s b (command_of k o) → Did k s.config (part k s) (act_of k s.config o b) x
      → reset_follows k (part k s) (act_of k s.config o b) (next_of k x) ≡ false → Planned s b (lift k s x)
  lowers : (o : Command wires) (x : Change wires) → Admits s b (command_of wires o) → W.Lowers s.config s.wires (act_of wires s.config o b) x
      → Planned s b (then_reset (put wires x.next s))
  forbids : (a v : ℕ) → Admits s b (C.SetConfiguration a v) → forbidden_at a v ≡ true → Planned s b (non_fatal s)
  hinders : (a v : ℕ) → Admits s b (C.SetConfiguration a v) → forbidden_at a v ≡ false → hindered s a v ≡ true → Planned s b (non_fatal s)
  configures : (a v : ℕ) → Admits s b (C.SetConfiguration a v) → forbidden_at a v ≡ false → hindered s a v ≡ false
      → Planned s b (accept_then s (reconfigured s (write_at s.config a v)))
  clears : Admits s b C.Reset → Planned s b (quietly (reset008h s))

-- so of every exchange, "the whole command phase of one Chip Select# assertion" (01, What the engine covers)
abbrev pub Plans : Type 0
Plans = (s : State) (b : List ℕ) → Planned s b (E.exchange s b)
