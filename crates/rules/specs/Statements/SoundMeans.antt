-- "Sound state" (01, Wires, last paragraph) in propositions, a field for each clause; each channel has its own.
use Rattle.std.specs.Prelude.{ℕ, ◌+◌, ◌^◌, ◌<◌, false, ◌≡◌}
use Rattle.registers.specs.Registers.{bits, forbidden008, forbidden010, write008, write010, write020, fresh008, fresh010, fresh020}
use Rattle.registers.specs.declared.Config.{Config}
use Rattle.state.specs.State.{State}
use Rattle.rules.specs.Rules.Channel.{Channel, peripheral, wires, Part, part, on}
use Rattle.rules.specs.Statements.Peripheral.SoundMeans as P
use Rattle.rules.specs.Statements.Wires.SoundMeans as W

-- ---- "registers hold reachable values": what a write that is not forbidden makes of the reset value

-- "registers hold reachable values" (01, Sound state; docs/DECISIONS.md, 41); of 020h no value is forbidden (02, Q-5)
pub record Reached (c : Config) : Type 0 where
  pub r008 : (v : ℕ) × (v < 2 ^ 32) × (forbidden008 v ≡ false) × (c.r008 ≡ write008 fresh008 v)
  pub r010 : (v : ℕ) × (v < 2 ^ 32) × (forbidden010 v ≡ false) × (c.r010 ≡ write010 fresh010 v)
  pub r020 : (v : ℕ) × (v < 2 ^ 32) × (c.r020 ≡ write020 fresh020 v)

-- ---- the clauses

-- the clauses of a channel's part, on or off (01, Sound state: "none while channel 1 is off", "no queue is held while channel 0 is off"), and with this
-- operating count (02, Q-4)
abbrev pub PartClauses : (k : Channel) → Config → Part k → Type 0
PartClauses peripheral c p = P.Clauses (on peripheral c) p
PartClauses wires c p = W.Clauses (on wires c) (bits 21 16 c.r020.value + 1) p

-- "Sound state: registers hold reachable values; .. the going-round place is 4 to 6" (01, Wires; 02, Q-4: a sender's)
pub record Clauses (s : State) : Type 0 where
  pub registers : Reached s.config
  pub of_channel_lem : (k : Channel) → PartClauses k s.config (part k s)
