-- What a channel's decision and a whole call come to, as data. Channel 1's change and a plan hold lines, which stand in the state's bytes alone: they are
-- no types of the code.
use Rattle.std.specs.Prelude.{ℕ, Option}
use Rattle.wires.specs.Senders.{AllWires}
use Rattle.state.specs.State.{State}
use Rattle.rules.specs.declared.Change.{Change}
use Rattle.wires.specs.declared.Wires.{Wires}
use Rattle.peripheral.specs.declared.Peripheral.{Peripheral}
use Rattle.rules.specs.declared.Reply.{Reply}
use Rattle.rules.specs.declared.Kept.{Kept}

-- channel 0's change: its own next part, and what goes out (01, Replies and refusals: "Reply; state and stores")
abbrev pub PeripheralChange : Type 0
PeripheralChange = Change Peripheral

-- .. of channel 1's groups alone (01, Wires)
abbrev pub GroupsChange : Type 0
GroupsChange = Change Wires

-- .. of all of channel 1 (01, Replies and refusals: "Reply; state and stores")
abbrev pub WiresChange : Type 0
WiresChange = Change AllWires

-- what an exchange or a board call does: number, reply, next state, and data to keep (01, Replies and refusals: "Reply; state and stores")
pub record Plan : Type 0 where
  pub number : ℕ
  pub reply : Option Reply
  pub next : State
  pub kept : Option Kept
