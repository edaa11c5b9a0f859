-- All that a channel is beyond its part of the state (state/specs/Channel), as families over the channels. A further channel is one clause in each.
use Rattle.std.specs.Prelude.{ℕ, Bool, true, false, List, [], eqb, Option, Some, None}
use Rattle.registers.specs.declared.Config.{Config}
use Rattle.command.specs.declared.PeripheralCommand.{PeripheralCommand}
use Rattle.command.specs.declared.WiresCommand.{WiresCommand}
pub use Rattle.state.specs.Channel.{Channel, peripheral, wires, Part, part, put, each, on, bits}
use Rattle.rules.specs.Rules.Reset.{Reset}
use Rattle.rules.specs.Rules.Peripheral as P
use Rattle.rules.specs.Rules.Wires as W
use Rattle.rules.specs.declared.Body.{Body}
use Rattle.rules.specs.declared.Body.TheVariants as B
use Rattle.rules.specs.declared.Kept.{Kept}
use Rattle.rules.specs.declared.Out.{Out}
use Rattle.rules.specs.Rules.Plan.{WiresChange, PeripheralChange}

-- ---- what a channel has

-- the commands of a channel (01, Commands; 004, table 2: by channel)
abbrev pub Command : Channel → Type 0
Command peripheral = PeripheralCommand
Command wires = WiresCommand

-- what its commands are (docs/DECISIONS.md, 30)
abbrev pub Act : Channel → Type 0
Act peripheral = P.Act
Act wires = W.Act

-- the board's calls: "look at the request, answer a request, take a write" and "set a wire, read a wire" (01, What the engine covers)
abbrev pub Board : Channel → Type 0
Board peripheral = P.Board
Board wires = W.Board

-- what a command or call makes of a channel: its next part, and what goes out (01, Replies and refusals: "Reply; state and stores")
abbrev pub Change : Channel → Type 0
Change peripheral = PeripheralChange
Change wires = WiresChange

-- its state after it (01, Replies and refusals: the table's "state")
abbrev pub next_of : (k : Channel) → Change k → Part k
next_of peripheral x = x.next
next_of wires x = x.next

-- number, response, body and data (01, Replies and refusals: the table's "Reply" and "stores")
abbrev pub out_of : (k : Channel) → Change k → Out
out_of peripheral x = x.out
out_of wires x = x.out

-- a change of these two (01, Replies and refusals)
abbrev pub change : (k : Channel) → Part k → Out → Change k
change peripheral = P.change
change wires = W.change

-- ---- what a channel does

-- a decoded command and its bytes, read as an act (docs/DECISIONS.md, 30)
abbrev pub act_of : (k : Channel) → Config → Command k → List ℕ → Act k
act_of peripheral c o b = P.act_of c o b
act_of wires c o b = W.act_of o b

-- what the channel does on a command: "credit (1), size (1)" (01, Replies and refusals)
abbrev pub acting : (k : Channel) → Config → Part k → Act k → Change k
acting peripheral = P.acting
acting wires = W.acting

-- whether "the platform reset follows" a command (02, Q-1), by its part before it and after it: the wires alone have such a one
abbrev pub reset_follows : (k : Channel) → Part k → Act k → Part k → Bool
reset_follows peripheral before a after = false
reset_follows wires before a after = W.reset_follows before a after

-- what it does on a board call: "their own from 20 up" (01, Replies and refusals)
abbrev pub settle : (k : Channel) → Config → Part k → Board k → Change k
settle peripheral = P.settle
settle wires = W.settle

-- what a board call yields besides its number: a report ("Looking yields", "the take yields", 01, Requests, answers, pieces)
abbrev pub report_of : (k : Channel) → Part k → Board k → List ℕ
report_of peripheral p o = P.report_of p o
report_of wires p o = []

-- .. or a value: a read wire's level (01, What the engine covers: "read a wire")
abbrev pub value_of : (k : Channel) → Part k → Board k → ℕ
value_of peripheral p o = 0
value_of wires p o = W.value_of p o

-- the bytes that come with it: "Success copies exactly L bytes" (01, Requests, answers, pieces)
abbrev pub given : (k : Channel) → Board k → List ℕ
given peripheral o = P.given o
given wires o = []

-- what its enable bit was and is: a disabling, "Enabling it from disabled", or neither (01, Wires; docs/DECISIONS.md, 20)
abbrev pub enable_edge : (k : Channel) → Bool → Bool → Part k → Part k
enable_edge peripheral = P.enable_edge
enable_edge wires = W.enable_edge

-- what a start and each reset make of it (01, Requests, answers, pieces: "drop held write, request and completions"; Wires: "A reset group")
abbrev pub reset : (k : Channel) → Reset → Part k → Part k
reset peripheral = P.reset
reset wires = W.reset

-- its own bodies: those that read no other channel's stores (01, Wires: "Wire traffic and channel 0"; 02, Q-14)
abbrev pub own_body : Channel → Body → Bool
own_body peripheral B.Nothing = true
own_body peripheral (B.Word v) = false
own_body peripheral (B.Piece c) = true
own_body peripheral (B.Groups p) = false
own_body wires B.Nothing = true
own_body wires (B.Word v) = false
own_body wires (B.Piece c) = false
own_body wires (B.Groups p) = true

-- its own data: that which writes no other channel's stores; channel 1 has none (01, What the engine covers: "Stores lent to a call")
abbrev pub own_kept : Channel → Option Kept → Bool
own_kept peripheral k = true
own_kept wires None = true
own_kept wires (Some d) = false

-- ---- which channel

-- "channel 0 (peripheral)", "channel 1 (virtual wires)" (01, What the engine covers)
abbrev pub channel_number : Channel → ℕ
channel_number peripheral = 0
channel_number wires = 1

-- by that number (02, Q-14: "every pair of the four channels")
abbrev pub same : Channel → Channel → Bool
same x y = eqb (channel_number x) (channel_number y)
