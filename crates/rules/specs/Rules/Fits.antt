-- What the lent slices must hold for a plan to be carried out: a piece's data in the read store and the reply, a packet over sound wires, the kept
-- data in its source and its store.
use Rattle.std.specs.Prelude.{ℕ, ◌+◌, ◌<◌, ◌≤◌, Bool, true, false, Option, Some, None}
use Rattle.wires.specs.Table.{senders}
use Rattle.wires.specs.Senders.{AllWires, sent_from, entries}
use Rattle.wires.specs.declared.Packet.{Packet}
use Rattle.peripheral.specs.declared.Completion.{Completion}
use Rattle.rules.specs.declared.Body.{Body}
use Rattle.rules.specs.declared.Body.TheVariants as B
use Rattle.rules.specs.declared.Reply.{Reply}
use Rattle.rules.specs.declared.Kept.{Kept}
use Rattle.rules.specs.declared.Say.{Say}
use Rattle.rules.specs.declared.Out.{Out}
use Rattle.rules.specs.Rules.Plan.{Plan}
use Rattle.rules.specs.Rules.Step.{write_length, read_length}

-- within a reply's 256 data bytes, and within the read store: "reply at least 263 bytes", "read store at least 4,096" (01, What the engine covers)
pub record PieceFits (c : Completion) : Type 0 where
  pub most : c.length ≤ 256
  pub end : c.from + c.length ≤ read_length

-- going round begins at a sender, something is sent, and at most 64 entries (004, 4.2.2: "up to 64 groups")
pub record PacketFits (w : AllWires) (p : Packet) : Type 0 where
  pub below : p.place < senders
  pub most : p.capacity ≤ 64
  pub some : 1 ≤ entries w (sent_from w p.place p.capacity)

-- .. of a body: "data goes into the reply from its fifth byte on" (01, What form each place takes)
abbrev pub BodyFits : Body → AllWires → Type 0
BodyFits B.Nothing w = Unit {0}
BodyFits (B.Word v) w = Unit {0}
BodyFits (B.Piece c) w = PieceFits c
BodyFits (B.Groups p) w = PacketFits w p

-- .. of a reply, or none (01, Replies and refusals)
abbrev pub ReplyFits : Option Reply → AllWires → Type 0
ReplyFits None w = Unit {0}
ReplyFits (Some r) w = BodyFits r.body w

-- n bytes from a place on, out of m bytes, into a store of at least `room` ("a lent store too short" is 10; 01, Replies and refusals)
pub record DataFits (at n m room : ℕ) : Type 0 where
  pub there : at + n ≤ m
  pub most : n ≤ room

-- .. of the kept data, or none (01, Requests, answers, pieces)
abbrev pub KeptFits : Option Kept → ℕ → ℕ → Type 0
KeptFits None m room = Unit {0}
KeptFits (Some d) m room = DataFits d.from d.count m room

-- what goes out of a channel's change: response and body (01, Replies and refusals)
abbrev pub SayFits : Option Say → AllWires → Type 0
SayFits None w = Unit {0}
SayFits (Some y) w = BodyFits y.body w

-- .. and its data; that of an exchange goes to the write store: "write store at least 256" (01, What the engine covers)
abbrev pub OutFits : ℕ → AllWires → Out → Type 0
OutFits m w out = SayFits out.say w × KeptFits out.kept m write_length

-- both, of a plan (01, What the engine covers: "Stores lent to a call")
pub record PlanFits (m : ℕ) (w : AllWires) (p : Plan) : Type 0 where
  pub reply : ReplyFits p.reply w
  pub kept : KeptFits p.kept m write_length

-- no packet of wires: the bytes of such a body are the same over any wires (01, Replies and refusals: "body")
abbrev pub plain_body : Body → Bool
plain_body B.Nothing = true
plain_body (B.Word v) = true
plain_body (B.Piece c) = true
plain_body (B.Groups p) = false

-- .. of what a channel says (01, Replies and refusals)
abbrev pub plain_say : Option Say → Bool
plain_say None = true
plain_say (Some y) = plain_body y.body

-- .. of a reply, or none (01, Replies and refusals)
abbrev pub plain : Option Reply → Bool
plain None = true
plain (Some r) = plain_body r.body
