-- The lifting: what a run of the eleven calls over bytes has to do with a run of `step` over states. Statements only, proved in Proofs/Lifted.
use Rattle.std.specs.Prelude.{ℕ, ◌/◌, ◌≤◌, true, List, [], ◌≡◌, length, take}
use Rattle.base.specs.Bytes.{over}
use Rattle.state.specs.Fresh.{fresh_state}
use Rattle.state.specs.Layout.{state_length, unpacked, holds}
use Rattle.rules.specs.Rules.Reset.{start}
use Rattle.rules.specs.Rules.Peripheral as P
use Rattle.rules.specs.Rules.Channel.{Channel, peripheral, wires, Board}
use Rattle.rules.specs.Rules.Step.{World, Call, reset, exchange, board, short, lend, Outcome, step, run, handed_over, all_handed}
use Rattle.rules.specs.Rules.Calls.{word}
use Rattle.rules.specs.Statements.Refusals.{number_of}
use Rattle.promises.specs.ByteRuns.{ByteWorld, ByteOutcome, byte_step_value, byte_run}

-- long enough, and bytes of a sound state (`holds-sound`, `exactly` of Packing say what a pass means)
-- ("a store of at least a length fixed in docs/", "bytes that pack no state are 11", 01, What the engine covers)
pub record Holding (v : ByteWorld) : Type 0 where
  pub long : state_length ≤ length v.state
  pub passes : holds v.state ≡ true

-- the state that the bytes hold, and the stores ("the state packed in lent bytes", 01, What form each place takes)
abbrev pub world_of : ByteWorld → World
world_of v = record { state = unpacked v.state; write = v.write; read = v.read }

-- the reply store that a call is lent: an exchange's ("an exchange uses all three", 01, What the engine covers), and no other's
abbrev pub lent_reply : Call → List ℕ
lent_reply (reset r) = []
lent_reply (exchange command reply) = reply
lent_reply (board k o) = []
lent_reply (short state c) = lent_reply c
lent_reply (lend write read) = []

-- the report that a call of the board is lent: "Looking yields", "the take yields" (01, Requests, answers, pieces; docs/DECISIONS.md, 14)
abbrev pub peripheral_report : P.Board → List ℕ
peripheral_report (P.look report) = report
peripheral_report (P.answer serial success bytes) = []
peripheral_report (P.take_write report) = report

-- .. of any channel ("A call needs only those it uses", 01, What the engine covers)
abbrev pub board_report : (k : Channel) → Board k → List ℕ
board_report peripheral o = peripheral_report o
board_report wires o = []

-- .. of any call ("A call needs only those it uses", 01, What the engine covers)
abbrev pub lent_report : Call → List ℕ
lent_report (reset r) = []
lent_report (exchange command reply) = []
lent_report (board k o) = board_report k o
lent_report (short state c) = lent_report c
lent_report (lend write read) = []

-- a word's bits 31:8 ("through plain numbers", 01, What the engine covers)
abbrev pub value_of : ℕ → ℕ
value_of word = word / 256

-- the reply: as many bytes of its store as the word says ("Store bytes that no rule writes are unchanged", 01, Replies and refusals: those past it)
abbrev pub reply_in : ByteOutcome → List ℕ
reply_in x = take (value_of x.word) x.reply

-- an outcome over bytes shows that of the state, laid over what was lent, and holds the world after
-- ("result, state and each byte of each lent store", 01, What each contract must settle)
pub record Meets (lent form : List ℕ) (x : ByteOutcome) (o : Outcome) : Type 0 where
  pub word : x.word ≡ word o.number o.value
  pub number : number_of x.word ≡ o.number
  pub value : value_of x.word ≡ o.value
  pub reply : x.reply ≡ over o.reply lent
  pub said : reply_in x ≡ o.reply
  pub report : x.report ≡ over o.report form
  pub world : world_of x.next ≡ o.next
  pub holding : Holding x.next

-- so of a call on these bytes ("the exchange and these through plain numbers and byte slices", 01, What the engine covers)
abbrev pub Agrees : ByteWorld → Call → Type 0
Agrees v c = Meets (lent_reply c) (lent_report c) (byte_step_value v c) (step (world_of v) c)

-- .. and of a run: "each call gets the state that the last one left" (00, demand 3)
pub record RunHolds (v : ByteWorld) (cs : List Call) : Type 0 where
  pub world : world_of (byte_run v cs) ≡ run (world_of v) cs
  pub holding : Holding (byte_run v cs)

-- start takes no state: any bytes, if there are enough of them ("Start takes no state and gives the fresh one", 01, What the engine covers)
pub record Starts (v : ByteWorld) : Type 0 where
  pub agrees : Agrees v (reset start)
  pub fresh : unpacked (byte_step_value v (reset start)).next.state ≡ fresh_state

-- `handed_over`: a command's bytes are below 256
-- ("exchange and board calls over numbers and byte slices, with the state packed in lent bytes", 01, What form each place takes)
pub record Lifted : Type 0 where
  pub call : (v : ByteWorld) → Holding v → (c : Call) → handed_over c ≡ true → Agrees v c
  pub calls : (v : ByteWorld) → Holding v → (cs : List Call) → all_handed cs ≡ true → RunHolds v cs
  pub starts : (v : ByteWorld) → state_length ≤ length v.state → Starts v
