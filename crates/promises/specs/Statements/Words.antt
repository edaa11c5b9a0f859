-- The words of the promises over bytes: those of Events, Requests, Answers, WireEvents and Apart, read off words, replies and state bytes.
use Rattle.std.specs.Prelude.{ℕ, ◌+◌, Bool, true, ◌&&◌, not, List, [], ◌∷◌, ◌++◌, map, eqb, ltb, drop}
use Rattle.base.specs.Pick.{pick}
use Rattle.registers.specs.Registers.{operating_count}
use Rattle.state.specs.Layout.{unpacked}
use Rattle.state.specs.State.{State}
use Rattle.rules.specs.Rules.Channel.{Channel, peripheral, wires}
use Rattle.rules.specs.Rules.Reset.{platform_reset}
use Rattle.rules.specs.Rules.Step.{World, Call, reset}
use Rattle.rules.specs.Statements.Refusals.{number_of}
use Rattle.rules.specs.Statements.Events.{lowering, ending}
use Rattle.rules.specs.Statements.Requests as R
use Rattle.rules.specs.Statements.Requests.{Event, accepted_event, is_tell, is_ask, completion_in, same_store}
use Rattle.rules.specs.Statements.WireEvents as W
use Rattle.rules.specs.Statements.WireEvents.{WireEvent, accepted_wire, one_if_gets}
use Rattle.rules.specs.Statements.WireView.{reads_wire}
use Rattle.rules.specs.Statements.Wires.Rows.{some_line}
use Rattle.rules.specs.Statements.Bound.{share_of}
use Rattle.rules.specs.Statements.Apart.{is_call_of, against_edge, reply_but}
use Rattle.promises.specs.ByteRuns.{ByteWorld, ByteOutcome, byte_step_value, byte_run}
use Rattle.promises.specs.Statements.Lifted.{world_of, value_of, reply_in}

-- a call's number, by its word: "No." (01, Replies and refusals)
abbrev pub number_at : ByteWorld → Call → ℕ
number_at v c = number_of (byte_step_value v c).word

-- 0, "accepted or deferred" (01, Replies and refusals)
abbrev pub byte_accepted : ByteWorld → Call → Bool
byte_accepted v c = eqb (number_at v c) 0

-- "the state packed in lent bytes" (01, What form each place takes)
abbrev pub state_in : ByteWorld → State
state_in v = unpacked v.state

-- the last serial given, as the state bytes have it ("the request's serial the last given", 01, Sound state)
abbrev pub serial_in : ByteWorld → ℕ
serial_in v = (state_in v).peripheral.serial

-- the operating count, as the state bytes have it ("The operating wire count is bits 21:16 plus one", 01, Registers and status)
abbrev pub count_in : ByteWorld → ℕ
count_in v = operating_count (state_in v).config.r020

-- the bytes after a call and the calls since ("From the acceptance on, each call gets the state that the last one left", 00, demand 3)
abbrev pub byte_since : ByteWorld → Call → List Call → ByteWorld
byte_since v c cs = byte_run (byte_step_value v c).next cs

-- no call of the run is such ("until a request accepted later has been answered", 00, demand 3: none before it)
unfoldable pub byte_without : (ByteWorld → Call → Bool) → ByteWorld → List Call → Bool
byte_without p v [] = true
byte_without p v (c ∷ cs) = not (p v c) && byte_without p (byte_step_value v c).next cs

-- ---- events: refused calls are none; of the state only bit 0 of the channel's register is read, for a disabling, and the wires, for PLTRST#

-- "a start, an eSPI reset, a platform reset or a disabling of" the channel, "refused ones apart" (00, demand 3)
abbrev pub byte_ends : Channel → ByteWorld → Call → Bool
byte_ends k v c = byte_accepted v c && ending k (state_in v) c

-- an accepted PUT_VWIRE that "ends with PLTRST# low that was high before" (02, Q-1)
abbrev pub byte_falls : ByteWorld → Call → Bool
byte_falls v c = byte_accepted v c && lowering (state_in v) c

-- PLTRST#, as the board reads it: bit 1 of group 3 (004, table 10; 01, What the engine covers: "read a wire")
abbrev pub byte_pltrst : ByteWorld → ℕ
byte_pltrst v = value_of (byte_step_value v (reads_wire 3 1)).word

-- no such event in the run: "Until a start, .." (00, demand 3)
abbrev pub byte_unended : Channel → ByteWorld → List Call → Bool
byte_unended k = byte_without (byte_ends k)

-- what a call was for channel 0 ("refused ones apart", 00, demand 3)
unfoldable pub byte_event : ByteWorld → Call → Event
byte_event v c = pick (byte_ends peripheral v c) R.ends (pick (byte_accepted v c) (accepted_event c) R.idle)

-- and for the wires; here an enabling reads bit 0 of 020h too ("a start, such a reset or a disabling", "Enabling it from disabled", 01, Wires)
unfoldable pub byte_wire_event : ByteWorld → Call → WireEvent
byte_wire_event v c = pick (byte_ends wires v c) W.ends (pick (byte_accepted v c) (accepted_wire (state_in v) c) W.idle)

-- ---- runs of channel 0

-- an accepted answer, an accepted request ("answered by the device", 00, demand 3)
abbrev pub byte_answers : ByteWorld → Call → Bool
byte_answers v c = is_tell (byte_event v c)

-- .. ("a request accepted later", 00, demand 3)
abbrev pub byte_requests : ByteWorld → Call → Bool
byte_requests v c = is_ask (byte_event v c)

-- the reply of an accepted GET_PC, and those of a run in order ("the next N accepted GET_PC commands", 00, demand 3)
abbrev pub byte_got_by : ByteWorld → Call → List (List ℕ)
byte_got_by v c = completion_in (byte_event v c) (reply_in (byte_step_value v c))

-- .. "block by block in address order" (00, demand 3)
unfoldable pub byte_got : ByteWorld → List Call → List (List ℕ)
byte_got v [] = []
byte_got v (c ∷ cs) = byte_got_by v c ++ byte_got (byte_step_value v c).next cs

-- how many requests a run accepts ("fewer than 2^32 requests have come since", 01, Requests, answers, pieces)
unfoldable pub byte_asked_times : ByteWorld → List Call → ℕ
byte_asked_times v [] = 0
byte_asked_times v (c ∷ cs) = pick (byte_requests v c) 1 0 + byte_asked_times (byte_step_value v c).next cs

-- a lend hands on the read store as it was ("from the answer on the read store too", 00, demand 3)
unfoldable pub byte_handed_on : ByteWorld → List Call → Type 0
byte_handed_on v [] = Unit {0}
byte_handed_on v (c ∷ cs) = same_store (λ (w : World). w.read) (world_of v) c × byte_handed_on (byte_step_value v c).next cs

-- ---- runs of the wires: the accepted GET_VWIREs

-- how many ("by the third accepted GET_VWIRE", 01, Wires)
unfoldable pub byte_gets_in : ByteWorld → List Call → ℕ
byte_gets_in v [] = 0
byte_gets_in v (c ∷ cs) = one_if_gets (byte_wire_event v c) + byte_gets_in (byte_step_value v c).next cs

-- a call's share: an accepted GET_VWIRE's is max(1, c / 2), c the operating count in force (02, Q-4: "a bound from the number of senders and the
-- operating count")
abbrev pub byte_share_in : ByteWorld → Call → ℕ
byte_share_in v c = pick (eqb (one_if_gets (byte_wire_event v c)) 1) (share_of (count_in v)) 0

-- .. of all accepted GET_VWIREs of a run (02, Q-4)
unfoldable pub byte_shares_in : ByteWorld → List Call → ℕ
byte_shares_in v [] = 0
byte_shares_in v (c ∷ cs) = byte_share_in v c + byte_shares_in (byte_step_value v c).next cs

-- an accepted GET_VWIRE while the operating count is less than c (02, Q-4: "the operating count")
abbrev pub byte_gets_below : ℕ → ByteWorld → Call → Bool
byte_gets_below c v x = eqb (one_if_gets (byte_wire_event v x)) 1 && ltb (count_in v) c

-- a line waits, as the state bytes have it (02, Q-4: "a line that already waits to be sent")
abbrev pub byte_line_waits : ByteWorld → Call → Bool
byte_line_waits v c = some_line (state_in v).wires.lines.waits

-- ---- what a call shows its caller but for x's status bits and the CRC byte: word, reply, the reply store past it, the report

-- "the other channels' replies", "their stores and refusals" (02, Q-14)
pub record ByteSeen : Type 0 where
  pub word : ℕ
  pub reply : List ℕ
  pub past : List ℕ
  pub report : List ℕ

-- .. of an outcome: "but for that channel's status bits and the CRC" (02, Q-14)
abbrev pub byte_seen : Channel → ByteOutcome → ByteSeen
byte_seen x o = record { word = o.word; reply = reply_but x (reply_in o); past = drop (value_of o.word) o.reply; report = o.report }

-- what remains of a call: of x's own nothing, but a platform reset in the place of a packet that counts "as a platform reset" (02, Q-1)
abbrev pub byte_remaining : Channel → ByteWorld → Call → List Call
byte_remaining x v c = pick (is_call_of x c) (pick (byte_falls v c) (reset platform_reset ∷ []) []) (c ∷ [])

-- .. and of a run: "that rule holds for runs with the same such packets" (02, Q-1)
unfoldable pub byte_remains : Channel → ByteWorld → List Call → List Call
byte_remains x v [] = []
byte_remains x v (c ∷ cs) = byte_remaining x v c ++ byte_remains x (byte_step_value v c).next cs

-- a write of 020h refused (number 2) for an edge; of the state only whether an edge waits is read ("such a refused write", 02, Q-4)
abbrev pub byte_edge_refuses : ByteWorld → Call → Bool
byte_edge_refuses v c = eqb (number_at v c) 2 && against_edge (state_in v) c

-- what the calls of a run show, x's own apart ("give each peripheral command the same reply", 01, Wires: here every call that is not x's); a packet that
-- counts "as a platform reset" (02, Q-1) shows what such a reset shows there
unfoldable pub byte_seeing : Channel → ByteWorld → List Call → List ByteSeen
byte_seeing x v [] = []
byte_seeing x v (c ∷ cs) = map (λ (d : Call). byte_seen x (byte_step_value v d)) (byte_remaining x v c) ++ byte_seeing x (byte_step_value v c).next cs
