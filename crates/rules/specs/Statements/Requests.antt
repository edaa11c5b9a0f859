-- The words of the statements over runs of channel 0: what a call was for it, in bytes and numbers, and what a reply shows of its request.
use Rattle.std.specs.Prelude.{ℕ, ◌+◌, ◌-◌, ◌*◌, ◌/◌, ◌%◌, ◌^◌, ◌<◌, Bool, true, false, ◌&&◌, not, List, [], ◌∷◌, ◌++◌, ◌≡◌, eqb, ltb, length, get_or}
use Rattle.base.specs.Pick.{pick}
use Rattle.peripheral.specs.declared.Np.{Np}
use Rattle.state.specs.State.{State}
use Rattle.rules.specs.Rules.Reset.{Reset, start, espi_reset, platform_reset}
use Rattle.rules.specs.Rules.Peripheral as P
use Rattle.rules.specs.Rules.Channel.{Channel, peripheral, wires, Board}
use Rattle.rules.specs.Rules.Step.{World, Call, reset, exchange, board, short, lend, Outcome, step, run}
use Rattle.rules.specs.Statements.Fields.{byte, is_non_posted}
use Rattle.rules.specs.Statements.Events.{accepted, ends_with}

-- ---- events: refused calls are idle, what an accepted exchange was its bytes say

-- asks: an accepted non-posted request; tells: an accepted answer; gets: an accepted GET_PC; ends: an ending event, "a start, an eSPI
-- reset, a platform reset or a disabling of channel 0, refused ones apart" (demand 3); lends: no call of the engine, other stores are lent from here on
pub data Event : Type 0 where
  idle asks tells gets ends lends : Event

-- an accepted command: "Accepting it replies DEFER" (01, Requests, answers, pieces), a GET_PC, or neither
abbrev pub command_event : List ℕ → Event
command_event b = pick (is_non_posted (byte b 0)) asks (pick (eqb (byte b 0) 0x01) gets idle)

-- an accepted call of the board: "then answered by the device" (demand 3), or a look or a take
abbrev pub peripheral_event : P.Board → Event
peripheral_event (P.look report) = idle
peripheral_event (P.answer serial success bytes) = tells
peripheral_event (P.take_write report) = idle

-- .. of any channel; "Anything else may come between" (demand 3)
abbrev pub board_event : (k : Channel) → Board k → Event
board_event peripheral o = peripheral_event o
board_event wires o = idle

-- of an accepted call that is no ending event (demand 3: "refused ones apart")
abbrev pub accepted_event : Call → Event
accepted_event (reset r) = idle
accepted_event (exchange command reply) = command_event command
accepted_event (board k o) = board_event k o
accepted_event (short state c) = idle
accepted_event (lend write read) = lends

-- a call on a state, and what it gave: "accepted" is number 0 (01, Replies and refusals)
unfoldable pub event_of : State → Call → Outcome → Event
event_of s c o = pick (ends_with peripheral s c o) ends (pick (accepted o) (accepted_event c) idle)

-- .. of a call on a world (demand 3: "each call gets the state that the last one left")
abbrev pub event : World → Call → Event
event w c = event_of w.state c (step w c)

-- an accepted answer: "answered by the device with L bytes" (demand 3)
abbrev pub is_tell : Event → Bool
is_tell idle = false
is_tell asks = false
is_tell tells = true
is_tell gets = false
is_tell ends = false
is_tell lends = false

-- an accepted request: "From the acceptance on" (demand 3)
abbrev pub is_ask : Event → Bool
is_ask idle = false
is_ask asks = true
is_ask tells = false
is_ask gets = false
is_ask ends = false
is_ask lends = false

-- "After such an event" (demand 3)
abbrev pub is_end : Event → Bool
is_end idle = false
is_end asks = false
is_end tells = false
is_end gets = false
is_end ends = true
is_end lends = false

-- "only start sets it": the serial (01, Requests, answers, pieces)
abbrev pub starts_all : Reset → Bool
starts_all start = true
starts_all espi_reset = false
starts_all platform_reset = false

-- a start: "told apart while no start and fewer than 2^32 requests have come since" (01, Requests, answers, pieces)
abbrev pub is_start : Call → Bool
is_start (reset r) = starts_all r
is_start (exchange command reply) = false
is_start (board k o) = false
is_start (short state c) = false
is_start (lend write read) = false

-- the device's answer: "An answer names the serial" (01, Requests, answers, pieces)
abbrev pub answers_with : (serial success : ℕ) → List ℕ → Call
answers_with serial success d = board peripheral (P.answer serial success d)

-- ---- runs

-- the world after a call and the calls since: "From the acceptance on, each call gets the state that the last one left" (demand 3)
abbrev pub since : World → Call → List Call → World
since w c cs = run (step w c).next cs

-- no call of the run is such: "until a request accepted later has been answered" (demand 3)
unfoldable pub without : (World → Call → Bool) → World → List Call → Bool
without p w [] = true
without p w (c ∷ cs) = not (p w c) && without p (step w c).next cs

-- an accepted answer in a run (demand 3: "answered under its own serial number")
abbrev pub answers : World → Call → Bool
answers w c = is_tell (event w c)

-- an accepted request in a run (demand 3: "a request accepted later")
abbrev pub requests : World → Call → Bool
requests w c = is_ask (event w c)

-- the reply of an accepted GET_PC (demand 3: "the next N accepted GET_PC commands hand over")
abbrev pub completion_in : Event → List ℕ → List (List ℕ)
completion_in idle r = []
completion_in asks r = []
completion_in tells r = []
completion_in gets r = r ∷ []
completion_in ends r = []
completion_in lends r = []

-- .. of one call, if it is such (demand 3: "accepted GET_PC commands")
abbrev pub got_by : World → Call → List (List ℕ)
got_by w c = completion_in (event w c) (step w c).reply

-- the replies of the accepted GET_PCs of a run, "block by block in address order" (demand 3)
unfoldable pub got : World → List Call → List (List ℕ)
got w [] = []
got w (c ∷ cs) = got_by w c ++ got (step w c).next cs

-- ---- stores lent again: a lend hands on this one as it was

-- a lend hands this store on as it was; other calls lend none (demand 3: "and from the answer on the read store too")
abbrev pub same_store : (World → List ℕ) → World → Call → Type 0
same_store f w (reset r) = Unit {0}
same_store f w (exchange command reply) = Unit {0}
same_store f w (board k o) = Unit {0}
same_store f w (short state c) = Unit {0}
same_store f w (lend write read) = f (record { state = w.state; write = write; read = read }) ≡ f w

-- so each call of the run (demand 3: "each call gets the state that the last one left, and .. the read store too")
unfoldable pub store_handed_on : (World → List ℕ) → World → List Call → Type 0
store_handed_on f w [] = Unit {0}
store_handed_on f w (c ∷ cs) = same_store f w c × store_handed_on f (step w c).next cs

-- .. the read store (demand 3: "from the answer on the read store too")
abbrev pub read_handed_on : World → List Call → Type 0
read_handed_on = store_handed_on (λ v. v.read)

-- .. the write store, for a held write's data "until the board takes it" (01, Requests, answers, pieces)
abbrev pub write_handed_on : World → List Call → Type 0
write_handed_on = store_handed_on (λ v. v.write)

-- ---- the held request, and what a reply shows

-- "One non-posted request is held" (01, Requests, answers, pieces)
abbrev pub held : World → Np
held w = w.state.peripheral.request

-- the last serial given (01, Sound state: "the request's serial the last given")
abbrev pub serial_of : World → ℕ
serial_of w = w.state.peripheral.serial

-- the status that a reply shows: the two bytes before its CRC, "status low byte first" (01, Replies and refusals)
abbrev pub status_in : List ℕ → ℕ
status_in r = get_or r (length r - 3) 0 + get_or r (length r - 2) 0 * 256

-- a reply, where there is one, shows this value at this bit of its status ("PC_AVAIL stands until the Nth and then drops", demand 3)
abbrev pub shows_bit : (at value : ℕ) → List ℕ → Type 0
shows_bit at value r = 0 < length r → status_in r / 2 ^ at % 2 ≡ value

-- there is a reply, and this bit of its status is 1 (01, Registers and status: "Status bits")
abbrev pub raises : ℕ → List ℕ → Bool
raises at r = ltb 0 (length r) && eqb (status_in r / 2 ^ at % 2) 1
