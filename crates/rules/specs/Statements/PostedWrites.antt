-- P13. Posted writes over runs (01, Requests, answers, pieces: "One posted write is held with its payload size, its data at the start of the
-- write store, until the board takes it; the take yields its address and length, frees the place and leaves the store").
use Rattle.std.specs.Prelude.{ℕ, ◌≤◌, Bool, true, false, ◌&&◌, List, ◌++◌, ◌≡◌, length, take, Option, Some}
use Rattle.base.specs.Bytes.{low2, low8}
use Rattle.peripheral.specs.declared.Posted.{Posted}
use Rattle.rules.specs.Rules.Peripheral as P
use Rattle.rules.specs.Rules.Channel.{Channel, peripheral, wires, Board}
use Rattle.rules.specs.Rules.Step.{World, Call, reset, exchange, board, short, lend, step, run}
use Rattle.rules.specs.Statements.Fields.{byte, is_posted, access_address, access_length, written_data}
use Rattle.rules.specs.Statements.Sizes.{payload_of}
use Rattle.rules.specs.Statements.Events.{accepted, unended}
use Rattle.rules.specs.Statements.Requests.{since, without, write_handed_on}

-- ---- what a call was, refused ones apart

-- a posted write ("posted write while one is held", 01, Replies and refusals)
abbrev pub is_post : Call → Bool
is_post (reset r) = false
is_post (exchange command reply) = is_posted (byte command 0)
is_post (board k o) = false
is_post (short state c) = false
is_post (lend write read) = false

-- the board's take ("take a write", 01, What the engine covers)
abbrev pub peripheral_take : P.Board → Bool
peripheral_take (P.look report) = false
peripheral_take (P.answer serial success bytes) = false
peripheral_take (P.take_write report) = true

-- .. of any channel ("The board side has calls of its own", 01, What the engine covers)
abbrev pub board_take : (k : Channel) → Board k → Bool
board_take peripheral o = peripheral_take o
board_take wires o = false

-- .. of any call ("the board takes it", 01, Requests, answers, pieces)
abbrev pub is_take : Call → Bool
is_take (reset r) = false
is_take (exchange command reply) = false
is_take (board k o) = board_take k o
is_take (short state c) = false
is_take (lend write read) = false

-- an accepted posted write (0, "accepted or deferred", 01, Replies and refusals)
abbrev pub posts : World → Call → Bool
posts w c = accepted (step w c) && is_post c

-- an accepted take: "until the board takes it" (01, Requests, answers, pieces)
abbrev pub takes : World → Call → Bool
takes w c = accepted (step w c) && is_take c

-- the take, lent this report ("the take yields its address and length", 01, Requests, answers, pieces; docs/DECISIONS.md, 14)
abbrev pub takes_with : List ℕ → Call
takes_with report = board peripheral (P.take_write report)

-- the write that is held ("One posted write is held", 01, Requests, answers, pieces)
abbrev pub held_write : World → Option Posted
held_write w = w.state.peripheral.write

-- ---- an accepted posted write, and the calls since

-- number 0 is "accepted" (01, Replies and refusals)
pub record AcceptedPost (w : World) (b reply : List ℕ) : Type 0 where
  pub posted : is_posted (byte b 0) ≡ true
  pub number : (step w (exchange b reply)).number ≡ 0

-- the command's address and length, and the payload size of 010h then ("held with its payload size", 01, Requests, answers, pieces)
abbrev pub posting : World → List ℕ → Posted
posting w b = record { address = access_address b; length = access_length b; payload = payload_of w.state.config }

-- a take's report: address and length, low byte first ("the take yields its address and length", 01, Requests, answers, pieces)
abbrev pub take_bytes : List ℕ → List ℕ
take_bytes b = low8 (access_address b) ++ low2 (access_length b)

-- until its take or an ending event ("until the board takes it"; "drop held write", 01, Requests, answers, pieces)
pub record Untaken (w : World) (b reply : List ℕ) (xs : List Call) : Type 0 where
  pub unended : unended peripheral (step w (exchange b reply)).next xs ≡ true
  pub untaken : without takes (step w (exchange b reply)).next xs ≡ true

-- the world after the take (it "frees the place", 01, Requests, answers, pieces)
abbrev pub taken_at : World → List ℕ → List ℕ → List Call → List ℕ → World
taken_at w b reply xs report = (step (since w (exchange b reply) xs) (takes_with report)).next

-- the take yields them, and nothing is held after it: another take is refused until a write is accepted
-- ("yields its address and length, frees the place", 01, Requests, answers, pieces; 23, "no write to take", 01, Replies and refusals)
pub record Taken (w : World) (b reply : List ℕ) (xs : List Call) (report : List ℕ) : Type 0 where
  pub number : (step (since w (exchange b reply) xs) (takes_with report)).number ≡ 0
  pub yields : (step (since w (exchange b reply) xs) (takes_with report)).report ≡ take_bytes b
  pub once : (ys : List Call) (report' : List ℕ) → without posts (taken_at w b reply xs report) ys ≡ true
      → 256 ≤ length (run (taken_at w b reply xs report) ys).write → 10 ≤ length report'
      → (step (run (taken_at w b reply xs report) ys) (takes_with report')).number ≡ 23

-- "held with its payload size, its data at the start of the write store, until the board takes it" (01, Requests, answers, pieces)
pub record PostedWrite (w : World) (b reply : List ℕ) (xs : List Call) : Type 0 where
  pub whole : length (written_data b) ≡ access_length b
  -- until the next accepted write, its first L bytes are the command's data, if nobody else writes the store
  pub bytes : without posts (step w (exchange b reply)).next xs ≡ true → write_handed_on (step w (exchange b reply)).next xs
      → take (access_length b) (since w (exchange b reply) xs).write ≡ written_data b
  pub held : Untaken w b reply xs → held_write (since w (exchange b reply) xs) ≡ Some (posting w b)
  pub taken : Untaken w b reply xs → (report : List ℕ) → 256 ≤ length (since w (exchange b reply) xs).write → 10 ≤ length report
      → Taken w b reply xs report

-- so every posted write that is accepted, whatever comes after it: "One posted write is held" (01, Requests, answers, pieces)
abbrev pub PostedWrites : Type 0
PostedWrites = (w : World) (b reply : List ℕ) → AcceptedPost w b reply → (xs : List Call) → PostedWrite w b reply xs
