-- Demand 3 (00) over every run, as the promises P15, P16 and P17 have it. A run is a list of calls from a world, each call getting what the
-- last one left; `event` says what a call was for channel 0, refused ones are idle.
use Rattle.std.specs.Prelude.{ℕ, ◌+◌, ◌*◌, ◌-◌, ◌/◌, ◌%◌, ◌≤◌, ◌<◌, Bool, true, false, ◌||◌, not, List, [], ◌∷◌, ◌++◌, ◌≡◌, length, get_or, take, drop}
use Rattle.base.specs.Pick.{pick}
use Rattle.base.specs.Bytes.{low2, low4, low8}
use Rattle.registers.specs.Registers.{crc_checked, payload_size}
use Rattle.pieces.specs.Marks.{mark_type}
use Rattle.pieces.specs.Pieces.{blocks, piece, part}
use Rattle.peripheral.specs.declared.Np.TheVariants.{Free, Waiting}
use Rattle.peripheral.specs.Layout.{kind_number}
use Rattle.state.specs.Status.{status}
use Rattle.state.specs.State.{State}
use Rattle.state.specs.Sound.{Sound}
use Rattle.rules.specs.Rules.Peripheral.{look, succeeded}
use Rattle.rules.specs.Rules.Channel.{peripheral}
use Rattle.rules.specs.Rules.Reply.{closed}
use Rattle.rules.specs.Rules.Step.{World, Call, exchange, board, Outcome, step, run, short_stores, look_length, are_bytes, all_handed}
use Rattle.rules.specs.Statements.Fields.{byte, is_read, is_io_write, access_address, access_length, access_tag, written_data, request_kind, crc_right}
use Rattle.rules.specs.Statements.Reads.{request_in}
use Rattle.rules.specs.Statements.Events.{ends, unended}
use Rattle.rules.specs.Statements.Requests.{asks, tells, gets, event, since, without, answers_with, answers, requests, got, got_by, read_handed_on, held, serial_of, shows_bit, raises}

-- ---- completions as bytes

-- "a 3-byte header (cycle type, tag and length as above)"
abbrev pub header : (cycle tag length : ℕ) → List ℕ
header cycle tag length = cycle ∷ (tag * 16 + length / 256) ∷ length % 256 ∷ []

-- the body of the j-th completion, from 0, of a read of L bytes at A under payload size P that is answered with d
-- ("the answer's pieces, block by block in address order, marked only, first, middle or last", 00, demand 3; "Completions: 0Fh only, 0Bh first, 09h
-- middle, 0Dh last", 01, Requests, answers, pieces)
abbrev pub piece_body : (A L P tag : ℕ) → List ℕ → ℕ → List ℕ
piece_body A L P tag d j = header (mark_type (piece A L P j).mark) tag (piece A L P j).size ++ part d (piece A L P j)

-- the data of a completion's reply: what stands between the header and status with CRC
-- ("the data goes into the reply from its fifth byte on", 01, Replies and refusals)
abbrev pub data_in : List ℕ → List ℕ
data_in reply = take (length reply - 7) (drop 4 reply)

-- .. of the replies of a run together, "in address order" (00, demand 3)
unfoldable pub joined_data : List (List ℕ) → List ℕ
joined_data [] = []
joined_data (r ∷ rs) = data_in r ++ joined_data rs

-- ---- from an answer on: P15 (b) to (e)

-- "a good or unchecked CRC"
abbrev pub crc_fine : State → List ℕ → Bool
crc_fine s b = not (crc_checked s.config.r008) || crc_right b

-- of the outcome of the N-th accepted GET_PC
-- ("PC_AVAIL stands until the Nth and then drops", 00, demand 3; "held .. until its last completion is sent", 01, Requests, answers, pieces)
pub record Over (o : Outcome) : Type 0 where
  -- PC_AVAIL is 0 in its reply and stays 0 until a later accepted answer
  pub drops : shows_bit 4 0 o.reply
  pub stays_down : (es : List Call) (c : Call) → without answers o.next es ≡ true → shows_bit 4 0 (step (run o.next es) c).reply
  -- NP_FREE is 1 in its reply and stays 1 until a later accepted request
  pub frees : shows_bit 1 1 o.reply
  pub stays_free : (es : List Call) (c : Call) → without requests o.next es ≡ true → requests (run o.next es) c ≡ false
      → shows_bit 1 1 (step (run o.next es) c).reply
  pub free : held o.next ≡ Free

-- w: the world after the answer; cs: the calls since; N completions with the bodies body 0, body 1, .. are owed in w
-- ("the next N accepted GET_PC commands hand over the answer's pieces"; "each well-formed GET_PC with a good or unchecked CRC and long enough stores is
-- accepted"; "Anything else may come between", 00, demand 3)
pub record Delivers (N : ℕ) (body : ℕ → List ℕ) (w : World) (cs : List Call) : Type 0 where
  -- (b) an accepted GET_PC, j others having been accepted since the answer, replies exactly ACCEPT, the j-th body, status and CRC
  pub in_order_lem : (c : Call) → event (run w cs) c ≡ gets → length (got w cs) < N
      → (step (run w cs) c).reply ≡ closed (0x08 ∷ body (length (got w cs))) (status (step (run w cs) c).next.state)
  -- (c) up to the N-th, a GET_PC (01h and a CRC byte) with a good or unchecked CRC and long enough stores is accepted
  pub accepts : (check : ℕ) (reply : List ℕ) → length (got w cs) < N → short_stores reply (run w cs) ≡ false
      → crc_fine (run w cs).state (0x01 ∷ check ∷ []) ≡ true → (step (run w cs) (exchange (0x01 ∷ check ∷ []) reply)).number ≡ 0
  -- (d), (e) before the N-th, PC_AVAIL is 1 and NP_FREE 0 in every reply
  pub stands : (c : Call) → length (got w cs) + length (got_by (run w cs) c) < N → shows_bit 4 1 (step (run w cs) c).reply
  pub held : (c : Call) → length (got w cs) + length (got_by (run w cs) c) < N → shows_bit 1 0 (step (run w cs) c).reply
  -- the N-th
  pub last : (c : Call) → event (run w cs) c ≡ gets → length (got w cs) + 1 ≡ N → Over (step (run w cs) c)

-- a read of L bytes at A with this tag under payload size P, answered with d ("Let N be the number of P-aligned blocks that it touches", 00, demand 3)
pub record HandsOver (A L P tag : ℕ) (d : List ℕ) (w : World) (cs : List Call) : Type 0 where
  -- N is "1 to 64"
  pub few : (1 ≤ blocks A L P) × (blocks A L P ≤ 64)
  pub pieces : Delivers (blocks A L P) (piece_body A L P tag d) w cs
  -- joined, the data of the N completions is the whole answer
  pub whole : length (got w cs) ≡ blocks A L P → joined_data (got w cs) ≡ d

-- ---- from the acceptance to the answer: P15 (a) and (e), P17

-- b are the bytes of a non-posted request that w accepts; xs are the calls after it, with no ending event and no accepted answer
-- (an accepted answer that names the request's serial is its first: `FirstAnswer` of Answers)
-- ("From the acceptance on, each call gets the state that the last one left", 00, demand 3)
pub record Asked (w : World) (b r : List ℕ) (xs : List Call) : Type 0 where
  pub accepted : event w (exchange b r) ≡ asks
  pub unended : unended peripheral (step w (exchange b r)).next xs ≡ true
  pub unanswered : without answers (step w (exchange b r)).next xs ≡ true

-- the data of an I/O write, 0 past its length and for a read
-- ("such bytes" of a look: "An I/O write's bytes are kept in the state", 01, Requests, answers, pieces)
abbrev pub four_bytes_value : List ℕ → List ℕ
four_bytes_value b = let d = pick (is_io_write (byte b 0)) (written_data b) [] in get_or d 0 0 ∷ get_or d 1 0 ∷ get_or d 2 0 ∷ get_or d 3 0 ∷ []

-- "Looking yields the request's kind, address, length, serial and such bytes"
abbrev pub look_bytes_value : List ℕ → ℕ → List ℕ
look_bytes_value b serial = kind_number (request_kind (byte b 0)) ∷ (low8 (access_address b) ++ (low2 (access_length b) ++ (low4 serial ++ four_bytes_value b)))

-- of the request's own reply, and of any call c after xs
-- ("1 NP_FREE (no request held)", "4 PC_AVAIL (a completion is ready)", 01, Registers and status; 1, "GET_PC with no completion ready",
-- 01, Replies and refusals)
pub record Waits (w : World) (b r : List ℕ) (xs : List Call) (c : Call) : Type 0 where
  -- "Accepting it replies DEFER"; the reply shows NP_FREE 0 and PC_AVAIL 0
  pub defers : (step w (exchange b r)).reply ≡ closed (0x01 ∷ []) (status (step w (exchange b r)).next.state)
  pub defer_np : shows_bit 1 0 (step w (exchange b r)).reply
  pub defer_pc : shows_bit 4 0 (step w (exchange b r)).reply
  -- no GET_PC is accepted before the answer, PC_AVAIL is 0 and NP_FREE 0 in every reply
  pub no_get_lem : event (since w (exchange b r) xs) c ≡ gets → ⊥
  pub down : shows_bit 4 0 (step (since w (exchange b r) xs) c).reply
  pub taken : shows_bit 1 0 (step (since w (exchange b r) xs) c).reply

-- the request is held as its bytes ask it, under the sizes of 010h in the state that accepted it, and a look yields it
-- ("held, with its tag, payload and read sizes then in force and a serial", 01, Requests, answers, pieces)
pub record HeldAs (w : World) (b r : List ℕ) (xs : List Call) : Type 0 where
  pub request : held (since w (exchange b r) xs) ≡ Waiting (request_in w.state.config b)
  pub serial : serial_of (since w (exchange b r) xs) ≡ serial_of (step w (exchange b r)).next
  pub looks : (report : List ℕ) → look_length ≤ length report → (step (since w (exchange b r) xs) (board peripheral (look report))).number ≡ 0
  pub yields : (report : List ℕ) → look_length ≤ length report
      → (step (since w (exchange b r) xs) (board peripheral (look report))).report ≡ look_bytes_value b (serial_of (step w (exchange b r)).next)

-- ---- a request, its answer, and the calls since

-- the world after the answer ("From the answer up to the Nth", 00, demand 3: its first)
abbrev pub answered_at : World → List ℕ → List ℕ → List Call → (serial success : ℕ) → List ℕ → World
answered_at w b r xs serial success d = (step (since w (exchange b r) xs) (answers_with serial success d)).next

-- what demand 3 takes for granted: "accepted .. and then answered by the device", "from the answer on the read store too", and "Until a start, an eSPI
-- reset, a platform reset or a disabling of channel 0, refused ones apart" (00, demand 3)
pub record Answered (w : World) (b r : List ℕ) (xs : List Call) (serial success : ℕ) (d : List ℕ) (ys : List Call) : Type 0 where
  pub sound : Sound w.state
  pub handed : all_handed (exchange b r ∷ xs) ≡ true
  pub asked : Asked w b r xs
  pub answered : event (since w (exchange b r) xs) (answers_with serial success d) ≡ tells
  -- no ending event since, and the read store handed on
  pub unended : unended peripheral (answered_at w b r xs serial success d) ys ≡ true
  pub handed_on : read_handed_on (answered_at w b r xs serial success d) ys
  pub handed_since : all_handed ys ≡ true

-- P15: a read (PUT_NP, short memory read, short I/O read) answered with as many bytes as it asks
-- "Take a read of L bytes at A, accepted with payload size P in force and then answered by the device with L bytes .. the next N accepted GET_PC
-- commands hand over the answer's pieces" (00, demand 3)
abbrev pub ReadAnswered : Type 0
ReadAnswered = (w : World) (b r : List ℕ) (xs : List Call) (serial success : ℕ) (d : List ℕ) (ys : List Call) → Answered w b r xs serial success d ys
    → is_read (byte b 0) ≡ true → length d ≡ access_length b
    → HandsOver (access_address b) (access_length b) (payload_size w.state.config.r010) (access_tag b) d (answered_at w b r xs serial success d) ys

-- P17: a failure, and an I/O write answered with success, give one completion without data
-- "0Eh for failure, alone; the last two have length 0" (01, Requests, answers, pieces)
abbrev pub FailureAnswered : Type 0
FailureAnswered = (w : World) (b r : List ℕ) (xs : List Call) (serial success : ℕ) (d : List ℕ) (ys : List Call) → Answered w b r xs serial success d ys
    → succeeded success ≡ false → Delivers 1 (λ j. header 0x0E (access_tag b) 0) (answered_at w b r xs serial success d) ys

-- "06h for an I/O write" (01, Requests, answers, pieces)
abbrev pub IoWriteAnswered : Type 0
IoWriteAnswered = (w : World) (b r : List ℕ) (xs : List Call) (serial success : ℕ) (d : List ℕ) (ys : List Call) → Answered w b r xs serial success d ys
    → is_io_write (byte b 0) ≡ true → succeeded success ≡ true → Delivers 1 (λ j. header 0x06 (access_tag b) 0) (answered_at w b r xs serial success d) ys

-- P15 (a), (e) and P17 before the answer
-- a completion is ready, and GET_PC accepted, only "From the answer" (00, demand 3); "Accepting it replies DEFER" (01, Requests, answers, pieces)
abbrev pub BeforeAnswer : Type 0
BeforeAnswer = (w : World) (b r : List ℕ) (xs : List Call) → Asked w b r xs → (c : Call) → Waits w b r xs c

-- "One non-posted request is held .. until its last completion is sent": here up to its answer (01, Requests, answers, pieces)
abbrev pub RequestHeld : Type 0
RequestHeld = (w : World) (b r : List ℕ) (xs : List Call) → are_bytes b ≡ true → Asked w b r xs → HeldAs w b r xs

-- ---- after an ending event: P16

-- in the run cs from w an answer that names this serial is accepted ("answered under its own serial number", 00, demand 3)
pub record ToldIn (n : ℕ) (w : World) (cs : List Call) : Type 0 where
  pub ys : List Call
  pub success : ℕ
  pub bytes : List ℕ
  pub zs : List Call
  pub split : cs ≡ ys ++ answers_with n success bytes ∷ zs
  pub accepted : event (run w ys) (answers_with n success bytes) ≡ tells

-- in the run cs from w a request is accepted, and after it an answer that names the serial it got ("a request accepted later has been answered", 00, demand 3)
pub record AskedIn (w : World) (cs : List Call) : Type 0 where
  pub xs : List Call
  pub q : Call
  pub rest : List Call
  pub split : cs ≡ xs ++ q ∷ rest
  pub accepted : event (run w xs) q ≡ asks
  pub answered : ToldIn (serial_of (step (run w xs) q).next) (step (run w xs) q).next rest

-- e is an ending event in w, cs are the calls after it, c is the next one ("GET_PC is refused until a request accepted later has been answered", 00, demand 3)
pub record AfterEnd (w : World) (e : Call) (cs : List Call) (c : Call) : Type 0 where
  pub get_pc : event (since w e cs) c ≡ gets → AskedIn (step w e).next cs
  pub pc_avail : raises 4 (step (since w e cs) c).reply ≡ true → AskedIn (step w e).next cs

-- "After such an event, GET_PC is refused until a request accepted later has been answered under its own serial number" (00, demand 3)
abbrev pub EventEnds : Type 0
EventEnds = (w : World) (e : Call) → ends peripheral w e ≡ true → (cs : List Call) (c : Call) → AfterEnd w e cs c

-- ---- all of it

-- from "Take a read of L bytes at A" to "under its own serial number" (00, demand 3), and the two other answers (01, Requests, answers, pieces)
pub record Demand3 : Type 0 where
  pub before : BeforeAnswer
  pub held : RequestHeld
  pub read : ReadAnswered
  pub failure : FailureAnswered
  pub io_write_lem : IoWriteAnswered
  pub ended : EventEnds
