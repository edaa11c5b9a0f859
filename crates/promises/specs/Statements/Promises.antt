-- The promises over runs of the eleven calls on bytes: P4, the words of events, P14 to P17, P21, and P22 for every channel. Proved in Proofs/Promises.
-- A run begins with bytes that hold a sound state (`Starts` of Lifted: any start gives such); commands are bytes below 256 (`handed_over`).
use Rattle.std.specs.Prelude.{ℕ, suc, ◌+◌, ◌*◌, ◌^◌, ◌<◌, ◌≤◌, Bool, true, false, List, [], ◌∷◌, ◌++◌, ◌≢◌, ◌≡◌, length}
use Rattle.base.specs.Bytes.{over}
use Rattle.registers.specs.Registers.{payload_size}
use Rattle.pieces.specs.Pieces.{blocks}
use Rattle.wires.specs.Table.{is_group}
use Rattle.wires.specs.Groups.{mark_at}
use Rattle.peripheral.specs.declared.Np.TheVariants.{Free, Waiting}
use Rattle.peripheral.specs.declared.Request.{Request}
use Rattle.state.specs.Status.{status}
use Rattle.rules.specs.Rules.Peripheral.{look, succeeded}
use Rattle.rules.specs.Rules.Channel.{Channel, peripheral, wires, same}
use Rattle.rules.specs.Rules.Reply.{closed}
use Rattle.rules.specs.Rules.Step.{World, Call, exchange, board, step, run, are_bytes, handed_over, all_handed, read_length, reply_length, write_length, look_length}
use Rattle.rules.specs.Statements.Fields.{byte, is_read, is_io_write, access_address, access_length, access_tag}
use Rattle.rules.specs.Statements.Reads.{request_in}
use Rattle.rules.specs.Statements.Events.{ends, unended}
use Rattle.rules.specs.Statements.Requests as R
use Rattle.rules.specs.Statements.Requests.{Event, asks, tells, gets, event, without, got, answers_with, held, shows_bit, raises}
use Rattle.rules.specs.Statements.Words.{GetPc, NonPosted, Answer, Ending, Exactly, AsksFor}
use Rattle.rules.specs.Statements.Demand3.{header, piece_body, joined_data, crc_fine, look_bytes_value}
use Rattle.rules.specs.Statements.Answers.{no_start_value, ForHeld}
use Rattle.rules.specs.Statements.WireEvents as W
use Rattle.rules.specs.Statements.WireSteps.{waits_at, entries_at}
use Rattle.rules.specs.Statements.Bound.{Carries, share_of, turns_on}
use Rattle.rules.specs.Statements.Apart.{others, Alike, SameButWires, SameButPeripheral}
use Rattle.promises.specs.ByteRuns.{ByteWorld, ByteOutcome, byte_step_value, byte_run}
use Rattle.promises.specs.Statements.Lifted.{Holding, world_of, reply_in, lent_reply, lent_report, Meets}
use Rattle.promises.specs.Statements.Words.{number_at, state_in, serial_in, byte_since, byte_pltrst, byte_ends, byte_unended, byte_event, byte_wire_event}
use Rattle.promises.specs.Statements.Words.{byte_without, byte_answers, byte_requests, byte_got_by, byte_got, byte_asked_times, byte_handed_on}
use Rattle.promises.specs.Statements.Words.{byte_gets_in, byte_shares_in, byte_gets_below, byte_line_waits, byte_remains, byte_edge_refuses, byte_seeing}

-- ---- the bridge: at every place of a run, what a statement over `step` and `run` says is said of the bytes

-- "each call gets the state that the last one left" (00, demand 3), here as bytes: "the state packed in lent bytes" (01, What form each place takes)
pub record Bridge (v : ByteWorld) (cs : List Call) : Type 0 where
  pub world : world_of (byte_run v cs) ≡ run (world_of v) cs
  pub holding : Holding (byte_run v cs)
  pub call : (c : Call) → handed_over c ≡ true → Meets (lent_reply c) (lent_report c) (byte_step_value (byte_run v cs) c) (step (run (world_of v) cs) c)
  pub events : (c : Call) → handed_over c ≡ true → byte_event (byte_run v cs) c ≡ event (run (world_of v) cs) c
  pub wire_events : (c : Call) → handed_over c ≡ true → byte_wire_event (byte_run v cs) c ≡ W.wire_event (run (world_of v) cs) c
  pub ends : (k : Channel) (c : Call) → handed_over c ≡ true → byte_ends k (byte_run v cs) c ≡ ends k (run (world_of v) cs) c
  pub unended : (k : Channel) → byte_unended k v cs ≡ unended k (world_of v) cs
  pub without : (p : Event → Bool) → byte_without (λ v c. p (byte_event v c)) v cs ≡ without (λ w c. p (event w c)) (world_of v) cs
  pub got : byte_got v cs ≡ got (world_of v) cs

-- .. of every run from bytes of a sound state ("bytes that pack no state are 11", 01, What the engine covers)
abbrev pub Bridged : Type 0
Bridged = (v : ByteWorld) → Holding v → (cs : List Call) → all_handed cs ≡ true → Bridge v cs

-- ---- P4

-- "Every call keeps it" (01, Sound state)
abbrev pub BytesKept : Type 0
BytesKept = (v : ByteWorld) → Holding v → (c : Call) → handed_over c ≡ true → Holding (byte_step_value v c).next

-- ---- the events in words and bytes: an accepted GET_PC is exactly number 0 of an exchange whose first byte is 01h, and so on

-- number 0, of such a call ("accepted or deferred", 01, Replies and refusals)
abbrev pub Accepts : ByteWorld → Call → Type 0 → Type 0
Accepts v c Such = (number_at v c ≡ 0) × Such

-- "accepted GET_PC commands", "a request accepted later", "answered by the device", "a start, an eSPI reset, a platform reset or a disabling of channel 0,
-- refused ones apart" (00, demand 3)
pub record InBytes (v : ByteWorld) (c : Call) : Type 0 where
  pub get : Exactly (byte_event v c ≡ gets) (Accepts v c (GetPc c))
  pub ask : Exactly (byte_event v c ≡ asks) (Accepts v c (NonPosted c))
  pub tell : Exactly (byte_event v c ≡ tells) (Accepts v c (Answer c))
  pub end : Exactly (byte_event v c ≡ R.ends) (byte_ends peripheral v c ≡ true)
  pub ends : (k : Channel) → Exactly (byte_ends k v c ≡ true) (Accepts v c
      (Ending k (state_in v).config (byte_pltrst v) (byte_pltrst (byte_step_value v c).next) c))

-- of every call on bytes that hold a state: so of every call of every run (`Bridge`) (the words of 00, demand 3)
abbrev pub EventsInBytes : Type 0
EventsInBytes = (v : ByteWorld) → Holding v → (c : Call) → handed_over c ≡ true → InBytes v c

-- the request that an accepted command makes is as its bytes ask it ("One non-posted request is held", 01, Requests, answers, pieces)
pub record HeldRequest (v : ByteWorld) (b r : List ℕ) : Type 0 where
  pub request : Request
  pub waits : held (world_of (byte_step_value v (exchange b r)).next) ≡ Waiting request
  pub asks : AsksFor b request

-- .. of every accepted request: "Accepting it replies DEFER" (01, Requests, answers, pieces)
abbrev pub RequestInBytes : Type 0
RequestInBytes = (v : ByteWorld) → Holding v → (b r : List ℕ) → are_bytes b ≡ true → byte_event v (exchange b r) ≡ asks → HeldRequest v b r

-- ---- P15 and P17, from an answer on

-- of the N-th accepted GET_PC: PC_AVAIL drops, NP_FREE rises
-- ("PC_AVAIL stands until the Nth and then drops", 00, demand 3; "held .. until its last completion is sent", 01, Requests, answers, pieces)
pub record Over (x : ByteOutcome) : Type 0 where
  pub drops : shows_bit 4 0 (reply_in x)
  pub stays_down : (es : List Call) (c : Call) → all_handed es ≡ true → handed_over c ≡ true → byte_without byte_answers x.next es ≡ true
      → shows_bit 4 0 (reply_in (byte_step_value (byte_run x.next es) c))
  pub frees : shows_bit 1 1 (reply_in x)
  pub stays_free : (es : List Call) (c : Call) → all_handed es ≡ true → handed_over c ≡ true → byte_without byte_requests x.next es ≡ true
      → byte_requests (byte_run x.next es) c ≡ false → shows_bit 1 1 (reply_in (byte_step_value (byte_run x.next es) c))
  pub free : held (world_of x.next) ≡ Free

-- v: the bytes after the answer; cs: the calls since; N completions with the bodies body 0, body 1, .. are owed
-- ("the next N accepted GET_PC commands hand over the answer's pieces", (c) "each well-formed GET_PC with a good or unchecked CRC and long enough stores
-- is accepted", 00, demand 3)
pub record Delivers (N : ℕ) (body : ℕ → List ℕ) (v : ByteWorld) (cs : List Call) : Type 0 where
  -- (b) the reply store begins with exactly ACCEPT, the next body, status and CRC, and the word's value is their count
  pub in_order_lem : (c : Call) → handed_over c ≡ true → byte_event (byte_run v cs) c ≡ gets → length (byte_got v cs) < N
      → reply_in (byte_step_value (byte_run v cs) c) ≡ closed (0x08 ∷ body (length (byte_got v cs)))
      (status (state_in (byte_step_value (byte_run v cs) c).next))
  -- (c)
  pub accepts : (check : ℕ) (reply : List ℕ) → check < 256 → length (byte_got v cs) < N → reply_length ≤ length reply
      → write_length ≤ length (byte_run v cs).write → read_length ≤ length (byte_run v cs).read → crc_fine (state_in (byte_run v cs)) (0x01 ∷ check ∷ []) ≡ true
      → number_at (byte_run v cs) (exchange (0x01 ∷ check ∷ []) reply) ≡ 0
  -- (d), (e)
  pub stands : (c : Call) → handed_over c ≡ true → length (byte_got v cs) + length (byte_got_by (byte_run v cs) c) < N
      → shows_bit 4 1 (reply_in (byte_step_value (byte_run v cs) c))
  pub held : (c : Call) → handed_over c ≡ true → length (byte_got v cs) + length (byte_got_by (byte_run v cs) c) < N
      → shows_bit 1 0 (reply_in (byte_step_value (byte_run v cs) c))
  pub last : (c : Call) → handed_over c ≡ true → byte_event (byte_run v cs) c ≡ gets → length (byte_got v cs) + 1 ≡ N → Over (byte_step_value (byte_run v cs) c)

-- a read's: "Let N be the number of P-aligned blocks that it touches" (00, demand 3), "1 to 64" (01, Requests, answers, pieces)
pub record HandsOver (A L P tag : ℕ) (d : List ℕ) (v : ByteWorld) (cs : List Call) : Type 0 where
  pub few : (1 ≤ blocks A L P) × (blocks A L P ≤ 64)
  pub pieces : Delivers (blocks A L P) (piece_body A L P tag d) v cs
  pub whole : length (byte_got v cs) ≡ blocks A L P → joined_data (byte_got v cs) ≡ d

-- ---- P15 and P17, from the acceptance to the answer

-- v accepts the non-posted request b; xs are the calls after it, with no ending event and no accepted answer
-- ("From the acceptance on, each call gets the state that the last one left", 00, demand 3)
pub record Asked (v : ByteWorld) (b r : List ℕ) (xs : List Call) : Type 0 where
  pub holding : Holding v
  pub handed : all_handed (exchange b r ∷ xs) ≡ true
  pub accepted : byte_event v (exchange b r) ≡ asks
  pub unended : byte_unended peripheral (byte_step_value v (exchange b r)).next xs ≡ true
  pub unanswered : byte_without byte_answers (byte_step_value v (exchange b r)).next xs ≡ true

-- of its own reply, and of any call c after xs: "Accepting it replies DEFER" (01, Requests, answers, pieces); no completion is ready before the answer
pub record Waits (v : ByteWorld) (b r : List ℕ) (xs : List Call) (c : Call) : Type 0 where
  pub defers : reply_in (byte_step_value v (exchange b r)) ≡ closed (0x01 ∷ []) (status (state_in (byte_step_value v (exchange b r)).next))
  pub defer_np : shows_bit 1 0 (reply_in (byte_step_value v (exchange b r)))
  pub defer_pc : shows_bit 4 0 (reply_in (byte_step_value v (exchange b r)))
  pub no_get_lem : byte_event (byte_since v (exchange b r) xs) c ≡ gets → ⊥
  pub down : shows_bit 4 0 (reply_in (byte_step_value (byte_since v (exchange b r) xs) c))
  pub taken : shows_bit 1 0 (reply_in (byte_step_value (byte_since v (exchange b r) xs) c))

-- .. so up to the answer (1, "GET_PC with no completion ready", 01, Replies and refusals)
abbrev pub BeforeAnswer : Type 0
BeforeAnswer = (v : ByteWorld) (b r : List ℕ) (xs : List Call) → Asked v b r xs → (c : Call) → handed_over c ≡ true → Waits v b r xs c

-- the request is held as the command's bytes ask it, under the sizes then in force; a look has word 0, and its report begins with it
-- ("held, with its tag, payload and read sizes then in force and a serial"; "Looking yields", 01, Requests, answers, pieces)
pub record HeldAs (v : ByteWorld) (b r : List ℕ) (xs : List Call) : Type 0 where
  pub request : held (world_of (byte_since v (exchange b r) xs)) ≡ Waiting (request_in (state_in v).config b)
  pub serial : serial_in (byte_since v (exchange b r) xs) ≡ serial_in (byte_step_value v (exchange b r)).next
  pub looks : (report : List ℕ) → look_length ≤ length report → (byte_step_value (byte_since v (exchange b r) xs) (board peripheral (look report))).word ≡ 0
  pub yields : (report : List ℕ) → look_length ≤ length report
      → (byte_step_value (byte_since v (exchange b r) xs) (board peripheral (look report))).report
      ≡ over (look_bytes_value b (serial_in (byte_step_value v (exchange b r)).next)) report

-- .. so up to the answer: "One non-posted request is held" (01, Requests, answers, pieces)
abbrev pub RequestHeld : Type 0
RequestHeld = (v : ByteWorld) (b r : List ℕ) (xs : List Call) → Asked v b r xs → HeldAs v b r xs

-- ---- a request, its answer, and the calls since

-- the bytes after the answer ("From the answer up to the Nth", 00, demand 3)
abbrev pub answered_at : ByteWorld → List ℕ → List ℕ → List Call → (serial success : ℕ) → List ℕ → ByteWorld
answered_at v b r xs serial success d = (byte_step_value (byte_since v (exchange b r) xs) (answers_with serial success d)).next

-- "from the answer on the read store too. Until a start, an eSPI reset, a platform reset or a disabling of channel 0, refused ones apart" (00, demand 3)
pub record Answered (v : ByteWorld) (b r : List ℕ) (xs : List Call) (serial success : ℕ) (d : List ℕ) (ys : List Call) : Type 0 where
  pub asked : Asked v b r xs
  pub answered : byte_event (byte_since v (exchange b r) xs) (answers_with serial success d) ≡ tells
  pub handed_since : all_handed ys ≡ true
  pub unended_since : byte_unended peripheral (answered_at v b r xs serial success d) ys ≡ true
  pub handed_on : byte_handed_on (answered_at v b r xs serial success d) ys

-- "Take a read of L bytes at A, accepted with payload size P in force and then answered by the device with L bytes" (00, demand 3)
abbrev pub ReadAnswered : Type 0
ReadAnswered = (v : ByteWorld) (b r : List ℕ) (xs : List Call) (serial success : ℕ) (d : List ℕ) (ys : List Call) → Answered v b r xs serial success d ys
    → is_read (byte b 0) ≡ true → length d ≡ access_length b
    → HandsOver (access_address b) (access_length b) (payload_size (state_in v).config.r010) (access_tag b) d (answered_at v b r xs serial success d) ys

-- "0Eh for failure, alone" (01, Requests, answers, pieces)
abbrev pub FailureAnswered : Type 0
FailureAnswered = (v : ByteWorld) (b r : List ℕ) (xs : List Call) (serial success : ℕ) (d : List ℕ) (ys : List Call) → Answered v b r xs serial success d ys
    → succeeded success ≡ false → Delivers 1 (λ j. header 0x0E (access_tag b) 0) (answered_at v b r xs serial success d) ys

-- "06h for an I/O write" (01, Requests, answers, pieces)
abbrev pub IoWriteAnswered : Type 0
IoWriteAnswered = (v : ByteWorld) (b r : List ℕ) (xs : List Call) (serial success : ℕ) (d : List ℕ) (ys : List Call) → Answered v b r xs serial success d ys
    → is_io_write (byte b 0) ≡ true → succeeded success ≡ true → Delivers 1 (λ j. header 0x06 (access_tag b) 0) (answered_at v b r xs serial success d) ys

-- ---- P16

-- in the run cs from v, an accepted answer that names this serial: "answered under its own serial number" (00, demand 3)
pub record ToldIn (n : ℕ) (v : ByteWorld) (cs : List Call) : Type 0 where
  pub ys : List Call
  pub success : ℕ
  pub bytes : List ℕ
  pub zs : List Call
  pub split : cs ≡ ys ++ answers_with n success bytes ∷ zs
  pub accepted : byte_event (byte_run v ys) (answers_with n success bytes) ≡ tells

-- .. an accepted request and then its answer: "a request accepted later has been answered" (00, demand 3)
pub record AskedIn (v : ByteWorld) (cs : List Call) : Type 0 where
  pub xs : List Call
  pub q : Call
  pub rest : List Call
  pub split : cs ≡ xs ++ q ∷ rest
  pub accepted : byte_event (byte_run v xs) q ≡ asks
  pub answered : ToldIn (serial_in (byte_step_value (byte_run v xs) q).next) (byte_step_value (byte_run v xs) q).next rest

-- after an ending event e: a GET_PC whose word has number 0, or a reply with PC_AVAIL, comes only after a request and its answer
-- ("GET_PC is refused until a request accepted later has been answered", 00, demand 3)
pub record AfterEnd (v : ByteWorld) (e : Call) (cs : List Call) (c : Call) : Type 0 where
  pub get_pc : byte_event (byte_since v e cs) c ≡ gets → AskedIn (byte_step_value v e).next cs
  pub pc_avail : raises 4 (reply_in (byte_step_value (byte_since v e cs) c)) ≡ true → AskedIn (byte_step_value v e).next cs

-- "After such an event, GET_PC is refused until a request accepted later has been answered under its own serial number" (00, demand 3)
abbrev pub EventEnds : Type 0
EventEnds = (v : ByteWorld) → Holding v → (e : Call) (cs : List Call) (c : Call) → all_handed (e ∷ cs) ≡ true → handed_over c ≡ true
    → byte_ends peripheral v e ≡ true → AfterEnd v e cs c

-- in plain bytes: after an ending event, until an answer is accepted, the word of a GET_PC has a number other than 0
-- ("After such an event, GET_PC is refused", 00, demand 3)
abbrev pub GetPcRefused : Type 0
GetPcRefused = (v : ByteWorld) → Holding v → (e : Call) (cs : List Call) → all_handed (e ∷ cs) ≡ true → byte_ends peripheral v e ≡ true
    → byte_without byte_answers (byte_step_value v e).next cs ≡ true
    → (check : ℕ) (reply : List ℕ) → check < 256 → number_at (byte_since v e cs) (exchange (0x01 ∷ check ∷ []) reply) ≢ 0

-- ---- P14

-- an answer is accepted only for the held unanswered request, whose serial it names
-- ("An answer names the serial", 01, Requests, answers, pieces; 20, "no unanswered request with this serial", 01, Replies and refusals)
abbrev pub AnswerForHeld : Type 0
AnswerForHeld = (v : ByteWorld) → Holding v → (serial success : ℕ) (d : List ℕ) → byte_event v (answers_with serial success d) ≡ tells
    → ForHeld (world_of v) serial

-- "a late answer is told apart while no start and fewer than 2^32 requests have come since" (01, Requests, answers, pieces)
abbrev pub LateAnswer : Type 0
LateAnswer = (v : ByteWorld) → Holding v → (q : Call) (cs : List Call) → all_handed (q ∷ cs) ≡ true → byte_event v q ≡ asks → no_start_value cs ≡ true
    → 0 < byte_asked_times (byte_step_value v q).next cs → byte_asked_times (byte_step_value v q).next cs < 2 ^ 32
    → (success : ℕ) (d : List ℕ) → read_length ≤ length (byte_since v q cs).read
    → (byte_step_value (byte_since v q cs) (answers_with (serial_in (byte_step_value v q).next) success d)).word ≡ 20

-- .. where the request was dropped: "Disabling channel 0, platform reset and eSPI reset drop held write, request and completions" (01, Requests, answers,
-- pieces)
abbrev pub DroppedAnswer : Type 0
DroppedAnswer = (v : ByteWorld) → Holding v → (q : Call) (xs : List Call) (e : Call) (cs : List Call) → all_handed (q ∷ xs ++ e ∷ cs) ≡ true
    → byte_event v q ≡ asks
    → byte_ends peripheral (byte_since v q xs) e ≡ true → no_start_value (xs ++ e ∷ cs) ≡ true
    → byte_asked_times (byte_step_value v q).next (xs ++ e ∷ cs) < 2 ^ 32
    → (success : ℕ) (d : List ℕ) → read_length ≤ length (byte_since v q (xs ++ e ∷ cs)).read
    → (byte_step_value (byte_since v q (xs ++ e ∷ cs)) (answers_with (serial_in (byte_step_value v q).next) success d)).word ≡ 20

-- an accepted answer that names a request's serial is its first: so `Asked` holds of it ("answered under its own serial number", 00, demand 3)
abbrev pub FirstAnswer : Type 0
FirstAnswer = (v : ByteWorld) → Holding v → (q : Call) (xs : List Call) → all_handed (q ∷ xs) ≡ true → byte_event v q ≡ asks
    → byte_unended peripheral (byte_step_value v q).next xs ≡ true → byte_asked_times (byte_step_value v q).next xs < 2 ^ 32
    → (success : ℕ) (d : List ℕ) → byte_event (byte_since v q xs) (answers_with (serial_in (byte_step_value v q).next) success d) ≡ tells
    → byte_without byte_answers (byte_step_value v q).next xs ≡ true

-- ---- P21

-- an accepted GET_VWIRE of the run carries the sender, "with its value when sent" (01, Wires), and what comes before it measures less than this
pub record SentBy (measure : ByteWorld → List Call → ℕ) (k limit : ℕ) (v : ByteWorld) (cs : List Call) : Type 0 where
  pub before : List Call
  pub call : Call
  pub after : List Call
  pub split : cs ≡ before ++ (call ∷ after)
  pub is_get : byte_wire_event (byte_run v before) call ≡ W.gets
  pub soon : measure v before < limit
  pub carries : Carries (reply_in (byte_step_value (byte_run v before) call)) (entries_at (state_in (byte_run v before)).wires k)

-- a sender waits, with d turns from the place to it; once the shares of the accepted GET_VWIREs come to more than d, it has been sent
-- (02, Q-4: "a bound from the number of senders and the operating count, proved once for every count")
abbrev pub SentInTurn : Type 0
SentInTurn = (v : ByteWorld) → Holding v → (k d : ℕ) → d < 259 → turns_on d (state_in v).wires.groups.place ≡ k → waits_at (state_in v).wires k ≡ true
    → (cs : List Call) → all_handed cs ≡ true → byte_unended wires v cs ≡ true → d < byte_shares_in v cs → SentBy byte_shares_in k (suc d) v cs

-- so by the B-th accepted one, where B * max(1, c / 2) is 259 or more and each had an operating count of c or more (02, Q-4)
abbrev pub SentByTheLast : Type 0
SentByTheLast = (v : ByteWorld) → Holding v → (k : ℕ) → k < 259 → waits_at (state_in v).wires k ≡ true → (c B : ℕ) → 259 ≤ B * share_of c
    → (cs : List Call) → all_handed cs ≡ true → byte_unended wires v cs ≡ true → byte_without (byte_gets_below c) v cs ≡ true → B ≤ byte_gets_in v cs
    → SentBy byte_gets_in k B v cs

-- with no line waiting in the run the senders are three (01, Wires: the three up groups; 02, Q-4)
abbrev pub GroupSent : Type 0
GroupSent = (v : ByteWorld) → Holding v → (g : ℕ) → is_group g ≡ true → mark_at (state_in v).wires.groups g ≡ true → (c B : ℕ) → 3 ≤ B * share_of c
    → (cs : List Call) → all_handed cs ≡ true → byte_unended wires v cs ≡ true → byte_without (byte_gets_below c) v cs ≡ true
    → byte_without byte_line_waits v cs ≡ true → B ≤ byte_gets_in v cs → SentBy byte_gets_in (g + 252) B v cs

-- "A pending group, .. is sent by the third accepted GET_VWIRE unless a start, such a reset or a disabling comes first" (01, Wires), no line waiting
abbrev pub SentByTheThird : Type 0
SentByTheThird = (v : ByteWorld) → Holding v → (g : ℕ) → is_group g ≡ true → mark_at (state_in v).wires.groups g ≡ true
    → (cs : List Call) → all_handed cs ≡ true → byte_unended wires v cs ≡ true → byte_without byte_line_waits v cs ≡ true → 3 ≤ byte_gets_in v cs
    → SentBy byte_gets_in (g + 252) 3 v cs

-- ---- no channel tells on another

-- bytes that hold worlds alike but for x (the same bytes, for one), runs that are equal but for x's own calls
-- ("the same reply but for status bit 6 and the CRC byte", 01, Wires; "the other channels' replies are equal", 02, Q-14)
pub record RunsAlike (x : Channel) (Same : World → World → Type 0) (v u : ByteWorld) (cs ds : List Call) : Type 0 where
  pub calls : byte_seeing x v cs ≡ byte_seeing x u ds
  pub after : Same (world_of (byte_run v cs)) (world_of (byte_run u ds))

-- runs that differ in x's own calls: "equal resets, equal calls and commands on channel 0, status and configuration" (01, Wires), and so for any channel x
-- (02, Q-14), equal in what is left of the runs; where x is the wires, "runs without such a refused write" (02, Q-4), a write of 020h refused for an edge
pub record DifferIn (x : Channel) (v u : ByteWorld) (cs ds : List Call) : Type 0 where
  pub left : byte_remains x v cs ≡ byte_remains x u ds
  pub first : same x wires ≡ true → byte_without byte_edge_refuses v cs ≡ true
  pub second : same x wires ≡ true → byte_without byte_edge_refuses u ds ≡ true

-- .. show the same of all other calls (02, Q-14: "the other channels' replies are equal, .. and their stores and refusals are equal")
abbrev pub Apart : (x : Channel) → (World → World → Type 0) → (ByteWorld → ByteWorld → List Call → List Call → Type 0) → Type 0
Apart x Same Differ = (v u : ByteWorld) → Holding v → Holding u → Same (world_of v) (world_of u)
    → (cs ds : List Call) → all_handed cs ≡ true → all_handed ds ≡ true → Differ v u cs ds → RunsAlike x Same v u cs ds

-- "State the wire-independence rule for every pair of the four channels" (02, Q-14), of the two that there are
abbrev pub NoneTells : Type 0
NoneTells = (x : Channel) → Apart x (Alike x) (DifferIn x)

-- P22: the same registers, queues and stores; its mirror: the same registers and wires, stores that are long enough in both or in neither
-- ("Wire traffic and channel 0: two runs .. give each peripheral command the same reply but for status bit 6 and the CRC byte", 01, Wires; "for runs with
-- the same such packets", 02, Q-1; "without such a refused write", 02, Q-4)
abbrev pub WiresApart : Type 0
WiresApart = Apart wires SameButWires (DifferIn wires)

-- .. and the rule the other way round: "One argument should serve all pairs" (02, Q-14); of edges nothing is asked, the wires are the same
abbrev pub PeripheralApart : Type 0
PeripheralApart = Apart peripheral SameButPeripheral (λ v u cs ds. others peripheral cs ≡ others peripheral ds)

-- ---- all of it

-- of what a caller in C keeps, who "calls the exchange and these through plain numbers and byte slices" (01, What the engine covers)
pub record Promises : Type 0 where
  pub bridge : Bridged
  pub sound : BytesKept
  pub events : EventsInBytes
  pub request : RequestInBytes
  pub before : BeforeAnswer
  pub held : RequestHeld
  pub read : ReadAnswered
  pub failure : FailureAnswered
  pub io_write_lem : IoWriteAnswered
  pub ended : EventEnds
  pub refused : GetPcRefused
  pub for_held_lem : AnswerForHeld
  pub late : LateAnswer
  pub dropped : DroppedAnswer
  pub first : FirstAnswer
  pub in_turn : SentInTurn
  pub last : SentByTheLast
  pub group : GroupSent
  pub third : SentByTheThird
  pub none_tells_lem : NoneTells
  pub wires_apart_lem : WiresApart
  pub peripheral_apart_lem : PeripheralApart
