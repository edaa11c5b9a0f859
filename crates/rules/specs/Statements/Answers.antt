-- Serials over runs (P14; 01, Requests, answers, pieces).
use Rattle.std.specs.Prelude.{ℕ, ◌+◌, ◌%◌, ◌^◌, ◌≤◌, ◌<◌, Bool, true, ◌&&◌, not, List, [], ◌∷◌, ◌++◌, ◌≡◌, length}
use Rattle.base.specs.Pick.{pick}
use Rattle.peripheral.specs.declared.Np.TheVariants.{Waiting}
use Rattle.peripheral.specs.declared.Request.{Request}
use Rattle.rules.specs.Rules.Channel.{peripheral}
use Rattle.rules.specs.Rules.Step.{World, Call, step, read_length}
use Rattle.rules.specs.Statements.Events.{ends, unended}
use Rattle.rules.specs.Statements.Requests.{asks, tells, event, is_start, answers_with, since, without, answers, requests, held, serial_of}

-- "The serial goes up by one modulo 2^32 at each accepted request; only start sets it, to 0"
abbrev pub serial_after : World → Call → ℕ
serial_after w c = pick (requests w c) ((serial_of w + 1) % 2 ^ 32) (pick (is_start c) 0 (serial_of w))

-- .. of every call: "No reset touches it" (01, Requests, answers, pieces)
abbrev pub SerialGiven : Type 0
SerialGiven = (w : World) (c : Call) → serial_of (step w c).next ≡ serial_after w c

-- an answer is accepted only for the held unanswered request, whose serial it names ("An answer names the serial", 01, Requests, answers, pieces)
pub record ForHeld (w : World) (serial : ℕ) : Type 0 where
  pub request : Request
  pub waits : held w ≡ Waiting request
  pub named : serial ≡ serial_of w

-- .. so of every accepted answer; 20 is "answer: no unanswered request with this serial" (01, Replies and refusals)
abbrev pub AnswerForHeld : Type 0
AnswerForHeld = (w : World) (serial success : ℕ) (d : List ℕ) → event w (answers_with serial success d) ≡ tells → ForHeld w serial

-- ---- a late answer

-- how many requests a run accepts (of `LateAnswer`: "fewer than 2^32 requests", 01, Requests, answers, pieces)
unfoldable pub asked_times : World → List Call → ℕ
asked_times w [] = 0
asked_times w (c ∷ cs) = pick (requests w c) 1 0 + asked_times (step w c).next cs

-- .. and whether it has "no start" (01, Requests, answers, pieces)
unfoldable pub no_start_value : List Call → Bool
no_start_value [] = true
no_start_value (c ∷ cs) = not (is_start c) && no_start_value cs

-- q is a request that w accepts, cs are the calls since: at least one request and fewer than 2^32 accepted, no start
-- "a late answer is told apart while no start and fewer than 2^32 requests have come since" (01, Requests, answers, pieces)
abbrev pub LateAnswer : Type 0
LateAnswer = (w : World) (q : Call) → event w q ≡ asks → (cs : List Call) → no_start_value cs ≡ true
    → 0 < asked_times (step w q).next cs → asked_times (step w q).next cs < 2 ^ 32
    → (success : ℕ) (d : List ℕ) → read_length ≤ length (since w q cs).read
    → (step (since w q cs) (answers_with (serial_of (step w q).next) success d)).number ≡ 20

-- the same where an ending event e has dropped the request, whether or not another one was accepted since
-- ("Disabling channel 0, platform reset and eSPI reset drop held write, request and completions", 01, Requests, answers, pieces)
abbrev pub DroppedAnswer : Type 0
DroppedAnswer = (w : World) (q : Call) → event w q ≡ asks → (xs : List Call) (e : Call) (cs : List Call)
    → ends peripheral (since w q xs) e ≡ true → no_start_value (xs ++ e ∷ cs) ≡ true → asked_times (step w q).next (xs ++ e ∷ cs) < 2 ^ 32
    → (success : ℕ) (d : List ℕ) → read_length ≤ length (since w q (xs ++ e ∷ cs)).read
    → (step (since w q (xs ++ e ∷ cs)) (answers_with (serial_of (step w q).next) success d)).number ≡ 20

-- an accepted answer that names a request's serial, no ending event and fewer than 2^32 requests having come since, is the request's
-- first: so the answer that demand 3 speaks of is the one that names the serial ("answered under its own serial number", 00, demand 3)
abbrev pub FirstAnswer : Type 0
FirstAnswer = (w : World) (q : Call) → event w q ≡ asks → (xs : List Call) → unended peripheral (step w q).next xs ≡ true
    → asked_times (step w q).next xs < 2 ^ 32
    → (success : ℕ) (d : List ℕ) → event (since w q xs) (answers_with (serial_of (step w q).next) success d) ≡ tells
    → without answers (step w q).next xs ≡ true

-- all of it: "The serial goes up by one modulo 2^32 .. have come since" (01, Requests, answers, pieces)
pub record Serials : Type 0 where
  pub given : SerialGiven
  pub for_held_lem : AnswerForHeld
  pub late : LateAnswer
  pub dropped : DroppedAnswer
  pub first : FirstAnswer
