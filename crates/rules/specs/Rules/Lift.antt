-- A channel's change put back into the whole: the one place where a part meets the others. And the plans above all channels.
use Rattle.std.specs.Prelude.{ℕ, Option, Some, None}
use Rattle.rules.specs.declared.Response.{Response}
use Rattle.state.specs.Status.{status}
use Rattle.state.specs.State.{State}
use Rattle.rules.specs.Rules.Numbers.{non_fatal_error}
use Rattle.rules.specs.Rules.Channel.{Channel, Board, Change, next_of, out_of, part, put, settle}
use Rattle.rules.specs.declared.Response.TheVariants.{Accept, NonFatal}
use Rattle.rules.specs.declared.Body.{Body}
use Rattle.rules.specs.declared.Body.TheVariants as B
use Rattle.rules.specs.declared.Say.{Say}
use Rattle.rules.specs.declared.Reply.{Reply}
use Rattle.rules.specs.Rules.Plan.{Plan}

-- "Reply: response byte .., body, status" (01, Replies and refusals)
abbrev pub replying : Response → Body → ℕ → Option Reply
replying response body status = Some (record { response = response; body = body; status = status })

-- what a channel says, with a status word: "response byte .., body, status" (01, Replies and refusals)
abbrev pub with_status : Option Say → ℕ → Option Reply
with_status None word = None
with_status (Some y) word = replying y.response y.body word

-- "All other replies show the status after the command" (01, Registers and status)
unfoldable pub lift : (k : Channel) → State → Change k → Plan
lift k s x =
    record {
      number = (out_of k x).number;
      reply = with_status (out_of k x).say (status (put k (next_of k x) s));
      next = put k (next_of k x) s;
      kept = (out_of k x).kept;
    }

-- a board call's plan: 10 and 11 are passed, "then their own from 20 up" (01, Replies and refusals)
abbrev pub settled : (k : Channel) → State → Board k → Plan
settled k s o = lift k s (settle k s.config (part k s) o)

-- ---- above all channels

-- a refusal without a reply: "none; unchanged" (01, Replies and refusals, 12 to 16)
abbrev pub silent : ℕ → State → Plan
silent number s = record { number = number; reply = None; next = s; kept = None }

-- accepted, and nothing changes: GET_STATUS, GET_CONFIGURATION; the status is the state's (01, Registers and status; 004, 3.6 and 3.7)
abbrev pub show : Body → State → Plan
show body s = record { number = 0; reply = replying Accept body (status s); next = s; kept = None }

-- number 2: "NON_FATAL, 4 bytes; otherwise unchanged" (01, Replies and refusals)
abbrev pub non_fatal : State → Plan
non_fatal s = record { number = non_fatal_error; reply = replying NonFatal B.Nothing (status s); next = s; kept = None }

-- "A write takes effect after its own reply, whose CRC rule and status are the old ones" (01, Registers and status)
abbrev pub accept_then : State → State → Plan
accept_then old new = record { number = 0; reply = replying Accept B.Nothing (status old); next = new; kept = None }

-- accepted without a reply: "RESET 0 bytes" (01, Replies and refusals)
abbrev pub quietly : State → Plan
quietly s = record { number = 0; reply = None; next = s; kept = None }
