-- What goes out of a channel's change (01, Replies and refusals): number, response and body, bytes to keep.
use Rattle.std.specs.Prelude.{ℕ, Option, Some, None}
use Rattle.rules.specs.declared.Say.{Say}
use Rattle.rules.specs.Rules.Numbers.{fatal_error}
use Rattle.rules.specs.declared.Response.{Response}
use Rattle.rules.specs.declared.Response.TheVariants.{Accept, Defer, NonFatal, Fatal}
use Rattle.rules.specs.declared.Body.{Body}
use Rattle.rules.specs.declared.Body.TheVariants as B
use Rattle.rules.specs.declared.Kept.{Kept}
use Rattle.rules.specs.declared.Out.{Out}

-- "ACCEPT 08h, DEFER 01h, NON_FATAL 02h, FATAL 03h"
abbrev pub response_byte : Response → ℕ
response_byte Accept = 0x08
response_byte Defer = 0x01
response_byte NonFatal = 0x02
response_byte Fatal = 0x03

-- response and body, the status not yet between them and the CRC: "Reply: response byte .., body" (01, Replies and refusals)
abbrev pub says : Response → Body → Option Say
says response body = Some (record { response = response; body = body })

-- that many bytes of the call's data from a place on: "data at the start of the write store", "copies exactly L bytes" (01, Requests, answers, pieces)
abbrev pub kept_from : ℕ → ℕ → Option Kept
kept_from from count = Some (record { from = from; count = count })

-- number 1: "FATAL, 4 bytes"
abbrev pub fatal : Out
fatal = record { number = fatal_error; say = says Fatal B.Nothing; kept = None }

-- number "0", "accepted or deferred": here ACCEPT (01, Replies and refusals)
abbrev pub accept : Body → Option Kept → Out
accept body kept = record { number = 0; say = says Accept body; kept = kept }

-- "Accepting it replies DEFER"
abbrev pub defer : Out
defer = record { number = 0; say = says Defer B.Nothing; kept = None }

-- a board call has no reply: "a refused one yields only its number" (01, Replies and refusals)
abbrev pub number : ℕ → Out
number n = record { number = n; say = None; kept = None }

-- a board call that is accepted, number 0, and its data kept: an answer's (01, Requests, answers, pieces: "Success copies exactly L bytes")
abbrev pub keep : Option Kept → Out
keep kept = record { number = 0; say = None; kept = kept }
