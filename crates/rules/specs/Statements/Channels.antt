-- What is asked of every channel: a command is refused with FATAL and keeps the part, or is accepted with the response of its kind and a
-- body and data of the channel's own; a call of the board is refused with its number alone, or is accepted. From the channels' laws; what
-- follows from it holds for every channel.
use Rattle.std.specs.Prelude.{ℕ, ◌≤◌, ◌<◌, true, [], ◌≡◌, Option}
use Rattle.registers.specs.declared.Config.{Config}
use Rattle.rules.specs.Rules.Out.{fatal, number, keep, says}
use Rattle.rules.specs.Rules.Peripheral as P
use Rattle.rules.specs.Rules.Channel.{Channel, peripheral, wires, Part, Act, Board, Change, change, report_of, value_of, own_body, own_kept}
use Rattle.rules.specs.Statements.Cases.{Did, Settled}
use Rattle.rules.specs.declared.Response.{Response}
use Rattle.rules.specs.declared.Response.TheVariants.{Accept, Defer}
use Rattle.rules.specs.declared.Body.{Body}
use Rattle.rules.specs.declared.Kept.{Kept}
use Rattle.rules.specs.declared.Out.{Out}

-- "Accepting [a non-posted request] replies DEFER", all else ACCEPT
abbrev pub peripheral_response : P.Act → Response
peripheral_response (P.posts address length from) = Accept
peripheral_response (P.asks q) = Defer
peripheral_response P.gets = Accept

-- "ACCEPT 08h, DEFER 01h": an accepted command's, by its channel (01, Replies and refusals)
abbrev pub response_for : (k : Channel) → Act k → Response
response_for peripheral a = peripheral_response a
response_for wires a = Accept

-- 0, "accepted or deferred" (01, Replies and refusals)
abbrev pub accepts : Response → Body → Option Kept → Out
accepts response body kept = record { number = 0; say = says response body; kept = kept }

-- refused: 1, "FATAL, 4 bytes; otherwise unchanged"; accepted: "as the rules say" (01, Replies and refusals)
pub data Acts (k : Channel) (p : Part k) (a : Act k) : Change k → Type 0 where
  refused : Acts k p a (change k p fatal)
  accepted : (q : Part k) (body : Body) (kept : Option Kept) → own_body k body ≡ true → own_kept k kept ≡ true
      → Acts k p a (change k q (accepts (response_for k a) body kept))

-- "a refused one yields only its number"
pub data Settles (k : Channel) (p : Part k) (o : Board k) : Change k → Type 0 where
  refused : (n : ℕ) → 20 ≤ n → n < 256 → report_of k p o ≡ [] → value_of k p o ≡ 0 → Settles k p o (change k p (number n))
  accepted : (q : Part k) (kept : Option Kept) → own_kept k kept ≡ true → Settles k p o (change k q (keep kept))

-- both of every channel, by its law ("The first that applies counts", 01, Replies and refusals: 1 of a command, "their own from 20 up" of a call)
pub record Lawful : Type 1 where
  pub acts : (k : Channel) (c : Config) (p : Part k) (a : Act k) (x : Change k) → Did k c p a x → Acts k p a x
  pub settles : (k : Channel) (c : Config) (p : Part k) (o : Board k) (x : Change k) → Settled k c p o x → Settles k p o x
