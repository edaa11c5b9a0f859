-- The numbers of refusals that stand above the decoder (01, Replies and refusals); the decoder's own, 12 to 16, are in the crate command.
use Rattle.std.specs.Prelude.{ℕ, ⊤, Result, Ok, Err}
use Rattle.rules.specs.declared.Refusal.{Refusal}
use Rattle.rules.specs.declared.Refusal.TheVariants.{Fatal, NonFatal, StoreTooShort, StateNotSound, NoSuchRequest, CountWrong, NoSuchWire, NothingThere, LineBusy}

-- "no credit ..; too large; boundary crossed": FATAL
abbrev pub fatal_error : ℕ
fatal_error = 1

-- "forbidden configuration value": NON_FATAL
abbrev pub non_fatal_error : ℕ
non_fatal_error = 2

-- "a lent store too short"
abbrev pub store_too_short : ℕ
store_too_short = 10

-- "state not sound"
abbrev pub state_not_sound : ℕ
state_not_sound = 11

-- "answer: no unanswered request with this serial"
abbrev pub no_such_request : ℕ
no_such_request = 20

-- "answer: byte count wrong"
abbrev pub count_wrong : ℕ
count_wrong = 21

-- "set: wire not the board's, or value above 1; read: no such defined wire"
abbrev pub no_such_wire : ℕ
no_such_wire = 22

-- "no write to take, or no unanswered request to look at"
abbrev pub nothing_there : ℕ
nothing_there = 23

-- "A new number, 24, refuses an edge while channel 1 is off or the operating count is 1, an edge on a line that already waits to be sent, and a raise or
-- lower while its edge waits" (02, Q-4)
abbrev pub line_busy : ℕ
line_busy = 24

-- each refusal has its number (01, Replies and refusals)
abbrev pub number_of : Refusal → ℕ
number_of Fatal = fatal_error
number_of NonFatal = non_fatal_error
number_of StoreTooShort = store_too_short
number_of StateNotSound = state_not_sound
number_of NoSuchRequest = no_such_request
number_of CountWrong = count_wrong
number_of NoSuchWire = no_such_wire
number_of NothingThere = nothing_there
number_of LineBusy = line_busy

-- a call's: "0: accepted or deferred" (01, Replies and refusals), else its refusal's
abbrev pub number_in : Result ⊤ Refusal → ℕ
number_in (Ok u) = 0
number_in (Err x) = number_of x
