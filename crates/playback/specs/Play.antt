-- Play (02, Q-2): an entry is one of the engine's calls; outcomes by `step` from the fresh world, and the text that tells them. Then the same on the bytes
-- that a program keeps, an entry at a time.
use Rattle.std.specs.Prelude.{ℕ, ◌+◌, ◌-◌, List, [], ◌∷◌, ◌++◌, length, get_or, take, drop, replicate}
use Rattle.base.specs.Bytes.{over, number4}
use Rattle.state.specs.Fresh.{fresh_state}
use Rattle.rules.specs.Rules.Reset.{espi_reset, platform_reset}
use Rattle.rules.specs.Rules.Peripheral as P
use Rattle.rules.specs.Rules.Wires as W
use Rattle.rules.specs.Rules.Channel.{peripheral, wires}
use Rattle.rules.specs.Rules.Step.{World, Call, reset, exchange, board, Outcome, step, reply_length, write_length, read_length, take_length}
use Rattle.rules.specs.Rules.Calls.{Done, done, start_call, take_write_call}
use Rattle.rules.specs.Statements.Refusals.{number_of}
use Rattle.promises.specs.ByteRuns.{ByteWorld, ByteOutcome, byte_step_value}
use Rattle.promises.specs.Statements.Lifted.{value_of}
use Rattle.housefile.specs.Kinds.{kind_of}
use Rattle.housefile.specs.Format.{Entry, Capture, bad, good, row_at, rows_end, read}
use Rattle.housefile.specs.declared.Kind.{Kind}
use Rattle.housefile.specs.declared.Kind.TheVariants.{Command, Success, Failure, SetWire, PlatformReset, EspiReset, TakeWrite}
use Rattle.playback.specs.Lines.{line_of, bad_line}
use Rattle.playback.specs.declared.Place.{Place}
use Rattle.playback.specs.declared.Said.{Said}

-- ---- an entry is a call

-- "command, success answer, failure answer, set wire, platform reset, eSPI reset, take write"; "Answers begin with the 4-byte serial; set wire is index,
-- bit, value" (02, Q-2); a take is lent a report of its own (docs/DECISIONS.md, 59)
abbrev pub call_of : Kind → (body reply : List ℕ) → Call
call_of Command body reply = exchange body reply
call_of Success body reply = board peripheral (P.answer (number4 0 body) 1 (drop 4 body))
call_of Failure body reply = board peripheral (P.answer (number4 0 body) 0 (drop 4 body))
call_of SetWire body reply = board wires (W.set_wire (get_or body 0 0) (get_or body 1 0) (get_or body 2 0))
call_of PlatformReset body reply = reset platform_reset
call_of EspiReset body reply = reset espi_reset
call_of TakeWrite body reply = board peripheral (P.take_write (replicate take_length 0))

-- .. of an entry (02, Q-2)
abbrev pub entry_call : Entry → (reply : List ℕ) → Call
entry_call e reply = call_of (kind_of e.kind) e.body reply

-- a take: the report is not told (02, Q-2: a line has "its number, refusal number and reply")
unfoldable pub taking : (state write : List ℕ) → Done
taking state write = let x = take_write_call state write (replicate take_length 0) in done x.word x.state

-- ---- play

-- so many bytes of 0: a program's own stores, before anything is written (docs/DECISIONS.md, 59)
abbrev pub zeros : ℕ → List ℕ
zeros n = replicate n 0

-- "Play begins from start" (02, Q-2), with stores that are long enough (docs/DECISIONS.md, 59)
abbrev pub fresh_world : World
fresh_world = record { state = fresh_state; write = zeros write_length; read = zeros read_length }

-- what the entries give, one after the other: "each call gets the state that the last one left" (00, demand 3)
unfoldable pub outcomes : World → List Entry → List Outcome
outcomes w [] = []
outcomes w (e ∷ es) = step w (entry_call e (zeros reply_length)) ∷ outcomes (step w (entry_call e (zeros reply_length))).next es

-- "one line per entry", from entry n on (02, Q-2)
unfoldable pub lines_of : ℕ → List Outcome → List ℕ
lines_of n [] = []
lines_of n (o ∷ os) = line_of n o.number o.reply ++ lines_of (n + 1) os

-- what is printed: "the only line is "bad capture"", or a line for each entry; "Entries count from 1" (02, Q-2)
abbrev pub text_of : Capture → List ℕ
text_of bad = bad_line
text_of (good es) = lines_of 1 (outcomes fresh_world es)

-- ---- an entry on the bytes that a program keeps

-- the entry at a place of a file (02, Q-2)
abbrev pub entry_at : List ℕ → Place → Entry
entry_at file p = record { kind = (row_at file p.number).kind; body = take (row_at file p.number).length (drop p.body file) }

-- .. and the place after it: "the bodies follow in that order" (02, Q-2)
abbrev pub place_after : List ℕ → Place → Place
place_after file p = record { number = p.number + 1; left = p.left - 1; body = p.body + (row_at file p.number).length }

-- the reply store after the call: an exchange's alone is written (01, What the engine covers: "A call needs only those it uses")
abbrev pub reply_after : Kind → ByteOutcome → List ℕ → List ℕ
reply_after Command x reply = x.reply
reply_after Success x reply = reply
reply_after Failure x reply = reply
reply_after SetWire x reply = reply
reply_after PlatformReset x reply = reply
reply_after EspiReset x reply = reply
reply_after TakeWrite x reply = reply

-- how many bytes of it are the reply: a command's word says it, the others have none (01, What the engine covers)
abbrev pub replied_length : Kind → ℕ → ℕ
replied_length Command word = value_of word
replied_length Success word = 0
replied_length Failure word = 0
replied_length SetWire word = 0
replied_length PlatformReset word = 0
replied_length EspiReset word = 0
replied_length TakeWrite word = 0

-- what an entry's call leaves: its word and each lent slice ("each byte of each lent store", 01, What each contract must settle)
pub record Obeyed : Type 0 where
  pub word : ℕ
  pub state : List ℕ
  pub reply : List ℕ
  pub write : List ℕ
  pub read : List ℕ

-- .. part by part (01, What each contract must settle)
abbrev pub obeyed : (word : ℕ) (state reply write read : List ℕ) → Obeyed
obeyed word state reply write read = record { word = word; state = state; reply = reply; write = write; read = read }

-- .. of an outcome over bytes (01, What each contract must settle)
abbrev pub obeyed_by : Kind → ByteOutcome → (reply : List ℕ) → Obeyed
obeyed_by k x reply = obeyed x.word x.next.state (reply_after k x reply) x.next.write x.next.read

-- the bytes that a program keeps (01, What the engine covers: "State bytes lent")
abbrev pub bytes : (state write read : List ℕ) → ByteWorld
bytes state write read = record { state = state; write = write; read = read }

-- an entry's call on them, by the calls over bytes (01, What the engine covers: "the exchange and these through plain numbers and byte slices")
unfoldable pub obey : (k : Kind) (body state reply write read : List ℕ) → Obeyed
obey k body state reply write read = obeyed_by k (byte_step_value (bytes state write read) (call_of k body reply)) reply

-- what `play` leaves: the line's size and the next place, and each lent slice (01, What each contract must settle)
pub record Played : Type 0 where
  pub said : Said
  pub state : List ℕ
  pub reply : List ℕ
  pub write : List ℕ
  pub read : List ℕ
  pub line : List ℕ

-- .. part by part (01, What each contract must settle)
abbrev pub played : Said → (state reply write read line : List ℕ) → Played
played said state reply write read line = record { said = said; state = state; reply = reply; write = write; read = read; line = line }

-- the line of the entry at a place, by its call's word and reply store (02, Q-2)
abbrev pub line_at : Place → Kind → Obeyed → List ℕ
line_at p k x = line_of (p.number + 1) (number_of x.word) (take (replied_length k x.word) x.reply)

-- .. and all that playing it leaves, the line at the start of the lent one (02, Q-2)
abbrev pub played_by : List ℕ → Place → Kind → Obeyed → (line : List ℕ) → Played
played_by file p k x line =
    played (record { size = length (line_at p k x); next = place_after file p }) x.state x.reply x.write x.read (over (line_at p k x) line)

-- the entry at a place played (02, Q-2)
unfoldable pub play_entry : (file : List ℕ) (p : Place) (state reply write read line : List ℕ) → Played
play_entry file p state reply write read line =
    let k = kind_of (entry_at file p).kind in
    played_by file p k (obey k (entry_at file p).body state reply write read) line

-- ---- the beginning

-- what `begin` leaves (01, What each contract must settle)
pub record Begun : Type 0 where
  pub said : Said
  pub state : List ℕ
  pub line : List ℕ

-- .. part by part (01, What each contract must settle)
abbrev pub begun : Said → (state line : List ℕ) → Begun
begun said state line = record { said = said; state = state; line = line }

-- a place (02, Q-2)
abbrev pub place : (number left body : ℕ) → Place
place number left body = record { number = number; left = left; body = body }

-- a bad file is "refused before the first entry runs", a good one "begins from start" (02, Q-2)
abbrev pub begin_with : Capture → (state line : List ℕ) → Begun
begin_with bad state line = begun (record { size = length bad_line; next = place 0 0 0 }) state (over bad_line line)
begin_with (good es) state line = begun (record { size = 0; next = place 0 (length es) (rows_end (length es)) }) (start_call state).state line

-- .. by what reading the file gives (02, Q-2)
unfoldable pub begin_on : (file state line : List ℕ) → Begun
begin_on file state line = begin_with (read file) state line
