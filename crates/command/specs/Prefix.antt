-- What the first bytes of a command need, as more of them come: a whole and a refusal stay, and few bytes decide (01, Commands). So the bytes
-- can be fed one by one.
use Rattle.std.specs.Prelude.{ℕ, ◌-◌, ◌<◌, ◌≤◌, Bool, not, ◌&&◌, List, ◌++◌, ◌⊎◌, ◌≡◌, eqb, leb, length, get_or, take}
use Rattle.base.specs.Pick.{pick}
use Rattle.command.specs.Rows.{row_of}
use Rattle.command.specs.Needs.{channel_on, cycle_listed, all_ff, need_in}
use Rattle.command.specs.Decode.{crc_good, admit}
use Rattle.command.specs.Facts.{IsBytes}
use Rattle.command.specs.declared.Channels.{Channels}
use Rattle.command.specs.declared.Data.{Data}
use Rattle.command.specs.declared.Data.TheVariants.{Fixed, Length, Pairs, Ones}
use Rattle.command.specs.declared.Need.{Need}
use Rattle.command.specs.declared.Need.TheVariants.{Whole, More, Open, Never}
use Rattle.command.specs.declared.Command.{Command}
use Rattle.command.specs.declared.Command.TheVariants as C
use Rattle.std.specs.Prelude.{Option, Some, None, Result, Ok, Err}
use Rattle.command.specs.declared.Refusal.{Refusal}
use Rattle.command.specs.declared.Refusal.TheVariants.{LengthWrong, OpcodeUnknown, ChannelDisabled, CycleUnlisted, CrcWrong}
use Rattle.command.specs.declared.Row.{Row}

-- ---- more than 4,109 bytes: the first two decide, and whether all are FFh

-- too long for every command but one: 12, "too long"; "RESET: two or more bytes, all FFh", else 13
abbrev pub endless : Data → Bool → Result Command Refusal
endless (Fixed n) ff = Err LengthWrong
endless Length ff = Err LengthWrong
endless Pairs ff = Err LengthWrong
endless Ones ff = pick ff (Ok C.Reset) (Err OpcodeUnknown)

-- "in this order": 13, 14, 15, then the length (01, Replies and refusals)
abbrev pub overlong : Channels → Option Row → (second : ℕ) (ff : Bool) → Result Command Refusal
overlong on None t ff = Err OpcodeUnknown
overlong on (Some r) t ff =
    pick (not (channel_on on r.channel)) (Err ChannelDisabled)
    (pick (not (cycle_listed r.cycle t)) (Err CycleUnlisted)
    (endless r.carries ff))

-- 12 while bytes are missing or too many, then 16, then the command; RESET at two bytes or more; a refusal as the need says it ("in this order")
abbrev pub ReadsOff : Bool → List ℕ → Need → Result Command Refusal → Type 0
ReadsOff checked b (Whole n) d =
    (c : Command) × (d ≡ pick (not (eqb (length b) n)) (Err LengthWrong) (pick (checked && not (crc_good b)) (Err CrcWrong) (Ok c)))
ReadsOff checked b (More k) d = d ≡ Err LengthWrong
ReadsOff checked b Open d = d ≡ pick (not (leb 2 (length b))) (Err OpcodeUnknown) (Ok C.Reset)
ReadsOff checked b (Never z) d = d ≡ Err z

-- "how many bytes the command needs in all, or how many more header bytes must come before that is known" (02, Q-8), as more bytes come; a buffer
-- of "at least 4,109 bytes" holds every command whose length is fixed
pub record Prefix (on : Channels) : Type 0 where
  pub whole_stays_lem : (b c : List ℕ) (n : ℕ) → need_in on b ≡ Whole n → need_in on (b ++ c) ≡ Whole n
  pub never_stays_lem : (b c : List ℕ) (z : Refusal) → need_in on b ≡ Never z → need_in on (b ++ c) ≡ Never z
  -- with fewer than were asked for, the rest is asked for, or the cycle type has come and is not listed
  pub more_left_lem : (b c : List ℕ) (k : ℕ) → need_in on b ≡ More k → length c < k
      → (need_in on (b ++ c) ≡ More (k - length c)) ⊎ (need_in on (b ++ c) ≡ Never CycleUnlisted)
  pub more_few : (b : List ℕ) (k : ℕ) → need_in on b ≡ More k → (1 ≤ k) × (k ≤ 3)
  pub whole_fits_lem : (b : List ℕ) (n : ℕ) → IsBytes b → need_in on b ≡ Whole n → (2 ≤ n) × (n ≤ 4109)
  pub whole_in_four : (b : List ℕ) (n : ℕ) → need_in on b ≡ Whole n → need_in on (take 4 b) ≡ Whole n
  pub reads_off_lem : (checked : Bool) (b : List ℕ) → ReadsOff checked b (need_in on b) (admit on checked b)
  pub over : (checked : Bool) (b : List ℕ) → IsBytes b → 4109 < length b
      → admit on checked b ≡ overlong on (row_of (get_or b 0 0)) (get_or b 1 0) (all_ff b)
