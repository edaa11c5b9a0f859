-- Why bytes are refused, from the bytes alone: how many bytes an opcode asks for, in the order of 01, Replies and refusals; and that the definition
-- of the decoder, which goes by the row, gives the same. So the code may test before it makes a row.
use Rattle.std.specs.Prelude.{ℕ, ◌+◌, Bool, true, false, not, ◌||◌, List, ◌≡◌, refl, eqb, ltb, get_or}
use Rattle.std.proofs.Math.Path.{ap}
use Rattle.std.proofs.Math.ListN.{length}
use Rattle.base.specs.Pick.{pick}
use Rattle.command.specs.Rows.{types}
use Rattle.command.specs.Needs.{cycle_listed, length_of, all_ff}
use Rattle.command.specs.Decode.{crc_wrong}
use Rattle.command.specs.declared.Row.{Row}
use Rattle.command.specs.declared.Command.{Command}
use Rattle.std.specs.Prelude.{Option, Some, None, Result, Ok, Err}
use Rattle.command.specs.declared.Refusal.{Refusal}
use Rattle.command.specs.declared.Refusal.TheVariants.{LengthWrong, OpcodeUnknown, ChannelDisabled, CycleUnlisted, CrcWrong}
use Rattle.command.specs.Numbers.{number_of}
use Rattle.std.proofs.Common.{sym, ◌∙◌, arith}

-- ---- the verdict

-- 0: none
abbrev pub number_in : Result Command Refusal → ℕ
number_in (Ok c) = 0
number_in (Err z) = number_of z

-- whether the bytes are a command, and else why not
abbrev pub verdict : Result Command Refusal → Result (Unit {0}) Refusal
verdict (Ok c) = Ok tt
verdict (Err z) = Err z

-- "14, .. exact length (12)", then 16: n bytes in all
abbrev pub refused_fixed : (on checked : Bool) → List ℕ → ℕ → Result (Unit {0}) Refusal
refused_fixed on checked b n =
    pick (not on) (Err ChannelDisabled) (pick (not (eqb (length b) n)) (Err LengthWrong) (pick (crc_wrong checked true b) (Err CrcWrong) (Ok tt)))

-- "In a short opcode .. 10 is no opcode"
abbrev pub refused_short : (on checked : Bool) → List ℕ → (n code : ℕ) → Result (Unit {0}) Refusal
refused_short on checked b n c = pick (eqb c 2) (Err OpcodeUnknown) (refused_fixed on checked b n)

-- the header of PUT_PC and PUT_NP, 8 or 4 address bytes, the data of a write, the CRC
abbrev pub headed_bytes : List ℕ → (wide : ℕ) (writes : Bool) → ℕ
headed_bytes b w d = 4 + pick (eqb (get_or b 1 0) w) 8 4 + pick d (length_of (get_or b 2 0) (get_or b 3 0)) 0 + 1

-- "14, a missing header byte needed next (12) or 15, exact length (12)"
abbrev pub refused_headed : (on checked : Bool) → List ℕ → (narrow wide : ℕ) (writes : Bool) → Result (Unit {0}) Refusal
refused_headed on checked b n w d =
    pick (not on) (Err ChannelDisabled)
    (pick (ltb (length b) 2) (Err LengthWrong)
    (pick (not (cycle_listed (types n w) (get_or b 1 0))) (Err CycleUnlisted)
    (refused_fixed on checked b (headed_bytes b w d))))

-- "RESET: two or more bytes, all FFh", else 13
abbrev pub refused_reset : List ℕ → Result (Unit {0}) Refusal
refused_reset b = pick (not (all_ff b) || ltb (length b) 2) (Err OpcodeUnknown) (Ok tt)

-- ---- the same by the row

-- 12, then 16
pub in_order : (t u : Bool) (c : Command)
    → pick t (Err LengthWrong) (pick u (Err CrcWrong) (Ok tt)) ≡ verdict (pick t (Err LengthWrong) (pick u (Err CrcWrong) (Ok c)))
in_order true u c = refl
in_order false true c = refl
in_order false false c = refl

-- ---- what the verdict lets in

-- one number, one refusal
refusal_of : ℕ → Refusal
refusal_of n = pick (eqb n 12) LengthWrong (pick (eqb n 13) OpcodeUnknown (pick (eqb n 14) ChannelDisabled (pick (eqb n 15) CycleUnlisted CrcWrong)))

refusal_back : (z : Refusal) → refusal_of (number_of z) ≡ z
unfolding refusal_of
refusal_back LengthWrong = refl
refusal_back OpcodeUnknown = refl
refusal_back ChannelDisabled = refl
refusal_back CycleUnlisted = refl
refusal_back CrcWrong = refl

-- no refusal is 0
not_0 : (z : Refusal) → number_of z ≡ 0 → ⊥
not_0 LengthWrong e = omega arith
not_0 OpcodeUnknown e = omega arith
not_0 ChannelDisabled e = omega arith
not_0 CycleUnlisted e = omega arith
not_0 CrcWrong e = omega arith

-- what has the number of a refusal is that refusal
pub refused_is : (z : Refusal) (d : Result Command Refusal) → number_of z ≡ number_in d → Err z ≡ d
refused_is z (Ok c) e = absurd (not_0 z e)
refused_is z (Err y) e = ap Err (sym (refusal_back z) ∙ ap refusal_of e ∙ refusal_back y)

-- and a number other than 0 is some refusal's, and that refusal is the answer
pub some_refused : {n : ℕ} (d : Result Command Refusal) → n ≡ number_in d → (n ≡ 0 → ⊥) → (z : Refusal) × (number_of z ≡ n) × (Err z ≡ d)
some_refused (Ok c) e h = absurd (h e)
some_refused (Err z) e h = (z, sym e, refl)

-- .. and 0 is none's
pub no_number : (d : Result Command Refusal) → number_in d ≡ 0 → verdict d ≡ Ok tt
no_number (Ok c) e = refl
no_number (Err z) e = absurd (not_0 z e)

abbrev pub row_in : Option Row → Row → Row
row_in (Some r) q = r
row_in None q = q
