-- What an entry may be, and how long its body is (02, Q-2).
use Rattle.std.specs.Prelude.{ℕ, Bool, true, ◌&&◌, eqb, leb, Result, Ok, Err}
use Rattle.base.specs.Pick.{pick}
use Rattle.housefile.specs.declared.Kind.{Kind}
use Rattle.housefile.specs.declared.Kind.TheVariants.{Command, Success, Failure, SetWire, PlatformReset, EspiReset, TakeWrite}
use Rattle.housefile.specs.declared.UnknownKind.{UnknownKind}
use Rattle.housefile.specs.declared.Row.{Row}

-- "Kinds 0 to 6" (02, Q-2): any other is "an unknown kind"
abbrev pub known : ℕ → Bool
known kind = leb kind 6

-- "command, success answer, failure answer, set wire, platform reset, eSPI reset, take write", from 0 on; asked of a known kind (02, Q-2)
abbrev pub kind_of : ℕ → Kind
kind_of kind =
    pick (eqb kind 0) Command
    (pick (eqb kind 1) Success
    (pick (eqb kind 2) Failure
    (pick (eqb kind 3) SetWire
    (pick (eqb kind 4) PlatformReset
    (pick (eqb kind 5) EspiReset
    TakeWrite)))))

-- .. or that it is "an unknown kind" (02, Q-2)
abbrev pub kind_named : ℕ → Result Kind UnknownKind
kind_named kind = pick (known kind) (Ok (kind_of kind)) (Err (record { 0 = kind }))

-- "Answers begin with the 4-byte serial; set wire is index, bit, value; kinds 4 to 6 have no body": wrong are "an answer under 4 bytes, a failure answer
-- over 4, a set wire not of 3" (02, Q-2)
abbrev pub body_fits : Kind → ℕ → Bool
body_fits Command length = true
body_fits Success length = leb 4 length
body_fits Failure length = eqb length 4
body_fits SetWire length = eqb length 3
body_fits PlatformReset length = eqb length 0
body_fits EspiReset length = eqb length 0
body_fits TakeWrite length = eqb length 0

-- a row of the contents that may stand: neither "an unknown kind" nor "a body of the wrong length for its kind" (02, Q-2)
abbrev pub row_fits_value : Row → Bool
row_fits_value r = known r.kind && body_fits (kind_of r.kind) r.length
