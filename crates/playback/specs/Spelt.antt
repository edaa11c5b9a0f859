-- What is claimed of the digits: decimal ones spell the number, hex ones the bytes. Proved in Proofs/Spelt.
use Rattle.std.specs.Prelude.{ℕ, ◌+◌, ◌-◌, ◌*◌, ◌<◌, ◌≤◌, List, [], ◌∷◌, ◌⊎◌, ◌≡◌, ltb, get_or}
use Rattle.base.specs.Pick.{pick}
use Rattle.base.specs.AllBytes.{AllBytes}
use Rattle.playback.specs.Lines.{decimal_of, hex_of}

-- "0" to "9" (02, Q-2: the entry's number, refusal number)
abbrev pub Digit : ℕ → Type 0
Digit d = (0x30 ≤ d) × (d ≤ 0x39)

-- .. or "A" to "F" ("upper-case hex", 02, Q-2)
abbrev pub Upper : ℕ → Type 0
Upper d = Digit d ⊎ ((0x41 ≤ d) × (d ≤ 0x46))

-- so each byte of a text (02, Q-2: "without spaces")
unfoldable pub Each : (ℕ → Type 0) → List ℕ → Type 0
Each Of [] = Unit {0}
Each Of (d ∷ l) = Of d × Each Of l

-- the number that decimal digits spell, those before them being n (02, Q-2: the entry's number, refusal number)
unfoldable pub number_spelt : ℕ → List ℕ → ℕ
number_spelt n [] = n
number_spelt n (d ∷ l) = number_spelt (n * 10 + (d - 0x30)) l

-- a hex digit's value (02, Q-2: "the reply is upper-case hex")
abbrev pub hex_value : ℕ → ℕ
hex_value d = pick (ltb d 0x41) (d - 0x30) (d - 0x41 + 10)

-- the bytes that hex digits spell, two a byte, the high one first (02, Q-2: "1 0 0807003A")
unfoldable pub bytes_spelt : List ℕ → List ℕ
bytes_spelt [] = []
bytes_spelt (a ∷ []) = []
bytes_spelt (a ∷ b ∷ l) = (hex_value a * 16 + hex_value b) ∷ bytes_spelt l

-- a number's digits and a reply's are what document 02 calls them: they spell it, and decimal ones begin with no 0 but for 0 itself (02, Q-2)
pub record Spelt : Type 0 where
  pub number : (n : ℕ) → number_spelt 0 (decimal_of n) ≡ n
  pub digits : (n : ℕ) → Each Digit (decimal_of n)
  pub first : (n : ℕ) → 0 < n → 0x30 < get_or (decimal_of n) 0 0
  pub bytes : (l : List ℕ) → AllBytes l → bytes_spelt (hex_of l) ≡ l
  pub upper : (l : List ℕ) → AllBytes l → Each Upper (hex_of l)
