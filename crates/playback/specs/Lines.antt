-- The line of an entry: "its number, refusal number and reply in hex" (02, Q-2), as bytes.
use Rattle.std.specs.Prelude.{ℕ, zero, suc, ◌+◌, ◌-◌, ◌/◌, ◌%◌, List, [], ◌∷◌, ◌++◌, ltb}
use Rattle.base.specs.Pick.{pick}

-- "0" to "9" (02, Q-2: the entry's number, refusal number)
abbrev pub digit_of : ℕ → ℕ
digit_of d = 0x30 + d

-- "upper-case hex": "0" to "9", then "A" to "F" (02, Q-2)
abbrev pub upper_of : ℕ → ℕ
upper_of d = pick (ltb d 10) (0x30 + d) (0x41 + (d - 10))

-- the decimal digits of a number that has at most so many and one more, the first not 0 but for 0 itself (docs/DECISIONS.md, 58)
unfoldable pub digits_of : (most n : ℕ) → List ℕ
digits_of zero n = digit_of n ∷ []
digits_of (suc most) n = pick (ltb n 10) (digit_of n ∷ []) (digits_of most (n / 10) ++ (digit_of (n % 10) ∷ []))

-- "Entries count from 1" (02, Q-2): a number in decimal, of at most n + 1 digits
unfoldable pub decimal_of : ℕ → List ℕ
decimal_of n = digits_of n n

-- "upper-case hex without spaces" (02, Q-2)
unfoldable pub hex_of : List ℕ → List ℕ
hex_of [] = []
hex_of (b ∷ l) = upper_of (b / 16) ∷ upper_of (b % 16) ∷ hex_of l

-- "the reply is upper-case hex without spaces, or "-" if there is none" (02, Q-2)
abbrev pub shown_of : List ℕ → List ℕ
shown_of [] = 0x2D ∷ []
shown_of (b ∷ l) = hex_of (b ∷ l)

-- "its number, refusal number and reply in hex", a space between them and a line feed at the end: "1 0 0807003A" (02, Q-2; docs/DECISIONS.md, 58)
unfoldable pub line_of : (number refusal : ℕ) (reply : List ℕ) → List ℕ
line_of number refusal reply = decimal_of number ++ (0x20 ∷ decimal_of refusal ++ (0x20 ∷ shown_of reply ++ (0x0A ∷ [])))

-- the only line of a bad file: "bad capture" (02, Q-2)
abbrev pub bad_line : List ℕ
bad_line = 0x62 ∷ 0x61 ∷ 0x64 ∷ 0x20 ∷ 0x63 ∷ 0x61 ∷ 0x70 ∷ 0x74 ∷ 0x75 ∷ 0x72 ∷ 0x65 ∷ 0x0A ∷ []

-- the longest line: five digits, three, 263 bytes in hex, two spaces and the line feed (docs/DECISIONS.md, 58)
abbrev pub line_length : ℕ
line_length = 537
