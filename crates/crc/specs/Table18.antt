-- 004, table 18, "CRC Byte with Input Data D7:D0": its eight equations, and that they are the eight shifts.
use Rattle.std.specs.Prelude.{ℕ, ◌+◌, ◌*◌, ◌/◌, ◌%◌}
use Rattle.std.specs.Int.Bits.{bit_xor}

infixl 60 ◌⊕◌
-- "⊕ Denotes Logical XOR" (004, table 18)
abbrev pub ◌⊕◌ : ℕ → ℕ → ℕ
a ⊕ b = bit_xor a b

-- "8th Clock. CRC = Q7:0" (004, table 18), D7:D0 being the bits of d
unfoldable pub table18 : ℕ → ℕ
table18 d =
    let D0 : ℕ = d % 2 in
    let D1 : ℕ = d / 2 % 2 in
    let D2 : ℕ = d / 4 % 2 in
    let D3 : ℕ = d / 8 % 2 in
    let D4 : ℕ = d / 16 % 2 in
    let D5 : ℕ = d / 32 % 2 in
    let D6 : ℕ = d / 64 % 2 in
    let D7 : ℕ = d / 128 % 2 in
    let Q0 : ℕ = D7 ⊕ D6 ⊕ D0 in
    let Q1 : ℕ = D6 ⊕ D1 ⊕ D0 in
    let Q2 : ℕ = D6 ⊕ D2 ⊕ D1 ⊕ D0 in
    let Q3 : ℕ = D7 ⊕ D3 ⊕ D2 ⊕ D1 in
    let Q4 : ℕ = D4 ⊕ D3 ⊕ D2 in
    let Q5 : ℕ = D5 ⊕ D4 ⊕ D3 in
    let Q6 : ℕ = D6 ⊕ D5 ⊕ D4 in
    let Q7 : ℕ = D7 ⊕ D6 ⊕ D5 in
    Q0 + Q1 * 2 + Q2 * 4 + Q3 * 8 + Q4 * 16 + Q5 * 32 + Q6 * 64 + Q7 * 128
