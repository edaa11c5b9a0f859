-- 004, table 18, "CRC Byte with Input Data D7:D0": its eight equations, and that they are the eight shifts.
use Rattle.std.specs.Prelude.{ℕ, ◌<◌, ◌≡◌, refl}
use Rattle.std.specs.Int.Bits.{bit_xor}
use Rattle.std.proofs.lemmas.Nat.{xor_lt}
use Rattle.crc.specs.Crc.{crc_bit, shifts, crc_byte}
use Rattle.crc.specs.Each.{same_bytes}
use Rattle.crc.specs.Table18.{table18}

-- ---- laws

-- they are the eight shifts: one test over the 256 bytes
pub equations_shift : (d : ℕ) → d < 256 → table18 d ≡ shifts 8 d
unfolding table18 shifts crc_bit
equations_shift = same_bytes table18 (shifts 8) refl

-- so of the old CRC combined with the data byte they are the byte taken in
pub table18-byte : (r b : ℕ) → r < 256 → b < 256 → table18 (bit_xor r b) ≡ crc_byte r b
unfolding crc_byte
table18-byte r b hr hb = equations_shift (bit_xor r b) (xor_lt 8 r b hr hb)
