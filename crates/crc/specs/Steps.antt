-- The steps of the code: numbers brought down to a byte, and that the byte is the CRC.
use Rattle.std.specs.Prelude.{ℕ, ◌*◌, ◌/◌, ◌%◌, ◌<◌, ◌≡◌, refl}
use Rattle.std.proofs.Common.{sym, subst}
use Rattle.std.specs.Int.Bits.{bit_xor}
use Rattle.crc.specs.Each.{same_bytes}
use Rattle.crc.specs.Table18.{table18}

-- a bound of one side of an equation is one of the other
pub under : {x y m : ℕ} → x ≡ y → y < m → x < m
under {x} {y} {m} e h = subst (λ (z : ℕ). z < m) (sym e) h

-- ---- one byte: the equations of table 18 by shifts of the whole byte, one test over the 256

-- d with the two bits that would go out at the top put back at the bottom
unfoldable pub wrapped : ℕ → ℕ
wrapped d = bit_xor d (bit_xor d (d / 2) / 64)

unfoldable shifted : ℕ → ℕ
shifted y = bit_xor (bit_xor y (y * 2 % 256)) (y * 4 % 256)

pub byte_step : (d : ℕ) → d < 256 → bit_xor (bit_xor (wrapped d) (wrapped d * 2 % 256)) (wrapped d * 4 % 256) ≡ table18 d
unfolding wrapped shifted table18
byte_step = same_bytes (λ d. shifted (wrapped d)) table18 refl
