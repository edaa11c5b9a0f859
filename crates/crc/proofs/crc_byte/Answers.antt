-- `crc::crc_byte` meets its contract: one test over the 256 values of the old CRC combined with the byte.
use native.Mathlib.Omega.{arith}
use lib.Bits.{bit_xor, xor_lt}
use Rattle.crc.specs.Steps.{wrapped, byte_step}
use Rattle.crc.proofs.crc_byte.Goals as goal

-- `crc::crc_byte` meets its contract: one test over the 256 values of the old CRC combined with the byte.
pub returns : goal.returns
unfolding wrapped
returns c = byte_step (bit_xor c.args.r c.args.b) (xor_lt 8 c.args.r c.args.b (omega arith) (omega arith))
