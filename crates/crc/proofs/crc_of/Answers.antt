-- `crc::crc_of` meets its contract: three bytes, and else as the callee.
use mathlib.Core.Path.{◌∙◌}
use native.Mathlib.Omega.{arith}
use Rattle.crc.specs.Crc.{crc-three}
use Rattle.crc.proofs.crc_of.Goals as goal

pub returns-then-n-eq3 : goal.returns-then-n-eq3
returns-then-n-eq3 c = c.crc_three.ensures ∙ crc-three c.args.s.now (omega arith)
