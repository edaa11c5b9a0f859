use Rattle.command.specs.Laws.{within}
use native.Mathlib.Omega.{arith}
use Rattle.command.proofs.Fields.register_address.Goals as goal

pub overflow_cast-result : goal.overflow_cast-result
overflow_cast-result c = omega (arith, within 4 _ _ c.args.self.reaches.readable.address c.high_first.ensures.1)
