use mathlib.Core.Path.{sym}
use native.Mathlib.Omega.{arith}
use Rattle.wires.specs.Places.{line_get}
use Rattle.wires.proofs.lines.value_at.Goals as goal

pub returns : goal.returns
returns c = let a = c.args in (sym (line_get a.map a.line a.b.now c.requires.2), omega arith)
