use mathlib.Core.Bool.{true}
use mathlib.Core.List.{List}
use Prim.Native.Nat.{ℕ}
use mathlib.Core.Path.{ap, ◌∙◌}
use borrow.Author.Tests.{ltb-true}
use Rattle.wires.specs.LineCode.{bit_put, edge-put}
use borrow.Author.Rules.{rules}
use Rattle.wires.proofs.lines.pulse_line.Goals as goal

pub returns : goal.returns
returns c =
    let a = c.args in
    c.put_bit-2.ensures
    ∙ ap (λ (l : List ℕ). bit_put 142 l a.line true) c.put_bit.ensures
    ∙ edge-put a.b.now c.requires.0 (search rules) a.line (ltb-true _ _ c.requires.1)
