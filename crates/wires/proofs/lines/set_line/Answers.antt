use mathlib.Core.Bool.{true}
use mathlib.Core.List.{List}
use Prim.Native.Nat.{ℕ}
use mathlib.Core.Path.{ap, sym, ◌∙◌}
use Rattle.wires.specs.LineCode.{bit_put, line_small, line_stays, line_off, line_on}
use borrow.Author.Rules.{rules}
use Rattle.wires.proofs.lines.set_line.Goals as goal

pub returns-then-from-level : goal.returns-then-from-level
returns-then-from-level c =
    let a = c.args in
    line_stays a.b.now c.requires.0 (search rules) a.on a.line a.level
    (sym c.value_at.ensures.0 ∙ sym c.from.ensures ∙ c.if-from-level.true)

pub returns-then-not-on : goal.returns-then-not-on
returns-then-not-on c =
    let a = c.args in
    c.put_bit.ensures
    ∙ line_off a.b.now c.requires.0 (search rules) a.on a.line a.level c.if-not-on.true
    (line_small a.line a.level c.requires.1) (λ e. c.if-from-level.false (c.from.ensures ∙ c.value_at.ensures.0 ∙ e))

pub returns : goal.returns
returns c =
    let a = c.args in
    c.put_bit-2.ensures
    ∙ ap (λ (l : List ℕ). bit_put 110 l a.line true) c.put_bit.ensures
    ∙ line_on a.b.now c.requires.0 (search rules) a.on a.line a.level c.if-not-on.false
    (line_small a.line a.level c.requires.1) (λ e. c.if-from-level.false (c.from.ensures ∙ c.value_at.ensures.0 ∙ e))
