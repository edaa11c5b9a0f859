use mathlib.Core.Path.{◌≡◌, ap, ◌∙◌}
use lib.ListN.{length}
use Rattle.wires.specs.Kept.{remarked_next}
use Rattle.wires.specs.declared.Wires.{Wires}
use borrow.Author.Rules.{rules}
use Rattle.wires.proofs.Wires.remarked.Goals as goal

pub loop-i-preserved : goal.loop-i-preserved
loop-i-preserved c =
    let l = c.loop-i in
    let w : length c.args.self.pending ≡ 6 = search rules in
    let n = remarked_next c.args.on c.args.self l.next c.args.place l.i c.loop-i-test.true w l.invariant.0 l.invariant.1 in (
      ap (λ (v : Wires). v.level) c.with-next.ensures ∙ n.0,
      ap (λ (v : Wires). v.pending) c.with-next.ensures ∙ n.1,
      λ _. ap (λ (v : Wires). v.place) c.with-next.ensures,
    )
