use Rattle.wires.specs.LineCode.{zeros_put}
use Rattle.wires.proofs.lines.clear_from.Goals as goal

pub returns : goal.returns
returns c =
    let r = c.requires in
    zeros_put c.args.map c.args.b.now _ r.0 r.1 r.2 (c.fill.ensures.after (λ y e. e))
