use mathlib.Core.Path.{sym}
use Rattle.wires.specs.Layout.{all_in}
use Rattle.wires.specs.Pending.{pending_is}
use Rattle.wires.proofs.Wires.any_pending.Goals as goal

pub returns : goal.returns
returns c =
    rw c.any_line.ensures (sym (pending_is (all_in c.args.b.now)))
