use mathlib.Core.Path.{refl}
use borrow.Author.Tests.{lt-ltb, le-ltb}
use Rattle.base.specs.Pick.{taken, passed}
use Rattle.rules.specs.Rules.Calls.{start_call}
use Rattle.espi.specs.Boundary.{started_by}
use Rattle.espi.proofs.espi_start.Goals as goal

-- src/lib.rt:41:9
pub returns-then-state-lt-STATE : goal.returns-then-state-lt-STATE
unfolding start_call
returns-then-state-lt-STATE c =
    rw c.number.ensures (taken _ _ (lt-ltb _ _ c.if-state-lt-STATE.true) refl)

-- src/lib.rt:36:1
pub returns : goal.returns
unfolding start_call
returns c =
    passed _ _ (le-ltb _ _ c.if-state-lt-STATE.false)
    (started_by c.args.state.now _ _ c.fresh.ensures
    c.pack.ensures)
