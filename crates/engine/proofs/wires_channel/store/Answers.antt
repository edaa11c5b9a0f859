use native.Mathlib.Omega.{arith}
use borrow.Author.Tests.{eq-eqb}
use Rattle.base.specs.Pick.{taken}
use Rattle.engine.specs.Laws.Wires.{groups-stored}
use Rattle.engine.proofs.wires_channel.store.Goals as goal

-- src/wires_channel.rt:120:9

pub returns : goal.returns
returns c =
    taken _ _ (eq-eqb _ _ c.if-number-ne0.false)
    (groups-stored c.args.state.now (λ k. omega (arith, c.slice_known-1.given k)) c.requires _ c.args.w
    c.pack.ensures)
