use mathlib.Core.List.{[]}
use mathlib.Core.Path.{ap, ◌∙◌}
use Rattle.state.specs.Layout.{unpacked}
use Rattle.rules.specs.Rules.Peripheral as P
use Rattle.rules.specs.Rules.Channel.{peripheral}
use Rattle.engine.specs.Laws.Stored.{settle_stays}
use Rattle.engine.specs.Laws.Loaded.{peripheral_in_lem, lifted_by, settle-silent}
use Rattle.engine.proofs.take_write.Goals as goal

pub lift_peripheral-requires : goal.lift_peripheral-requires
unfolding P.settle
lift_peripheral-requires c =
    let l = c.args.state.now in
    let e = c.taken.ensures ∙ ap P.taken (c.unpack.ensures ∙ peripheral_in_lem l) in (
      c.requires,
      settle_stays peripheral (unpacked l) (P.take_write []) _ e,
      settle-silent (unpacked l) (P.take_write []) _ e,
    )

pub returns : goal.returns
returns c =
    let l = c.args.state.now in
    lifted_by peripheral l c.lift_peripheral.ensures
    (c.taken.ensures ∙ ap P.taken (c.unpack.ensures ∙ peripheral_in_lem l))
