use mathlib.Core.Path.{ap, ◌∙◌}
use lib.ListN.{length}
use Rattle.peripheral.specs.declared.Peripheral.{Peripheral}
use Rattle.state.specs.Layout.{unpacked}
use Rattle.rules.specs.Rules.Peripheral as P
use Rattle.rules.specs.Rules.Channel.{peripheral}
use Rattle.engine.specs.Laws.Stored.{settle_stays}
use Rattle.engine.specs.Laws.Loaded.{peripheral_in_lem, lifted_by, settle-silent}
use Rattle.engine.proofs.answer.Goals as goal

pub lift_peripheral-requires : goal.lift_peripheral-requires
unfolding P.settle
lift_peripheral-requires c =
    let a = c.args in let l = a.state.now in
    let e = c.answer_to.ensures ∙ ap (λ (z : Peripheral). P.answer_to z a.serial (P.succeeded a.success) (length a.bytes.now))
    (c.unpack.ensures ∙ peripheral_in_lem l) in (
      c.requires,
      settle_stays peripheral (unpacked l) (P.answer a.serial a.success a.bytes.now) _ e,
      settle-silent (unpacked l) (P.answer a.serial a.success a.bytes.now) _ e,
    )

pub returns : goal.returns
returns c =
    let a = c.args in let l = a.state.now in
    lifted_by peripheral l c.lift_peripheral.ensures
    (c.answer_to.ensures ∙ ap
    (λ (z : Peripheral). P.answer_to z a.serial (P.succeeded a.success) (length a.bytes.now))
    (c.unpack.ensures ∙ peripheral_in_lem l))
