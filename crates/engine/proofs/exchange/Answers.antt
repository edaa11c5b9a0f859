use mathlib.Core.Path.{ap, ◌∙◌}
use native.Mathlib.Omega.{arith}
use Rattle.registers.specs.Registers.{crc_checked}
use Rattle.registers.specs.declared.Config.{Config}
use Rattle.state.specs.Layout.{unpacked}
use Rattle.rules.specs.Rules.Exchange.{channels_of}
use Rattle.engine.specs.Laws.Exchange.{exchange-silent, exchange_decided, command_fits}
use Rattle.engine.specs.Laws.Loaded.{config_in_lem}
use Rattle.engine.proofs.exchange.Goals as goal

pub returns-in_default : goal.returns-in_default
returns-in_default c =
    let a = c.args in let l = a.state.now in
    let e = c.unpack-c.ensures ∙ config_in_lem l in
    exchange-silent (unpacked l) a.b.now l _ _ _ _ _ c.requires
    (c.channels.ensures ∙ ap channels_of e)
    (c.crc_checked.ensures ∙ ap (λ (z : Config). crc_checked z.r008) e) c.admit-d.ensures
    c.in_default.is c.refused.ensures

pub decided-requires : goal.decided-requires
decided-requires c =
    let a = c.args in (
      c.requires,
      c.unpack-c.ensures ∙ config_in_lem a.state.now,
      command_fits _ _ a.b.now _ _
          (λ i. omega (arith, c.type_inv.b i))
          c.admit-d.ensures c.in-Ok.is,
    )

pub returns : goal.returns
returns c =
    let a = c.args in
    let l = a.state.now in
    let e = c.unpack-c.ensures ∙ config_in_lem l in
    exchange_decided (unpacked l) a.b.now l _ _ _ _ _
    (c.channels.ensures ∙ ap channels_of e)
    (c.crc_checked.ensures ∙ ap (λ (z : Config). crc_checked z.r008) e)
    c.admit-d.ensures c.in-Ok.is
    c.decided.ensures
