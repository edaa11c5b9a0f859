use mathlib.Core.Path.{ap, ◌∙◌}
use Rattle.registers.specs.Registers.{read_at_value}
use Rattle.registers.specs.declared.Config.{Config}
use Rattle.state.specs.Layout.{unpacked}
use Rattle.rules.specs.Rules.Channel.{peripheral, wires}
use Rattle.rules.specs.declared.Body.TheVariants as B
use Rattle.engine.specs.Laws.Exchange.{acted_decided, read_decided, set_decided, status_decided, reset_decided}
use Rattle.engine.specs.Laws.Loaded.{shown_is}
use Rattle.engine.proofs.decided.Goals as goal

pub returns-in-Peripheral : goal.returns-in-Peripheral
returns-in-Peripheral c = acted_decided (unpacked c.args.state.now) _ _ _ peripheral _ _
    c.in-Peripheral.is c.act_peripheral.ensures

pub returns-in-Wires : goal.returns-in-Wires
returns-in-Wires c = acted_decided (unpacked c.args.state.now) _ _ _ wires _ _
    c.in-Wires.is c.act_wires.ensures

pub returns-in-GetConfiguration : goal.returns-in-GetConfiguration
returns-in-GetConfiguration c = let s = unpacked c.args.state.now in
    let a = c.in-GetConfiguration.a in
    read_decided s _ _ _ a _ _ c.requires.0
    c.in-GetConfiguration.is
    (c.read.ensures ∙ ap (λ (z : Config). read_at_value z a)
    c.requires.1) (shown_is s _ _ _ c.shown.ensures c.status_in.ensures)

pub returns-in-SetConfiguration : goal.returns-in-SetConfiguration
returns-in-SetConfiguration c = let l = c.args.state.now in
    set_decided (unpacked l) _ l _ _ _ _ c.in-SetConfiguration.is c.set.ensures

pub returns-in-GetStatus : goal.returns-in-GetStatus
returns-in-GetStatus c = let s = unpacked c.args.state.now in
    status_decided s _ _ _ _ c.requires.0 c.in-GetStatus.is
    (shown_is s B.Nothing _ _ c.shown-in-GetStatus.ensures c.status_in-in-GetStatus.ensures)

pub returns-in-Reset : goal.returns-in-Reset
returns-in-Reset c = let l = c.args.state.now in
    reset_decided (unpacked l) _ l _ _ _ c.in-Reset.is
    c.reset_008.ensures c.silently.ensures
