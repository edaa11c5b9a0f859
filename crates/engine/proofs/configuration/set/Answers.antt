use mathlib.Core.Path.{ap, ◌∙◌}
use Rattle.registers.specs.Registers.{write_at}
use Rattle.registers.specs.declared.Config.{Config}
use Rattle.rules.specs.declared.Body.TheVariants as B
use Rattle.state.specs.Layout.{unpacked}
use Rattle.engine.specs.Laws.Wires.{hindered-is}
use Rattle.engine.specs.Laws.Loaded.{shown_is, forbidden_is}
use Rattle.engine.specs.Laws.Exchange.{set_forbidden, set-hindered, set-done}
use Rattle.engine.proofs.configuration.set.Goals as goal

-- src/configuration.rt:60:9
pub returns-then-forbidden : goal.returns-then-forbidden
returns-then-forbidden c =
    let a = c.args in
    let t = unpacked a.state.now in
    set_forbidden t a.address a.val a.state.now _ _ c.requires.0 c.forbidden.ensures c.if-forbidden.true
    (forbidden_is t _ _ c.non_fatally.ensures c.status_in-word.ensures)

-- src/configuration.rt:64:9
pub returns-then-address-hinders : goal.returns-then-address-hinders
returns-then-address-hinders c =
    let a = c.args in
    let l = a.state.now in
    let t = unpacked l in
    set-hindered t a.address a.val l _ _ _ c.requires.0 c.forbidden.ensures
    c.if-forbidden.false
    (hindered-is l a.c _ a.address a.val _ c.requires.1 c.write-next.ensures c.hinders.ensures)
    c.if-address-hinders.true
    (forbidden_is t _ _ c.non_fatally-then-address-hinders.ensures c.status_in-word.ensures)

-- src/configuration.rt:53:1
pub returns : goal.returns
returns c =
    let a = c.args in
    let l = a.state.now in
    let t = unpacked l in
    set-done t a.address a.val l _ _ _ _ _ c.forbidden.ensures
    c.if-forbidden.false
    (hindered-is l a.c _ a.address a.val _ c.requires.1 c.write-next.ensures
    c.hinders.ensures) c.if-address-hinders.false
    (c.write-next.ensures ∙ ap (λ (z : Config). write_at z a.address a.val) c.requires.1)
    c.reconfigure.ensures
    (shown_is t B.Nothing _ _ c.shown.ensures c.status_in-word.ensures)
