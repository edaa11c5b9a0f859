use mathlib.Core.Path.{ap, sym, ◌∙◌}
use Rattle.command.specs.declared.PeripheralCommand.{PeripheralCommand}
use Rattle.peripheral.specs.Layout.{peripheral_in}
use Rattle.peripheral.specs.declared.Kind.TheVariants as R
use Rattle.rules.specs.Rules.Peripheral.{post, ask, act_of, acting, decide}
use Rattle.engine.specs.Laws.Peripheral.{request_sizes, as_change}
use Rattle.engine.proofs.peripheral_channel.decide.Goals as goal

pub ask-requires : goal.ask-requires
ask-requires c =
    let h = c.in-PutNp.h in
    let s = request_sizes c.args.c
    c.requires.2 c.request_of.result R.MemoryRead h.address h.length h.tag 0
    c.request_of.ensures in
    (c.requires.0, c.requires.1, s.0, s.1)

pub returns-in-PutPc : goal.returns-in-PutPc
unfolding decide
returns-in-PutPc c =
    let a = c.args in let p = peripheral_in a.state.now in
    let h = c.in-PutPc.h in
    as_change a.state.now c.post.ensures
    (ap (post a.c p h.address h.length) c.data_at.ensures ∙ ap
    (λ (z : PeripheralCommand). acting a.c p (act_of a.c z a.b.now)) (sym c.in-PutPc.is))

pub returns-in-GetPc : goal.returns-in-GetPc
unfolding decide
returns-in-GetPc c =
    let a = c.args in let p = peripheral_in a.state.now in
    as_change a.state.now c.get_pc.ensures
    (ap (λ (z : PeripheralCommand). acting a.c p (act_of a.c z a.b.now)) (sym c.in-GetPc.is))

pub returns-in-PutNp : goal.returns-in-PutNp
unfolding decide
returns-in-PutNp c =
    let a = c.args in let p = peripheral_in a.state.now in
    as_change a.state.now c.ask.ensures
    (ap (ask p) c.request_of.ensures ∙ ap (λ (z : PeripheralCommand). acting a.c p (act_of a.c z a.b.now))
    (sym c.in-PutNp.is))

pub returns-in-Short : goal.returns-in-Short
unfolding decide
returns-in-Short c =
    let a = c.args in let p = peripheral_in a.state.now in
    as_change a.state.now c.short_access.ensures
    (ap (λ (z : PeripheralCommand). acting a.c p (act_of a.c z a.b.now)) (sym c.in-Short.is))
