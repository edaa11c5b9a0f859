use mathlib.Core.Path.{refl, ◌∙◌}
use Rattle.state.specs.Layout.{unpacked}
use Rattle.state.specs.Coded.{status_by}
use Rattle.rules.specs.Rules.Peripheral as P
use Rattle.rules.specs.Rules.Channel.{peripheral, put}
use Rattle.engine.specs.Laws.Stored.{acting_stays}
use Rattle.engine.specs.Laws.Loaded.{peripheral_there, decided_there, acted-carried, peripheral_plain}
use Rattle.engine.proofs.act_peripheral.Goals as goal

pub decide-out-requires : goal.decide-out-requires
decide-out-requires c =
    let p = c.requires in
    let t = peripheral_there c.args.state.now p.0 c.args.c
    p.1 in (t.0, t.1, t.2, t.3, p.2)

pub returns : goal.returns
unfolding unpacked
returns c =
    let a = c.args in let l = a.state.now in
    let p = c.requires in
    let e = decided_there l a.c a.o a.b.now p.1 in
    let x = P.acting (unpacked l).config (unpacked l).peripheral (P.act_of (unpacked l).config a.o a.b.now) in
    acted-carried l x p.0 (acting_stays peripheral (unpacked l) (P.act_of (unpacked l).config a.o a.b.now) _ refl) _ _ _ _
    (peripheral_plain (unpacked l) (P.act_of (unpacked l).config a.o a.b.now))
    (c.decide-out.ensures ∙ e)
    (λ q. status_by (put peripheral x.next (unpacked l))
    (c.status_in.ensures.0 ∙ q, c.status_in-others.ensures.0)) c.spoken.ensures
