use Rattle.std.specs.Prelude.{None}
use mathlib.Core.Path.{refl, sym, ◌∙◌}
use Rattle.peripheral.specs.Layout.{peripheral_in}
use Rattle.peripheral.specs.Upward.{handed}
use Rattle.peripheral.specs.Stored.{stored_request, handed_none, handed-one}
use Rattle.rules.specs.Rules.Out as O
use Rattle.rules.specs.Rules.Peripheral as P
use Rattle.rules.specs.declared.Body.TheVariants as B
use Rattle.engine.specs.Laws.Peripheral.{get_none, get_one, refused_there, stored_there}
use Rattle.engine.proofs.peripheral_channel.get_pc.Goals as goal

pub returns-in-None : goal.returns-in-None
returns-in-None c =
    let l = c.args.state.now in let p = peripheral_in l in
    let h = c.hand_over.ensures in
    refused_there l _ p _ (get_none p _ _ h.0 c.in-None.is refl) c.fatal.ensures
    (h.1 ∙ handed_none p.request l (sym h.0 ∙ c.in-None.is))

pub returns-in-Some : goal.returns-in-Some
returns-in-Some c =
    let l = c.args.state.now in let p = peripheral_in l in
    let h = c.hand_over.ensures in let u = c.in-Some in
    stored_there l _ (P.with_request p (handed p.request)) _ (O.accept (B.Piece u.c) None) refl
    (get_one p _ _ _ _ _ h.0 u.is refl refl refl) c.accept.ensures
    (h.1 ∙ handed-one p.request l u.c (sym h.0 ∙ u.is) ∙ stored_request p l
    c.requires.1 (handed p.request))
