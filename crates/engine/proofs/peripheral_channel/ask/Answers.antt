use mathlib.Core.Path.{refl, ◌∙◌}
use Rattle.peripheral.specs.Layout.{peripheral_in}
use Rattle.peripheral.specs.Stored.{stored-asking}
use Rattle.peripheral.specs.declared.Np.TheVariants.{Waiting}
use Rattle.rules.specs.Rules.Out as O
use Rattle.rules.specs.Rules.Peripheral as P
use Rattle.engine.specs.Laws.Peripheral.{ask-held, ask_large, ask-done, refused_there, stored_there}
use mathlib.Core.Path.{ap}
use mathlib.Core.Bool.{not}
use Rattle.engine.proofs.peripheral_channel.ask.Goals as goal

pub returns-then-not-takes_request : goal.returns-then-not-takes_request
returns-then-not-takes_request c =
    let a = c.args in let p = peripheral_in a.state.now in
    refused_there a.state.now _ p _ (ask-held p a.q _ _ c.takes_request.ensures (ap not c.if-not-takes_request.true) refl) c.fatal.ensures
    refl

pub returns-then-not-within : goal.returns-then-not-within
returns-then-not-within c =
    let a = c.args in let p = peripheral_in a.state.now in
    refused_there a.state.now _ p _
    (ask_large p a.q _ _ _ _ c.takes_request.ensures (ap not c.if-not-takes_request.false)
    c.size_for-size.ensures c.within.ensures (ap not c.if-not-within.true) refl) c.fatal-then-not-within.ensures refl

pub returns : goal.returns
returns c =
    let a = c.args in let l = a.state.now in
    let p = peripheral_in l in
    stored_there l _ (P.asking p a.q) _ O.defer refl
    (ask-done p a.q _ _ _ _ _ c.takes_request.ensures
    (ap not c.if-not-takes_request.false)
    c.size_for-size.ensures c.within.ensures
    (ap not c.if-not-within.false) refl refl) c.defer.ensures
    (c.wait.ensures ∙ stored-asking p l
    c.requires.1 (Waiting a.q) (P.next_serial p.serial))
