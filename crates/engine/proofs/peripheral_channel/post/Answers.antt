use Rattle.std.specs.Prelude.{Some}
use mathlib.Core.Path.{refl, sym, subst, ◌∙◌}
use Rattle.rules.specs.Rules.Out.{kept_from}
use Rattle.pieces.specs.Blocks.{Block}
use Rattle.peripheral.specs.Layout.{peripheral_in}
use Rattle.peripheral.specs.Stored.{stored-write}
use Rattle.rules.specs.Rules.Out as O
use Rattle.rules.specs.Rules.Peripheral as P
use Rattle.rules.specs.declared.Body.TheVariants as B
use Rattle.engine.specs.Laws.Peripheral.{payload_there, post_held, post_large, post-done, refused_there, stored_there}
use mathlib.Core.Path.{ap}
use mathlib.Core.Bool.{not}
use Rattle.engine.proofs.peripheral_channel.post.Goals as goal

pub returns-then-not-takes_write : goal.returns-then-not-takes_write
returns-then-not-takes_write c =
    let a = c.args in let p = peripheral_in a.state.now in
    refused_there a.state.now _ p _
    (post_held a.c p a.address a.length a.from _ _ c.takes_write.ensures (ap not c.if-not-takes_write.true) refl) c.fatal.ensures
    refl

pub within-requires : goal.within-requires
within-requires c =
    subst Block (sym c.payload_size-payload.ensures)
    (payload_there c.args.c c.requires.2)

pub returns-then-not-within : goal.returns-then-not-within
returns-then-not-within c =
    let a = c.args in let p = peripheral_in a.state.now in
    refused_there a.state.now _ p _
    (post_large a.c p a.address a.length a.from _ _ _ _ c.takes_write.ensures
    (ap not c.if-not-takes_write.false) c.payload_size-payload.ensures c.within.ensures
    (ap not c.if-not-within.true) refl) c.fatal-then-not-within.ensures refl

pub returns : goal.returns
returns c =
    let a = c.args in let l = a.state.now in
    let p = peripheral_in l in let n = c.payload_size-payload.result in
    stored_there l _ (P.holding p a.address a.length n) _ (O.accept B.Nothing (kept_from a.from a.length)) refl
    (post-done a.c p a.address a.length a.from _ _ _ _ _
    c.takes_write.ensures
    (ap not c.if-not-takes_write.false)
    c.payload_size-payload.ensures c.within.ensures
    (ap not c.if-not-within.false) refl refl) c.accept.ensures
    (c.hold.ensures ∙ stored-write p l
    c.requires.1
    (Some (record { address = a.address; length = a.length; payload = n })))
