use lib.Dec.{ltb}
use lib.ListN.{length}
use mathlib.Core.Bool.{◌||◌}
use mathlib.Core.Path.{◌∙◌}
use Rattle.std.proofs.lemmas.Bool.{ltb-false}
use Rattle.state.specs.Layout.{state_length}
use Rattle.rules.specs.Rules.Step.{reply_length, write_length, read_length}
use Rattle.rules.specs.Rules.Calls.{exchanged, exchange_call}
use Rattle.espi.specs.Boundary.{refuses, goes_through, admitted, neither, three_tests, exchange-fits, exchanged_by}
use Rattle.espi.proofs.espi_exchange.Goals as goal

pub returns-in-Err : goal.returns-in-Err
unfolding exchange_call
returns-in-Err c =
    let a = c.args in
    let l = a.state.now in
    let y = ltb (length a.reply.now) reply_length in
    let w = ltb (length a.write_store.now) write_length in
    let r = ltb (length a.read_store.now) read_length in
    refuses l ((y || w) || r) _ c.guard.ensures (λ n. exchanged n l a.reply.now a.write_store.now) _ _ _ c.number.ensures c.in-Err.is
    ∙ three_tests (ltb (length l) state_length) y w r (exchanged 10 l a.reply.now a.write_store.now) _

pub exchange-p-requires : goal.exchange-p-requires
exchange-p-requires c =
    let a = c.args in
    let l = a.state.now in
    let y = ltb (length a.reply.now) reply_length in
    let w = ltb (length a.write_store.now) write_length in
    let r = ltb (length a.read_store.now) read_length in
    (admitted l ((y || w) || r) _ _ c.guard.ensures c.in_default.is).state

pub commit-requires : goal.commit-requires
commit-requires c =
    let a = c.args in
    let l = a.state.now in
    let y = ltb (length a.reply.now) reply_length in
    let w = ltb (length a.write_store.now) write_length in
    let r = ltb (length a.read_store.now) read_length in
    let t = admitted l ((y || w) || r) _ _ c.guard.ensures c.in_default.is in
    let n = neither (y || w) r t.room in
    let m = neither y w n.0 in
    let f = exchange-fits l _ a.command.now c.exchange-p.result t.state c.exchange-p.ensures in
    (ltb-false _ _ m.0, ltb-false _ _ m.1, ltb-false _ _ n.1, f.0, f.1)

pub returns : goal.returns
unfolding exchange_call
returns c =
    let a = c.args in
    let l = a.state.now in
    let y = ltb (length a.reply.now) reply_length in
    let w = ltb (length a.write_store.now) write_length in
    let r = ltb (length a.read_store.now) read_length in
    let t = admitted l ((y || w) || r) _ _ c.guard.ensures c.in_default.is in
    goes_through l ((y || w) || r) _ c.guard.ensures (λ n. exchanged n l a.reply.now a.write_store.now) _ _ c.in_default.is
    (exchanged_by l c.exchange-p.result _ a.command.now a.reply.now a.write_store.now a.read_store.now _ t.state.long c.exchange-p.ensures
    c.commit.ensures)
    ∙ three_tests (ltb (length l) state_length) y w r (exchanged 10 l a.reply.now a.write_store.now) _
