use lib.Dec.{ltb}
use lib.ListN.{length}
use Rattle.std.proofs.lemmas.Bool.{ltb-false}
use Rattle.state.specs.Layout.{unpacked}
use Rattle.rules.specs.Rules.Peripheral as P
use Rattle.rules.specs.Rules.Step.{read_length}
use Rattle.rules.specs.Rules.Calls.{stored, answer_call}
use Rattle.espi.specs.Boundary.{refuses, goes_through, admitted, kept_by, answer-fits, kept_wider, answer-plain}
use Rattle.espi.proofs.espi_answer.Goals as goal

pub returns-in-Err : goal.returns-in-Err
unfolding answer_call P.settle
returns-in-Err c =
    let a = c.args in
    let l = a.state.now in
    let s = ltb (length a.read_store.now) read_length in
    refuses l s _ c.guard.ensures (λ n. stored n l a.read_store.now) _ _ _ c.number.ensures c.in-Err.is

pub answer-p-requires : goal.answer-p-requires
answer-p-requires c =
    (admitted c.args.state.now (ltb (length c.args.read_store.now) read_length) _ _ c.guard.ensures c.in_default.is).state

pub keep-requires : goal.keep-requires
keep-requires c =
    let a = c.args in
    let l = a.state.now in
    let s = ltb (length a.read_store.now) read_length in
    let t = admitted l s _ _ c.guard.ensures c.in_default.is in
    kept_wider c.answer-p.result.kept (length a.bytes.now) read_length (length a.read_store.now) (ltb-false _ _ t.room)
    (answer-fits (unpacked l) a.serial a.success l _ a.bytes.now c.answer-p.result t.state.good t.state.long c.answer-p.ensures)

pub returns : goal.returns
unfolding answer_call P.settle
returns c =
    let a = c.args in
    let l = a.state.now in
    let s = ltb (length a.read_store.now) read_length in
    let t = admitted l s _ _ c.guard.ensures c.in_default.is in
    goes_through l s _ c.guard.ensures (λ n. stored n l a.read_store.now) _ _ c.in_default.is
    (rw c.from.ensures
    (kept_by l _ c.answer-p.result _ (answer-plain (unpacked l) a.serial a.success a.bytes.now) t.state.long c.answer-p.ensures
    a.bytes.now _ _ c.keep.ensures))
