-- `rows_given` meets its contract. The invariant: the first rows may stand, and the total is that of their bodies.
use Rattle.std.proofs.Common.{ℕ, ◌≡◌, ◌+◌, ◌<◌, List, length, get_or, arith, rules, sym, subst, length-append}
use Rattle.std.proofs.lemmas.Slice.Zip.{zip_turn}
use Rattle.housefile.specs.Format.{row, row_of}
use Rattle.housefile.specs.Tables.{Kept, none_yet, one_more, one_wrong}
use Rattle.housefile.proofs.rows_given.Goals as goal

-- the row of this turn's kind and length
this_row : (kinds lengths : List ℕ) (i kind wide length : ℕ) → kind ≡ get_or kinds i 0 → wide ≡ length → length ≡ get_or lengths i 0
    → row kind wide ≡ row_of kinds lengths i
this_row kinds lengths i kind wide length k w l = rw (k, w, l)

pub loop-kind-init : goal.loop-kind-init
loop-kind-init c = none_yet (row_of c.args.kinds.now c.args.lengths.now)

pub loop-kind-preserved : goal.loop-kind-preserved
loop-kind-preserved c =
    let a = c.args in
    let l = c.loop-kind in
    let z = zip_turn a.kinds.now a.lengths.now l.yielded c.into_iter-kind-iterator.result _ c.next.new.self _ (search rules) (search rules) l.yielded_by _
    c.in-Some.is c.next.ensures.steps in
    let e = this_row a.kinds.now a.lengths.now _ _ _ _ (z.2 0) c.from.ensures (z.3 0) in
    let short : c.from.result < 65536 = omega (arith, z.3 0, c.from.ensures, c.type_inv.lengths (length l.yielded)) in
    let k = one_more (row_of a.kinds.now a.lengths.now) (length l.yielded) l.total _ l.invariant (e, short) (search rules) in
    subst (λ (i : ℕ). Kept (row_of a.kinds.now a.lengths.now) i (l.total + c.from.result)) (sym (length-append l.yielded _)) k

pub returns-then-not-row_fits : goal.returns-then-not-row_fits
returns-then-not-row_fits c =
    let a = c.args in
    let l = c.loop-kind in
    let z = zip_turn a.kinds.now a.lengths.now l.yielded c.into_iter-kind-iterator.result _ c.next.new.self _ (search rules) (search rules) l.yielded_by _
    c.in-Some.is c.next.ensures.steps in
    (one_wrong _ _ _ _ z.0 (this_row a.kinds.now a.lengths.now _ _ _ _ (z.2 0) c.from.ensures (z.3 0)) (search rules), tt)
