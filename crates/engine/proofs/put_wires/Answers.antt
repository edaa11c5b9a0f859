use native.Mathlib.Omega.{arith}
use lib.ListN.{take, drop}
use Prim.Native.Nat.{◌*◌}
use Rattle.state.specs.Layout.{unpacked}
use Rattle.rules.specs.Rules.Wires.{Act}
use Rattle.rules.specs.Rules.Channel.{wires}
use Rattle.engine.specs.Laws.Stored.{acting_stays}
use Rattle.engine.specs.Laws.Loaded.{wires_there, put_there, put-plain, lifted_by, high-carried, low_carried}
use Rattle.engine.proofs.put_wires.Goals as goal

-- src/lib.rt:136:9
pub put_vwire-x-requires : goal.put_vwire-x-requires
put_vwire-x-requires c =
    (wires_there c.args.state.now c.requires.0 c.args.c _ c.requires.1 c.unpack-w.ensures, c.requires.2)

-- src/lib.rt:138:9
pub lift_wires-out-requires : goal.lift_wires-out-requires
lift_wires-out-requires c =
    let l = c.args.state.now in
    let pairs = take (c.args.n * 2) (drop 2 c.args.b.now) in
    let e = put_there l c.args.c _ c.args.n pairs _ c.requires.1 c.unpack-w.ensures
    c.put_vwire-x.ensures in
    (c.requires.0, acting_stays wires (unpacked l) (Act.puts c.args.n pairs) _ e, put-plain (unpacked l) c.args.n pairs _ e)

-- src/lib.rt:128:1
pub returns-then-was-is : goal.returns-then-was-is
returns-then-was-is c =
    let l = c.args.state.now in
    let pairs = take (c.args.n * 2) (drop 2 c.args.b.now) in
    let e = put_there l c.args.c _ c.args.n pairs c.put_vwire-x.result c.requires.1 c.unpack-w.ensures c.put_vwire-x.ensures in
    low_carried l c.args.n pairs c.requires.0 (λ i. omega (arith, c.slice_known-1.given i)) _ _
    (lifted_by wires l c.lift_wires-out.ensures e) c.unpack-w.result
    c.put_vwire-x.result _ _ c.unpack-w.ensures e c.pltrst-was.ensures
    c.pltrst-is.ensures _ c.if-was-is.true
    c.platform_reset.ensures

-- src/lib.rt:128:1
pub returns-else-was-is : goal.returns-else-was-is
returns-else-was-is c =
    let l = c.args.state.now in
    let pairs = take (c.args.n * 2) (drop 2 c.args.b.now) in
    let e = put_there l c.args.c _ c.args.n pairs c.put_vwire-x.result c.requires.1 c.unpack-w.ensures c.put_vwire-x.ensures in
    high-carried l c.args.n pairs c.requires.0 (λ i. omega (arith, c.slice_known-1.given i)) _ _
    (lifted_by wires l c.lift_wires-out.ensures e) c.unpack-w.result c.put_vwire-x.result _ _
    c.unpack-w.ensures e c.pltrst-was.ensures c.pltrst-is.ensures c.if-was-is.false
