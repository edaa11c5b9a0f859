use Prim.Native.Nat.{ℕ, ◌+◌, ◌-◌}
use mathlib.Core.Path.{◌≡◌, ap}
use native.Mathlib.Omega.{arith}
use lib.ListN.{take, drop}
use Rattle.reply.specs.Written.{data_by}
use Rattle.reply.proofs.keep_data.Goals as goal

pub returns : goal.returns
returns c =
    let a = c.args in
    let at = a.k.from in
    let n = a.k.count in
    let e : at + n - at ≡ n = omega arith in
    data_by a.dst.now _ a.src.now _ at n (ap (λ (i : ℕ). take i (drop at a.src.now)) e) c.copy_in.ensures
