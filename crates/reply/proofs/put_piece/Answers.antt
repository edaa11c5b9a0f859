use Prim.Native.Nat.{ℕ, ◌+◌, ◌-◌}
use mathlib.Core.Path.{◌≡◌, refl, ap}
use lib.ListN.{take, drop}
use native.Mathlib.Omega.{arith}
use Rattle.reply.specs.Written.{piece_by}
use native.Mathlib.Omega.{arith}
use Rattle.reply.proofs.put_piece.Goals as goal

pub returns : goal.returns
returns c =
    let a = c.args in
    let from = a.c.from in
    let n = a.c.length in
    let e : from + n - from ≡ n = omega arith in (
      piece_by a.reply.now c.put_at.new.dst c.copy_in.new.dst _ a.reads.now a.code from n a.c (omega arith)
          (rw c.header-first.ensures at c.put_at.ensures)
          (ap (λ (i : ℕ). take i (drop from a.reads.now)) e)
          c.copy_in.ensures,
      refl,
    )
