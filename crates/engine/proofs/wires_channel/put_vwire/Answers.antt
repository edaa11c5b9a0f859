use Prim.Native.Nat.{ℕ, ◌+◌, ◌-◌, ◌*◌}
use mathlib.Core.List.{List}
use mathlib.Core.Path.{◌≡◌, ap}
use native.Mathlib.Omega.{arith}
use lib.ListN.{take, drop}
use borrow.Author.Tests.{lt-ltb, le-ltb}
use Rattle.registers.specs.Registers.{on1}
use Rattle.wires.specs.Course.{small_sound}
use Rattle.engine.specs.Laws.Wires.{put-over-count, put_third, put-done}
use Rattle.engine.proofs.wires_channel.put_vwire.Goals as goal

pub returns-then-operating_count-n : goal.returns-then-operating_count-n
returns-then-operating_count-n c =
    let a = c.args in
    λ l. put-over-count a.c a.w l a.n _ _ _ c.operating_count.ensures (lt-ltb _ _ c.if-operating_count-n.true) c.fatally.ensures

pub put-requires : goal.put-requires
put-requires c = small_sound (on1 c.args.c.r020) c.args.w c.requires.0

-- the pairs that are lent
lent : (n : ℕ) (b : List ℕ) → take (2 + 2 * n - 2) (drop 2 b) ≡ take (n * 2) (drop 2 b)
lent n b =
    let e : 2 + 2 * n - 2 ≡ n * 2 = omega arith in
    ap (λ (i : ℕ). take i (drop 2 b)) e

pub returns-in_default : goal.returns-in_default
returns-in_default c =
    let a = c.args in
    λ l. put_third a.c a.w l a.n _ a.b.now _ _ c.operating_count.ensures (le-ltb _ _ c.if-operating_count-n.false) (lent a.n a.b.now)
    c.put.ensures _ _ c.in_default.is c.fatally-in_default.ensures

pub returns : goal.returns
returns c =
    let a = c.args in
    λ l. put-done a.c a.w l a.n _ a.b.now _ _ c.operating_count.ensures (le-ltb _ _ c.if-operating_count-n.false) (lent a.n a.b.now)
    c.put.ensures _ _ c.in-Ok.is c.accept.ensures
