use Prim.Native.Nat.{ℕ}
use mathlib.Core.Path.{refl, ap}
use borrow.Author.Rules.{rules}
use Rattle.wires.specs.Going.{first_range, send-done}
use Rattle.wires.proofs.send.Goals as goal

pub loop-g-init : goal.loop-g-init
loop-g-init c =
    let a = c.args in
    let q = c.join2.result in (
      first_range a.state.now a.reply.now a.p c.requires (search rules) q c.join2.ensures.0 _
          (ap (λ (x : ℕ). record { sender = a.p.place; left = x; room = a.p.capacity; at = 2; place = q })
          c.left_for.ensures),
      (refl, (refl, (refl, (refl, refl)))),
    )

pub returns : goal.returns
returns c =
    let l = c.loop-g in
    let i = l.invariant in
    let a = c.args in
    let q = c.join2.result in
    rw c.to_le_bytes-place.ensures
    (send-done a.state.now a.reply.now a.p c.requires (search rules) q c.join2.ensures.0 _
    (ap (λ (x : ℕ). record { sender = a.p.place; left = x; room = a.p.capacity; at = 2; place = q })
    c.left_for.ensures)
    l.state l.reply l.g c.loop-g-test.false i.0 i.1.0 i.1.1.0 i.1.1.1.0)
