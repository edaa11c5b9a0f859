use Rattle.std.proofs.Common.{◌∙◌, ◌-◌, arith, refl, rules}
use borrow.Rule.Slice.PartMut.{same_len_mid}
use Rattle.playback.specs.Playing.{begin_size, begin_stands, play_size, play_stands, play_less}
use Rattle.capture.proofs.play.Goals as goal

pub loop-place-init : goal.loop-place-init
loop-place-init g c =
    let e = c.begin-begun.ensures in
    (omega (arith, begin_size _ _ _ _ _ _ e), begin_stands _ _ _ _ _ _ e, search rules, refl, refl, refl, search rules)

pub overflow_add-at : goal.overflow_add-at
overflow_add-at g c =
    let l = c.loop-place in let t = c.loop-place-test.true in
    omega (arith, c.room-next.ensures.1, play_size _ _ (l.invariant.1 t) t _ _ _ _ _ _ _ _ _ _ _ c.play-said.ensures)

pub loop-place-smaller : goal.loop-place-smaller
loop-place-smaller g c =
    let l = c.loop-place in let t = c.loop-place-test.true in
    play_less _ _ (l.invariant.1 t) t _ _ _ _ _ _ _ _ _ _ _ c.play-said.ensures

pub loop-place-preserved : goal.loop-place-preserved
loop-place-preserved g c =
    let l = c.loop-place in let t = c.loop-place-test.true in
    let e = same_len_mid c.room-next.result (65536 - c.room-next.result) l.block c.play-said.new.line c.play-said.auto.line in (
      omega (arith, c.room-next.ensures.1, play_size _ _ (l.invariant.1 t) t _ _ _ _ _ _ _ _ _ _ _ c.play-said.ensures),
      λ _. play_stands _ _ (l.invariant.1 t) t _ _ _ _ _ _ _ _ _ _ _ c.play-said.ensures,
      search rules,
      search rules,
      search rules,
      search rules,
      e ∙ l.invariant.6,
    )
