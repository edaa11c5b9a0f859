use lib.Seq.{take_all}
use Rattle.std.proofs.Common.{ℕ, List, ◌≡◌, refl, sym, ap, ◌∙◌, take, arith}
use Rattle.base.specs.Bytes.{put, put_none}
use Rattle.playback.specs.Lines.{hex_of}
use Rattle.playback.specs.Laws.{length_hex}
use Rattle.playback.specs.Written.{hex_turn}
use Rattle.playback.proofs.hex.Goals as goal

pub loop-i-init : goal.loop-i-init
unfolding hex_of
loop-i-init c = (refl, sym (put_none _ _))

pub loop-i-preserved : goal.loop-i-preserved
loop-i-preserved c =
    let a = c.args in
    let n = c.loop-i.invariant in
    hex_turn a.bytes.now c.loop-i.i (omega arith) a.at _ _ _ a.line.now _ _ (omega (arith, length_hex a.bytes.now)) refl
    c.upper.ensures c.upper-in-loop-i.ensures n.1 c.put_at.ensures

pub returns : goal.returns
returns c =
    let a = c.args in
    let n = c.loop-i.invariant in
    let e : take c.loop-i.i a.bytes.now ≡ a.bytes.now = take_all c.loop-i.i a.bytes.now (omega arith) in
    (n.1 ∙ ap (λ (z : List ℕ). put a.at (hex_of z) a.line.now) e, omega (arith, length_hex a.bytes.now))
