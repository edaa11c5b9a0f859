use mathlib.Core.Path.{refl, ap, ◌∙◌}
use Rattle.base.specs.Bytes.{put, put-put}
use Rattle.wires.specs.Layout.{wires_bytes}
use Rattle.wires.specs.Lines.{lines_bytes, no_lines}
use Rattle.state.specs.Channel as K
use Rattle.state.specs.Core.{quiet_state}
use Rattle.state.specs.Coded.{packed_start, packed-then, packed-done}
use borrow.Author.Rules.{rules}
use Rattle.state.proofs.pack.Goals as goal

-- src/lib.rt:33:1
pub returns : goal.returns
returns c =
    let a = c.args in
    let s = quiet_state a.s in
    let l = a.dst.now in
    let w = wires_bytes a.s.wires in
    packed-done s l
    (packed-then s l K.wires
    (c.clear_lines.ensures
    ∙ ap (put 78 (lines_bytes no_lines)) c.pack-3.ensures
    ∙ put-put 64 78 w (lines_bytes no_lines) _ (search rules) refl)
    (packed-then s l K.peripheral c.pack-2.ensures
    (packed_start s l c.pack.ensures)))
