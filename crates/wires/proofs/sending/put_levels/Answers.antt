use mathlib.Core.Path.{refl, ap, ◌∙◌}
use Prim.Native.Nat.{◌+◌}
use native.Mathlib.Omega.{arith}
use Rattle.base.specs.Bytes.{put, put-put}
use Rattle.wires.specs.Lines.{line_entry}
use Rattle.wires.proofs.sending.put_levels.Goals as goal

pub returns : goal.returns
returns c =
    let a = c.args in
    let h = c.requires.0 in
    c.put_level-2.ensures
    ∙ ap (put (a.at + 2) (line_entry a.line a.second)) c.put_level.ensures
    ∙ put-put a.at (a.at + 2) (line_entry a.line a.first) (line_entry a.line a.second) a.reply.now (omega arith) refl
