use Rattle.std.proofs.Common.{sym, ◌∙◌}
use Rattle.base.specs.Bytes.{put_first, copied_all}
use Rattle.base.proofs.copy_in.Goals as goal

pub returns : goal.returns
returns c =
    let a = c.args in
    c.put_at.ensures ∙ put_first a.src.now a.dst.now ∙ sym (copied_all a.dst.now a.src.now)
