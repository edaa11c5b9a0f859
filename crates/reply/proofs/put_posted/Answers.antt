use mathlib.Core.Path.{◌∙◌}
use Rattle.base.specs.Bytes.{put_first}
use Rattle.reply.proofs.put_posted.Goals as goal

pub returns : goal.returns
returns c = (rw c.posted_report-r.ensures at c.put_at.ensures) ∙ put_first _ _
