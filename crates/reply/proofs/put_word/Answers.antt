use mathlib.Core.Path.{refl, ◌∙◌}
use Rattle.base.specs.Bytes.{put_first}
use Rattle.reply.proofs.put_word.Goals as goal

pub returns : goal.returns
returns c = ((rw c.to_le_bytes.ensures at c.put_at.ensures) ∙ put_first _ _, refl)
