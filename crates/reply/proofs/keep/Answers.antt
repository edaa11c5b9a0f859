use mathlib.Core.Path.{sym}
use Rattle.base.specs.Bytes.{over_none}
use Rattle.reply.specs.Written.{by_kept}
use Rattle.reply.proofs.keep.Goals as goal

pub returns-in_default : goal.returns-in_default
returns-in_default c = by_kept _ _ _ _ _ c.in_default.is (sym (over_none _))
