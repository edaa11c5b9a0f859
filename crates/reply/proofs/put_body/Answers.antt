use native.Mathlib.Omega.{arith}
use mathlib.Core.Path.{refl, ◌∙◌}
use Rattle.base.specs.Bytes.{put_first}
use Rattle.wires.specs.Senders.{fresh_all}
use Rattle.reply.specs.Written.{by_body}
use Rattle.reply.proofs.put_body.Goals as goal

-- src/lib.rt:85:27

pub returns-in-Nothing : goal.returns-in-Nothing
returns-in-Nothing c =
    by_body _ _ fresh_all _ _ _ _ _ c.in-Nothing.is (c.put_at.ensures ∙ put_first _ _) refl
    (omega arith)

-- src/lib.rt:73:1
