use native.Mathlib.Omega.{arith}
use mathlib.Core.Path.{refl, sym}
use Rattle.base.specs.Bytes.{over_none}
use Rattle.wires.specs.Senders.{fresh_all}
use Rattle.rules.specs.Rules.Reply.{reply_bytes}
use Rattle.reply.specs.Written.{by_reply}
use Rattle.reply.proofs.put_reply.Goals as goal

-- src/lib.rt:122:48

pub returns-in-None : goal.returns-in-None
unfolding reply_bytes
returns-in-None c =
    by_reply _ _ fresh_all _ _ _ _ c.in-None.is (sym (over_none _), refl, omega arith)

-- src/lib.rt:114:1

pub returns-in-Some : goal.returns-in-Some
returns-in-Some c = by_reply _ _ fresh_all _ _ _ _ c.in-Some.is c.say.ensures
