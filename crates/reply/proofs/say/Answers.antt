use native.Mathlib.Omega.{arith}
use Prim.Native.Nat.{ℕ, ◌+◌}
use mathlib.Core.Path.{sym, ap, ◌∙◌}
use Rattle.rules.proofs.Proofs.Reply.{closed-length}
use Rattle.rules.specs.Rules.Reply.{reply_bytes}
use Rattle.reply.specs.Written.{said_by_lem}
use Rattle.reply.proofs.say.Goals as goal

-- src/lib.rt:102:1
pub returns : goal.returns
unfolding reply_bytes
returns c =
    let p = rw c.from.ensures at c.put_body-n.ensures in (
      said_by_lem c.args.reply.now _ _ _ _ _ p.0 p.1
          c.finish.ensures,
      ap (λ (k : ℕ). k + 3) p.1 ∙ sym (closed-length _ _),
      omega (arith, p.2),
    )
