use Rattle.std.specs.Prelude.{Option}
use mathlib.Core.Path.{sym, ap, ◌∙◌}
use Rattle.base.specs.Bytes.{over, over_none}
use Rattle.rules.specs.Rules.Peripheral.{take_report}
use Rattle.reply.proofs.put_write.Goals as goal
use Rattle.peripheral.specs.declared.Posted.{Posted}

pub returns-in_default : goal.returns-in_default
returns-in_default c = sym (over_none _) ∙ ap (λ (z : Option Posted). over (take_report z) c.args.report.now) (sym c.in_default.is)
