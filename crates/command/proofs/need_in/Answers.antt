use Rattle.std.proofs.Common.{rules}
use Rattle.command.proofs.Prefix.{need_none, need_some}
use Rattle.command.proofs.need_in.Goals as goal

pub returns-in_default : goal.returns-in_default
returns-in_default c = search (rules, need_none)

pub returns-in-Some : goal.returns-in-Some
returns-in-Some c = search (rules, need_some)

pub returns-in-None : goal.returns-in-None
returns-in-None c = search (rules, need_some)
