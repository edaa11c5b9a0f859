use Rattle.std.proofs.Common.{rules}
use Rattle.command.proofs.Refused.{admit_none, admit_unlisted, lets_reach, lets_in}
use Rattle.command.proofs.admit.Goals as goal

pub returns-in_default : goal.returns-in_default
returns-in_default c = search (rules, admit_none)

pub returns-in_default-row_of : goal.returns-in_default-row_of
returns-in_default-row_of c = search (rules, admit_unlisted)

pub invariant_of-command : goal.invariant_of-command
invariant_of-command c = record {
  reaches = lets_reach c.args.on c.args.checked c.args.b.now c.in-Some.row (search rules) (search rules);
}

pub returns : goal.returns
returns c = search (rules, lets_in)
