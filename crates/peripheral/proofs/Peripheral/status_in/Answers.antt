use Rattle.peripheral.specs.Coded.{status_by}
use Rattle.peripheral.proofs.Peripheral.status_in.Goals as goal

pub returns : goal.returns
returns c = (status_by c.args.b.now _ c.word_of.ensures.0, c.word_of.ensures.1)
