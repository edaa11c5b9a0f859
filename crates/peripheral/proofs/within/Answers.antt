use Rattle.peripheral.specs.Coded.{low_in}
use Rattle.peripheral.proofs.within.Goals as goal

pub returns : goal.returns
returns c = rw (c.from-at.ensures, c.from.ensures, c.from-2.ensures, c.place_in.ensures.0, low_in c.args.address c.args.block c.requires)
