use Rattle.peripheral.specs.Sound.{sound_write}
use Rattle.peripheral.specs.Coded.{write-at, then_true}
use Rattle.peripheral.proofs.write_holds.Goals as goal

pub returns-in-0 : goal.returns-in-0
unfolding sound_write
returns-in-0 c = write-at c.args.b.now _ 0 c.in-0.is (rw c.unpack-w.ensures (then_true _))

pub returns-in-1 : goal.returns-in-1
unfolding sound_write
returns-in-1 c = write-at c.args.b.now _ 1 c.in-1.is (rw c.unpack-w.ensures at c.made.ensures)
