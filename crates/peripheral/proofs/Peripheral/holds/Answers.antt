use Rattle.peripheral.specs.Coded.{holds_by}
use Rattle.peripheral.proofs.Peripheral.holds.Goals as goal

pub returns : goal.returns
returns c = holds_by c.args.on c.args.b.now _ _ c.request_holds.ensures c.write_holds.ensures
