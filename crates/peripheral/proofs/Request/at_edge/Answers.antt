use Rattle.peripheral.specs.Coded.{edge_low}
use Rattle.peripheral.proofs.Request.at_edge.Goals as goal

pub returns : goal.returns
returns c = rw (c.place_in-at.ensures.0, edge_low c.args.self.address c.args.self.payload c.args.sent c.requires)
