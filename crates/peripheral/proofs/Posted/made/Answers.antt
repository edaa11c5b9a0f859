use Rattle.std.proofs.Common.{sym, ◌∙◌}
use Rattle.peripheral.specs.Facts.{payload_block}
use Rattle.peripheral.proofs.Posted.made.Goals as goal

pub within-requires : goal.within-requires
within-requires c = payload_block _ (sym c.payload_legal.ensures ∙ c.if-payload_legal.true)
