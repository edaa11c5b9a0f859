use Rattle.std.proofs.Common.{sym, ◌∙◌}
use Rattle.peripheral.specs.Facts.{payload_block, read_block}
use Rattle.peripheral.proofs.Request.made.Goals as goal

pub made_as-requires : goal.made_as-requires
made_as-requires c =
    (payload_block _ (sym c.payload_legal.ensures ∙ c.if-payload_legal.true), read_block _ (sym c.read_legal.ensures ∙ c.if-read_legal.true))
