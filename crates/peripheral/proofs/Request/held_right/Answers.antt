use Rattle.std.proofs.Common.{sym, ◌∙◌}
use Rattle.peripheral.proofs.Facts.{request_made_lem}
use Rattle.peripheral.proofs.Request.held_right.Goals as goal

pub sent_right-requires : goal.sent_right-requires
sent_right-requires c = (request_made_lem c.args.self (sym c.made.ensures ∙ c.if-not-made.false)).payload.block
