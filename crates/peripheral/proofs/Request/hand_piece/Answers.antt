use Rattle.std.proofs.Common.{arith}
use Rattle.pieces.specs.Edges.{next_le}
use Rattle.peripheral.specs.Coded.{piece-handed}
use Rattle.peripheral.proofs.Request.hand_piece.Goals as goal

pub overflow_add-gone : goal.overflow_add-gone
overflow_add-gone c =
    let q = c.args.self in
    record { fits = omega (arith, c.next_size-length.ensures, next_le q.address q.length q.payload c.args.sent c.requires.1) }

pub returns : goal.returns
returns c =
    piece-handed c.args.self c.args.sent _ _ _ _ _ c.next_size-length.ensures c.mark_of-mark.ensures c.from-cycle.ensures c.put_left.ensures
