use native.Mathlib.Omega.{arith}
use Rattle.reply.specs.Written.{finish_by}
use native.Mathlib.Omega.{arith}
use Rattle.reply.proofs.finish.Goals as goal

pub returns : goal.returns
returns c =
    let a = c.args in
    finish_by a.reply.now c.put_at.new.dst
    c.put_at-2.new.dst a.n a.status c.crc_of.result (omega arith)
    (rw c.bytes2-w.ensures at
    c.put_at.ensures)
    c.crc_of.ensures c.put_at-2.ensures
