-- `crc::crc_bytes` meets its contract: the bytes that are left make the whole of the register now.
use mathlib.Core.Path.{◌∙◌}
use native.Mathlib.Omega.{arith}
use lib.ListN.{get_or}
use Rattle.crc.specs.Crc.{crc_from_next}
use Rattle.crc.proofs.Table18.{table18-byte}
use Rattle.crc.proofs.crc_bytes.Goals as goal

pub loop-b-preserved : goal.loop-b-preserved
loop-b-preserved c =
    let l = c.loop-b in
    let s = c.args.s.now in
    let k = c.type_inv.s in
    let e = c.crc_byte-x.ensures ∙ table18-byte l.x (get_or s l.b-index 0) l.invariant.0 (omega (arith, k l.b-index)) in
    (omega arith, crc_from_next s l.x _ l.b-index (omega arith) e ∙ l.invariant.1)
