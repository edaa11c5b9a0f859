use Rattle.peripheral.specs.Coded.{packed_by}
use Rattle.peripheral.proofs.Peripheral.pack.Goals as goal

pub returns : goal.returns
returns c =
    packed_by c.args.self _ _ _ _ c.requires
    (rw c.write_bytes.ensures at c.put_at.ensures)
    (rw c.bytes.ensures at c.put_at-2.ensures)
    (rw c.to_le_bytes.ensures at c.put_at-3.ensures)
