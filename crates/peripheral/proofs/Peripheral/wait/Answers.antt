use Rattle.peripheral.specs.Coded.{waits_by}
use Rattle.peripheral.proofs.Peripheral.wait.Goals as goal

pub returns : goal.returns
returns c =
    waits_by c.args.q _ _ _ _ c.requires
    (rw c.bytes.ensures at c.put_at.ensures)
    (rw (c.to_le_bytes.ensures, c.get4-last.ensures) at c.put_at-2.ensures)
