-- The state: the registers and each channel's part (01, What the engine covers). The lines among the wires stand in its bytes alone, so this is no
-- type of the code.
use Rattle.registers.specs.declared.Config.{Config}
use Rattle.wires.specs.Senders.{AllWires}
use Rattle.peripheral.specs.declared.Peripheral.{Peripheral}

-- registers, "channel 0 (peripheral)", "channel 1 (virtual wires)" (01, What the engine covers)
pub record State : Type 0 where
  pub config : Config
  pub peripheral : Peripheral
  pub wires : AllWires
