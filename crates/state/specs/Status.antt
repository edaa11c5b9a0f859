-- The status word (01, Registers and status): the sum of a word for each channel.
use Rattle.std.specs.Prelude.{ℕ, ◌+◌}
use Rattle.wires.specs.Senders.{wires_status}
use Rattle.peripheral.specs.Status.{peripheral_status}
use Rattle.state.specs.State.{State}

-- "Status bits: 0 PC_FREE .., 1 NP_FREE .., 4 PC_AVAIL .." of channel 0, "2 VWIRE_FREE .., 6 VWIRE_AVAIL .." of channel 1; "the rest 0"
unfoldable pub status : State → ℕ
status s = peripheral_status s.peripheral + wires_status s.wires
