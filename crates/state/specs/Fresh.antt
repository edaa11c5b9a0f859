-- The fresh state (01, What the engine covers): "only start sets" the serial, "to 0".
use Rattle.registers.specs.Registers.{fresh_config}
use Rattle.wires.specs.Senders.{fresh_all}
use Rattle.peripheral.specs.Queues.{idle}
use Rattle.state.specs.State.{State}

-- "Start takes no state and gives the fresh one" (01, What the engine covers); "only start sets" the serial, "to 0" (01, Requests, answers, pieces)
abbrev pub fresh_state : State
fresh_state = record { config = fresh_config; peripheral = idle 0; wires = fresh_all }
