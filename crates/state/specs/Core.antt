-- What the code holds of a state by value: all but the lines, which stand in the state's bytes alone.
use Rattle.wires.specs.Lines.{no_lines}
use Rattle.wires.specs.Groups.{fresh_wires}
use Rattle.registers.specs.Registers.{fresh_config}
use Rattle.peripheral.specs.Queues.{idle}
use Rattle.state.specs.State.{State}
use Rattle.state.specs.declared.Core.{Core}

-- that part of a state: registers, queues, "six wire groups" (01, Wires)
abbrev pub core_of : State → Core
core_of s = record { config = s.config; peripheral = s.peripheral; wires = s.wires.groups }

-- the state of it in which no line is high or waits: "Both resets lower all lines and drop their waits and edges" (02, Q-4), and so does a start
abbrev pub quiet_state : Core → State
quiet_state s = record { config = s.config; peripheral = s.peripheral; wires = record { groups = s.wires; lines = no_lines } }

-- that of the fresh state: "Start takes no state and gives the fresh one" (01, What the engine covers)
abbrev pub fresh_core : Core
fresh_core = record { config = fresh_config; peripheral = idle 0; wires = fresh_wires }
