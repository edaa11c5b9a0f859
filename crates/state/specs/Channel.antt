-- The channels, and what each is in a state, as families over them. A further channel is one clause in each.
use Rattle.std.specs.Prelude.{ℕ, Bool, ◌&&◌, List}
use Rattle.registers.specs.Registers.{on0, on1, operating_count}
use Rattle.registers.specs.declared.Config.{Config}
use Rattle.wires.specs.Senders.{AllWires, wires_status, sound_all, whole_all}
use Rattle.wires.specs.Layout.{all_bytes, all_in, tidy_wires}
use Rattle.peripheral.specs.Status.{peripheral_status}
use Rattle.peripheral.specs.Sound.{sound_peripheral, fits_peripheral}
use Rattle.peripheral.specs.Layout.{peripheral_bytes, peripheral_in, tidy_peripheral}
use Rattle.peripheral.specs.declared.Peripheral.{Peripheral}
use Rattle.state.specs.State.{State}

-- "channel 0 (peripheral) requests from the controller; channel 1 (virtual wires)" (01, What the engine covers)
pub data Channel : Type 0 where
  peripheral wires : Channel

-- what a channel holds: its queues (01, Requests, answers, pieces), its wire groups (01, Wires) and lines (02, Q-4)
abbrev pub Part : Channel → Type 0
Part peripheral = Peripheral
Part wires = AllWires

-- ---- where it stands in a state

-- its part of a state (docs/DECISIONS.md, 29: "The channel's crate has what the decisions speak of: data")
abbrev pub part : (k : Channel) → State → Part k
part peripheral s = s.peripheral
part wires s = s.wires

-- that part made another, the rest as it was: no channel tells on another (01, Wires: "Wire traffic and channel 0"; 02, Q-14)
abbrev pub put : (k : Channel) → Part k → State → State
put peripheral p s = record { config = s.config; peripheral = p; wires = s.wires }
put wires p s = record { config = s.config; peripheral = s.peripheral; wires = p }

-- every part by its own function, under a new configuration: "eSPI reset also resets all registers and groups" (01, Requests, answers, pieces)
abbrev pub each : ((k : Channel) → Part k → Part k) → Config → State → State
each f c s = record { config = c; peripheral = f peripheral s.peripheral; wires = f wires s.wires }

-- bit 0 of 010h and of 020h: "bit 0 (enable)" (01, Registers and status)
abbrev pub on : Channel → Config → Bool
on peripheral c = on0 c.r010
on wires c = on1 c.r020

-- its word of the status: its own of the "Status bits" (01, Registers and status)
abbrev pub bits : (k : Channel) → Part k → ℕ
bits peripheral p = peripheral_status p
bits wires p = wires_status p

-- ---- its part of a sound state, under the configuration; each number within its width

-- its clauses of "Sound state" (01, Wires, last paragraph), by whether it is on, and channel 1's by the operating count too (02, Q-4)
abbrev pub sound_part : (k : Channel) → Config → Part k → Bool
sound_part peripheral c p = sound_peripheral (on0 c.r010) p
sound_part wires c p = sound_all (on1 c.r020) (operating_count c.r020) p

-- each number within its width, six groups, three maps of lines: "an array of six nibbles and one of pending marks" (01, What form each place takes)
abbrev pub fits_part : (k : Channel) → Part k → Bool
fits_part peripheral p = fits_peripheral p
fits_part wires p = whole_all p

-- ---- its bytes among the state's (docs/STATE.md): from which place on, how many, which

-- from which byte on: 12 and 64 (docs/DECISIONS.md, 27)
abbrev pub place : Channel → ℕ
place peripheral = 12
place wires = 64

-- how many: 52 and 110 (docs/DECISIONS.md, 27)
abbrev pub size : Channel → ℕ
size peripheral = 52
size wires = 110

-- which (docs/DECISIONS.md, 27)
abbrev pub part_bytes_value : (k : Channel) → Part k → List ℕ
part_bytes_value peripheral p = peripheral_bytes p
part_bytes_value wires p = all_bytes p

-- the part in a state's bytes (docs/DECISIONS.md, 27)
abbrev pub part_in : (k : Channel) → List ℕ → Part k
part_in peripheral l = peripheral_in l
part_in wires l = all_in l

-- the canonical form (docs/DECISIONS.md, 23)
abbrev pub tidy_part : Channel → List ℕ → Bool
tidy_part peripheral l = tidy_peripheral l
tidy_part wires l = tidy_wires l

-- the bytes pack a sound part: else 11, "bytes that pack no state" (01, What the engine covers)
abbrev pub holds_part : Channel → Config → List ℕ → Bool
holds_part k c l = tidy_part k l && sound_part k c (part_in k l)
