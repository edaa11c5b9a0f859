-- A state's bytes, as docs/STATE.md lays them out: the registers', then each channel's; the bytes that pack a sound state.
use Rattle.std.specs.Prelude.{ℕ, Bool, ◌&&◌, List, ◌++◌}
use Rattle.base.specs.Bytes.{agree}
use Rattle.registers.specs.Layout.{config_bytes, config_in}
use Rattle.wires.specs.Layout.{all_bytes, all_in, tidy_wires}
use Rattle.peripheral.specs.Layout.{peripheral_bytes, peripheral_in, tidy_peripheral}
use Rattle.state.specs.Sound.{sound}
use Rattle.state.specs.State.{State}

-- "a length fixed in docs/" (01, What the engine covers; docs/STATE.md): 174
abbrev pub state_length : ℕ
state_length = 174

-- the state's bytes: the registers', channel 0's, channel 1's (docs/STATE.md; docs/DECISIONS.md, 27)
unfoldable pub packed : State → List ℕ
packed s = config_bytes s.config ++ (peripheral_bytes s.peripheral ++ all_bytes s.wires)

-- the state in bytes; total; canonical bytes are those that it gives back (docs/DECISIONS.md, 23)
unfoldable pub unpacked : List ℕ → State
unpacked l = record { config = config_in l; peripheral = peripheral_in l; wires = all_in l }

-- the bytes pack a sound state: number 11 where they do not ("bytes that pack no state are 11", 01, What the engine covers)
unfoldable pub holds : List ℕ → Bool
holds l = sound (unpacked l) && agree state_length (packed (unpacked l)) l

-- the canonical form (docs/DECISIONS.md, 23), by the bytes as they stand: the same as `agree` above (`tidy-is` of Tidy.antt); any bytes are those of registers
unfoldable pub tidy : List ℕ → Bool
tidy l = tidy_peripheral l && tidy_wires l
