-- Sound state (01, Wires, last paragraph): reachable registers, and each channel's part, which reads the configuration: whether the channel is on, and
-- the operating count (02, Q-4).
use Rattle.std.specs.Prelude.{Bool, true, ◌&&◌, ◌≡◌}
use Rattle.registers.specs.Registers.{on0, on1, operating_count, reachable}
use Rattle.registers.specs.Layout.{fits_config}
use Rattle.wires.specs.Senders.{sound_all, whole_all}
use Rattle.peripheral.specs.Sound.{sound_peripheral, fits_peripheral}
use Rattle.state.specs.State.{State}

-- "Sound state: registers hold reachable values", then each channel's clauses (01, Wires, last paragraph)
unfoldable pub sound : State → Bool
sound s =
    reachable s.config
    && (sound_peripheral (on0 s.config.r010) s.peripheral
    && sound_all (on1 s.config.r020) (operating_count s.config.r020) s.wires)

-- each number within its width, each array of six: what the types of the code say and a record of naturals does not (01, What form each place takes)
unfoldable pub fits : State → Bool
fits s = fits_config s.config && (fits_peripheral s.peripheral && whole_all s.wires)

-- the sound states: those of which "Every call keeps it" is said (01, Sound state)
pub record Sound (s : State) : Type 0 where
  pub is_sound : sound s ≡ true
  pub is_fit : fits s ≡ true
