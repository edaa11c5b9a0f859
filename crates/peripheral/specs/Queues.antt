-- The channel's queues with nothing in them (01, Requests, answers, pieces).
use Rattle.std.specs.Prelude.{ℕ, None}
use Rattle.peripheral.specs.declared.Np.TheVariants.{Free}
use Rattle.peripheral.specs.declared.Peripheral.{Peripheral}

-- nothing held, and this the last serial given: as a start leaves it, with 0 (01, Requests, answers, pieces: "only start sets it, to 0")
abbrev pub idle : ℕ → Peripheral
idle serial = record { write = None; request = Free; serial = serial }

-- "drop held write, request and completions"; "No reset touches" the serial
abbrev pub dropped : Peripheral → Peripheral
dropped p = idle p.serial
