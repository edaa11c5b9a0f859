-- The channel's word of the status (01, Registers and status): every bit is computed from its queue.
use Rattle.std.specs.Prelude.{ℕ, ◌+◌, ◌*◌, Bool, true, false, List, [], ◌∷◌, Option, Some, None}
use Rattle.base.specs.Bytes.{bit}
use Rattle.peripheral.specs.Upward.{upward}
use Rattle.peripheral.specs.declared.Np.{Np}
use Rattle.peripheral.specs.declared.Np.TheVariants.{Free, Waiting, Ready, Failed}
use Rattle.peripheral.specs.declared.Peripheral.{Peripheral}
use Rattle.peripheral.specs.declared.Completion.{Completion}
use Rattle.peripheral.specs.declared.Posted.{Posted}

-- bit "0 PC_FREE (no write held)" (01, Registers and status; 004, table 4)
abbrev pub pc_free : Option Posted → Bool
pc_free None = true
pc_free (Some w) = false

-- bit "1 NP_FREE (no request held)" (01, Registers and status; 004, table 4)
abbrev pub np_free : Np → Bool
np_free Free = true
np_free (Waiting q) = false
np_free (Ready q sent) = false
np_free (Failed q) = false

-- there is one: a part of `pc_avail` (01, Registers and status)
abbrev pub some : List Completion → Bool
some [] = false
some (c ∷ cs) = true

-- bit "4 PC_AVAIL (a completion is ready)" (01, Registers and status; 004, table 4)
abbrev pub pc_avail : Np → Bool
pc_avail n = some (upward n)

-- the three bits at their places: 0, 1 and 4 (004, table 4)
abbrev pub peripheral_status : Peripheral → ℕ
peripheral_status p = bit (pc_free p.write) + bit (np_free p.request) * 2 + bit (pc_avail p.request) * 16
