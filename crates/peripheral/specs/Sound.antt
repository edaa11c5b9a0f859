-- The channel's part of a sound state (01, Wires, last paragraph): one conjunct for each clause. "the request's serial the last given" holds by
-- the channel's shape: its one serial is the held request's.
use Rattle.std.specs.Prelude.{ℕ, ◌+◌, ◌*◌, ◌%◌, ◌^◌, Bool, true, ◌&&◌, ◌||◌, ◌==◌, nat_le, nat_lt, Option, Some, None}
use Rattle.registers.specs.Registers.{payload_legal, read_legal}
use Rattle.peripheral.specs.Status.{pc_free, np_free}
use Rattle.peripheral.specs.declared.Kind.{Kind}
use Rattle.peripheral.specs.declared.Kind.TheVariants.{MemoryRead, IoRead, IoWrite}
use Rattle.peripheral.specs.declared.Request.{Request}
use Rattle.peripheral.specs.declared.Np.{Np}
use Rattle.peripheral.specs.declared.Np.TheVariants.{Free, Waiting, Ready, Failed}
use Rattle.peripheral.specs.declared.Posted.{Posted}
use Rattle.peripheral.specs.declared.Peripheral.{Peripheral}

-- ---- "a held request or write is one that a command makes under the sizes recorded with it"

-- "at most the .. size and does not cross a block of that size" (01, Replies and refusals: Size rules; docs/DECISIONS.md, 18)
abbrev pub within : ℕ → ℕ → ℕ → Bool
within A L B = nat_le (A % B + L) B

-- "1, 2 and 4 bytes" (01, Commands)
abbrev pub short_size : ℕ → Bool
short_size L = L == 1 || (L == 2 || L == 4)

-- "I/O has 2 address bytes", "Tag 0", 1, 2 or 4 bytes (01, Commands: Short)
abbrev pub io_made : Request → Bool
io_made q = q.tag == 0 && (nat_lt q.address (2 ^ 16) && short_size q.length)

-- by its kind, of one byte or more: a read within the read request size, "an I/O write as a write"; its bytes, for a write alone (01, Size rules)
abbrev pub made_as_value : Kind → Request → Bool
made_as_value MemoryRead q = nat_le 1 q.length && (within q.address q.length q.readsize && (nat_lt q.tag 16 && q.bytes == 0))
made_as_value IoRead q = io_made q && (within q.address q.length q.readsize && q.bytes == 0)
made_as_value IoWrite q = io_made q && (within q.address q.length q.payload && nat_lt q.bytes (2 ^ (8 * q.length)))

-- so a request, under a payload and a read request size that a code means (01, Sound state)
abbrev pub request_made : Request → Bool
request_made q = payload_legal q.payload && (read_legal q.readsize && made_as_value q.kind q)

-- so a write, under a payload size that a code means: "a write's data is at most the payload size" (01, Size rules)
abbrev pub write_made : Posted → Bool
write_made w = payload_legal w.payload && (nat_le 1 w.length && within w.address w.length w.payload)

-- ---- "bytes sent are 0 unless a read was answered with success, and end at a piece's edge, short of the whole"

-- at 0, or where a block of the answer ends; an I/O write's answer has no byte (01, Sound state)
abbrev pub sent_right : Kind → Request → ℕ → Bool
sent_right MemoryRead q sent = nat_lt sent q.length && (sent == 0 || (q.address + sent) % q.payload == 0)
sent_right IoRead q sent = nat_lt sent q.length && (sent == 0 || (q.address + sent) % q.payload == 0)
sent_right IoWrite q sent = sent == 0

-- the request's clauses, in each phase; bytes are sent of a success alone (01, Sound state)
unfoldable pub sound_request : Np → Bool
sound_request Free = true
sound_request (Waiting q) = request_made q
sound_request (Ready q sent) = request_made q && sent_right q.kind q sent
sound_request (Failed q) = request_made q

-- the write's clause: none, or one that a command makes (01, Sound state)
unfoldable pub sound_write : Option Posted → Bool
sound_write None = true
sound_write (Some w) = write_made w

-- "no queue is held while channel 0 is off" (01, Sound state)
abbrev pub nothing_held : Peripheral → Bool
nothing_held p = pc_free p.write && np_free p.request

-- channel 0's clauses of "Sound state" together (01, Wires, last paragraph)
abbrev pub sound_peripheral : Bool → Peripheral → Bool
sound_peripheral on p = (on || nothing_held p) && (sound_request p.request && sound_write p.write)

-- ---- each number within its width: what the types of the code say and a record of naturals does not

-- an address has at most 8 bytes: "02h (8)" (01, Commands)
abbrev pub fits_request : Np → Bool
fits_request Free = true
fits_request (Waiting q) = nat_lt q.address (2 ^ 64)
fits_request (Ready q sent) = nat_lt q.address (2 ^ 64)
fits_request (Failed q) = nat_lt q.address (2 ^ 64)

-- so a write's: "03h (8)" (01, Commands)
abbrev pub fits_write : Option Posted → Bool
fits_write None = true
fits_write (Some w) = nat_lt w.address (2 ^ 64)

-- and the serial counts "modulo 2^32" (01, Requests, answers, pieces)
abbrev pub fits_peripheral : Peripheral → Bool
fits_peripheral p = fits_request p.request && (fits_write p.write && nat_lt p.serial (2 ^ 32))
