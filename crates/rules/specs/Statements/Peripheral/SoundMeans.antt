-- Channel 0's clauses of "Sound state" (01, Wires, last paragraph). "the request's serial the last given" holds by the state's shape: the one
-- serial of the channel is the held request's.
use Rattle.std.specs.Prelude.{ℕ, ◌%◌, ◌+◌, ◌^◌, ◌≤◌, ◌<◌, Bool, false, ◌≡◌, Option, Some, None}
use Rattle.registers.specs.Registers.{size_of}
use Rattle.pieces.specs.Pieces.{blocks, edge}
use Rattle.peripheral.specs.declared.Kind.{Kind}
use Rattle.peripheral.specs.declared.Kind.TheVariants.{MemoryRead, IoRead, IoWrite}
use Rattle.peripheral.specs.declared.Request.{Request}
use Rattle.peripheral.specs.declared.Np.{Np}
use Rattle.peripheral.specs.declared.Np.TheVariants.{Free, Waiting, Ready, Failed}
use Rattle.peripheral.specs.declared.Posted.{Posted}
use Rattle.peripheral.specs.Facts.{MadeMemoryRead, MadeIoRead, MadeIoWrite}
use Rattle.peripheral.specs.declared.Peripheral.{Peripheral}

-- ---- "a held request or write is one that a command makes under the sizes recorded with it"

-- a size that a code means: payload 001 to 011, read request 001 to 111
-- ("Payload and read request codes n mean 64 times 2^(n-1) bytes", "14:12 = 000; 10:8 = 000 or above 011" forbidden, 01, Registers and status)
abbrev pub Coded : (top size : ℕ) → Type 0
Coded top size = (n : ℕ) × (1 ≤ n) × (n ≤ top) × (size ≡ size_of n)

-- by kind; the lengths, tags, address widths and blocks stand there ("Size rules", 01, Replies and refusals; 01, Commands)
abbrev pub MadeAs : Kind → Request → Type 0
MadeAs MemoryRead q = MadeMemoryRead q
MadeAs IoRead q = MadeIoRead q
MadeAs IoWrite q = MadeIoWrite q

-- a request "that a command makes under the sizes recorded with it" (01, Sound state)
pub record Made (q : Request) : Type 0 where
  pub payload : Coded 3 q.payload
  pub readsize : Coded 7 q.readsize
  pub address : q.address < 2 ^ 64
  pub as_kind : MadeAs q.kind q

-- .. a write: "at most the payload size and does not cross a block of that size" (01, Size rules)
pub record PostedMade (w : Posted) : Type 0 where
  pub payload : Coded 3 w.payload
  pub address : w.address < 2 ^ 64
  pub least : 1 ≤ w.length
  pub in_block : w.address % w.payload + w.length ≤ w.payload

-- "a held request", in each phase (01, Sound state)
abbrev pub RequestMade : Np → Type 0
RequestMade Free = Unit {0}
RequestMade (Waiting q) = Made q
RequestMade (Ready q sent) = Made q
RequestMade (Failed q) = Made q

-- .. "or write" (01, Sound state)
abbrev pub WriteMade : Option Posted → Type 0
WriteMade None = Unit {0}
WriteMade (Some w) = PostedMade w

-- ---- "bytes sent are 0 unless a read was answered with success, and end at a piece's edge, short of the whole"

-- "end at a piece's edge, short of the whole" (01, Sound state)
pub record ReadSent (q : Request) (sent : ℕ) : Type 0 where
  pub at_edge : (k : ℕ) × (k < blocks q.address q.length q.payload) × (sent ≡ edge q.address q.length q.payload k)
  pub short : sent < q.length

-- of a request that was answered with success: "bytes sent are 0 unless a read was" (01, Sound state)
abbrev pub SentAs : Kind → Request → ℕ → Type 0
SentAs MemoryRead q sent = ReadSent q sent
SentAs IoRead q sent = ReadSent q sent
SentAs IoWrite q sent = sent ≡ 0

-- a request that waits or failed has no bytes sent, by its shape ("bytes sent are 0 unless a read was answered with success", 01, Sound state)
abbrev pub BytesSent : Np → Type 0
BytesSent Free = Unit {0}
BytesSent (Waiting q) = Unit {0}
BytesSent (Ready q sent) = SentAs q.kind q sent
BytesSent (Failed q) = Unit {0}

-- ---- the clauses of channel 0

-- from "a held request or write" to "short of the whole", and "no queue is held while channel 0 is off" (01, Sound state)
pub record Clauses (on : Bool) (p : Peripheral) : Type 0 where
  pub request : RequestMade p.request
  pub write : WriteMade p.write
  pub sent : BytesSent p.request
  -- "no queue is held while channel 0 is off"
  pub no_request_lem : on ≡ false → p.request ≡ Free
  pub no_write_lem : on ≡ false → p.write ≡ None
