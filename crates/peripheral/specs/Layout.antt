-- The channel's bytes in those of a state, as docs/STATE.md lays them out.
use Rattle.std.specs.Prelude.{ℕ, zero, suc, Bool, true, false, ◌&&◌, List, ◌∷◌, ◌++◌, ◌==◌, nat_le, slice_index, Option, Some, None}
use Rattle.base.specs.Pick.{pick}
use Rattle.base.specs.Bytes.{low4, low8, number4, number8, put}
use Rattle.peripheral.specs.Status.{pc_avail}
use Rattle.peripheral.specs.Upward.{handed}
use Rattle.peripheral.specs.Sound.{sound_request, sound_write, sound_peripheral}
use Rattle.peripheral.specs.declared.Kind.{Kind}
use Rattle.peripheral.specs.declared.Kind.TheVariants.{MemoryRead, IoRead, IoWrite}
use Rattle.peripheral.specs.declared.Request.{Request}
use Rattle.peripheral.specs.declared.Np.{Np}
use Rattle.peripheral.specs.declared.Np.TheVariants.{Free, Waiting, Ready, Failed}
use Rattle.peripheral.specs.declared.Posted.{Posted}
use Rattle.peripheral.specs.declared.Peripheral.{Peripheral}

-- ---- packing

-- 12 to 28: the held write: 1 where one is held, address, length, payload size (docs/STATE.md; docs/DECISIONS.md, 27)
abbrev pub write_bytes_value : Option Posted → List ℕ
write_bytes_value None = 0 ∷ (low8 0 ++ (low4 0 ++ low4 0))
write_bytes_value (Some w) = 1 ∷ (low8 w.address ++ (low4 w.length ++ low4 w.payload))

-- a request's kind, here (docs/DECISIONS.md, 27) and in the report of a look: "Looking yields the request's kind" (01, Requests, answers, pieces)
abbrev pub kind_number : Kind → ℕ
kind_number MemoryRead = 0
kind_number IoRead = 1
kind_number IoWrite = 2

-- 29 to 59: the held request: phase, kind, tag, address, length, payload size, read request size, an I/O write's bytes, bytes sent
-- (docs/STATE.md; docs/DECISIONS.md, 27)
abbrev pub number_bytes : (phase kind : ℕ) → Request → ℕ → List ℕ
number_bytes phase kind q sent =
    phase ∷ kind ∷ q.tag
    ∷ (low8 q.address ++ (low4 q.length ++ (low4 q.payload ++ (low4 q.readsize ++ (low4 q.bytes ++ low4 sent)))))

-- those of a request with its kind: "with its tag, payload and read sizes then in force" (01, Requests, answers, pieces)
abbrev pub request_bytes : ℕ → Request → ℕ → List ℕ
request_bytes phase q sent = number_bytes phase (kind_number q.kind) q sent

-- by phase: 0 none, 1 not answered, 2 answered with success, 3 with failure; 0 in all fields where nothing is held (docs/DECISIONS.md, 23)
abbrev pub np_bytes : Np → List ℕ
np_bytes Free = 0 ∷ 0 ∷ 0 ∷ (low8 0 ++ (low4 0 ++ (low4 0 ++ (low4 0 ++ (low4 0 ++ low4 0)))))
np_bytes (Waiting q) = request_bytes 1 q 0
np_bytes (Ready q sent) = request_bytes 2 q sent
np_bytes (Failed q) = request_bytes 3 q 0

-- then 60 to 63: the serial (docs/STATE.md; docs/DECISIONS.md, 27)
abbrev pub peripheral_bytes : Peripheral → List ℕ
peripheral_bytes p = write_bytes_value p.write ++ (np_bytes p.request ++ low4 p.serial)

-- the bytes once GET_PC has handed over what is next: the request's; where that is nothing they stay (01, Replies and refusals, 1: "otherwise unchanged")
abbrev pub handed_bytes : Np → List ℕ → List ℕ
handed_bytes n l = pick (pc_avail n) (put 29 (np_bytes (handed n)) l) l

-- ---- unpacking: total; canonical bytes are those that it gives back

-- the write in bytes 13 to 28 (docs/DECISIONS.md, 27)
abbrev pub posted_in : List ℕ → Posted
posted_in l = record { address = number8 13 l; length = number4 21 l; payload = number4 25 l }

-- byte 12: is one held (docs/DECISIONS.md, 27)
abbrev pub write_of : ℕ → Posted → Option Posted
write_of zero w = None
write_of (suc n) w = Some w

-- byte 30: the kind (docs/DECISIONS.md, 27)
abbrev pub kind_of : ℕ → Kind
kind_of zero = MemoryRead
kind_of (suc zero) = IoRead
kind_of (suc (suc n)) = IoWrite

-- the request in bytes 30 to 55 (docs/DECISIONS.md, 27)
abbrev pub request_in : List ℕ → Request
request_in l =
    record {
      kind = kind_of (slice_index l 30);
      tag = slice_index l 31;
      address = number8 32 l;
      length = number4 40 l;
      payload = number4 44 l;
      readsize = number4 48 l;
      bytes = number4 52 l;
    }

-- byte 29: its phase (docs/DECISIONS.md, 27)
abbrev pub np_of : ℕ → Request → ℕ → Np
np_of zero q sent = Free
np_of (suc zero) q sent = Waiting q
np_of (suc (suc zero)) q sent = Ready q sent
np_of (suc (suc (suc n))) q sent = Failed q

-- the held write in a state's bytes (docs/DECISIONS.md, 27)
abbrev pub write_in : List ℕ → Option Posted
write_in l = write_of (slice_index l 12) (posted_in l)

-- the held request, with the bytes sent in 56 to 59 (docs/DECISIONS.md, 27)
abbrev pub np_in : List ℕ → Np
np_in l = np_of (slice_index l 29) (request_in l) (number4 56 l)

-- both, and the serial (docs/DECISIONS.md, 27)
abbrev pub peripheral_in : List ℕ → Peripheral
peripheral_in l = record { write = write_in l; request = np_in l; serial = number4 60 l }

-- ---- the canonical form (docs/STATE.md), by the bytes as they stand: 0 where nothing is held, and no byte that says nothing

-- of the write: "flags 0 or 1, unused fields zero" (docs/DECISIONS.md, 23)
abbrev pub tidy_write : ℕ → Posted → Bool
tidy_write zero w = w.address == 0 && (w.length == 0 && w.payload == 0)
tidy_write (suc zero) w = true
tidy_write (suc (suc n)) w = false

-- of a request's fields where none is held: zero (docs/DECISIONS.md, 23)
abbrev pub blank : (kind : ℕ) → Request → ℕ → Bool
blank kind q sent =
    (kind == 0)
    && (q.tag == 0
    && (q.address == 0
    && ((q.length == 0 && q.payload == 0) && ((q.readsize == 0 && q.bytes == 0) && sent == 0))))

-- by phase; bytes are sent of an answer with success alone (docs/DECISIONS.md, 23; 01, Sound state: "bytes sent are 0 unless a read was answered")
abbrev pub tidy_request : (phase kind : ℕ) → Request → ℕ → Bool
tidy_request zero kind q sent = blank kind q sent
tidy_request (suc zero) kind q sent = nat_le kind 2 && sent == 0
tidy_request (suc (suc zero)) kind q sent = nat_le kind 2
tidy_request (suc (suc (suc zero))) kind q sent = nat_le kind 2 && sent == 0
tidy_request (suc (suc (suc (suc n)))) kind q sent = false

-- of both; any four bytes are a serial (docs/DECISIONS.md, 23)
abbrev pub tidy_peripheral : List ℕ → Bool
tidy_peripheral l = tidy_write (slice_index l 12) (posted_in l) && tidy_request (slice_index l 29) (slice_index l 30) (request_in l) (number4 56 l)

-- ---- the bytes pack a sound write, a sound request, a sound channel that is on or off

-- the request's bytes are those of none (docs/DECISIONS.md, 23)
abbrev pub blank_in : List ℕ → Bool
blank_in l = blank (slice_index l 30) (request_in l) (number4 56 l)

-- else 11, "bytes that pack no state" (01, What the engine covers): the write's
abbrev pub holds_write : List ℕ → Bool
holds_write l = tidy_write (slice_index l 12) (posted_in l) && sound_write (write_in l)

-- .. the request's (docs/DECISIONS.md, 23)
abbrev pub holds_request : List ℕ → Bool
holds_request l = tidy_request (slice_index l 29) (slice_index l 30) (request_in l) (number4 56 l) && sound_request (np_in l)

-- .. the channel's: "state not sound" is 11 (01, Replies and refusals)
abbrev pub holds_peripheral : Bool → List ℕ → Bool
holds_peripheral on l = tidy_peripheral l && sound_peripheral on (peripheral_in l)
