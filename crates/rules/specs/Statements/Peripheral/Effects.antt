-- P11, channel 0's rows: for every accepted command of it and call of the board its part and its stores after, in full, from those before; and
-- what resets and an edge of its enable bit make of its part (01, Requests, answers, pieces).
use Rattle.std.specs.Prelude.{ℕ, ◌+◌, ◌-◌, ◌%◌, ◌^◌, min, Bool, true, false, List, ◌++◌, eqb, length, drop, Some, None}
use Rattle.base.specs.Pick.{pick}
use Rattle.registers.specs.declared.Config.{Config}
use Rattle.peripheral.specs.declared.Kind.{Kind}
use Rattle.peripheral.specs.declared.Kind.TheVariants.{MemoryRead, IoRead, IoWrite}
use Rattle.peripheral.specs.declared.Request.{Request}
use Rattle.peripheral.specs.declared.Np.{Np}
use Rattle.peripheral.specs.declared.Np.TheVariants.{Free, Waiting, Ready, Failed}
use Rattle.peripheral.specs.declared.Peripheral.{Peripheral}
use Rattle.rules.specs.Rules.Reset.{Reset, start, espi_reset, platform_reset}
use Rattle.rules.specs.Rules.Peripheral.{Board, look, answer, take_write}
use Rattle.rules.specs.Statements.Fields.{byte, is_posted, is_non_posted, access_address, access_length, access_tag, request_kind, io_bytes, written_data}
use Rattle.rules.specs.Statements.Sizes.{payload_of, read_size_of}

-- ---- commands

-- "One posted write is held with its payload size .." (01, Requests, answers, pieces)
abbrev pub after_posted : Config → Peripheral → List ℕ → Peripheral
after_posted c p b =
    record {
      write = Some (record { address = access_address b; length = access_length b; payload = payload_of c });
      request = p.request;
      serial = p.serial;
    }

-- "One non-posted request is held, with its tag, payload and read sizes then in force and a serial"; "An I/O write's bytes are kept in the
-- state", in bus order
abbrev pub asked_request : Config → List ℕ → Request
asked_request c b =
    record {
      kind = request_kind (byte b 0);
      address = access_address b;
      length = access_length b;
      tag = access_tag b;
      payload = payload_of c;
      readsize = read_size_of c;
      bytes = io_bytes b;
    }

-- "The serial goes up by one modulo 2^32" (01, Requests, answers, pieces)
abbrev pub after_asked : Config → Peripheral → List ℕ → Peripheral
after_asked c p b = record { write = p.write; request = Waiting (asked_request c b); serial = (p.serial + 1) % 2 ^ 32 }

-- a read's next piece ends with its block or with the read: "end at a piece's edge" (01, Sound state)
abbrev pub piece_end : Request → ℕ → ℕ
piece_end q sent = sent + min (q.payload - (q.address + sent) % q.payload) (q.length - sent)

-- held "until its last completion is sent" (01, Requests, answers, pieces)
abbrev pub after_read_value : Request → ℕ → Np
after_read_value q sent = pick (eqb (piece_end q sent) q.length) Free (Ready q (piece_end q sent))

-- an I/O write has one completion, "06h for an I/O write" (01, Requests, answers, pieces)
abbrev pub after_completion : Kind → Request → ℕ → Np
after_completion MemoryRead q sent = after_read_value q sent
after_completion IoRead q sent = after_read_value q sent
after_completion IoWrite q sent = Free

-- the request after a GET_PC; a failure's is "0Eh for failure, alone" (01, Requests, answers, pieces)
abbrev pub completed : Np → Np
completed Free = Free
completed (Waiting q) = Waiting q
completed (Ready q sent) = after_completion q.kind q sent
completed (Failed q) = Free

-- the request alone: what a GET_PC and an answer change (01, Requests, answers, pieces)
abbrev pub request_now : Peripheral → Np → Peripheral
request_now p n = record { write = p.write; request = n; serial = p.serial }

-- a posted write, a non-posted request, GET_PC: by the opcode (01, Commands; 004, table 2)
abbrev pub command_part : Config → Peripheral → List ℕ → Peripheral
command_part c p b =
    pick (is_posted (byte b 0)) (after_posted c p b)
    (pick (is_non_posted (byte b 0)) (after_asked c p b)
    (pick (eqb (byte b 0) 0x01) (request_now p (completed p.request))
    p))

-- ".. its data at the start of the write store" (01, Requests, answers, pieces)
abbrev pub command_write : List ℕ → List ℕ → List ℕ
command_write b store = pick (is_posted (byte b 0)) (written_data b ++ drop (access_length b) store) store

-- ---- the board's calls

-- success or failure of the request that waits: "Success", "failure" (01, Requests, answers, pieces)
abbrev pub answered_with : Bool → Np → Np
answered_with failed Free = Free
answered_with failed (Waiting q) = pick failed (Failed q) (Ready q 0)
answered_with failed (Ready q sent) = Ready q sent
answered_with failed (Failed q) = Failed q

-- "the take .. frees the place"; looking "changes nothing" (01, Requests, answers, pieces)
abbrev pub board_part : Peripheral → Board → Peripheral
board_part p (look report) = p
board_part p (answer serial success bytes) = request_now p (answered_with (eqb success 0) p.request)
board_part p (take_write report) = record { write = None; request = p.request; serial = p.serial }

-- "Success copies exactly L bytes to the start of the read store" (01, Requests, answers, pieces)
abbrev pub board_read : Board → List ℕ → List ℕ
board_read (look report) store = store
board_read (answer serial success bytes) store = bytes ++ drop (length bytes) store
board_read (take_write report) store = store

-- ---- resets and configuration

-- "drop held write, request and completions"; "No reset touches it", the serial (01, Requests, answers, pieces)
abbrev pub queues_dropped : Peripheral → Peripheral
queues_dropped p = record { write = None; request = Free; serial = p.serial }

-- "only start sets it [the serial], to 0" (01, Requests, answers, pieces)
abbrev pub reset_part : Reset → Peripheral → Peripheral
reset_part start p = record { write = None; request = Free; serial = 0 }
reset_part espi_reset p = queues_dropped p
reset_part platform_reset p = queues_dropped p

-- from enabled or not to enabled or not: "Disabling channel 0" drops the queues (01, Requests, answers, pieces); enabling, 0 to 0 and 1 to 1 leave
-- them (docs/DECISIONS.md, 20)
abbrev pub switched : Bool → Bool → Peripheral → Peripheral
switched true true p = p
switched true false p = queues_dropped p
switched false true p = p
switched false false p = p
