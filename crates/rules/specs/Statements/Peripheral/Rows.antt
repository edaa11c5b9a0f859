-- Channel 0's rows, in document 01's order and words: credit (1), size (1), and its board calls' own (20, 21, 23).
use Rattle.std.specs.Prelude.{ℕ, ◌+◌, ◌-◌, ◌/◌, Bool, true, false, ◌&&◌, ◌||◌, not, List, [], ◌∷◌, eqb, leb, length, Option, Some, None}
use Rattle.base.specs.Pick.{pick}
use Rattle.registers.specs.declared.Config.{Config}
use Rattle.peripheral.specs.declared.Kind.{Kind}
use Rattle.peripheral.specs.declared.Kind.TheVariants.{MemoryRead, IoRead, IoWrite}
use Rattle.peripheral.specs.declared.Np.{Np}
use Rattle.peripheral.specs.declared.Np.TheVariants.{Free, Waiting, Ready, Failed}
use Rattle.peripheral.specs.declared.Peripheral.{Peripheral}
use Rattle.peripheral.specs.declared.Posted.{Posted}
use Rattle.rules.specs.Rules.Peripheral.{Board, look, answer, take_write}
use Rattle.rules.specs.Statements.Fields.{byte, is_posted, is_non_posted, is_read, is_io_write, access_address, access_length}
use Rattle.rules.specs.Statements.Peripheral.{unanswered}
use Rattle.rules.specs.Statements.Rows.{Row, row}
use Rattle.rules.specs.Statements.Sizes.{payload_of, read_size_of}

-- ---- credit

-- "posted write while one is held" (01, Replies and refusals)
abbrev pub write_held : Option Posted → Bool
write_held None = false
write_held (Some w) = true

-- "non-posted while one is held": in each phase, "until its last completion is sent" (01, Replies and refusals; Requests, answers, pieces)
abbrev pub request_held : Np → Bool
request_held Free = false
request_held (Waiting q) = true
request_held (Ready q sent) = true
request_held (Failed q) = true

-- "a completion is ready" once the request is answered (01, Registers and status)
abbrev pub completion_ready : Np → Bool
completion_ready Free = false
completion_ready (Waiting q) = false
completion_ready (Ready q sent) = true
completion_ready (Failed q) = true

-- "posted write while one is held, non-posted while one is held, GET_PC with no completion ready" (01, Replies and refusals, 1)
abbrev pub credit_rows : Peripheral → List ℕ → List Row
credit_rows p b =
    row 1 (is_posted (byte b 0) && write_held p.write)
    ∷ row 1 (is_non_posted (byte b 0) && request_held p.request)
    ∷ row 1 (eqb (byte b 0) 0x01 && not (completion_ready p.request))
    ∷ []

-- ---- size

-- "at most the .. size and does not cross a block of that size": its first and last byte lie in one block (01, Size rules)
abbrev pub fits_size : ℕ → ℕ → ℕ → Bool
fits_size address length size = leb length size && eqb (address / size) ((address + length - 1) / size)

-- "a write's data ..", "a read's length ..", "(an I/O write as a write)" (01, Size rules)
abbrev pub size_rows : Config → List ℕ → List Row
size_rows c b =
    row 1 ((is_posted (byte b 0) || is_io_write (byte b 0)) && not (fits_size (access_address b) (access_length b) (payload_of c)))
    ∷ row 1 (is_read (byte b 0) && not (fits_size (access_address b) (access_length b) (read_size_of c)))
    ∷ []

-- ---- the board's calls

-- "Success copies exactly L bytes .. (0 for an I/O write)" (01, Requests, answers, pieces)
abbrev pub success_bytes : Kind → ℕ → ℕ
success_bytes MemoryRead L = L
success_bytes IoRead L = L
success_bytes IoWrite L = 0

-- .. "failure has 0"; `success` 0 is a failure (01, Requests, answers, pieces)
abbrev pub bytes_wanted : Np → ℕ → ℕ
bytes_wanted Free success = 0
bytes_wanted (Waiting q) success = pick (eqb success 0) 0 (success_bytes q.kind q.length)
bytes_wanted (Ready q sent) success = 0
bytes_wanted (Failed q) success = 0

-- "no unanswered request to look at"; "no unanswered request with this serial", "byte count wrong"; "no write to take" (01, Replies and refusals)
abbrev pub board_rows : Peripheral → Board → List Row
board_rows p (look report) = row 23 (not (unanswered p.request)) ∷ []
board_rows p (answer serial success bytes) =
    row 20 (not (unanswered p.request && eqb serial p.serial))
    ∷ row 21 (not (eqb (length bytes) (bytes_wanted p.request success)))
    ∷ []
board_rows p (take_write report) = row 23 (not (write_held p.write)) ∷ []
