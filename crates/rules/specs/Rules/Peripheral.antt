-- Channel 0: what its commands and the board's calls make of its own part, under the configuration (01, Replies and refusals; Requests,
-- answers, pieces). One pick a test, in document 01's order: credit (1), then size (1).
use Rattle.std.specs.Prelude.{ℕ, ◌+◌, ◌%◌, ◌^◌, Bool, true, false, ◌&&◌, not, List, [], ◌∷◌, ◌++◌, eqb, length, get_or, take, drop, Option, Some, None}
use Rattle.base.specs.Pick.{pick}
use Rattle.base.specs.Bytes.{joined4, low2, low4, low8}
use Rattle.registers.specs.Registers.{payload_size, read_size}
use Rattle.registers.specs.declared.Config.{Config}
use Rattle.command.specs.declared.Access.{Access}
use Rattle.command.specs.declared.Access.TheVariants.{IoRead, IoWrite, MemoryRead, MemoryWrite}
use Rattle.command.specs.declared.Head.{Head}
use Rattle.command.specs.declared.Span.{Span}
use Rattle.command.specs.declared.PeripheralCommand.{PeripheralCommand}
use Rattle.command.specs.declared.PeripheralCommand.TheVariants.{PutPc, GetPc, PutNp, Short}
use Rattle.peripheral.specs.Layout.{kind_number}
use Rattle.peripheral.specs.Queues.{idle, dropped}
use Rattle.peripheral.specs.Upward.{upward, handed}
use Rattle.peripheral.specs.Status.{pc_free, np_free}
use Rattle.peripheral.specs.declared.Kind.{Kind}
use Rattle.peripheral.specs.declared.Kind.TheVariants as R
use Rattle.peripheral.specs.declared.Request.{Request}
use Rattle.peripheral.specs.declared.Np.{Np}
use Rattle.peripheral.specs.declared.Np.TheVariants.{Free, Waiting, Ready, Failed}
use Rattle.peripheral.specs.declared.Posted.{Posted}
use Rattle.peripheral.specs.declared.Peripheral.{Peripheral}
use Rattle.peripheral.specs.declared.Completion.{Completion}
use Rattle.peripheral.specs.Sound.{within}
use Rattle.rules.specs.Rules.Plan.{PeripheralChange}
use Rattle.rules.specs.Rules.Numbers.{no_such_request, count_wrong, nothing_there}
use Rattle.rules.specs.Rules.Reset.{Reset, start, espi_reset, platform_reset}
use Rattle.rules.specs.Rules.Out.{fatal, accept, defer, number, keep, kept_from}
use Rattle.rules.specs.declared.Body.TheVariants as B
use Rattle.rules.specs.declared.Out.{Out}

-- what a command or call of channel 0 makes: its part after it, and what goes out (01, Replies and refusals: "Reply; state and stores")
abbrev pub change : Peripheral → Out → PeripheralChange
change p out = record { next = p; out = out }

-- the channel with its request in another phase: "One non-posted request is held .. until its last completion is sent" (01, Requests, answers, pieces)
abbrev pub with_request : Peripheral → Np → Peripheral
with_request p n = record { write = p.write; request = n; serial = p.serial }

-- ---- what a command of the channel is: a posted write, whose data stands from a byte of the command on; a non-posted request; GET_PC

-- it posts, asks or gets (docs/DECISIONS.md, 30)
pub data Act : Type 0 where
  posts : (address length from : ℕ) → Act
  asks : Request → Act
  gets : Act

-- "One non-posted request is held, with its tag, payload and read sizes then in force"
abbrev pub request_of : Config → Kind → (address length tag bytes : ℕ) → Request
request_of c kind address length tag bytes =
    record {
      kind = kind;
      address = address;
      length = length;
      tag = tag;
      payload = payload_size c.r010;
      readsize = read_size c.r010;
      bytes = bytes;
    }

-- an I/O write's bytes as a number, in bus order, 0 past its size: they "are kept in the state" (01, Requests, answers, pieces; docs/DECISIONS.md, 24)
abbrev pub bytes_of : ℕ → List ℕ → ℕ
bytes_of n b = let d = take n (drop 3 b) in joined4 (get_or d 0 0) (get_or d 1 0) (get_or d 2 0) (get_or d 3 0)

-- "Short: .. data follows for a write. Tag 0. An I/O write is non-posted"
abbrev pub short_act : Config → Access → Span → List ℕ → Act
short_act c IoRead at b = asks (request_of c R.IoRead at.address at.size 0 0)
short_act c IoWrite at b = asks (request_of c R.IoWrite at.address at.size 0 (bytes_of at.size b))
short_act c MemoryRead at b = asks (request_of c R.MemoryRead at.address at.size 0 0)
short_act c MemoryWrite at b = posts at.address at.size 5

-- where the data of a PUT_PC begins in the command: behind opcode, "cycle type, .. tag (4 bits) with length", "4 address bytes" or 8 (01, Commands)
abbrev pub data_at : Head → ℕ
data_at h = pick h.wide 12 8

-- PUT_PC is a write, PUT_NP a read: "PUT_PC takes 01h (write, ..", "PUT_NP takes 00h (read, .." (01, Commands)
abbrev pub act_of : Config → PeripheralCommand → List ℕ → Act
act_of c (PutPc h) b = posts h.address h.length (data_at h)
act_of c GetPc b = gets
act_of c (PutNp h) b = asks (request_of c R.MemoryRead h.address h.length h.tag 0)
act_of c (Short a at) b = short_act c a at b

-- ---- posted writes

-- "One posted write is held with its payload size"
abbrev pub holding : Peripheral → ℕ → ℕ → ℕ → Peripheral
holding p address length payload =
    record { write = Some (record { address = address; length = length; payload = payload }); request = p.request; serial = p.serial }

-- "no credit (posted write while one is held ..)", then the size rules (01, Replies and refusals); the data is kept (01, Requests, answers, pieces)
unfoldable pub post : Config → Peripheral → (address length from : ℕ) → PeripheralChange
post c p address length from =
    pick (not (pc_free p.write)) (change p fatal)
    (pick (not (within address length (payload_size c.r010))) (change p fatal)
    (change (holding p address length (payload_size c.r010)) (accept B.Nothing (kept_from from length))))

-- ---- non-posted requests

-- "Short accesses obey the same (an I/O write as a write)"
abbrev pub size_for : Kind → Request → ℕ
size_for R.MemoryRead q = q.readsize
size_for R.IoRead q = q.readsize
size_for R.IoWrite q = q.payload

-- "The serial goes up by one modulo 2^32 at each accepted request"
abbrev pub next_serial : ℕ → ℕ
next_serial n = (n + 1) % 2 ^ 32

-- a request is held and not yet answered, its serial the next (01, Requests, answers, pieces: "and a serial")
abbrev pub asking : Peripheral → Request → Peripheral
asking p q = record { write = p.write; request = Waiting q; serial = next_serial p.serial }

-- "non-posted while one is held", then the size rules; "Accepting it replies DEFER" (01, Replies and refusals; Requests, answers, pieces)
unfoldable pub ask : Peripheral → Request → PeripheralChange
ask p q =
    pick (not (np_free p.request)) (change p fatal)
    (pick (not (within q.address q.length (size_for q.kind q))) (change p fatal)
    (change (asking p q) defer))

-- ---- GET_PC

-- "GET_PC with no completion ready" is 1; else the completion goes out (01, Replies and refusals)
abbrev pub handing : Peripheral → List Completion → PeripheralChange
handing p [] = change p fatal
handing p (c ∷ cs) = change (with_request p (handed p.request)) (accept (B.Piece c) None)

-- "the next N accepted GET_PC commands hand over the answer's pieces" (demand 3): here the next one
unfoldable pub get_pc : Peripheral → PeripheralChange
get_pc p = handing p (upward p.request)

-- a command of channel 0, the channel being on: "credit (1), size (1)" (01, Replies and refusals)
abbrev pub acting : Config → Peripheral → Act → PeripheralChange
acting c p (posts address length from) = post c p address length from
acting c p (asks q) = ask p q
acting c p gets = get_pc p

-- the same of a decoded command and its bytes (docs/DECISIONS.md, 30)
unfoldable pub decide : Config → Peripheral → PeripheralCommand → List ℕ → PeripheralChange
decide c p o b = acting c p (act_of c o b)

-- ---- the board's calls, with what each is lent besides

-- the board's "look at the request, answer a request, take a write" (01, What the engine covers)
pub data Board : Type 0 where
  look : (report : List ℕ) → Board
  answer : (serial success : ℕ) (bytes : List ℕ) → Board
  take_write : (report : List ℕ) → Board

-- ---- answer a request

-- "Success" or "failure" (01, Requests, answers, pieces), as a number of C: 0 is a failure answer, any other value a success
abbrev pub succeeded : ℕ → Bool
succeeded n = not (eqb n 0)

-- "Success copies exactly L bytes .. (0 for an I/O write)" (01, Requests, answers, pieces)
abbrev pub answer_length : Kind → Request → ℕ
answer_length R.MemoryRead q = q.length
answer_length R.IoRead q = q.length
answer_length R.IoWrite q = 0

-- .. "failure has 0": how many bytes an answer must have (01, Requests, answers, pieces)
abbrev pub bytes_for : Request → Bool → ℕ
bytes_for q success = pick success (answer_length q.kind q) 0

-- the answer's bytes go "to the start of the read store", and no byte is sent yet; a failure has none (01, Requests, answers, pieces)
abbrev pub answered : Peripheral → Request → Bool → PeripheralChange
answered p q true = change (with_request p (Ready q 0)) (keep (kept_from 0 (answer_length q.kind q)))
answered p q false = change (with_request p (Failed q)) (keep None)

-- 20, "no unanswered request with this serial", then 21, "byte count wrong" (01, Replies and refusals)
abbrev pub answering_waiting : Peripheral → Request → ℕ → Bool → ℕ → PeripheralChange
answering_waiting p q serial success n =
    pick (not (eqb serial p.serial)) (change p (number no_such_request))
    (pick (not (eqb n (bytes_for q success))) (change p (number count_wrong))
    (answered p q success))

-- 20 too where none is held and where it is answered already: "no unanswered request" (01, Replies and refusals)
abbrev pub answering : Peripheral → ℕ → Bool → ℕ → Np → PeripheralChange
answering p serial success n Free = change p (number no_such_request)
answering p serial success n (Waiting q) = answering_waiting p q serial success n
answering p serial success n (Ready q sent) = change p (number no_such_request)
answering p serial success n (Failed q) = change p (number no_such_request)

-- "An answer names the serial" (01, Requests, answers, pieces); not "Taking a late answer for the request held now" (01, Errors)
unfoldable pub answer_to : Peripheral → (serial : ℕ) (success : Bool) (n : ℕ) → PeripheralChange
answer_to p serial success n = answering p serial success n p.request

-- ---- take a write

-- "the take .. frees the place" (01, Requests, answers, pieces)
abbrev pub emptied : Peripheral → Peripheral
emptied p = record { write = None; request = p.request; serial = p.serial }

-- 23, "no write to take"; the take "leaves the store" (01, Replies and refusals; Requests, answers, pieces)
abbrev pub taking : Peripheral → Option Posted → PeripheralChange
taking p None = change p (number nothing_there)
taking p (Some w) = change (emptied p) (keep None)

-- held "until the board takes it" (01, Requests, answers, pieces)
unfoldable pub taken : Peripheral → PeripheralChange
taken p = taking p p.write

-- "the take yields its address and length": 8 bytes and 2 (01, Requests, answers, pieces)
abbrev pub posted_report : Posted → List ℕ
posted_report w = low8 w.address ++ low2 w.length

-- .. of a held write; "a refused one yields only its number" (01, Replies and refusals)
abbrev pub take_report : Option Posted → List ℕ
take_report None = []
take_report (Some w) = posted_report w

-- ---- look at the request

-- "Looking yields the request's kind, address, length, serial and such bytes": 1, 8, 2, 4 and 4 bytes (01, Requests, answers, pieces)
abbrev pub request_report : Request → ℕ → List ℕ
request_report q serial = kind_number q.kind ∷ (low8 q.address ++ (low2 q.length ++ (low4 serial ++ low4 q.bytes)))

-- 23, "no unanswered request to look at" (01, Replies and refusals)
abbrev pub look_number : Np → ℕ
look_number Free = nothing_there
look_number (Waiting q) = 0
look_number (Ready q sent) = nothing_there
look_number (Failed q) = nothing_there

-- .. and a report where there is one: "a refused one yields only its number" (01, Replies and refusals)
abbrev pub look_report : Np → ℕ → List ℕ
look_report Free serial = []
look_report (Waiting q) serial = request_report q serial
look_report (Ready q sent) serial = []
look_report (Failed q) serial = []

-- ---- a call settled, and its report

-- one of the three; looking "changes nothing" (01, Requests, answers, pieces)
unfoldable pub settle : Config → Peripheral → Board → PeripheralChange
settle c p (look report) = change p (number (look_number p.request))
settle c p (answer serial success bytes) = answer_to p serial (succeeded success) (length bytes)
settle c p (take_write report) = taken p

-- what a call yields besides its number: a look and a take (01, Requests, answers, pieces: "Looking yields", "the take yields")
abbrev pub report_of : Peripheral → Board → List ℕ
report_of p (look report) = look_report p.request p.serial
report_of p (answer serial success bytes) = []
report_of p (take_write report) = take_report p.write

-- the bytes that come with a call: an answer's "L bytes" (01, Requests, answers, pieces)
abbrev pub given : Board → List ℕ
given (look report) = []
given (answer serial success bytes) = bytes
given (take_write report) = []

-- ---- configuration and resets

-- "Disabling channel 0 .. drop[s] held write, request and completions" (01, Requests, answers, pieces; docs/DECISIONS.md, 20)
abbrev pub enable_edge : Bool → Bool → Peripheral → Peripheral
enable_edge was is p = pick (was && not is) (dropped p) p

-- "platform reset and eSPI reset drop held write, request and completions"; "only start sets [the serial], to 0"
abbrev pub reset : Reset → Peripheral → Peripheral
reset start p = idle 0
reset espi_reset p = dropped p
reset platform_reset p = dropped p
