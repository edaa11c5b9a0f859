-- A reply's bytes (01, Replies and refusals): response byte, body, status low byte first, CRC over all before it.
use Rattle.std.specs.Prelude.{ℕ, ◌+◌, ◌*◌, ◌/◌, ◌%◌, List, [], ◌∷◌, ◌++◌, take, drop, Option, Some, None}
use Rattle.base.specs.Bytes.{low2, low4}
use Rattle.crc.specs.Crc.{crc}
use Rattle.wires.specs.Senders.{AllWires, packet_bytes}
use Rattle.peripheral.specs.declared.Completion.{Completion}
use Rattle.rules.specs.Rules.Out.{response_byte}
use Rattle.rules.specs.declared.Body.{Body}
use Rattle.rules.specs.declared.Body.TheVariants as B
use Rattle.rules.specs.declared.Reply.{Reply}
use Rattle.rules.specs.declared.Kept.{Kept}

-- "a 3-byte header (cycle type, tag and length as above)" (01, Replies and refusals); length 4,096 would be 0, and no piece has it
abbrev pub header_bytes : Completion → List ℕ
header_bytes c = c.cycle ∷ (c.tag % 16 * 16 + c.length / 256 % 16) ∷ c.length % 256 ∷ []

-- the completion's data: bytes of the read store, where an answer "copies exactly L bytes" (01, Requests, answers, pieces)
abbrev pub data_bytes : Completion → List ℕ → List ℕ
data_bytes c reads = take c.length (drop c.from reads)

-- "body" (01, Replies and refusals): none, a register's four bytes (004, 3.7: "1 DW of Data"), header and data, a packet of wires;
-- over the wires as they were before the command, and the read store
abbrev pub body_bytes : Body → AllWires → List ℕ → List ℕ
body_bytes B.Nothing w reads = []
body_bytes (B.Word v) w reads = low4 v
body_bytes (B.Piece c) w reads = header_bytes c ++ data_bytes c reads
body_bytes (B.Groups p) w reads = packet_bytes w p

-- a message with its status, and with the CRC of all that: "status low byte first, CRC over all before it" (01, Replies and refusals)
unfoldable pub closed : List ℕ → ℕ → List ℕ
closed m status = (m ++ low2 status) ++ (crc (m ++ low2 status) ∷ [])

-- "Reply: response byte .., body, status .., CRC"; a refusal that has none gives no byte (01, Replies and refusals)
unfoldable pub reply_bytes : Option Reply → AllWires → List ℕ → List ℕ
reply_bytes None w reads = []
reply_bytes (Some r) w reads = closed (response_byte r.response ∷ body_bytes r.body w reads) r.status

-- the bytes that a store keeps of the call's data: a write's "data at the start of the write store", an answer's in the read store (01, Requests)
abbrev pub kept_bytes : Option Kept → List ℕ → List ℕ
kept_bytes None from = []
kept_bytes (Some d) from = take d.count (drop d.from from)
