-- P13, P15 and P17 of `step`: what one accepted GET_PC hands over in any sound state, whatever was sent before, and what the board's look and
-- take yield of what is held (01, Requests, answers, pieces). Over runs: Demand3 and PostedWrites.
use Rattle.std.specs.Prelude.{ℕ, suc, ◌<◌, List, ◌∷◌, ◌++◌, ◌≡◌, Some, None}
use Rattle.base.specs.Bytes.{low2, low4, low8}
use Rattle.pieces.specs.Pieces.{blocks, edge}
use Rattle.peripheral.specs.Layout.{kind_number}
use Rattle.peripheral.specs.declared.Kind.{Kind}
use Rattle.peripheral.specs.declared.Kind.TheVariants.{MemoryRead, IoRead, IoWrite}
use Rattle.peripheral.specs.declared.Request.{Request}
use Rattle.peripheral.specs.declared.Np.{Np}
use Rattle.peripheral.specs.declared.Np.TheVariants.{Free, Waiting, Ready, Failed}
use Rattle.peripheral.specs.declared.Posted.{Posted}
use Rattle.state.specs.Status.{status}
use Rattle.state.specs.Sound.{Sound}
use Rattle.rules.specs.Rules.Peripheral.{look}
use Rattle.rules.specs.Rules.Channel.{peripheral}
use Rattle.rules.specs.Rules.Reply.{closed}
use Rattle.rules.specs.Rules.Step.{World, exchange, board, Outcome, step}
use Rattle.rules.specs.Statements.Fields.{byte}
use Rattle.rules.specs.Statements.Requests.{held, serial_of}
use Rattle.rules.specs.Statements.PostedWrites.{held_write, takes_with}
use Rattle.rules.specs.Statements.Demand3.{header, piece_body}

-- ---- GET_PC

-- a held read's pieces: how many, and the bytes before the k-th ("N = floor((A+L-1)/P) - floor(A/P) + 1", 01, Requests, answers, pieces)
abbrev pub pieces_of : Request → ℕ
pieces_of q = blocks q.address q.length q.payload

-- .. ("a piece's edge", 01, Sound state)
abbrev pub edge_of : Request → ℕ → ℕ
edge_of q k = edge q.address q.length q.payload k

-- a read answered with success, so many bytes of it sent: they end where a piece begins, and that one goes, with its bytes of the read store
-- ("the answer's pieces, block by block in address order, marked only, first, middle or last", 00, demand 3)
pub record PieceGot (w : World) (q : Request) (sent : ℕ) (o : Outcome) : Type 0 where
  pub piece : ℕ
  pub begins : sent ≡ edge_of q piece
  pub is_one : piece < pieces_of q
  pub reply : o.reply ≡ closed (0x08 ∷ piece_body q.address q.length q.payload q.tag w.read piece) (status o.next.state)
  -- "One non-posted request is held .. until its last completion is sent"
  pub more : suc piece < pieces_of q → held o.next ≡ Ready q (edge_of q (suc piece))
  pub last : suc piece ≡ pieces_of q → held o.next ≡ Free

-- a completion without data: "06h for an I/O write; 0Eh for failure, alone; the last two have length 0"
pub record BareGot (cycle : ℕ) (q : Request) (o : Outcome) : Type 0 where
  pub reply : o.reply ≡ closed (0x08 ∷ header cycle q.tag 0) (status o.next.state)
  pub free : held o.next ≡ Free

-- a success, by kind: pieces, or "06h for an I/O write" (01, Requests, answers, pieces)
abbrev pub SuccessGot : Kind → World → Request → ℕ → Outcome → Type 0
SuccessGot MemoryRead w q sent o = PieceGot w q sent o
SuccessGot IoRead w q sent o = PieceGot w q sent o
SuccessGot IoWrite w q sent o = BareGot 0x06 q o

-- by what is held: while nothing is, or the request waits, none is accepted
-- (1, "GET_PC with no completion ready", 01, Replies and refusals; "0Eh for failure, alone", 01, Requests, answers, pieces)
abbrev pub GotFrom : World → Np → Outcome → Type 0
GotFrom w Free o = ⊥
GotFrom w (Waiting q) o = ⊥
GotFrom w (Ready q sent) o = SuccessGot q.kind w q sent o
GotFrom w (Failed q) o = BareGot 0x0E q o

-- ---- the board's look and take

-- "Looking yields the request's kind, address, length, serial and such bytes, and changes nothing": 1, 8, 2, 4 and 4 bytes, low byte first
pub record Looked (w : World) (o : Outcome) : Type 0 where
  pub request : Request
  pub waits : held w ≡ Waiting request
  pub report : o.report ≡ kind_number request.kind ∷ (low8 request.address ++ (low2 request.length ++ (low4 (serial_of w) ++ low4 request.bytes)))
  pub unchanged : o.next ≡ w

-- "the take yields its address and length, frees the place and leaves the store": 8 and 2 bytes, low byte first
pub record Took (w : World) (o : Outcome) : Type 0 where
  pub write : Posted
  pub was : held_write w ≡ Some write
  pub report : o.report ≡ low8 write.address ++ low2 write.length
  pub free : held_write o.next ≡ None
  pub store : o.next.write ≡ w.write

-- ---- the statements: of an accepted call

-- "the reply bytes, .. and queues afterwards" of GET_PC (00, demand 2); "Looking yields", "the take yields" (01, Requests, answers, pieces)
pub record PeripheralSteps : Type 0 where
  pub get : (w : World) (b r : List ℕ) → Sound w.state → byte b 0 ≡ 0x01 → (step w (exchange b r)).number ≡ 0 → GotFrom w (held w) (step w (exchange b r))
  pub look : (w : World) (report : List ℕ) → (step w (board peripheral (look report))).number ≡ 0 → Looked w (step w (board peripheral (look report)))
  pub take : (w : World) (report : List ℕ) → (step w (takes_with report)).number ≡ 0 → Took w (step w (takes_with report))
