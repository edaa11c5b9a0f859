-- What GET_PC would hand over next (01, Requests, answers, pieces). PC_AVAIL, GET_PC's credit and the statements read this view.
use Rattle.std.specs.Prelude.{ℕ, ◌+◌, List, [], ◌∷◌, ◌==◌, Option, Some, None}
use Rattle.base.specs.Pick.{pick}
use Rattle.pieces.specs.Marks.{mark_type}
use Rattle.pieces.specs.Pieces.{next_size, next_mark}
use Rattle.peripheral.specs.declared.Kind.{Kind}
use Rattle.peripheral.specs.declared.Kind.TheVariants.{MemoryRead, IoRead, IoWrite}
use Rattle.peripheral.specs.declared.Request.{Request}
use Rattle.peripheral.specs.declared.Np.{Np}
use Rattle.peripheral.specs.declared.Np.TheVariants.{Free, Waiting, Ready, Failed}
use Rattle.peripheral.specs.declared.Completion.{Completion}

-- the next piece of a read, when `sent` bytes have gone; cut by the payload size held with it (01, Requests, answers, pieces; docs/DECISIONS.md, 19)
abbrev pub next_of : Request → ℕ → ℕ
next_of q sent = next_size q.address q.length q.payload sent

-- that piece as a completion: "(cycle type, tag and length as above) and data" (01, Replies and refusals)
abbrev pub next_piece : Request → ℕ → Completion
next_piece q sent = record { cycle = mark_type (next_mark q.address q.length q.payload sent); tag = q.tag; length = next_of q sent; from = sent }

-- "06h for an I/O write; 0Eh for failure, alone; the last two have length 0" (01, Requests, answers, pieces)
abbrev pub bare : ℕ → Request → Completion
bare cycle q = record { cycle = cycle; tag = q.tag; length = 0; from = 0 }

-- after a success: a read's next piece, "06h for an I/O write" (01, Requests, answers, pieces)
abbrev pub success_of : Kind → Request → ℕ → Completion
success_of MemoryRead q sent = next_piece q sent
success_of IoRead q sent = next_piece q sent
success_of IoWrite q sent = bare 0x06 q

-- the next hand-over: none, or one. "a completion is ready" (01, Registers and status) once the request is answered; 0Eh for a failure
unfoldable pub upward : Np → List Completion
upward Free = []
upward (Waiting q) = []
upward (Ready q sent) = success_of q.kind q sent ∷ []
upward (Failed q) = bare 0x0E q ∷ []

-- the head of that list, as a value: what a GET_PC is to "hand over" (demand 3)
abbrev pub first_of : List Completion → Option Completion
first_of [] = None
first_of (c ∷ cs) = Some c

-- what is held once so many bytes have gone: "until its last completion is sent" (01, Requests, answers, pieces)
abbrev pub left_of : Request → ℕ → Np
left_of q gone = pick (gone == q.length) Free (Ready q gone)

-- .. so after the next piece of a read, and not "Freeing NP at the answer and not at the last piece" (01, Errors)
abbrev pub after_piece : Request → ℕ → Np
after_piece q sent = left_of q (sent + next_of q sent)

-- a read is held on until its last piece; an I/O write's one completion is its last (01, Requests, answers, pieces: "06h")
abbrev pub after_success : Kind → Request → ℕ → Np
after_success MemoryRead q sent = after_piece q sent
after_success IoRead q sent = after_piece q sent
after_success IoWrite q sent = Free

-- the request after a hand-over; a failure's is "alone", so it is free (01, Requests, answers, pieces)
unfoldable pub handed : Np → Np
handed Free = Free
handed (Waiting q) = Waiting q
handed (Ready q sent) = after_success q.kind q sent
handed (Failed q) = Free
