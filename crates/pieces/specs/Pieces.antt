-- A read of L bytes at A, cut at blocks of P bytes (01, Requests, answers, pieces; demand 3).
use Rattle.std.specs.Prelude.{ℕ, zero, suc, ◌+◌, ◌-◌, ◌*◌, ◌/◌, ◌%◌, min, List, [], ◌∷◌, ◌++◌, eqb, take, drop}
use Rattle.pieces.specs.Marks.{mark_of}
use Rattle.pieces.specs.declared.Mark.{Mark}

-- N: "the number of P-aligned blocks that it touches" (demand 3), "floor((A+L-1)/P) - floor(A/P) + 1" (01, Requests, answers, pieces)
unfoldable pub blocks : ℕ → ℕ → ℕ → ℕ
blocks A L P = (A + L - 1) / P - A / P + 1

-- how many of the read's bytes lie before the end of its k-th block, so where piece k begins: "end at a piece's edge" (01, Sound state)
unfoldable pub edge : ℕ → ℕ → ℕ → ℕ → ℕ
edge A L P k = min L ((A / P + k) * P - A)

-- which bytes of the answer, and "marked only, first, middle or last" (demand 3)
pub record Piece : Type 0 where
  pub from : ℕ
  pub size : ℕ
  pub mark : Mark

-- the k-th piece, from 0: the bytes between two edges, each "aligned to the naturally aligned address boundary" (004, 4.1.3)
unfoldable pub piece : ℕ → ℕ → ℕ → ℕ → Piece
piece A L P k = record { from = edge A L P k; size = edge A L P (suc k) - edge A L P k; mark = mark_of (eqb k 0) (eqb (suc k) (blocks A L P)) }

-- n of them from the k-th on, a part of `pieces` (demand 3: "in address order")
unfoldable pub pieces_from : ℕ → ℕ → ℕ → ℕ → ℕ → List Piece
pieces_from A L P k zero = []
pieces_from A L P k (suc n) = piece A L P k ∷ pieces_from A L P (suc k) n

-- "block by block in address order" (demand 3)
unfoldable pub pieces : ℕ → ℕ → ℕ → List Piece
pieces A L P = pieces_from A L P 0 (blocks A L P)

-- the piece's bytes of the answer: "hand over the answer's pieces" (demand 3)
unfoldable pub part : List ℕ → Piece → List ℕ
part answer p = take p.size (drop p.from answer)

-- what the pieces hand over together, one after the other: all "L bytes" of the answer (demand 3)
unfoldable pub joined : List ℕ → List Piece → List ℕ
joined answer [] = []
joined answer (p ∷ ps) = part answer p ++ joined answer ps

-- the next piece after `sent` bytes: up to the end of the block, or of the whole; not "Cutting pieces by P from A, not at blocks" (01, Errors)
unfoldable pub next_size : ℕ → ℕ → ℕ → ℕ → ℕ
next_size A L P sent = min (P - (A + sent) % P) (L - sent)

-- its mark, by the bytes sent: "0Fh only, 0Bh first, 09h middle, 0Dh last" (01, Requests, answers, pieces)
unfoldable pub next_mark : ℕ → ℕ → ℕ → ℕ → Mark
next_mark A L P sent = mark_of (eqb sent 0) (eqb (sent + next_size A L P sent) L)
