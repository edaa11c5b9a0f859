-- The cutting of a read of L bytes at A by blocks of P bytes (01, Requests, answers, pieces; demand 3).
use Prim.Native.Nat.{ℕ, zero, suc, ◌+◌, ◌-◌, ◌*◌, ◌/◌, ◌≤◌, ◌<◌}
use Rattle.std.specs.Prelude.{List, [], ◌∷◌, ◌++◌, map, ◌↔◌, ◌≡◌, refl, eqb, length, take, drop}
use Rattle.std.proofs.Math.Path.{sym}
use Rattle.std.proofs.Common.{ap, ◌∙◌, add-sub_of_le, div-mul-le_self, drop_of_length-le, take-append-drop, drop-drop, eq-eqb, ne_eqb}
use Rattle.std.proofs.Math.Nat.{lt-div-mul-add, div-eq_of_lt-le}
use native.Mathlib.Omega.{arith}
use Rattle.pieces.specs.Edges.{edge-zero, edge-up, edge_below, edge-last, edge-short, edge_div, edge_next, edge_first, edge-all, next_pos}
use Rattle.pieces.specs.Marks.{mark_of, marks_from, marks, marks_by}
use Rattle.pieces.specs.MarkLaws.{sum, AllPositive, marks-any}
use Rattle.pieces.specs.Pieces.{blocks, edge, Piece, piece, pieces_from, pieces, part, joined, next_size, next_mark}
use Rattle.pieces.specs.declared.Mark.TheVariants.{Only, First, Middle, Last}

abbrev pub sizes : List Piece → List ℕ
sizes ps = map (λ (q : Piece). q.size) ps

pub length-pieces : (A L P : ℕ) → length (pieces A L P) ≡ blocks A L P
unfolding pieces pieces_from
length-pieces A L P = go (blocks A L P) 0
  where
    go : (n k : ℕ) → length (pieces_from A L P k n) ≡ n
    go zero k = refl
    go (suc n) k = ap suc (go n (suc k))

-- the cutting at blocks is marked by the rule of any cutting
marks-from : (A L P n k : ℕ) → k + n ≡ blocks A L P → map (λ (q : Piece). q.mark) (pieces_from A L P k n) ≡ marks_from (eqb k 0) (sizes (pieces_from A L P k n))
unfolding pieces_from piece marks_from
marks-from A L P zero k h = refl
marks-from A L P (suc zero) k h = rw (eq-eqb (suc k) (blocks A L P) (omega arith))
marks-from A L P (suc (suc n)) k h =
    rw (ne_eqb (suc k) (blocks A L P) (λ e. omega arith), marks-from A L P (suc n) (suc k) (omega arith), ne_eqb (suc k) 0 (λ e. omega arith))

pub marks-pieces : (A L P : ℕ) → map (λ (q : Piece). q.mark) (pieces A L P) ≡ marks (sizes (pieces A L P))
unfolding pieces marks
marks-pieces A L P = marks-from A L P (blocks A L P) 0 (omega arith)

-- the next mark by the next size
pub next_mark_lem : (A L P s : ℕ) {n : ℕ} → n ≡ next_size A L P s → mark_of (eqb s 0) (eqb (s + n) L) ≡ next_mark A L P s
unfolding next_mark
next_mark_lem A L P s e = ap (λ (k : ℕ). mark_of (eqb s 0) (eqb (s + k) L)) e

cut_join : {a b : ℕ} (l : List ℕ) → a ≤ b → take (b - a) (drop a l) ++ drop b l ≡ drop a l
cut_join {a} {b} l h = rw (drop-drop (b - a) a l, add-sub_of_le h) at (take-append-drop (b - a) (drop a l))

-- byte x of the read lies in piece k exactly where it lies in the k-th block: the pieces are the meetings of the read and the blocks
pub piece-holds : (A L P k x : ℕ) → 0 < P → A ≤ x → x < A + L
    → ((A + (piece A L P k).from ≤ x) × (x < A + (piece A L P k).from + (piece A L P k).size)) ↔ (x / P ≡ A / P + k)
unfolding piece edge
piece-holds A L P k x p from upto = (
  λ h. div-eq_of_lt-le P (omega arith) (omega arith),
  λ e. omega (arith, rw e at (div-mul-le_self x P), rw e at (lt-div-mul-add {a = x} p)),
)

module _ (A L P : ℕ) (p : 0 < P) (l : 0 < L) where
  -- ---- the next piece at the k-th edge is the k-th

  pub next_size-edge : (k : ℕ) → k < blocks A L P → next_size A L P (edge A L P k) ≡ (piece A L P k).size
  unfolding piece
  next_size-edge k h = omega (arith, edge_next A L P p l k h)

  pub next_mark_edge : (k : ℕ) → k < blocks A L P → next_mark A L P (edge A L P k) ≡ (piece A L P k).mark
  unfolding piece next_mark
  next_mark_edge k h = rw (← edge_next A L P p l k h, edge_first A L P p l k h, edge-all A L P p l k h)

  -- ---- the pieces, one by one

  pub piece_pos : (k : ℕ) → k < blocks A L P → 0 < (piece A L P k).size
  piece_pos k h = rw (← next_size-edge k h) (next_pos A L P (edge A L P k) p (edge-short A L P p l k h))

  pub piece_begins : (k : ℕ) → k < blocks A L P → (A + (piece A L P k).from) / P ≡ A / P + k
  unfolding piece
  piece_begins k h = edge_div A L P p l k h

  -- its last byte lies in the block of its first
  pub piece-within : (k : ℕ) → k < blocks A L P → (A + (piece A L P k).from) / P ≡ (A + (piece A L P k).from + (piece A L P k).size - 1) / P
  unfolding piece
  piece-within k h =
      let low : (A / P + k) * P ≤ A + edge A L P k = rw (edge_div A L P p l k h) at (div-mul-le_self (A + edge A L P k) P) in
      edge_div A L P p l k h
      ∙ sym (div-eq_of_lt-le P (omega (arith, piece_pos k h)) (omega (arith, piece_pos k h, edge_below A L P k p)))

  -- ---- the pieces, all together

  sum-from : (n k : ℕ) → k + n ≡ blocks A L P → edge A L P k + sum (sizes (pieces_from A L P k n)) ≡ L
  unfolding pieces_from piece
  sum-from zero k h = let e : k ≡ blocks A L P = omega arith in rw (e, edge-last A L P p l) (omega arith)
  sum-from (suc n) k h = omega (arith, sum-from n (suc k) (omega arith), edge-up A L P k)

  pub sum-pieces : sum (sizes (pieces A L P)) ≡ L
  unfolding pieces
  sum-pieces = omega (arith, edge-zero A L P, sum-from (blocks A L P) 0 (omega arith))

  positive_from : (n k : ℕ) → k + n ≡ blocks A L P → AllPositive (sizes (pieces_from A L P k n))
  unfolding pieces_from
  positive_from zero k h = tt
  positive_from (suc n) k h = (piece_pos k (omega arith), positive_from n (suc k) (omega arith))

  pub positive_pieces : AllPositive (sizes (pieces A L P))
  unfolding pieces
  positive_pieces = positive_from (blocks A L P) 0 (omega arith)

  joined-from : (d : List ℕ) → length d ≡ L → (n k : ℕ) → k + n ≡ blocks A L P → joined d (pieces_from A L P k n) ≡ drop (edge A L P k) d
  unfolding joined pieces_from part piece
  joined-from d e zero k h = let q : k ≡ blocks A L P = omega arith in rw (q, edge-last A L P p l) (sym (drop_of_length-le d {i = L} (omega arith)))
  joined-from d e (suc n) k h = rw (joined-from d e n (suc k) (omega arith)) (cut_join d (edge-up A L P k))

  -- their bytes, in order, are the answer
  pub joined-pieces : (d : List ℕ) → length d ≡ L → joined d (pieces A L P) ≡ d
  unfolding pieces
  joined-pieces d e = joined-from d e (blocks A L P) 0 (omega arith) ∙ rw (edge-zero A L P)

  -- the bytes that went before mark them the same
  pub marks_by_pieces : map (λ (q : Piece). q.mark) (pieces A L P) ≡ marks_by L 0 (sizes (pieces A L P))
  marks_by_pieces = marks-pieces A L P ∙ sym (rw sum-pieces at (marks-any (sizes (pieces A L P)) positive_pieces))

-- ---- 160 bytes at 1030h, 64 at 1020h, 4,096 aligned

bench_64 :
    pieces 0x1030 160 64
    ≡ record {
      from =
          0;
      size = 16;
      mark = First;
    } ∷ record { from = 16; size = 64; mark = Middle } ∷ record { from = 80; size = 64; mark = Middle } ∷ record
    { from = 144; size = 16; mark = Last } ∷ []
unfolding pieces pieces_from piece edge blocks mark_of
bench_64 = refl

bench_256 : pieces 0x1030 160 256 ≡ record { from = 0; size = 160; mark = Only } ∷ []
unfolding pieces pieces_from piece edge blocks mark_of
bench_256 = refl

bench_halves : pieces 0x1020 64 64 ≡ record { from = 0; size = 32; mark = First } ∷ record { from = 32; size = 32; mark = Last } ∷ []
unfolding pieces pieces_from piece edge blocks mark_of
bench_halves = refl

bench_4096 : blocks 0x1000 4096 64 ≡ 64
unfolding blocks
bench_4096 = refl
