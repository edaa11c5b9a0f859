-- Marks over any cutting of a whole into positive lengths: the bytes gone before say the same as the place in the cutting.
use Rattle.std.specs.Prelude.{ℕ, ◌+◌, ◌<◌, false, List, [], ◌∷◌, ◌++◌, ◌≡◌, refl, eqb, length, replicate}
use Rattle.std.proofs.Common.{arith, eq-eqb, ne_eqb}
use Rattle.pieces.specs.Marks.{mark_of, marks_from, marks, marks_by}
use Rattle.pieces.specs.declared.Mark.TheVariants.{Only, First, Middle, Last}

abbrev pub sum : List ℕ → ℕ
sum [] = 0
sum (n ∷ ns) = n + sum ns

abbrev pub AllPositive : List ℕ → Type 0
AllPositive [] = Unit {0}
AllPositive (n ∷ ns) = (0 < n) × AllPositive ns

-- "only" where there is one piece, else first, middle .., last
pub marks-one : (n : ℕ) → marks (n ∷ []) ≡ Only ∷ []
unfolding marks marks_from mark_of
marks-one n = refl

later : (m : ℕ) (ns : List ℕ) → marks_from false (m ∷ ns) ≡ replicate (length ns) Middle ++ (Last ∷ [])
unfolding marks_from mark_of
later m [] = refl
later m (n ∷ ns) = rw (later n ns)

pub marks_more : (n m : ℕ) (ns : List ℕ) → marks (n ∷ m ∷ ns) ≡ First ∷ replicate (length ns) Middle ++ (Last ∷ [])
unfolding marks marks_from mark_of
marks_more n m ns = rw (later m ns)

any-from : (whole before : ℕ) (ns : List ℕ) → AllPositive ns → whole ≡ before + sum ns → marks_by whole before ns ≡ marks_from (eqb before 0) ns
unfolding marks_by marks_from
any-from whole before [] h e = refl
any-from whole before (n ∷ []) h e = rw (eq-eqb (before + n) whole (omega arith))
any-from whole before (n ∷ m ∷ ns) h e =
    rw (
      ne_eqb (before + n) whole (λ q. omega arith),
      any-from whole (before + n) (m ∷ ns) h.1 (omega arith),
      ne_eqb (before + n) 0 (λ q. omega arith),
    )

pub marks-any : (ns : List ℕ) → AllPositive ns → marks_by (sum ns) 0 ns ≡ marks ns
unfolding marks
marks-any ns h = any-from (sum ns) 0 ns h (omega arith)
