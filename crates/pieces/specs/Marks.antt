-- Marks of completions (01, Requests, answers, pieces): only, first, middle, last, over any cutting of a whole into positive lengths.
use Rattle.std.specs.Prelude.{ℕ, ◌+◌, Bool, true, false, List, [], ◌∷◌, eqb}
use Rattle.pieces.specs.declared.Mark.{Mark}
use Rattle.pieces.specs.declared.Mark.TheVariants.{Only, First, Middle, Last}

-- "marked only, first, middle or last" (demand 3): is the piece the first, is it the last (004, table 5, note 1)
unfoldable pub mark_of : Bool → Bool → Mark
mark_of true true = Only
mark_of true false = First
mark_of false true = Last
mark_of false false = Middle

-- "Completions: 0Fh only, 0Bh first, 09h middle, 0Dh last"
abbrev pub mark_type : Mark → ℕ
mark_type Only = 0x0F
mark_type First = 0x0B
mark_type Middle = 0x09
mark_type Last = 0x0D

-- the marks of the pieces of a cutting, by their place in it: the completions "of a split completion sequence" (004, table 5, note 1)
unfoldable pub marks_from : Bool → List ℕ → List Mark
marks_from first [] = []
marks_from first (n ∷ []) = mark_of first true ∷ []
marks_from first (n ∷ m ∷ ns) = mark_of first false ∷ marks_from false (m ∷ ns)

-- those of a whole cutting, from its first piece on (004, 4.1.3: "the first, middle or the last completion for a split completion sequence")
unfoldable pub marks : List ℕ → List Mark
marks ns = marks_from true ns

-- the marks by the bytes that went before: the first begins at 0, the last ends with the whole. "The rule for completion marks is proved
-- once for both channels" (02, Q-11)
unfoldable pub marks_by : (whole before : ℕ) → List ℕ → List Mark
marks_by whole before [] = []
marks_by whole before (n ∷ ns) = mark_of (eqb before 0) (eqb (before + n) whole) ∷ marks_by whole (before + n) ns
