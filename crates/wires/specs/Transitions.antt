-- More than two changes of one wire (02, Q-6): the values that a packet gives a wire, and how often neighbours differ.
use Rattle.std.specs.Prelude.{ℕ, ◌+◌, ◌%◌, ◌<◌, Bool, true, false, ◌&&◌, not, List, [], ◌∷◌, Result, Ok, Err, ◌≡◌, refl, eqb, ltb, length}
use Rattle.std.proofs.Common.{true≢false, sym, ap, arith}
use Rattle.std.specs.Result.{is_ok}
use Rattle.base.specs.Pick.{pick}
use Rattle.base.specs.Bytes.{bit}
use Rattle.wires.specs.Below.{some, none_at}
use Rattle.wires.specs.Table.{table}
use Rattle.wires.specs.Nibbles.{bit_of}
use Rattle.wires.specs.Groups.{is_down, defined_bit, read_wire, put_pairs}
use Rattle.wires.specs.Changes.{names}
use Rattle.wires.specs.declared.Wires.{Wires}
use Rattle.wires.specs.declared.ThirdTransition.{ThirdTransition}

-- the values that a packet's pairs give one wire, in their order; those of other groups and those in which its bit is not valid are passed over
-- ("PUT_VWIRE applies pairs in order", "Data bits 7:4 say which of bits 3:0 are valid", 01, Wires)
unfoldable pub values_given : List ℕ → ℕ → ℕ → List ℕ
values_given [] i k = []
values_given (j ∷ []) i k = []
values_given (j ∷ d ∷ ps) i k = pick (names j d i k) (bit_of (d % 16) k ∷ values_given ps i k) (values_given ps i k)

-- how often neighbours differ: "A transition is a value differing from the one just before" (02, Q-6)
unfoldable pub transitions : List ℕ → ℕ
transitions [] = 0
transitions (x ∷ []) = 0
transitions (x ∷ y ∷ l) = bit (not (eqb x y)) + transitions (y ∷ l)

-- a wire's transitions in a packet, "beginning with the held value" (02, Q-6)
abbrev pub transitions_of : Wires → List ℕ → ℕ → ℕ → ℕ
transitions_of w ps i k = transitions (read_wire w i k ∷ values_given ps i k)

-- "a third transition of a wire in one packet" (02, Q-6); a wire of the host's, for "only valid and defined bits of down groups change" (01, Wires)
abbrev pub third_of : Wires → List ℕ → ℕ → ℕ → Bool
third_of w ps i k = is_down i && (defined_bit i k && ltb 2 (transitions_of w ps i k))

-- "More than two changes of one wire" (02, Q-6), of any of the four wires of any of the six groups
unfoldable pub third_transition : Wires → List ℕ → Bool
third_transition w ps = some (length table) (λ (at : ℕ). some 4 (third_of w ps (at + 2)))

-- what a PUT_VWIRE's pairs come to: the wires after all of them (01, Wires), or the error of a third transition, which tells them too (02, Q-6)
abbrev pub putting : Wires → List ℕ → Result Wires ThirdTransition
putting w ps = pick (third_transition w ps) (Err (record { next = put_pairs w ps })) (Ok (put_pairs w ps))

-- ---- laws

-- refused for a third transition alone
pub third_put : (w : Wires) (ps : List ℕ) (e : ThirdTransition) → putting w ps ≡ Err e → third_transition w ps ≡ true
third_put w ps e = go (third_transition w ps)
  where
    go : (t : Bool) → pick {A = Result Wires ThirdTransition} t (Err (record { next = put_pairs w ps })) (Ok (put_pairs w ps)) ≡ Err e → t ≡ true
    go true q = refl
    go false q = absurd (true≢false (ap is_ok q))

-- with none, the wires after all pairs
pub done_put : (w : Wires) (ps : List ℕ) (next : Wires) → putting w ps ≡ Ok next → (third_transition w ps ≡ false) × (next ≡ put_pairs w ps)
done_put w ps next = go (third_transition w ps)
  where
    go : (t : Bool) → pick {A = Result Wires ThirdTransition} t (Err (record { next = put_pairs w ps })) (Ok (put_pairs w ps)) ≡ Ok next
        → (t ≡ false) × (next ≡ put_pairs w ps)
    go true q = absurd (true≢false (sym (ap is_ok q)))
    go false q = (refl, cc)

pub none_third : (w : Wires) (ps : List ℕ) → ((i k : ℕ) → i < 8 → k < 4 → third_of w ps i k ≡ false) → third_transition w ps ≡ false
unfolding third_transition
none_third w ps f =
    none_at (length table) (λ (at : ℕ). some 4 (third_of w ps (at + 2))) (λ at h. none_at 4 (third_of w ps (at + 2)) (λ k l. f (at + 2) k (omega arith) l))
