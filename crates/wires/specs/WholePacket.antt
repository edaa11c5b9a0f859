-- The whole pass: from the held values on it comes to the wires after all pairs, and to whether one has a third transition.
use Rattle.std.specs.Prelude.{ℕ, zero, suc, ◌+◌, ◌-◌, ◌*◌, ◌/◌, ◌%◌, ◌^◌, ◌<◌, Bool, true, false, List, [], ◌∷◌, ◌≡◌, refl, ltb, get_or, length}
use Rattle.std.proofs.Common.{sym, ◌∙◌, arith}
use Rattle.std.specs.Int.Bits.{bit_and, bit_xor}
use Rattle.std.proofs.lemmas.Nat.{and_le_r, or_lt}
use Rattle.std.proofs.lemmas.List.{set-get_or}
use Rattle.base.specs.Pick.{pick_ind, and_left}
use Rattle.base.specs.Bytes.{bit}
use Rattle.wires.specs.Table.{row_at, is_group}
use Rattle.wires.specs.Nibbles.{bit_of}
use Rattle.wires.specs.Lanes.{lane_bit, low_bit}
use Rattle.wires.specs.Rows.{in_table}
use Rattle.wires.specs.Kept.{clash}
use Rattle.wires.specs.Groups.{level_at, is_down}
use Rattle.wires.specs.Course.{host_wires, changed_by, past_pair, past_pairs, with_level, Small}
use Rattle.wires.specs.declared.Wires.{Wires}
use Rattle.wires.specs.declared.Course.{Course}

pub down_low : (i : ℕ) → is_down i ≡ true → i < 8
down_low i e = omega (arith, (in_table i (and_left (is_group i) (row_at (i - 2)).down e)).upto)

-- the down groups are 2, 3 and 7
pub down-one : (Q : ℕ → Type 0) → Q 2 → Q 3 → Q 7 → (i : ℕ) → is_down i ≡ true → Q i
down-one Q a b c zero e = clash e
down-one Q a b c (suc zero) e = clash e
down-one Q a b c (suc (suc zero)) e = a
down-one Q a b c (suc (suc (suc zero))) e = b
down-one Q a b c (suc (suc (suc (suc zero)))) e = clash e
down-one Q a b c (suc (suc (suc (suc (suc zero))))) e = clash e
down-one Q a b c (suc (suc (suc (suc (suc (suc zero)))))) e = clash e
down-one Q a b c (suc (suc (suc (suc (suc (suc (suc zero))))))) e = c
down-one Q a b c (suc (suc (suc (suc (suc (suc (suc (suc i)))))))) e = absurd (omega (arith, down_low (suc (suc (suc (suc (suc (suc (suc (suc i)))))))) e))

pub small_at : {w : Wires} → Small w → (i : ℕ) → is_down i ≡ true → level_at w i < 16
small_at {w} s = down-one (λ (i : ℕ). level_at w i < 16) s.group2 s.group3 s.group7

pub bit_off : (t : Bool) → bit t ≡ 0 → t ≡ false
bit_off true e = absurd (omega arith)
bit_off false e = refl

-- six levels by their places
pub six : (l : List ℕ) → length l ≡ 6 → l ≡ get_or l 0 0 ∷ get_or l 1 0 ∷ get_or l 2 0 ∷ get_or l 3 0 ∷ get_or l 4 0 ∷ get_or l 5 0 ∷ []
six [] h = absurd (omega arith)
six (a ∷ []) h = absurd (omega arith)
six (a ∷ b ∷ []) h = absurd (omega arith)
six (a ∷ b ∷ c ∷ []) h = absurd (omega arith)
six (a ∷ b ∷ c ∷ d ∷ []) h = absurd (omega arith)
six (a ∷ b ∷ c ∷ d ∷ e ∷ []) h = absurd (omega arith)
six (a ∷ b ∷ c ∷ d ∷ e ∷ f ∷ []) h = refl
six (a ∷ b ∷ c ∷ d ∷ e ∷ f ∷ g ∷ l) h = absurd (omega arith)

pub level_marks : (w : Wires) (i x : ℕ) → (with_level w i x).pending ≡ w.pending
level_marks w i x = set-get_or w.pending (i - 2) false

-- the words are of 32 bits
third_next : (c : Course) (i d : ℕ) → c.third < 2 ^ 32 → (past_pair c i d).third < 2 ^ 32
unfolding past_pair
third_next c i d h =
    let x = changed_by c.level i d in
    pick_ind (λ (v : Course). v.third < 2 ^ 32) (ltb 7 i) (λ _. h)
    (λ _. or_lt 32 c.third (bit_and c.twice x) h
    (omega (
      arith,
      and_le_r c.twice x,
      and_le_r (bit_xor c.level (d % 16 * 2 ^ (i * 4))) (bit_and (d / 16 % 16 * 2 ^ (i * 4)) host_wires),
      and_le_r (d / 16 % 16 * 2 ^ (i * 4)) host_wires,
    )))

pub third_small : (ps : List ℕ) (c : Course) → c.third < 2 ^ 32 → (past_pairs c ps).third < 2 ^ 32
unfolding past_pairs
third_small [] c h = h
third_small (i ∷ []) c h = h
third_small (i ∷ d ∷ ps) c h = third_small ps (past_pair c i d) (third_next c i d h)

-- a group's four bits of a word
pub lane : (x i k : ℕ) → k < 4 → bit_of (x / 2 ^ (i * 4) % 16) k ≡ bit_of x (i * 4 + k)
lane x i k h = low_bit (x / 2 ^ (i * 4)) k h ∙ sym (lane_bit x (i * 4) k)
