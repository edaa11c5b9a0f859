-- How the code counts transitions: one pass over the pairs with four words, in which bit k of group i is bit i * 4 + k.
use Rattle.std.specs.Prelude.{ℕ, suc, ◌+◌, ◌*◌, ◌/◌, ◌%◌, ◌^◌, ◌≤◌, ◌<◌, Bool, true, List, [], ◌∷◌, ◌≡◌, refl, ltb, get_or, length, drop}
use Rattle.std.proofs.Common.{ap, ap₂, ◌∙◌, arith, length-drop, shl_exact, drop-cons, lt-ltb, le-ltb}
use Rattle.std.specs.Int.Bits.{bit_and, bit_or, bit_xor}
use Rattle.base.specs.Pick.{pick, taken, passed}
use Rattle.wires.specs.Kept.{sound_level}
use Rattle.wires.specs.Groups.{level_at, mark_at, with_group, sound_wires}
use Rattle.wires.specs.declared.Wires.{Wires}
use Rattle.wires.specs.declared.Course.{Course}

-- ---- the steps of the code

-- the wires that the host drives: the defined bits of groups 2, 3 and 7 (01, Wires: the table, against which `host_bit` holds it)
abbrev pub host_wires : ℕ
host_wires = 0x70007700

-- at first every wire has its held value and no transition ("beginning with the held value", 02, Q-6)
abbrev pub course_of : Wires → Course
course_of w = record { level = level_at w 2 * 256 + level_at w 3 * 4096 + level_at w 7 * 268435456; once = 0; twice = 0; third = 0 }

-- the wires whose value a pair changes: "a value differing from the one just before" (02, Q-6) of "valid and defined bits of down groups" (01, Wires)
abbrev pub changed_by : ℕ → ℕ → ℕ → ℕ
changed_by level i d = bit_and (bit_xor level (d % 16 * 2 ^ (i * 4))) (bit_and (d / 16 % 16 * 2 ^ (i * 4)) host_wires)

-- a wire that changes has changed once; one that had changed once, twice; one that had changed twice has "a third transition" (02, Q-6)
abbrev pub counted : Course → ℕ → Course
counted c x =
    record {
      level = bit_xor c.level x;
      once = bit_or c.once x;
      twice = bit_or c.twice (bit_and c.once x);
      third = bit_or c.third (bit_and c.twice x);
    }

-- after one pair; an index past 7 is no group ("other groups are passed over", 01, Wires)
unfoldable pub past_pair : Course → ℕ → ℕ → Course
past_pair c i d = pick (ltb 7 i) c (counted c (changed_by c.level i d))

-- after all, "in order" (01, Wires)
unfoldable pub past_pairs : Course → List ℕ → Course
past_pairs c [] = c
past_pairs c (i ∷ []) = c
past_pairs c (i ∷ d ∷ ps) = past_pairs (past_pair c i d) ps

-- a group with the level that the word has for it; mark and place stay (01, Wires: PUT_VWIRE)
abbrev pub with_level : Wires → ℕ → ℕ → Wires
with_level w i level = with_group w i level (mark_at w i) w.place

-- the down groups, so (01, Wires: the table)
abbrev pub with_levels : Wires → ℕ → Wires
with_levels w x = with_level (with_level (with_level w 2 (x / 256 % 16)) 3 (x / 4096 % 16)) 7 (x / 268435456 % 16)

-- what the first word asks: soundness gives it (01, Sound state: "undefined wire bits are 0")
pub record Small (w : Wires) : Type 0 where
  pub group2 : level_at w 2 < 16
  pub group3 : level_at w 3 < 16
  pub group7 : level_at w 7 < 16

pub small_sound : (is : Bool) (w : Wires) → sound_wires is w ≡ true → Small w
small_sound is w e =
    record {
      group2 = sound_level is w e 2 (omega arith) (omega arith);
      group3 = sound_level is w e 3 (omega arith) (omega arith);
      group7 = sound_level is w e 7 (omega arith) (omega arith);
    }

-- ---- one pair, and the loop

pub past_over : (c : Course) (i d : ℕ) → 7 < i → c ≡ past_pair c i d
unfolding past_pair
past_over c i d h = taken _ _ (lt-ltb 7 i h) refl

-- nothing is shifted out of the words
pub past_as : (c r : Course) (i d : ℕ) → i ≤ 7 → d < 256
    → r ≡ counted c (bit_and (bit_xor c.level (d % 16 * 2 ^ (i * 4) % 2 ^ 32)) (bit_and (d / 16 * 2 ^ (i * 4) % 2 ^ 32) host_wires)) → r ≡ past_pair c i d
unfolding past_pair
past_as c r i d h l e =
    let q : d / 16 ≡ d / 16 % 16 = omega arith in
    passed _ _ (le-ltb 7 i h)
    (e
    ∙ ap₂ (λ (value valid : ℕ). counted c (bit_and (bit_xor c.level value) (bit_and valid host_wires)))
    (shl_exact {a = d % 16} 4 (i * 4) 32 (omega arith) (omega arith))
    (shl_exact {a = d / 16} 4 (i * 4) 32 (omega arith) (omega arith) ∙ ap (λ (x : ℕ). x * 2 ^ (i * 4)) q))

-- the pair at place i, then those after it
pub pair_next : (c : Course) (l : List ℕ) (i : ℕ) → i * 2 + 1 < length l
    → past_pairs c (drop (i * 2) l) ≡ past_pairs (past_pair c (get_or l (i * 2) 0) (get_or l (i * 2 + 1) 0)) (drop ((i + 1) * 2) l)
unfolding past_pairs
pair_next c l i h =
    let a : suc (i * 2) ≡ i * 2 + 1 = omega arith in
    let b : suc (i * 2 + 1) ≡ (i + 1) * 2 = omega arith in
    ap (past_pairs c)
    (drop-cons l (i * 2) 0 (omega arith)
    ∙ ap (λ (k : ℕ). get_or l (i * 2) 0 ∷ drop k l) a
    ∙ ap (λ (t : List ℕ). get_or l (i * 2) 0 ∷ t) (drop-cons l (i * 2 + 1) 0 h))
    ∙ ap (λ (k : ℕ). past_pairs (past_pair c (get_or l (i * 2) 0) (get_or l (i * 2 + 1) 0)) (drop k l)) b

-- at most one byte is left: no pair
pub pairs-done : (c : Course) (l : List ℕ) (i : ℕ) → length l ≤ i * 2 + 1 → past_pairs c (drop (i * 2) l) ≡ c
unfolding past_pairs
pairs-done c l i h = rest (drop (i * 2) l) (rw length-drop (omega (arith, h)))
  where
    rest : (r : List ℕ) → length r ≤ 1 → past_pairs c r ≡ c
    rest [] k = refl
    rest (a ∷ []) k = refl
    rest (a ∷ b ∷ r) k = absurd (omega (arith, k))
