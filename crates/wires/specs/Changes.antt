-- P19 and P20: what each change makes of levels, marks and place.
use Rattle.std.specs.Prelude.{ℕ, ◌-◌, ◌/◌, ◌%◌, ◌≤◌, Bool, true, false, ◌&&◌, ◌||◌, not, ◌≡◌, eqb}
use mathlib.Core.List.{List, [], ◌∷◌}
use Rattle.std.proofs.Math.Path.{refl, ap}
use Rattle.std.proofs.Common.{sym, ◌∙◌, arith, get_or-set_same, get_or-set_other}
use Rattle.std.proofs.lemmas.List.{set-get_or}
use Rattle.base.specs.Pick.{pick, pick_ind, and_left}
use Rattle.wires.specs.Table.{row_at, is_group}
use Rattle.wires.specs.Rows.{in_table}
use Rattle.wires.specs.Nibbles.{bit_of}
use Rattle.wires.specs.Kept.{clash, whole_level, whole_marks}
use Rattle.wires.specs.Groups.{level_at, mark_at, with_group, is_down, put_pair, put_pairs, set_level, whole_wires}
use Rattle.wires.specs.declared.Wires.{Wires}

-- ---- one group changed

module _ (w : Wires) (i level : ℕ) (mark : Bool) (p : ℕ) where
  pub level_same : whole_wires w ≡ true → 2 ≤ i → i ≤ 7 → level_at (with_group w i level mark p) i ≡ level
  level_same e h l = get_or-set_same w.level (i - 2) level 0 (omega (arith, whole_level w e))

  pub mark_same : whole_wires w ≡ true → 2 ≤ i → i ≤ 7 → mark_at (with_group w i level mark p) i ≡ mark
  mark_same e h l = get_or-set_same w.pending (i - 2) mark false (omega (arith, whole_marks w e))

  pub level_other : (j : ℕ) → 2 ≤ i → 2 ≤ j → (j ≡ i → ⊥) → level_at (with_group w i level mark p) j ≡ level_at w j
  level_other j h l n = get_or-set_other w.level (i - 2) (j - 2) level 0 (λ e. n (omega arith))

  pub mark_other : (j : ℕ) → 2 ≤ i → 2 ≤ j → (j ≡ i → ⊥) → mark_at (with_group w i level mark p) j ≡ mark_at w j
  mark_other j h l n = get_or-set_other w.pending (i - 2) (j - 2) mark false (λ e. n (omega arith))

-- ---- PUT_VWIRE, pair by pair

pair-marks : (w : Wires) (i b : ℕ) → (put_pair w i b).pending ≡ w.pending
pair-marks w i b = pick_ind (λ (v : Wires). v.pending ≡ w.pending) (is_down i) (λ _. set-get_or w.pending (i - 2) false) (λ _. refl)

pair_place : (w : Wires) (i b : ℕ) → (put_pair w i b).place ≡ w.place
pair_place w i b = pick_ind (λ (v : Wires). v.place ≡ w.place) (is_down i) (λ _. refl) (λ _. refl)

-- marks and place stay
pub put-marks : (w : Wires) (ps : List ℕ) → (put_pairs w ps).pending ≡ w.pending
unfolding put_pairs
put-marks w [] = refl
put-marks w (i ∷ []) = refl
put-marks w (i ∷ b ∷ ps) = put-marks (put_pair w i b) ps ∙ pair-marks w i b

pub put-place : (w : Wires) (ps : List ℕ) → (put_pairs w ps).place ≡ w.place
unfolding put_pairs
put-place w [] = refl
put-place w (i ∷ []) = refl
put-place w (i ∷ b ∷ ps) = put-place (put_pair w i b) ps ∙ pair_place w i b

-- a group that is not a down group stays
pair_passes : (w : Wires) (i b j : ℕ) → 2 ≤ j → is_down j ≡ false → level_at (put_pair w i b) j ≡ level_at w j
pair_passes w i b j h n =
    pick_ind (λ (v : Wires). level_at v j ≡ level_at w j) (is_down i)
    (λ e. level_other w i _ (mark_at w i) w.place j (in_table i (and_left (is_group i) (row_at (i - 2)).down e)).from h
    (λ q. clash (sym n ∙ ap is_down q ∙ e)))
    (λ _. refl)

pub put_passes : (w : Wires) (ps : List ℕ) (j : ℕ) → 2 ≤ j → is_down j ≡ false → level_at (put_pairs w ps) j ≡ level_at w j
unfolding put_pairs
put_passes w [] j h n = refl
put_passes w (i ∷ []) j h n = refl
put_passes w (i ∷ b ∷ ps) j h n = put_passes (put_pair w i b) ps j h n ∙ pair_passes w i b j h n

-- ---- the last pair that names a bit validly

-- "Data bits 7:4 say which of bits 3:0 are valid"
abbrev pub names : ℕ → ℕ → ℕ → ℕ → Bool
names i b j bit = eqb i j && eqb (bit_of (b / 16) bit) 1

unfoldable pub last_named : List ℕ → ℕ → ℕ → ℕ → ℕ
last_named [] j bit old = old
last_named (i ∷ []) j bit old = old
last_named (i ∷ b ∷ ps) j bit old = last_named ps j bit (pick (names i b j bit) (bit_of (b % 16) bit) old)

-- ---- a wire set by the board

abbrev pub set_mark : Bool → Wires → ℕ → ℕ → ℕ → Bool
set_mark on w i bit value = mark_at w i || (on && not (eqb (set_level w i bit value) (level_at w i)))
