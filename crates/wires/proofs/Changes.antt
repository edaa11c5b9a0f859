-- P19 and P20: what each change makes of levels, marks and place.
-- ---- one group changed
use Rattle.std.specs.Prelude.{ℕ, ◌-◌, ◌*◌, ◌/◌, ◌%◌, ◌^◌, ◌<◌, ◌≤◌, Bool, true, false, ◌&&◌, ◌||◌, not, ◌≡◌, eqb}
use mathlib.Core.List.{List, [], ◌∷◌}
use Rattle.std.proofs.Math.Path.{refl, ap}
use Rattle.std.proofs.Common.{sym, ◌∙◌, arith, eqb-true, eq-eqb, ne_eqb}
use Rattle.std.specs.Int.Bits.{bit_and}
use Rattle.std.proofs.lemmas.Nat.{and_le_r}
use Rattle.std.proofs.Math.Pow.{pow-lt}
use Rattle.std.proofs.lemmas.Bool.{eqb-false}
use Rattle.base.specs.Pick.{pick, pick_ind, and_left}
use Rattle.wires.specs.Table.{row_at, is_group}
use Rattle.wires.specs.Rows.{InTable, in_table, defined-bit, Settable, settable-bit, row_right}
use Rattle.wires.specs.Nibbles.{bit_of, binary, and_bit, and_one, nibble-bit, nibble_small, mask_inside, set-bit, same_bits}
use Rattle.wires.specs.Kept.{whole_pair}
use Rattle.wires.specs.Groups.{level_at, mark_at, with_group, nibble, is_down, put_pair, put_pairs, defined_bit, settable, set_level, set_wire, read_wire, whole_wires}
use Rattle.wires.specs.declared.Wires.{Wires}
use Rattle.wires.specs.Changes.{last_named, level_other, level_same, mark_other, mark_same, names, set_mark}

-- ---- the last pair that names a bit validly

module _ (j bit : ℕ) (down : is_down j ≡ true) (small : bit < 4) where
  here : InTable j
  here = in_table j (and_left (is_group j) (row_at (j - 2)).down down)

  defined_small : (row_at (j - 2)).defined < 16
  defined_small = (row_right (j - 2) (omega (arith, here.from, here.upto))).defined_small

  -- what a pair that names the group does to a bit, defined or not
  pair_own : (w : Wires) (b : ℕ) → whole_wires w ≡ true
      → read_wire (put_pair w j b) j bit ≡ pick (eqb (bit_of (bit_and (b / 16) (row_at (j - 2)).defined) bit) 1) (bit_of (b % 16) bit) (read_wire w j bit)
  pair_own w b e =
      ap (λ (t : Bool). read_wire (pick t (with_group w j (nibble (level_at w j) (b % 16) (bit_and (b / 16) (row_at (j - 2)).defined)) (mark_at w j) w.place) w)
      j bit) down
      ∙ ap (λ (x : ℕ). bit_of x bit) (level_same w j _ (mark_at w j) w.place e here.from here.upto)
      ∙ nibble-bit (level_at w j) (b % 16) (bit_and (b / 16) (row_at (j - 2)).defined) bit
      (omega (arith, and_le_r (b / 16) (row_at (j - 2)).defined, defined_small)) small

  pair_other : (w : Wires) (i b : ℕ) → (j ≡ i → ⊥) → read_wire (put_pair w i b) j bit ≡ read_wire w j bit
  pair_other w i b n =
      pick_ind (λ (v : Wires). read_wire v j bit ≡ read_wire w j bit) (is_down i)
      (λ e. ap (λ (x : ℕ). bit_of x bit)
      (level_other w i _ (mark_at w i) w.place j (in_table i (and_left (is_group i) (row_at (i - 2)).down e)).from here.from n))
      (λ _. refl)

  pair_read : (row_at (j - 2)).defined / 2 ^ bit % 2 ≡ 1 → (w : Wires) (i b : ℕ) → whole_wires w ≡ true
      → read_wire (put_pair w i b) j bit ≡ pick (names i b j bit) (bit_of (b % 16) bit) (read_wire w j bit)
  pair_read one w i b e = go (eqb i j) refl
    where
      go : (t : Bool) → eqb i j ≡ t → read_wire (put_pair w i b) j bit ≡ pick (t && eqb (bit_of (b / 16) bit) 1) (bit_of (b % 16) bit) (read_wire w j bit)
      go true q =
          let z = bit_of (b / 16) bit in
          ap (λ (k : ℕ). read_wire (put_pair w k b) j bit) (eqb-true i j q)
          ∙ pair_own w b e
          ∙ ap (λ (m : ℕ). pick (eqb m 1) (bit_of (b % 16) bit) (read_wire w j bit))
          (and_bit (b / 16) (row_at (j - 2)).defined bit ∙ ap (bit_and z) one ∙ and_one z (binary (b / 16 / 2 ^ bit)))
      go false q = pair_other w i b (λ x. eqb-false i j q (sym x))

  pair_undefined : (row_at (j - 2)).defined / 2 ^ bit % 2 ≡ 0 → (w : Wires) (i b : ℕ) → whole_wires w ≡ true
      → read_wire (put_pair w i b) j bit ≡ read_wire w j bit
  pair_undefined none w i b e = go (eqb i j) refl
    where
      go : (t : Bool) → eqb i j ≡ t → read_wire (put_pair w i b) j bit ≡ read_wire w j bit
      go true q =
          ap (λ (k : ℕ). read_wire (put_pair w k b) j bit) (eqb-true i j q)
          ∙ pair_own w b e
          ∙ ap (λ (m : ℕ). pick (eqb m 1) (bit_of (b % 16) bit) (read_wire w j bit)) (mask_inside (b / 16) (row_at (j - 2)).defined bit none)
      go false q = pair_other w i b (λ x. eqb-false i j q (sym x))

  -- an undefined bit keeps its value
  pub put_undefined : (row_at (j - 2)).defined / 2 ^ bit % 2 ≡ 0 → (w : Wires) (ps : List ℕ) → whole_wires w ≡ true
      → read_wire (put_pairs w ps) j bit ≡ read_wire w j bit
  unfolding put_pairs
  put_undefined none w [] e = refl
  put_undefined none w (i ∷ []) e = refl
  put_undefined none w (i ∷ b ∷ ps) e = put_undefined none (put_pair w i b) ps (whole_pair w i b ∙ e) ∙ pair_undefined none w i b e

  put-read-from : (row_at (j - 2)).defined / 2 ^ bit % 2 ≡ 1 → (w : Wires) (ps : List ℕ) → whole_wires w ≡ true
      → read_wire (put_pairs w ps) j bit ≡ last_named ps j bit (read_wire w j bit)
  unfolding put_pairs last_named
  put-read-from one w [] e = refl
  put-read-from one w (i ∷ []) e = refl
  put-read-from one w (i ∷ b ∷ ps) e =
      put-read-from one (put_pair w i b) ps (whole_pair w i b ∙ e) ∙ ap (last_named ps j bit) (pair_read one w i b e)

-- each defined bit of a down group holds the level of the last pair that names it validly, else its old value
pub put-read : (j bit : ℕ) → is_down j ≡ true → defined_bit j bit ≡ true → (w : Wires) (ps : List ℕ) → whole_wires w ≡ true
    → read_wire (put_pairs w ps) j bit ≡ last_named ps j bit (read_wire w j bit)
put-read j bit down e = let d = defined-bit j bit e in put-read-from j bit down d.small d.one

-- ---- a wire set by the board

module _ (on : Bool) (w : Wires) (i bit value : ℕ) (ok : settable i bit value ≡ true) where
  it : Settable i bit value
  it = settable-bit i bit value ok

  -- that bit of that group alone
  pub set-read : whole_wires w ≡ true → (k : ℕ) → k < 4 → read_wire (set_wire on w i bit value) i k ≡ pick (eqb k bit) value (read_wire w i k)
  set-read e k h =
      ap (λ (x : ℕ). bit_of x k) (level_same w i (set_level w i bit value) (set_mark on w i bit value) w.place e it.defined.from it.defined.upto)
      ∙ set-bit (level_at w i) bit value k it.defined.small it.level h

  pub set_level_other : (j : ℕ) → 2 ≤ j → (j ≡ i → ⊥) → level_at (set_wire on w i bit value) j ≡ level_at w j
  set_level_other j = level_other w i (set_level w i bit value) (set_mark on w i bit value) w.place j it.defined.from

  pub set_mark_other : (j : ℕ) → 2 ≤ j → (j ≡ i → ⊥) → mark_at (set_wire on w i bit value) j ≡ mark_at w j
  set_mark_other j = mark_other w i (set_level w i bit value) (set_mark on w i bit value) w.place j it.defined.from

  -- the level changes exactly where the bit does
  real : level_at w i < 16 → eqb (set_level w i bit value) (level_at w i) ≡ eqb (read_wire w i bit) value
  real h = go (eqb (read_wire w i bit) value) refl
    where
      bits : (k : ℕ) → k < 4 → bit_of (set_level w i bit value) k ≡ pick (eqb k bit) value (read_wire w i k)
      bits k l = set-bit (level_at w i) bit value k it.defined.small it.level l

      same : read_wire w i bit ≡ value → (k : ℕ) (t : Bool) → eqb k bit ≡ t → pick t value (read_wire w i k) ≡ read_wire w i k
      same q k true e = sym q ∙ ap (read_wire w i) (sym (eqb-true k bit e))
      same q k false e = refl

      go : (t : Bool) → eqb (read_wire w i bit) value ≡ t → eqb (set_level w i bit value) (level_at w i) ≡ t
      go true q =
          eq-eqb _ _
          (same_bits (set_level w i bit value) (level_at w i) (nibble_small (level_at w i) (value * 2 ^ bit) (2 ^ bit) (pow-lt it.defined.small)) h
          (λ k l. bits k l ∙ same (eqb-true _ _ q) k (eqb k bit) refl))
      go false q =
          ne_eqb _ _
          (λ x.
          eqb-false _ _ q
          (sym (ap (λ (y : ℕ). bit_of y bit) x)
          ∙ bits bit it.defined.small
          ∙ ap (λ (b : Bool). pick b value (read_wire w i bit)) (eq-eqb bit bit refl)))

  -- the mark is raised by a real change while the channel is on, and by nothing else
  pub set_mark_lem : whole_wires w ≡ true → level_at w i < 16
      → mark_at (set_wire on w i bit value) i ≡ (mark_at w i || (on && not (eqb (read_wire w i bit) value)))
  set_mark_lem e h =
      mark_same w i (set_level w i bit value) (set_mark on w i bit value) w.place e it.defined.from it.defined.upto
      ∙ ap (λ (b : Bool). mark_at w i || (on && not b)) (real h)
