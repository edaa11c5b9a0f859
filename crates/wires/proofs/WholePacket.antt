-- The whole pass: from the held values on it comes to the wires after all pairs, and to whether one has a third transition.
use Rattle.std.specs.Prelude.{ℕ, ◌+◌, ◌*◌, ◌/◌, ◌%◌, ◌^◌, ◌<◌, Bool, true, false, ◌&&◌, not, List, ◌∷◌, ◌≡◌, refl, Ok, Err, eqb, ltb, set}
use Rattle.std.proofs.Common.{true≢false, sym, ap, ap₂, ◌∙◌, arith, zero-add, eqb-true, eq-eqb, ne_eqb}
use Rattle.base.specs.Pick.{and_left, taken, passed}
use Rattle.base.specs.Bytes.{bit}
use Rattle.wires.specs.Table.{is_group}
use Rattle.wires.specs.Nibbles.{bit_of, binary, zero_bit, same_bits}
use Rattle.wires.specs.Lanes.{zero_word}
use Rattle.wires.specs.Rows.{undefined_bit}
use Rattle.wires.specs.Kept.{same_wires, whole_level, whole_put, put_small}
use Rattle.wires.specs.Groups.{level_at, is_down, defined_bit, read_wire, put_pairs, whole_wires}
use Rattle.wires.specs.Changes.{last_named, put_passes, put-marks, put-place}
use Rattle.wires.proofs.Changes.{put-read, put_undefined}
use Rattle.wires.specs.Transitions.{values_given, transitions, transitions_of, third_of, third_transition, putting, none_third}
use Rattle.wires.proofs.Transitions.{third_at}
use Rattle.wires.specs.Course.{host_wires, course_of, past_pairs, with_level, with_levels, Small}
use Rattle.wires.specs.OneWire.{none, seen_third, Has, other_pairs, Ran, ran, host_bit}
use Rattle.wires.specs.declared.Wires.{Wires}
use Rattle.wires.specs.declared.Course.{Course}
use Rattle.wires.specs.WholePacket.{bit_off, down-one, down_low, lane, level_marks, six, small_at, third_small}

module _ (w : Wires) (whole : whole_wires w ≡ true) (small : Small w) where
  begin_lane : (i : ℕ) → is_down i ≡ true → (course_of w).level / 2 ^ (i * 4) % 16 ≡ level_at w i
  begin_lane =
      let a = small.group2 in
      let b = small.group3 in
      let g = small.group7 in
      down-one (λ (i : ℕ). (course_of w).level / 2 ^ (i * 4) % 16 ≡ level_at w i) (omega arith) (omega arith) (omega arith)

  begin_bit : (i k : ℕ) → is_down i ≡ true → k < 4 → bit_of (course_of w).level (i * 4 + k) ≡ read_wire w i k
  begin_bit i k d h = sym (lane (course_of w).level i k h) ∙ ap (λ (x : ℕ). bit_of x k) (begin_lane i d)

  begins : (i k : ℕ) (h : i < 8) (l : k < 4) → Has i k h l (course_of w) (bit_of (course_of w).level (i * 4 + k)) 0
  begins i k h l = record { level = refl; seen = rw (zero_bit (i * 4 + k)) none }

  module _ (ps : List ℕ) where
    abbrev end : Course
    end = past_pairs (course_of w) ps

    host_at : (i k : ℕ) → i < 8 → k < 4 → {a b : Bool} → is_down i ≡ a → defined_bit i k ≡ b → bit_of host_wires (i * 4 + k) ≡ bit (a && b)
    host_at i k h l d e = host_bit i k h l ∙ ap₂ (λ (s t : Bool). bit (s && t)) d e

    wire_end : (i k : ℕ) (h : i < 8) (l : k < 4) (host : bit_of host_wires (i * 4 + k) ≡ 1)
        → Ran i k h l host ps (bit_of (course_of w).level (i * 4 + k)) 0 end
    wire_end i k h l host = ran i k h l host ps (course_of w) (binary ((course_of w).level / 2 ^ (i * 4 + k))) (begins i k h l)

    other_end : (i k : ℕ) (h : i < 8) (l : k < 4) → bit_of host_wires (i * 4 + k) ≡ 0 → Has i k h l end (bit_of (course_of w).level (i * 4 + k)) 0
    other_end i k h l other = other_pairs i k h l other ps (course_of w) (begins i k h l)

    -- ---- the levels

    end-bit : (i k : ℕ) → is_down i ≡ true → k < 4 → bit_of end.level (i * 4 + k) ≡ read_wire (put_pairs w ps) i k
    end-bit i k d l = go (defined_bit i k) refl
      where
        go : (t : Bool) → defined_bit i k ≡ t → bit_of end.level (i * 4 + k) ≡ read_wire (put_pairs w ps) i k
        go true e =
            let h = down_low i d in
            (wire_end i k h l (host_at i k h l d e)).level ∙ ap (last_named ps i k) (begin_bit i k d l) ∙ sym (put-read i k d e w ps whole)
        go false e =
            let h = down_low i d in
            (other_end i k h l (host_at i k h l d e)).level ∙ begin_bit i k d l
            ∙ sym (put_undefined i k d l (undefined_bit i k (and_left (is_group i) _ d) l e) w ps whole)

    end_level : (i : ℕ) → is_down i ≡ true → end.level / 2 ^ (i * 4) % 16 ≡ level_at (put_pairs w ps) i
    end_level i d =
        same_bits _ _ (omega arith) (put_small w ps i (small_at small i d)) (λ k h. lane end.level i k h ∙ end-bit i k d h)

    next_levels : (with_levels w end.level).level ≡ (put_pairs w ps).level
    next_levels =
        let l = w.level in
        let x = end.level in
        ap (λ (y : List ℕ). set (set (set y 0 (x / 256 % 16)) 1 (x / 4096 % 16)) 5 (x / 268435456 % 16)) (six l (whole_level w whole))
        ∙ rw (
          end_level 2 refl,
          end_level 3 refl,
          end_level 7 refl,
          sym (put_passes w ps 4 (omega arith) refl),
          sym (put_passes w ps 5 (omega arith) refl),
          sym (put_passes w ps 6 (omega arith) refl),
        )
        (sym (six (put_pairs w ps).level (whole_level (put_pairs w ps) (whole_put w ps ∙ whole))))

    next_is : with_levels w end.level ≡ put_pairs w ps
    next_is =
        let x = end.level in
        let a = with_level w 2 (x / 256 % 16) in
        let b = with_level a 3 (x / 4096 % 16) in
        same_wires next_levels
        (level_marks b 7 (x / 268435456 % 16) ∙ level_marks a 3 (x / 4096 % 16) ∙ level_marks w 2 (x / 256 % 16) ∙ sym (put-marks w ps))
        (sym (put-place w ps))

    -- ---- the third transition

    third_bit : (i k : ℕ) → i < 8 → k < 4 → bit_of end.third (i * 4 + k) ≡ bit (third_of w ps i k)
    third_bit i k h l = go (is_down i) (defined_bit i k) refl refl
      where
        go : (s t : Bool) → is_down i ≡ s → defined_bit i k ≡ t → bit_of end.third (i * 4 + k) ≡ bit (s && (t && ltb 2 (transitions_of w ps i k)))
        go true true d e =
            (wire_end i k h l (host_at i k h l d e)).third
            ∙ ap (λ (x : ℕ). bit (ltb 2 x)) (zero-add (transitions (bit_of (course_of w).level (i * 4 + k) ∷ values_given ps i k)))
            ∙ ap (λ (x : ℕ). bit (ltb 2 (transitions (x ∷ values_given ps i k)))) (begin_bit i k d l)
        go true false d e = seen_third (other_end i k h l (host_at i k h l d e)).seen
        go false t d e = seen_third (other_end i k h l (host_at i k h l d e)).seen

    third_none : third_transition w ps ≡ false → end.third ≡ 0
    third_none e = zero_word 32 end.third (third_small ps (course_of w) (omega arith)) at
      where
        at : (p : ℕ) → p < 32 → bit_of end.third p ≡ 0
        at p h =
            let q : p ≡ p / 4 * 4 + p % 4 = omega arith in
            ap (bit_of end.third) q ∙ third_bit (p / 4) (p % 4) (omega arith) (omega arith) ∙ ap bit (third_at w ps e (p / 4) (p % 4) (omega arith))

    none_thirds : end.third ≡ 0 → third_transition w ps ≡ false
    none_thirds e =
        none_third w ps
        (λ i k h l. bit_off (third_of w ps i k) (sym (third_bit i k h l) ∙ ap (λ (x : ℕ). bit_of x (i * 4 + k)) e ∙ zero_bit (i * 4 + k)))

    third_is : not (eqb end.third 0) ≡ third_transition w ps
    third_is = go (third_transition w ps) (eqb end.third 0) refl refl
      where
        go : (t z : Bool) → third_transition w ps ≡ t → eqb end.third 0 ≡ z → not z ≡ t
        go false z e f = ap not (sym f ∙ eq-eqb end.third 0 (third_none e))
        go true true e f = absurd (true≢false (sym e ∙ none_thirds (eqb-true end.third 0 f)))
        go true false e f = refl

    -- the pass comes to what the pairs come to
    pub put-done : (c : Course) (next : Wires) → c ≡ end → c.third ≡ 0 → next ≡ with_levels w c.level → Ok next ≡ putting w ps
    put-done c next e z f =
        passed _ _ (sym third_is ∙ ap not (eq-eqb end.third 0 (sym (ap (λ (v : Course). v.third) e) ∙ z)))
        (ap Ok (f ∙ ap (λ (v : Course). with_levels w v.level) e ∙ next_is))

    pub put_third : (c : Course) (next : Wires) → c ≡ end → (c.third ≡ 0 → ⊥) → next ≡ with_levels w c.level
        → Err (record { next = next }) ≡ putting w ps
    put_third c next e f g =
        taken _ _ (sym third_is ∙ ap not (ne_eqb end.third 0 (λ z. f (ap (λ (v : Course). v.third) e ∙ z))))
        (ap (λ (v : Wires). Err (record { next = v })) (g ∙ ap (λ (v : Course). with_levels w v.level) e ∙ next_is))
