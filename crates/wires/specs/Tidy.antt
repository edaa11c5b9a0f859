-- The test of the bytes as they stand: what passes is packed again to the same bytes, and all packed wires pass; how the code decides it by words.
use Rattle.std.specs.Prelude.{ℕ, zero, suc, ◌+◌, ◌*◌, ◌/◌, ◌%◌, ◌<◌, ◌≤◌, Bool, true, false, ◌&&◌, ◌||◌, List, ◌++◌, ◌≡◌, refl, eqb, leb, length, get_or}
use Rattle.std.proofs.Common.{true≢false, sym, ap, ◌∙◌, arith, eqb-true, le-leb, leb-true, ltb-true, lt-ltb}
use Rattle.base.specs.Pick.{and_left, and_right, and_true, same_test}
use Rattle.base.specs.Bytes.{bit, bit_below, low4, low8, number4, number8}
use Rattle.base.specs.Numbers.{join, past, listed}
use Rattle.base.proofs.Numbers.{low4-number4, low8-number8}
use Rattle.wires.specs.Table.{senders, is_up}
use Rattle.wires.specs.Groups.{mark_at, in_row, only_defined, place_right}
use Rattle.wires.specs.Kept.{sound_view, sound_test}
use Rattle.wires.specs.Layout.{wires_bytes, wires_in, tidy_wires, holds_wires, levels_fit, marks_fit, marks_in}
use Rattle.wires.specs.declared.Wires.{Wires}

mark_again : (m : ℕ) → leb m 1 ≡ true → bit (eqb m 1) ≡ m
mark_again zero e = refl
mark_again (suc zero) e = refl
mark_again (suc (suc n)) e = absurd (omega (arith, leb-true (suc (suc n)) 1 e))

pub wires_again : (l : List ℕ) → ((k : ℕ) → get_or l k 0 < 256) → tidy_wires l ≡ true → wires_bytes (wires_in l) ≡ listed 14 64 l
wires_again l byte e =
    let m : ℕ → ℕ = λ i. get_or l i 0 in
    let a = byte 76 in
    let b = byte 77 in
    let low : (m 76 + m 77 * 256) % 256 ≡ m 76 = omega arith in
    let above : (m 76 + m 77 * 256) / 256 ≡ m 77 = omega arith in
    let small : m 77 % 256 ≡ m 77 = omega arith in
    let high : (m 76 + m 77 * 256) / 256 % 256 ≡ m 77 = ap (λ (x : ℕ). x % 256) above ∙ small in
    let e₁ = and_right (leb (m 70) 1) _ e in
    let e₂ = and_right (leb (m 71) 1) _ e₁ in
    let e₃ = and_right (leb (m 72) 1) _ e₂ in
    let e₄ = and_right (leb (m 73) 1) _ e₃ in
    rw (
      mark_again (m 70) (and_left (leb (m 70) 1) _ e),
      mark_again (m 71) (and_left (leb (m 71) 1) _ e₁),
      mark_again (m 72) (and_left (leb (m 72) 1) _ e₂),
      mark_again (m 73) (and_left (leb (m 73) 1) _ e₃),
      mark_again (m 74) (and_left (leb (m 74) 1) _ e₄),
      mark_again (m 75) (and_right (leb (m 74) 1) _ e₄),
      low,
      high,
    )

pub wires_tidy : (p t : List ℕ) (w : Wires) → length p ≡ 64 → tidy_wires (p ++ (wires_bytes w ++ t)) ≡ true
wires_tidy p t w h =
    let l = wires_bytes w ++ t in
    let m : (i : ℕ) → leb (bit (mark_at w i)) 1 ≡ true = λ i. le-leb _ _ (bit_below (mark_at w i)) in
    rw (
      past p l 70 6 (omega arith),
      past p l 71 7 (omega arith),
      past p l 72 8 (omega arith),
      past p l 73 9 (omega arith),
      past p l 74 10 (omega arith),
      past p l 75 11 (omega arith),
    )
    (and_true (m 2) (and_true (m 3) (and_true (m 4) (and_true (m 5) (and_true (m 6) (m 7))))))

-- ---- by words

by_index : (P : ℕ → Type 0) → P 2 → P 3 → P 4 → P 5 → P 6 → P 7 → (i : ℕ) → 2 ≤ i → i ≤ 7 → P i
by_index P a b c d e f zero h l = absurd (omega arith)
by_index P a b c d e f (suc zero) h l = absurd (omega arith)
by_index P a b c d e f (suc (suc zero)) h l = a
by_index P a b c d e f (suc (suc (suc zero))) h l = b
by_index P a b c d e f (suc (suc (suc (suc zero)))) h l = c
by_index P a b c d e f (suc (suc (suc (suc (suc zero))))) h l = d
by_index P a b c d e f (suc (suc (suc (suc (suc (suc zero)))))) h l = e
by_index P a b c d e f (suc (suc (suc (suc (suc (suc (suc zero))))))) h l = f
by_index P a b c d e f (suc (suc (suc (suc (suc (suc (suc (suc i)))))))) h l = absurd (omega arith)

unmarked-zero : (m : ℕ) → leb m 1 ≡ true → (eqb m 1 ≡ true → ⊥) → eqb m 0 ≡ true
unmarked-zero zero e f = refl
unmarked-zero (suc zero) e f = absurd (f refl)
unmarked-zero (suc (suc n)) e f = absurd (omega (arith, leb-true (suc (suc n)) 1 e))

zero_small : (m : ℕ) → eqb m 0 ≡ true → leb m 1 ≡ true
zero_small m e = le-leb m 1 (omega (arith, eqb-true m 0 e))

zero-unmarked : {X : Type 0} (m : ℕ) → eqb m 0 ≡ true → eqb m 1 ≡ true → X
zero-unmarked m e f = absurd (omega (arith, eqb-true m 0 e, eqb-true m 1 f))

-- a mark of an up group: the channel is on, or there is none
on_or : (on : Bool) {x : Bool} → (on ≡ false → x ≡ true) → on || x ≡ true
on_or true f = refl
on_or false f = f refl

or_on : (on x : Bool) → on || x ≡ true → (x ≡ true → ⊥) → on ≡ true
or_on true x e f = refl
or_on false x e f = absurd (f e)

module _ (on : Bool) (l : List ℕ) where
  abbrev m : ℕ → ℕ
  m i = get_or l i 0

  abbrev levels : Bool
  levels = in_row 0 (m 64) && in_row 1 (m 65) && in_row 2 (m 66) && in_row 3 (m 67) && in_row 4 (m 68) && in_row 5 (m 69)

  abbrev marks : Bool
  marks = marks_fit on (m 70) (m 71) (m 72) (m 73) (m 74) (m 75)

  fit_holds : levels && (marks && place_right (wires_in l)) ≡ true → holds_wires on l ≡ true
  fit_holds t =
      let r₁ = in_row 0 (m 64) && in_row 1 (m 65) in
      let r₂ = r₁ && in_row 2 (m 66) in
      let r₃ = r₂ && in_row 3 (m 67) in
      let r₄ = r₃ && in_row 4 (m 68) in
      let t₅ = and_left levels _ t in
      let t₄ = and_left r₄ _ t₅ in
      let t₃ = and_left r₃ _ t₄ in
      let t₂ = and_left r₂ _ t₃ in
      let t₁ = and_left r₁ _ t₂ in
      let k = and_left marks _ (and_right levels _ t) in
      let k₁ = and_right (eqb (m 70) 0) _ k in
      let k₂ = and_right (eqb (m 71) 0) _ k₁ in
      let k₃ = and_right (eqb (m 75) 0) _ k₂ in
      let k₄ = and_right (leb (m 72) 1) _ k₃ in
      let k₅ = and_right (leb (m 73) 1) _ k₄ in
      let a = and_left (eqb (m 70) 0) _ k in
      let b = and_left (eqb (m 71) 0) _ k₁ in
      let f = and_left (eqb (m 75) 0) _ k₂ in
      let none = eqb (m 72) 0 && (eqb (m 73) 0 && eqb (m 74) 0) in
      let some : ((none ≡ true) → ⊥) → on ≡ true = or_on on none (and_right (leb (m 74) 1) _ k₅) in
      let p = and_right marks _ (and_right levels _ t) in
      and_true
      (and_true (zero_small (m 70) a)
      (and_true (zero_small (m 71) b)
      (and_true (and_left (leb (m 72) 1) _ k₃) (and_true (and_left (leb (m 73) 1) _ k₄) (and_true (and_left (leb (m 74) 1) _ k₅) (zero_small (m 75) f))))))
      (sound_test on (wires_in l)
      (record {
        clean =
            by_index (λ (i : ℕ). only_defined (wires_in l) i ≡ true) (and_left (in_row 0 (m 64)) _ t₁) (and_right (in_row 0 (m 64)) _ t₁) (and_right r₁ _ t₂)
            (and_right r₂ _ t₃) (and_right r₃ _ t₄) (and_right r₄ _ t₅);
        marks = by_index (λ (i : ℕ). mark_at (wires_in l) i ≡ true → (is_up i ≡ true) × (on ≡ true))
            (zero-unmarked (m 70) a)
            (zero-unmarked (m 71) b)
            (λ e. (refl, some (λ n. zero-unmarked (m 72) (and_left (eqb (m 72) 0) _ n) e)))
            (λ e. (refl, some (λ n. zero-unmarked (m 73) (and_left (eqb (m 73) 0) _ (and_right (eqb (m 72) 0) _ n)) e)))
            (λ e. (refl, some (λ n. zero-unmarked (m 74) (and_right (eqb (m 73) 0) _ (and_right (eqb (m 72) 0) _ n)) e)))
            (zero-unmarked (m 75) f);
        below = ltb-true _ senders p;
      }))

  holds_fit : holds_wires on l ≡ true → levels && (marks && place_right (wires_in l)) ≡ true
  holds_fit t =
      let s = sound_view on (wires_in l) (and_right (tidy_wires l) _ t) in
      let p = and_left (tidy_wires l) _ t in
      let p₁ = and_right (leb (m 70) 1) _ p in
      let p₂ = and_right (leb (m 71) 1) _ p₁ in
      let p₃ = and_right (leb (m 72) 1) _ p₂ in
      let p₄ = and_right (leb (m 73) 1) _ p₃ in
      let c = and_left (leb (m 72) 1) _ p₂ in
      let d = and_left (leb (m 73) 1) _ p₃ in
      let e = and_left (leb (m 74) 1) _ p₄ in
      let clean : (i : ℕ) → 2 ≤ i → i ≤ 7 → only_defined (wires_in l) i ≡ true = s.clean in
      let down : (i : ℕ) → 2 ≤ i → i ≤ 7 → is_up i ≡ false → mark_at (wires_in l) i ≡ true → ⊥ = λ i h k u x. true≢false (sym (s.marks i h k x).0 ∙ u) in
      let off : on ≡ false → (i : ℕ) → 2 ≤ i → i ≤ 7 → mark_at (wires_in l) i ≡ true → ⊥ = λ o i h k x. true≢false (sym (s.marks i h k x).1 ∙ o) in
      and_true
      (and_true (and_true
      (and_true (and_true (and_true (clean 2 (omega arith) (omega arith)) (clean 3 (omega arith) (omega arith))) (clean 4 (omega arith) (omega arith)))
      (clean 5 (omega arith) (omega arith))) (clean 6 (omega arith) (omega arith))) (clean 7 (omega arith) (omega arith)))
      (and_true
      (and_true (unmarked-zero (m 70) (and_left (leb (m 70) 1) _ p) (down 2 (omega arith) (omega arith) refl))
      (and_true (unmarked-zero (m 71) (and_left (leb (m 71) 1) _ p₁) (down 3 (omega arith) (omega arith) refl))
      (and_true (unmarked-zero (m 75) (and_right (leb (m 74) 1) _ p₄) (down 7 (omega arith) (omega arith) refl))
      (and_true c (and_true d (and_true e
      (on_or on (λ o. and_true (unmarked-zero (m 72) c (off o 4 (omega arith) (omega arith)))
      (and_true (unmarked-zero (m 73) d (off o 5 (omega arith) (omega arith))) (unmarked-zero (m 74) e (off o 6 (omega arith) (omega arith))))))))))))
      (lt-ltb _ senders s.below))

-- levels and marks by the bytes of the words that hold them
pub holds_by : (on : Bool) (l : List ℕ) (x y : Bool) → ((k : ℕ) → get_or l k 0 < 256)
    → x ≡ levels_fit (low8 (number8 64 l))
    → y ≡ marks_in on (low8 (number8 64 l) ++ low4 (number4 72 l))
    → x && (y && place_right (wires_in l)) ≡ holds_wires on l
holds_by on l x y byte ex ey =
    let u : x ≡ levels on l = ex ∙ ap levels_fit (low8-number8 l byte 64) in
    let v : y ≡ marks on l = ey ∙ ap (marks_in on) (join (low8-number8 l byte 64) (low4-number4 l byte 72)) in
    rw (u, v) (same_test _ _ (fit_holds on l) (holds_fit on l))
