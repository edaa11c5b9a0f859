-- More than two changes of one wire (02, Q-6): the values that a packet gives a wire, and how often neighbours differ.
use Rattle.std.specs.Prelude.{ℕ, ◌+◌, ◌-◌, ◌<◌, ◌≤◌, Bool, true, false, ◌&&◌, List, ◌≡◌, refl, ltb, length}
use Rattle.std.proofs.Common.{sym, ap, ap₂, ◌∙◌, arith, ltb-false}
use Rattle.base.specs.Pick.{and_left}
use Rattle.wires.specs.Below.{some, at_none}
use Rattle.wires.specs.Table.{table, row_at, is_group}
use Rattle.wires.specs.Rows.{in_table, defined-bit}
use Rattle.wires.specs.Groups.{is_down, defined_bit}
use Rattle.wires.specs.declared.Wires.{Wires}
use Rattle.wires.specs.Transitions.{third_of, third_transition, transitions_of}

-- ---- laws

pub third_at : (w : Wires) (ps : List ℕ) → third_transition w ps ≡ false → (i k : ℕ) → k < 4 → third_of w ps i k ≡ false
unfolding third_transition
third_at w ps e i k h = down_or (is_down i) refl
  where
    down_or : (t : Bool) → is_down i ≡ t → (t && (defined_bit i k && ltb 2 (transitions_of w ps i k))) ≡ false
    down_or false d = refl
    down_or true d =
        let g = in_table i (and_left (is_group i) (row_at (i - 2)).down d) in
        let q : i - 2 + 2 ≡ i = omega (arith, g.from) in
        ap (λ (t : Bool). t && (defined_bit i k && ltb 2 (transitions_of w ps i k))) (sym d)
        ∙ ap (λ (j : ℕ). third_of w ps j k) (sym q)
        ∙ at_none 4 (third_of w ps (i - 2 + 2))
        (at_none (length table) (λ (at : ℕ). some 4 (third_of w ps (at + 2))) e (i - 2) (omega (arith, g.from, g.upto))) k h

-- without a third transition a wire of the host's has two at most
pub two_at_most : (w : Wires) (ps : List ℕ) → third_transition w ps ≡ false → (i k : ℕ) → is_down i ≡ true → defined_bit i k ≡ true
    → transitions_of w ps i k ≤ 2
two_at_most w ps e i k d f =
    ltb-false 2 (transitions_of w ps i k)
    (sym (ap₂ (λ (s t : Bool). s && (t && ltb 2 (transitions_of w ps i k))) d f) ∙ third_at w ps e i k (defined-bit i k f).small)
