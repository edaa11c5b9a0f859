-- The opcode byte by cases: each listed value, or a byte that is not listed.
use Rattle.std.specs.Prelude.{ℕ, ◌+◌, ◌*◌, ◌/◌, ◌%◌, Bool, true, false, ◌≡◌, refl, eqb}
use Rattle.std.proofs.Common.{true≢false, sym, ap, subst, ◌∙◌, arith, eqb-true}
use Rattle.std.proofs.lemmas.Bool.{eqb-false}
use Rattle.base.specs.Pick.{pick, pick_ind, passed}
use Rattle.command.specs.Rows.{row_of, short}
use Rattle.command.specs.declared.Access.{Access}
use Rattle.command.specs.declared.Access.TheVariants.{IoRead, IoWrite, MemoryRead, MemoryWrite}
use Rattle.rules.specs.Statements.Fields.{is_listed, is_posted, is_non_posted}
use Rattle.std.specs.Prelude.{Option, None}
use Rattle.command.specs.declared.Row.{Row}

pub one : (Q : ℕ → Type 0) (op k : ℕ) → Q k → (eqb op k ≡ false → Q op) → Q op
one Q op k q else = go (eqb op k) refl
  where
    go : (t : Bool) → eqb op k ≡ t → Q op
    go true e = subst Q (sym (eqb-true op k e)) q
    go false e = else e

-- an opcode of a kind is none outside it
pub outside : (p : ℕ → Bool) (op n : ℕ) → p n ≡ false → p op ≡ true → eqb op n ≡ false
outside p op n f = one (λ (x : ℕ). p x ≡ true → eqb x n ≡ false) op n (λ t. absurd (true≢false (sym t ∙ f))) (λ e _. e)

-- four values from a multiple of 4 on, without three of them
no_short : (a : Access) (width : ℕ) (writes : Bool) (op q : ℕ) (rest : Option Row) → eqb op (4 * q) ≡ false → eqb op (4 * q + 1) ≡ false
    → eqb op (4 * q + 3) ≡ false
    → None ≡ rest → None ≡ pick (eqb (op / 4) q) (short a width writes (op % 4)) rest
no_short a n w op q rest e0 e1 e3 r =
    pick_ind (λ (l : Option Row). None ≡ l) (eqb (op / 4) q)
    (λ e. let two : op % 4 ≡ 2 = omega (arith, eqb-true (op / 4) q e, eqb-false op (4 * q) e0, eqb-false op (4 * q + 1) e1, eqb-false op (4 * q + 3) e3) in
    sym (ap (short a n w) two))
    (λ _. r)

-- what holds at each listed opcode and at every other byte holds at all
pub by_opcode : (Q : ℕ → Type 0)
    → Q 0x00 → Q 0x01 → Q 0x02 → Q 0x04 → Q 0x05 → Q 0x21 → Q 0x22 → Q 0x25 → Q 0xFF
    → Q 0x40 → Q 0x41 → Q 0x43 → Q 0x44 → Q 0x45 → Q 0x47 → Q 0x48 → Q 0x49 → Q 0x4B → Q 0x4C → Q 0x4D → Q 0x4F
    → ((op : ℕ) → is_listed op ≡ false → row_of op ≡ None → Q op)
    → (op : ℕ) → Q op
by_opcode Q q00 q01 q02 q04 q05 q21 q22 q25 qFF q40 q41 q43 q44 q45 q47 q48 q49 q4B q4C q4D q4F else op =
    one Q op 0x00 q00 λ e00. one Q op 0x01 q01 λ e01. one Q op 0x02 q02 λ e02. one Q op 0x04 q04 λ e04. one Q op 0x05 q05 λ e05.
    one Q op 0x21 q21 λ e21. one Q op 0x22 q22 λ e22. one Q op 0x25 q25 λ e25. one Q op 0xFF qFF λ eFF.
    one Q op 0x40 q40 λ e40. one Q op 0x41 q41 λ e41. one Q op 0x43 q43 λ e43.
    one Q op 0x44 q44 λ e44. one Q op 0x45 q45 λ e45. one Q op 0x47 q47 λ e47.
    one Q op 0x48 q48 λ e48. one Q op 0x49 q49 λ e49. one Q op 0x4B q4B λ e4B.
    one Q op 0x4C q4C λ e4C. one Q op 0x4D q4D λ e4D. one Q op 0x4F q4F λ e4F.
    else op
    (simp (e00, e01, e02, e04, e05, e21, e22, e25, eFF, e40, e41, e43, e44, e45, e47, e48, e49, e4B, e4C, e4D, e4F))
    (sym (passed _ _ e00 (passed _ _ e01 (passed _ _ e02 (passed _ _ e04 (passed _ _ e05 (passed _ _ e21 (passed _ _ e22 (passed _ _ e25 (passed _ _ eFF
    (no_short IoRead 2 false op 0x10 _ e40 e41 e43
    (no_short IoWrite 2 true op 0x11 _ e44 e45 e47
    (no_short MemoryRead 4 false op 0x12 _ e48 e49 e4B
    (no_short MemoryWrite 4 true op 0x13 _ e4C e4D e4F refl))))))))))))))

-- ---- the opcodes of a kind

pub by_posted : (Q : ℕ → Type 0) → Q 0x00 → Q 0x4C → Q 0x4D → Q 0x4F → (op : ℕ) → is_posted op ≡ true → Q op
by_posted Q a b c d op h =
    one Q op 0x00 a λ e0. one Q op 0x4C b λ e1. one Q op 0x4D c λ e2. one Q op 0x4F d λ e3. absurd (true≢false (sym h ∙ simp (e0, e1, e2, e3)))

pub by_asked : (Q : ℕ → Type 0) → Q 0x02 → Q 0x40 → Q 0x41 → Q 0x43 → Q 0x44 → Q 0x45 → Q 0x47 → Q 0x48 → Q 0x49 → Q 0x4B → (op : ℕ) → is_non_posted op ≡ true
    → Q op
by_asked Q a b c d e f g i j k op h =
    one Q op 0x02 a λ e0. one Q op 0x40 b λ e1. one Q op 0x41 c λ e2. one Q op 0x43 d λ e3. one Q op 0x44 e λ e4. one Q op 0x45 f λ e5. one Q op 0x47 g λ e6.
    one Q op 0x48 i λ e7. one Q op 0x49 j λ e8. one Q op 0x4B k λ e9. absurd (true≢false (sym h ∙ simp (e0, e1, e2, e3, e4, e5, e6, e7, e8, e9)))

pub asked_not_posted : (op : ℕ) → is_non_posted op ≡ true → is_posted op ≡ false
asked_not_posted op h = by_asked (λ (x : ℕ). is_posted x ≡ false) refl refl refl refl refl refl refl refl refl refl op h
