-- Laws of a text put into the lent line piece by piece, by which what writes a line meets its contract.
use Rattle.std.specs.Prelude.{ℕ, ◌+◌, ◌*◌, ◌/◌, ◌%◌, ◌<◌, ◌≤◌, List, [], ◌∷◌, ◌++◌, ◌≡◌, refl, length, get_or}
use Rattle.std.proofs.Common.{append_assoc, sym, ◌∙◌, arith, le_of_lt, add-one, length-append, length-take-le}
use Rattle.std.proofs.Math.Path.{ap}
use Rattle.std.proofs.Math.ListN.{take}
use Rattle.std.proofs.Math.Seq.{take-suc}
use Rattle.base.specs.Bytes.{put, over, put-put, put_first, length-put}
use Rattle.playback.specs.Lines.{digit_of, upper_of, decimal_of, hex_of, shown_of, line_of}
use Rattle.playback.specs.Laws.{decimal_more, length_hex, hex_append}

-- ---- decimal: the digits of a tenth, then the last one

module _ (at n : ℕ) (h : 10 ≤ n) where
  pub decimal_length : length (decimal_of n) ≡ length (decimal_of (n / 10)) + 1
  decimal_length = ap length (decimal_more n h) ∙ length-append (decimal_of (n / 10)) (digit_of (n % 10) ∷ [])

  pub decimal_put : (l : List ℕ) → at ≤ length l
      → put (at + length (decimal_of (n / 10))) (digit_of (n % 10) ∷ []) (put at (decimal_of (n / 10)) l) ≡ put at (decimal_of n) l
  decimal_put l k =
      put-put at (at + length (decimal_of (n / 10))) (decimal_of (n / 10)) (digit_of (n % 10) ∷ []) l k refl
      ∙ ap (λ (z : List ℕ). put at z l) (sym (decimal_more n h))

-- ---- hex: one byte more

module _ (bytes : List ℕ) (i : ℕ) (h : i < length bytes) where
  hex_length : length (hex_of (take i bytes)) ≡ 2 * i
  hex_length = length_hex (take i bytes) ∙ ap (λ (n : ℕ). 2 * n) (length-take-le i bytes (le_of_lt h))

  hex_more : hex_of (take (i + 1) bytes) ≡ hex_of (take i bytes) ++ (upper_of (get_or bytes i 0 / 16) ∷ upper_of (get_or bytes i 0 % 16) ∷ [])
  unfolding hex_of
  hex_more = ap hex_of (ap (λ (n : ℕ). take n bytes) (add-one i) ∙ take-suc bytes i 0 h) ∙ hex_append (take i bytes) (get_or bytes i 0 ∷ [])

  -- a turn of the loop: the byte's two digits behind those before
  pub hex_turn : (at end u v : ℕ) (l line line' : List ℕ) → at + 2 * length bytes ≤ length l → end ≡ at + 2 * i
      → u ≡ upper_of (get_or bytes i 0 / 16) → v ≡ upper_of (get_or bytes i 0 % 16)
      → line ≡ put at (hex_of (take i bytes)) l → line' ≡ put end (u ∷ v ∷ []) line
      → (length line' ≡ length l) × (line' ≡ put at (hex_of (take (i + 1) bytes)) l)
  hex_turn at end u v l line line' k ee eu ev el eg =
      let e : line' ≡ put at (hex_of (take (i + 1) bytes)) l =
      rw (eg, el, ee, eu, ev)
      (put-put at (at + 2 * i) (hex_of (take i bytes)) _ l (omega arith) (ap (λ (n : ℕ). at + n) hex_length)
      ∙ ap (λ (z : List ℕ). put at z l) (sym hex_more)) in (
        ap length e ∙ length-put at (hex_of (take (i + 1) bytes)) l (rw (ap length hex_more ∙ length-append (hex_of (take i bytes)) _, hex_length)
            (omega arith)),
        e,
      )

-- ---- what is shown of a reply

pub shown_none : (reply : List ℕ) → length reply ≡ 0 → shown_of reply ≡ 0x2D ∷ []
shown_none [] e = refl
shown_none (b ∷ l) e = absurd (omega (arith, e))

pub shown_some : (reply : List ℕ) → (length reply ≡ 0 → ⊥) → shown_of reply ≡ hex_of reply
shown_some [] e = absurd (e refl)
shown_some (b ∷ l) e = refl

-- ---- the line

-- its six pieces, each behind the last
module _ (number refusal shown l : List ℕ) where
  abbrev ended : List ℕ
  ended = number ++ (0x20 ∷ refusal ++ (0x20 ∷ shown ++ (0x0A ∷ [])))

  abbrev n₁ : List ℕ
  n₁ = number ++ (0x20 ∷ [])

  abbrev n₂ : List ℕ
  n₂ = n₁ ++ refusal

  abbrev n₃ : List ℕ
  n₃ = n₂ ++ (0x20 ∷ [])

  abbrev n₄ : List ℕ
  n₄ = n₃ ++ shown

  line_put : (a b c : ℕ) → a ≡ length number → b ≡ a + 1 + length refusal → c ≡ b + 1 + length shown
      → put c (0x0A ∷ []) (put (b + 1) shown (put b (0x20 ∷ []) (put (a + 1) refusal (put a (0x20 ∷ []) (put 0 number l))))) ≡ over ended l
  line_put a b c ea eb ec =
      ap (λ (z : List ℕ). put c (0x0A ∷ []) (put (b + 1) shown (put b (0x20 ∷ []) (put (a + 1) refusal z))))
      (put-put 0 a number (0x20 ∷ []) l (omega arith) (omega arith))
      ∙ ap (λ (z : List ℕ). put c (0x0A ∷ []) (put (b + 1) shown (put b (0x20 ∷ []) z)))
      (put-put 0 (a + 1) n₁ refusal l (omega arith) (rw length-append (omega arith)))
      ∙ ap (λ (z : List ℕ). put c (0x0A ∷ []) (put (b + 1) shown z)) (put-put 0 b n₂ (0x20 ∷ []) l (omega arith) (simp length-append (omega arith)))
      ∙ ap (put c (0x0A ∷ [])) (put-put 0 (b + 1) n₃ shown l (omega arith) (simp length-append (omega arith)))
      ∙ put-put 0 c n₄ (0x0A ∷ []) l (omega arith) (simp length-append (omega arith))
      ∙ put_first (n₄ ++ (0x0A ∷ [])) l
      ∙ ap (λ (z : List ℕ). over z l) (simp append_assoc)

-- how long it is, piece by piece
pub line_sum : (number refusal : ℕ) (reply : List ℕ)
    → length (line_of number refusal reply) ≡ length (decimal_of number) + (length (decimal_of refusal) + (length (shown_of reply) + 3))
unfolding line_of
line_sum number refusal reply = simp length-append (omega arith)

-- the pieces as the code puts them, one after the other
pub told_by : (number refusal : ℕ) (reply l l₁ l₂ l₃ l₄ l₅ l₆ : List ℕ) (a b c : ℕ)
    → (l₁ ≡ put 0 (decimal_of number) l) × (a ≡ 0 + length (decimal_of number)) → l₂ ≡ put a (0x20 ∷ []) l₁
    → (l₃ ≡ put (a + 1) (decimal_of refusal) l₂) × (b ≡ a + 1 + length (decimal_of refusal)) → l₄ ≡ put b (0x20 ∷ []) l₃
    → (l₅ ≡ put (b + 1) (shown_of reply) l₄) × (c ≡ b + 1 + length (shown_of reply)) → l₆ ≡ put c (0x0A ∷ []) l₅
    → (l₆ ≡ over (line_of number refusal reply) l) × (c + 1 ≡ length (line_of number refusal reply))
unfolding line_of
told_by number refusal reply l l₁ l₂ l₃ l₄ l₅ l₆ a b c (e₁, ea) e₂ (e₃, eb) e₄ (e₅, ec) e₆ = (
  rw (e₆, e₅, e₄, e₃, e₂, e₁) (line_put (decimal_of number) (decimal_of refusal) (shown_of reply) l a b c (omega arith) eb ec),
  omega (arith, line_sum number refusal reply),
)
