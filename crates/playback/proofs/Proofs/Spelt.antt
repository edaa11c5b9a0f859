-- The digits proved: each by the bound of digits_of, a decimal digit more at the end; hex byte by byte.
use Rattle.std.specs.Prelude.{ℕ, zero, suc, ◌+◌, ◌-◌, ◌*◌, ◌/◌, ◌%◌, ◌<◌, ◌≤◌, List, [], ◌∷◌, ◌++◌, ◌≡◌, refl, ltb, length, get_or}
use Rattle.std.proofs.Common.{inl, inr, arith, length-append, lt-ltb, le-ltb, ltb-true, ltb-false}
use Rattle.std.proofs.Math.ListN.{get_or-append}
use Rattle.base.specs.Pick.{pick_ind}
use Rattle.base.specs.AllBytes.{AllBytes}
use Rattle.playback.specs.Lines.{digit_of, upper_of, digits_of, decimal_of, hex_of}
use Rattle.playback.specs.Spelt.{Digit, Upper, Each, number_spelt, hex_value, bytes_spelt, Spelt}

-- ---- decimal

spelt-append : (n : ℕ) (a b : List ℕ) → number_spelt n (a ++ b) ≡ number_spelt (number_spelt n a) b
unfolding number_spelt
spelt-append n [] b = refl
spelt-append n (d ∷ a) b = spelt-append (n * 10 + (d - 0x30)) a b

each_append : (a b : List ℕ) → Each Digit a → Each Digit b → Each Digit (a ++ b)
unfolding Each
each_append [] b x y = y
each_append (d ∷ a) b x y = (x.0, each_append a b x.1 y)

-- the digits of a number, if the bound is at least the number
record Spells (n : ℕ) (l : List ℕ) : Type 0 where
  number : number_spelt 0 l ≡ n
  digits : Each Digit l
  some : 0 < length l
  first : 0 < n → 0x30 < get_or l 0 0

one : (n : ℕ) → n < 10 → Spells n (digit_of n ∷ [])
unfolding number_spelt Each
one n h = record { number = omega arith; digits = ((omega arith, omega arith), tt); some = omega arith; first = λ p. omega arith }

more : (n : ℕ) (l : List ℕ) → Spells (n / 10) l → 10 ≤ n → Spells n (l ++ (digit_of (n % 10) ∷ []))
unfolding number_spelt Each
more n l s h =
    let d = digit_of (n % 10) ∷ [] in
    record {
      number = rw (spelt-append 0 l d, s.number) (omega arith);
      digits = each_append l d s.digits ((omega arith, omega arith), tt);
      some = simp length-append (omega arith);
      first = λ p. rw (get_or-append l d 0 0 s.some) (s.first (omega arith));
    }

spells : (most n : ℕ) → n ≤ most → Spells n (digits_of most n)
unfolding digits_of
spells zero n h = one n (omega arith)
spells (suc most) n h =
    pick_ind (Spells n) (ltb n 10) (λ t. one n (ltb-true n 10 t))
    λ t. more n (digits_of most (n / 10)) (spells most (n / 10) (omega arith)) (ltb-false n 10 t)

decimal : (n : ℕ) → Spells n (decimal_of n)
unfolding decimal_of
decimal n = spells n n (omega arith)

-- ---- hex

hex_value_lem : (d : ℕ) → d < 16 → hex_value (upper_of d) ≡ d
hex_value_lem d h =
    pick_ind (λ (x : ℕ). hex_value x ≡ d) (ltb d 10)
    (λ t. rw (lt-ltb (0x30 + d) 0x41 (omega (arith, ltb-true d 10 t))) (omega arith))
    λ t. rw (le-ltb (0x41 + (d - 10)) 0x41 (omega arith)) (omega (arith, ltb-false d 10 t))

hex_upper : (d : ℕ) → d < 16 → Upper (upper_of d)
hex_upper d h =
    pick_ind Upper (ltb d 10) (λ t. inl (omega arith, omega (arith, ltb-true d 10 t))) λ t. inr (omega arith, omega (arith, ltb-false d 10 t))

module _ {b : ℕ} {l : List ℕ} (a : AllBytes (b ∷ l)) where
  high : b / 16 < 16
  high = omega (arith, a.byte 0)

  low : b % 16 < 16
  low = omega arith

  rest : AllBytes l
  rest = record { byte = λ k. a.byte (suc k) }

back : (l : List ℕ) → AllBytes l → bytes_spelt (hex_of l) ≡ l
unfolding bytes_spelt hex_of
back [] a = refl
back (b ∷ l) a =
    let e : hex_value (upper_of (b / 16)) * 16 + hex_value (upper_of (b % 16)) ≡ b =
    rw (hex_value_lem (b / 16) (high a), hex_value_lem (b % 16) (low a)) (omega arith) in
    rw (e, back l (rest a))

upper : (l : List ℕ) → AllBytes l → Each Upper (hex_of l)
unfolding Each hex_of
upper [] a = tt
upper (b ∷ l) a = (hex_upper (b / 16) (high a), (hex_upper (b % 16) (low a), upper l (rest a)))

-- the digits are what document 02 calls them (02, Q-2)
pub spelt : Spelt
spelt =
    record {
      number = λ n. (decimal n).number;
      digits = λ n. (decimal n).digits;
      first = λ n. (decimal n).first;
      bytes = back;
      upper = upper;
    }
