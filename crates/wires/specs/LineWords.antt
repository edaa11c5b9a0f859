-- The lines' maps by whole words: eight bytes, 64 lines at a time.
use Rattle.std.specs.Prelude.{ℕ, zero, suc, ◌+◌, ◌-◌, ◌*◌, ◌/◌, ◌%◌, ◌^◌, ◌<◌, Bool, true, false, ◌&&◌, ◌||◌, not, List, [], ◌∷◌, ◌≡◌, refl, eqb, get_or}
use Rattle.std.proofs.Common.{sym, ap, ◌∙◌, mod-lt, mod-eq_of_lt, arith, shr-shr, eqb-true, eq-eqb}
use Rattle.std.specs.Int.Bits.{bit_and, bit_or, bit_xor, and_zero_r, or_zero_r, or_add_and, xor_add_and, xor_self}
use Rattle.std.proofs.lemmas.Nat.{and_le_l, and_le_r, and_mask}
use Rattle.std.proofs.Math.Pow.{field, mod-mod-pow}
use Rattle.std.proofs.lemmas.Bool.{not-true}
use Rattle.base.specs.Pick.{pick, or_second, and_left, and_right, and_true, same_test}
use Rattle.base.specs.Bytes.{bit, low8, number8}
use Rattle.base.specs.Numbers.{number8_lt}
use Rattle.base.proofs.Numbers.{low8-number8}
use Rattle.wires.specs.Nibbles.{bit_of, Binary, off, on, binary, and_bit, zero_bit}
use Rattle.wires.specs.Kept.{clash}
use Rattle.wires.specs.Lines.{line_value, line_bit, any_bit, map_in, lines_in, edges_wait}
use Rattle.wires.specs.LineBits.{value_bit, none_bit, no_bit}
use Rattle.wires.specs.LinesKept.{edges_view, edges_test}
use Rattle.wires.specs.Places.{line_get}

-- some word of a map's four is not 0: "an edge waits" (02, Q-4), by whole words
abbrev pub words_any : ℕ → List ℕ → Bool
words_any at l =
    not (eqb (number8 at l) 0) || (not (eqb (number8 (at + 8) l) 0) || (not (eqb (number8 (at + 16) l) 0) || not (eqb (number8 (at + 24) l) 0)))

-- 64 ones, or none: "while channel 1 is off" (01, Sound state), "the operating count is 1" (02, Q-4)
abbrev pub mask_of : Bool → ℕ
mask_of b = pick b 18446744073709551615 0

-- the ones of a word that are none of a mask's (02, Q-4: "while its edge waits")
abbrev pub beyond : ℕ → ℕ → ℕ
beyond x mask = bit_xor x (bit_and x mask)

-- what is wrong in a word of the edges and in that of the waits: an edge that does not wait or has no room, and what may not wait (01, Sound state; 02, Q-4)
abbrev pub wrong_in : (k live room : ℕ) → List ℕ → ℕ
wrong_in k live room l = bit_or (beyond (number8 (142 + k) l) (bit_and (number8 (110 + k) l) room)) (beyond (number8 (110 + k) l) live)

four : (Q : ℕ → Type 0) → Q 0 → Q 1 → Q 2 → Q 3 → (k : ℕ) → k < 4 → Q k
four Q a b c d zero h = a
four Q a b c d (suc zero) h = b
four Q a b c d (suc (suc zero)) h = c
four Q a b c d (suc (suc (suc zero))) h = d
four Q a b c d (suc (suc (suc (suc k)))) h = absurd (omega arith)

-- none of four tests fails where not one says that it does
all_four : (a b c d : Bool) → not a || (not b || (not c || not d)) ≡ false → (a ≡ true) × ((b ≡ true) × ((c ≡ true) × (d ≡ true)))
all_four true true true true e = (refl, (refl, (refl, refl)))
all_four true true true false e = clash (sym e)
all_four true true false d e = clash (sym e)
all_four true false c d e = clash (sym e)
all_four false b c d e = clash (sym e)

pub same_off : (a b : Bool) → (a ≡ false → b ≡ false) → (b ≡ false → a ≡ false) → a ≡ b
same_off true true f g = refl
same_off true false f g = g refl
same_off false b f g = sym (f refl)

both : (e w : ℕ) → Binary e → Binary w → (e ≡ 1 → w ≡ 1) → bit_and e w ≡ e
both e w off off f = refl
both e w off on f = refl
both e w on off f = let z = f refl in absurd (omega arith)
both e w on on f = refl

value_off : (m : List ℕ) (n : ℕ) → line_bit m n ≡ false → line_value m n ≡ 0
value_off m n e = value_bit m n ∙ ap bit e

-- ---- numbers by their bits

shifted : (x j : ℕ) → bit_of (x / 2) j ≡ bit_of x (suc j)
shifted x j = let e : 1 + j ≡ suc j = omega arith in ap (λ (y : ℕ). y % 2) (shr-shr x 1 j ∙ ap (λ (k : ℕ). x / 2 ^ k) e)

pub bits-same : (k x y : ℕ) → x < 2 ^ k → y < 2 ^ k → ((j : ℕ) → j < k → bit_of x j ≡ bit_of y j) → x ≡ y
bits-same zero x y hx hy f = omega arith
bits-same (suc k) x y hx hy f =
    let e : x / 2 ≡ y / 2 = bits-same k (x / 2) (y / 2) (omega arith) (omega arith) (λ j h. shifted x j ∙ f (suc j) (omega arith) ∙ sym (shifted y j)) in
    let d : x / 2 ^ 0 % 2 ≡ y / 2 ^ 0 % 2 = f 0 (omega arith) in
    omega arith

-- a bit of a byte of a number
part-bit : (v i j : ℕ) → j < 8 → bit_of (v / 2 ^ i % 256) j ≡ bit_of v (i + j)
part-bit v i j h =
    let x = v / 2 ^ i in
    let k = 7 - j in
    let e : suc k + j ≡ 8 = omega arith in
    let s : k + 1 ≡ suc k = omega arith in
    ap (λ (y : ℕ). y % 2) (ap (λ (n : ℕ). x % 2 ^ n / 2 ^ j) (sym e) ∙ field x (suc k) j)
    ∙ ap (λ (n : ℕ). x / 2 ^ j % 2 ^ n % 2) (sym s)
    ∙ mod-mod-pow (x / 2 ^ j) k 1
    ∙ ap (λ (y : ℕ). y % 2) (shr-shr v i j)

-- ---- a word of the edges, and one of the waits

record Fits (e w : ℕ) (live more : Bool) : Type 0 where
  waits : (j : ℕ) → j < 64 → bit_of e j ≡ 1 → bit_of w j ≡ 1
  quiet : live ≡ false → w ≡ 0
  single : more ≡ false → e ≡ 0

masked : (x : ℕ) → x < 2 ^ 64 → bit_and x 18446744073709551615 ≡ x
masked x h = and_mask x 64 ∙ mod-eq_of_lt h

-- nothing of two words: nothing of each
none_either : (a b : ℕ) → bit_or a b ≡ 0 → (a ≡ 0) × (b ≡ 0)
none_either a b e =
    let s = or_add_and a b in
    let x = and_le_l a b in
    let y = and_le_r a b in
    (omega arith, omega arith)

none_both : {a b : ℕ} → a ≡ 0 → b ≡ 0 → bit_or a b ≡ 0
none_both {a} {b} e f = ap (bit_or a) f ∙ or_zero_r a ∙ e

-- nothing of a word is beyond a mask: the mask leaves it as it is
none_beyond : (x mask : ℕ) → beyond x mask ≡ 0 → bit_and x mask ≡ x
none_beyond x mask e =
    let y = bit_and x mask in
    let s = xor_add_and x y in
    let p = and_le_l x y in
    let q = and_le_r x y in
    omega arith

beyond_none : (x mask : ℕ) → bit_and x mask ≡ x → beyond x mask ≡ 0
beyond_none x mask e = ap (bit_xor x) e ∙ xor_self x

-- a word that stays as it is under a mask of none is 0
under_none : (x : ℕ) (b : Bool) → bit_and x (mask_of b) ≡ x → b ≡ false → x ≡ 0
under_none x true e q = clash (sym q)
under_none x false e q = sym e ∙ and_zero_r x

none_under : (x : ℕ) (b : Bool) → x < 2 ^ 64 → (b ≡ false → x ≡ 0) → bit_and x (mask_of b) ≡ x
none_under x true h f = masked x h
none_under x false h f = and_zero_r x ∙ sym (f refl)

inside_word : (e w : ℕ) → bit_and e w ≡ e → (j : ℕ) → bit_of e j ≡ 1 → bit_of w j ≡ 1
inside_word e w t j q =
    each (bit_of w j) (binary (w / 2 ^ j))
    (ap (λ (x : ℕ). bit_and x (bit_of w j)) (sym q) ∙ sym (and_bit e w j) ∙ ap (λ (x : ℕ). bit_of x j) t ∙ q)
  where
    each : (x : ℕ) → Binary x → bit_and 1 x ≡ 1 → x ≡ 1
    each x off z = absurd (omega arith)
    each x on z = refl

word_inside : (e w : ℕ) → e < 2 ^ 64 → ((j : ℕ) → j < 64 → bit_of e j ≡ 1 → bit_of w j ≡ 1) → bit_and e w ≡ e
word_inside e w h f =
    bits-same 64 (bit_and e w) e (omega (arith, and_le_l e w)) h
    (λ j hj. and_bit e w j ∙ both (bit_of e j) (bit_of w j) (binary (e / 2 ^ j)) (binary (w / 2 ^ j)) (f j hj))

fits_view : (e w : ℕ) (live more : Bool) → w < 2 ^ 64 → bit_or (beyond e (bit_and w (mask_of more))) (beyond w (mask_of live)) ≡ 0 → Fits e w live more
fits_view e w live more h t =
    let z = none_either (beyond e (bit_and w (mask_of more))) (beyond w (mask_of live)) t in
    let a = none_beyond e (bit_and w (mask_of more)) z.0 in
    let b = none_beyond w (mask_of live) z.1 in
    record { waits = λ j _ q. go more a j q; quiet = under_none w live b; single = none more a }
  where
    none : (m : Bool) → bit_and e (bit_and w (mask_of m)) ≡ e → m ≡ false → e ≡ 0
    none true a q = clash (sym q)
    none false a q = sym a ∙ ap (bit_and e) (and_zero_r w) ∙ and_zero_r e

    go : (m : Bool) → bit_and e (bit_and w (mask_of m)) ≡ e → (j : ℕ) → bit_of e j ≡ 1 → bit_of w j ≡ 1
    go true a j q = inside_word e w (ap (bit_and e) (sym (masked w h)) ∙ a) j q
    go false a j q = let z = sym (zero_bit j) ∙ ap (λ (x : ℕ). bit_of x j) (sym (none false a refl)) ∙ q in absurd (omega arith)

fits_test : (e w : ℕ) (live more : Bool) → e < 2 ^ 64 → w < 2 ^ 64 → Fits e w live more
    → bit_or (beyond e (bit_and w (mask_of more))) (beyond w (mask_of live)) ≡ 0
fits_test e w live more he hw f =
    none_both (beyond_none e (bit_and w (mask_of more)) (go more f.single)) (beyond_none w (mask_of live) (none_under w live hw f.quiet))
  where
    go : (m : Bool) → (m ≡ false → e ≡ 0) → bit_and e (bit_and w (mask_of m)) ≡ e
    go true z = ap (bit_and e) (masked w hw) ∙ word_inside e w he f.waits
    go false z = ap (bit_and e) (and_zero_r w) ∙ and_zero_r e ∙ sym (z refl)

or_else : (a : Bool) {b : Bool} → (a ≡ false → b ≡ true) → a || b ≡ true
or_else true f = refl
or_else false f = f refl

module _ (l : List ℕ) (byte : (k : ℕ) → get_or l k 0 < 256) where
  -- a byte of a word
  word_byte : (at i : ℕ) → i < 8 → number8 at l / 2 ^ (i * 8) % 256 ≡ get_or l (at + i) 0
  word_byte at i h = go i h
    where
      each : (k : ℕ) → get_or (low8 (number8 at l)) k 0 ≡ get_or (get_or l at 0 ∷ get_or l (at + 1) 0 ∷ get_or l (at + 2) 0 ∷ get_or l (at + 3) 0
          ∷ get_or l (at + 4) 0 ∷ get_or l (at + 4 + 1) 0 ∷ get_or l (at + 4 + 2) 0 ∷ get_or l (at + 4 + 3) 0 ∷ []) k 0
      each k = ap (λ (z : List ℕ). get_or z k 0) (low8-number8 l byte at)

      moved : (a b : ℕ) → a ≡ b → get_or l a 0 ≡ get_or l b 0
      moved a b e = ap (λ (k : ℕ). get_or l k 0) e

      go : (i : ℕ) → i < 8 → number8 at l / 2 ^ (i * 8) % 256 ≡ get_or l (at + i) 0
      go zero b = let e : number8 at l / 2 ^ 0 % 256 ≡ number8 at l % 256 = omega arith in e ∙ each 0 ∙ moved at (at + 0) (omega arith)
      go (suc zero) b = each 1
      go (suc (suc zero)) b = each 2
      go (suc (suc (suc zero))) b = each 3
      go (suc (suc (suc (suc zero)))) b = each 4
      go (suc (suc (suc (suc (suc zero))))) b = each 5 ∙ moved (at + 4 + 1) (at + 5) (omega arith)
      go (suc (suc (suc (suc (suc (suc zero)))))) b = each 6 ∙ moved (at + 4 + 2) (at + 6) (omega arith)
      go (suc (suc (suc (suc (suc (suc (suc zero))))))) b = each 7 ∙ moved (at + 4 + 3) (at + 7) (omega arith)
      go (suc (suc (suc (suc (suc (suc (suc (suc k)))))))) b = absurd (omega arith)

  -- a line's bit is one of a word: line n is bit n % 64 of word n / 64
  pub word_line : (at n : ℕ) → n < 256 → line_value (map_in at l) n ≡ bit_of (number8 (at + n / 64 * 8) l) (n % 64)
  word_line at n h =
      let i = n / 8 % 8 in
      let w = at + n / 64 * 8 in
      let p : at + n / 8 ≡ w + i = omega arith in
      let q : i * 8 + n % 8 ≡ n % 64 = omega arith in
      line_get at n l h
      ∙ ap (λ (k : ℕ). bit_of (get_or l k 0) (n % 8)) p
      ∙ ap (λ (x : ℕ). bit_of x (n % 8)) (sym (word_byte w i (mod-lt (n / 8) (omega arith))))
      ∙ part-bit (number8 w l) (i * 8) (n % 8) (mod-lt n (omega arith))
      ∙ ap (bit_of (number8 w l)) q

  -- the other way: bit j of word k is a line's
  line_word : (at k j : ℕ) → k < 4 → j < 64 → bit_of (number8 (at + k * 8) l) j ≡ line_value (map_in at l) (k * 64 + j)
  line_word at k j hk hj =
      let p : (k * 64 + j) / 64 ≡ k = omega arith in
      let q : (k * 64 + j) % 64 ≡ j = omega arith in
      sym
      (word_line at (k * 64 + j) (omega arith)
      ∙ ap (λ (i : ℕ). bit_of (number8 (at + i * 8) l) ((k * 64 + j) % 64)) p
      ∙ ap (bit_of (number8 (at + k * 8) l)) q)

  -- ---- a word is 0

  zero_word : (at k : ℕ) → k < 4 → any_bit (map_in at l) ≡ false → number8 (at + k * 8) l ≡ 0
  zero_word at k hk e =
      bits-same 64 (number8 (at + k * 8) l) 0 (number8_lt l byte (at + k * 8)) (omega arith)
      (λ j hj. line_word at k j hk hj ∙ value_off (map_in at l) (k * 64 + j) (none_bit (map_in at l) e (k * 64 + j) (omega arith)) ∙ sym (zero_bit j))

  words_zero : (at : ℕ) → ((k : ℕ) → k < 4 → number8 (at + k * 8) l ≡ 0) → any_bit (map_in at l) ≡ false
  words_zero at f =
      no_bit (map_in at l)
      (λ n h. ap (λ (v : ℕ). eqb v 1) (word_line at n h ∙ ap (λ (x : ℕ). bit_of x (n % 64)) (f (n / 64) (omega arith)) ∙ zero_bit (n % 64)))

  -- some bit of a map is 1: some word of the four is not 0
  pub any_words : (at : ℕ) → words_any at l ≡ any_bit (map_in at l)
  any_words at = same_off (words_any at l) (any_bit (map_in at l)) there back
    where
      there : words_any at l ≡ false → any_bit (map_in at l) ≡ false
      there e =
          let t = all_four (eqb (number8 at l) 0) (eqb (number8 (at + 8) l) 0) (eqb (number8 (at + 16) l) 0) (eqb (number8 (at + 24) l) 0) e in
          let z : at ≡ at + 0 = omega arith in
          words_zero at
          (four (λ (k : ℕ). number8 (at + k * 8) l ≡ 0) (ap (λ (a : ℕ). number8 a l) (sym z) ∙ eqb-true _ 0 t.0) (eqb-true _ 0 t.1.0)
          (eqb-true _ 0 t.1.1.0) (eqb-true _ 0 t.1.1.1))

      back : any_bit (map_in at l) ≡ false → words_any at l ≡ false
      back e =
          let z : at ≡ at + 0 = omega arith in
          let none : number8 at l ≡ 0 = ap (λ (a : ℕ). number8 a l) z ∙ zero_word at 0 (omega arith) e in
          rw (none, zero_word at 1 (omega arith) e, zero_word at 2 (omega arith) e, zero_word at 3 (omega arith) e)

  -- ---- the lines are sound: so each of the four words

  -- nothing is wrong in any of them: with whether channel 1 is on and whether a packet has room for two entries
  pub sound_words : (live more : Bool) → let wrong : ℕ → ℕ = λ k. wrong_in k (mask_of live) (mask_of more) l in
      eqb (bit_or (bit_or (wrong 0) (wrong 8)) (bit_or (wrong 16) (wrong 24))) 0
      ≡ edges_wait (lines_in l) && ((live || not (any_bit (map_in 110 l))) && (more || not (any_bit (map_in 142 l))))
  sound_words live more = same_test _ _ there back
    where
      wrong : ℕ → ℕ
      wrong k = wrong_in k (mask_of live) (mask_of more) l

      e : ℕ → ℕ
      e k = number8 (142 + k) l

      w : ℕ → ℕ
      w k = number8 (110 + k) l

      fits : (k : ℕ) → wrong k ≡ 0 → Fits (e k) (w k) live more
      fits k t = fits_view (e k) (w k) live more (number8_lt l byte (110 + k)) t

      there : eqb (bit_or (bit_or (wrong 0) (wrong 8)) (bit_or (wrong 16) (wrong 24))) 0 ≡ true
          → edges_wait (lines_in l) && ((live || not (any_bit (map_in 110 l))) && (more || not (any_bit (map_in 142 l)))) ≡ true
      there t =
          let z = none_either (bit_or (wrong 0) (wrong 8)) (bit_or (wrong 16) (wrong 24)) (eqb-true _ 0 t) in
          let low = none_either (wrong 0) (wrong 8) z.0 in
          let high = none_either (wrong 16) (wrong 24) z.1 in
          let f = four (λ (k : ℕ). Fits (e (k * 8)) (w (k * 8)) live more) (fits 0 low.0) (fits 8 low.1) (fits 16 high.0) (fits 24 high.1) in
          and_true
          (edges_test (lines_in l)
          (λ n h q.
          eq-eqb _ 1
          (word_line 110 n h ∙ (f (n / 64) (omega arith)).waits (n % 64) (mod-lt n (omega arith)) (sym (word_line 142 n h) ∙ eqb-true _ 1 q))))
          (and_true (or_else live (λ q. ap not (words_zero 110 (λ k h. (f k h).quiet q))))
          (or_else more (λ q. ap not (words_zero 142 (λ k h. (f k h).single q)))))

      back : edges_wait (lines_in l) && ((live || not (any_bit (map_in 110 l))) && (more || not (any_bit (map_in 142 l)))) ≡ true
          → eqb (bit_or (bit_or (wrong 0) (wrong 8)) (bit_or (wrong 16) (wrong 24))) 0 ≡ true
      back t =
          let r = and_right (edges_wait (lines_in l)) ((live || not (any_bit (map_in 110 l))) && (more || not (any_bit (map_in 142 l)))) t in
          let one : (k : ℕ) → k < 4 → wrong (k * 8) ≡ 0 =
          λ k hk.
          fits_test (e (k * 8)) (w (k * 8)) live more (number8_lt l byte (142 + k * 8)) (number8_lt l byte (110 + k * 8))
          (record {
            waits = λ j hj q.
                line_word 110 k j hk hj
                ∙ eqb-true _ 1
                (edges_view (lines_in l) (and_left (edges_wait (lines_in l)) _ t) (k * 64 + j) (omega arith) (eq-eqb _ 1 (sym (line_word 142 k j hk hj) ∙ q)));
            quiet = λ q. zero_word 110 k hk (not-true _ (or_second live _ q (and_left (live || not (any_bit (map_in 110 l))) _ r)));
            single = λ q. zero_word 142 k hk (not-true _ (or_second more _ q (and_right (live || not (any_bit (map_in 110 l))) _ r)));
          }) in
          eq-eqb _ 0 (none_both (none_both (one 0 (omega arith)) (one 1 (omega arith))) (none_both (one 2 (omega arith)) (one 3 (omega arith))))
