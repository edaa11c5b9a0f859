-- The bits of a map of the lines: one written, the others, and whether there is one at all.
use Rattle.std.specs.Prelude.{ℕ, zero, suc, ◌-◌, ◌/◌, ◌%◌, ◌^◌, ◌≤◌, ◌<◌, Bool, true, false, List, ◌≡◌, refl, eqb, ltb, get_or, length}
use Rattle.std.proofs.Common.{sym, ap, subst, ◌∙◌, mod-lt, arith, length-set, get_or-set_same, eqb-true, eq-eqb, ltb-true, ltb-false, lt-ltb}
use Rattle.std.specs.Int.Bits.{bit_and, bit_or, and_zero_r, or_zero_r}
use Rattle.std.proofs.lemmas.Nat.{and_le_l, or_lt}
use Rattle.std.proofs.Math.Pow.{pow-lt}
use Rattle.std.proofs.Math.ListN.{get_or-eq_default}
use Rattle.std.proofs.Math.Seq.{set_out}
use Rattle.base.specs.Pick.{pick, pick_ind, and_left, and_right, and_true}
use Rattle.base.specs.Bytes.{bit}
use Rattle.wires.specs.Below.{at_every, at_both, all, all-at, at_all, any_at, at-any, any-one}
use Rattle.wires.specs.Nibbles.{bit_of, Binary, off, on, binary, and_bit, or_bit, and_one, zero_bit}
use Rattle.wires.specs.Kept.{set_cases}
use Rattle.wires.specs.Lines.{line_value, line_bit, byte_with, with_bit, no_bits_value, any_bit, whole_map}

-- ---- one bit of a byte

power_bit : (k j : ℕ) → k < 8 → j < 8 → bit_of (2 ^ k) j ≡ pick (eqb j k) 1 0
power_bit k j hk hj = eqb-true _ _ (at_both 8 8 (λ (x y : ℕ). eqb (bit_of (2 ^ x) y) (pick (eqb y x) 1 0)) refl k j hk hj)

others-bit : (k j : ℕ) → k < 8 → j < 8 → bit_of (255 - 2 ^ k) j ≡ pick (eqb j k) 0 1
others-bit k j hk hj = eqb-true _ _ (at_both 8 8 (λ (x y : ℕ). eqb (bit_of (255 - 2 ^ x) y) (pick (eqb y x) 0 1)) refl k j hk hj)

or_one : (x : ℕ) → Binary x → bit_or x 1 ≡ 1
or_one x off = refl
or_one x on = refl

-- the bit written, and the others of its byte
byte-bit : (x k j : ℕ) (b : Bool) → k < 8 → j < 8 → bit_of (byte_with x k b) j ≡ pick (eqb j k) (bit b) (bit_of x j)
byte-bit x k j true hk hj = or_bit x (2 ^ k) j ∙ ap (bit_or (bit_of x j)) (power_bit k j hk hj) ∙ go (eqb j k)
  where
    go : (t : Bool) → bit_or (bit_of x j) (pick t 1 0) ≡ pick t 1 (bit_of x j)
    go true = or_one (bit_of x j) (binary (x / 2 ^ j))
    go false = or_zero_r (bit_of x j)
byte-bit x k j false hk hj = and_bit x (255 - 2 ^ k) j ∙ ap (bit_and (bit_of x j)) (others-bit k j hk hj) ∙ go (eqb j k)
  where
    go : (t : Bool) → bit_and (bit_of x j) (pick t 0 1) ≡ pick t 0 (bit_of x j)
    go true = and_zero_r (bit_of x j)
    go false = and_one (bit_of x j) (binary (x / 2 ^ j))

pub byte_small : (x k : ℕ) (b : Bool) → k < 8 → x < 256 → byte_with x k b < 256
byte_small x k true hk h = or_lt 8 x (2 ^ k) h (pow-lt hk)
byte_small x k false hk h = omega (arith, and_le_l x (255 - 2 ^ k))

-- ---- one bit of a map

pub value_small : (m : List ℕ) (n : ℕ) → line_value m n ≤ 1
value_small m n = omega arith

-- a bit is its value
pub value_bit : (m : List ℕ) (n : ℕ) → line_value m n ≡ bit (line_bit m n)
value_bit m n = go (line_value m n) (value_small m n)
  where
    go : (v : ℕ) → v ≤ 1 → v ≡ bit (eqb v 1)
    go zero h = refl
    go (suc zero) h = refl
    go (suc (suc v)) h = absurd (omega arith)

-- what holds of the bit written, and of the one that was there, holds of what there is
value_cases : (Q : ℕ → Type 0) (m : List ℕ) (n k : ℕ) (b : Bool) → (k ≡ n → Q (bit b)) → Q (line_value m k) → Q (line_value (with_bit m n b) k)
unfolding with_bit
value_cases Q m n k b f q =
    set_cases (λ (x : ℕ). Q (bit_of x (k % 8))) m (n / 8) (k / 8) (byte_with (get_or m (n / 8) 0) (n % 8) b) 0
    (λ e.
    subst Q (sym (byte-bit (get_or m (n / 8) 0) (n % 8) (k % 8) b (mod-lt n (omega arith)) (mod-lt k (omega arith))))
    (pick_ind Q (eqb (k % 8) (n % 8)) (λ t. let h = eqb-true (k % 8) (n % 8) t in f (omega arith))
    (λ _. subst (λ (j : ℕ). Q (bit_of (get_or m j 0) (k % 8))) e q)))
    q

-- the bit written reads back
pub value_written : (m : List ℕ) (n : ℕ) (b : Bool) → n / 8 < length m → line_value (with_bit m n b) n ≡ bit b
unfolding with_bit
value_written m n b h =
    ap (λ (x : ℕ). bit_of x (n % 8)) (get_or-set_same m (n / 8) (byte_with (get_or m (n / 8) 0) (n % 8) b) 0 h)
    ∙ byte-bit (get_or m (n / 8) 0) (n % 8) (n % 8) b (mod-lt n (omega arith)) (mod-lt n (omega arith))
    ∙ ap (λ (t : Bool). pick t (bit b) (bit_of (get_or m (n / 8) 0) (n % 8))) (eq-eqb (n % 8) (n % 8) refl)

bit-back : (b : Bool) → eqb (bit b) 1 ≡ b
bit-back true = refl
bit-back false = refl

pub bit-written : (m : List ℕ) (n : ℕ) (b : Bool) → n / 8 < length m → line_bit (with_bit m n b) n ≡ b
bit-written m n b h = ap (λ (v : ℕ). eqb v 1) (value_written m n b h) ∙ bit-back b

-- the other lines' bits stay
pub value_other : (m : List ℕ) (n k : ℕ) (b : Bool) → (k ≡ n → ⊥) → line_value (with_bit m n b) k ≡ line_value m k
value_other m n k b h = value_cases (λ (v : ℕ). v ≡ line_value m k) m n k b (λ e. absurd (h e)) refl

pub bit_other : (m : List ℕ) (n k : ℕ) (b : Bool) → (k ≡ n → ⊥) → line_bit (with_bit m n b) k ≡ line_bit m k
bit_other m n k b h = ap (λ (v : ℕ). eqb v 1) (value_other m n k b h)

-- a bit that is 1 stays so where one is made 1
pub bit_stays : (m : List ℕ) (n k : ℕ) → line_bit m k ≡ true → line_bit (with_bit m n true) k ≡ true
bit_stays m n k e = value_cases (λ (v : ℕ). eqb v 1 ≡ true) m n k true (λ _. refl) e

-- one made 1 is the line's, or was 1
pub bit-was : (m : List ℕ) (n k : ℕ) → line_bit (with_bit m n true) k ≡ true → (k ≡ n → ⊥) → line_bit m k ≡ true
bit-was m n k e h = sym (bit_other m n k true h) ∙ e

pub zero_value : (m : List ℕ) (n : ℕ) → get_or m (n / 8) 0 ≡ 0 → line_value m n ≡ 0
zero_value m n e = ap (λ (x : ℕ). bit_of x (n % 8)) e ∙ zero_bit (n % 8)

-- one made 0 is 0, within the map or not
pub bit_gone : (m : List ℕ) (n : ℕ) → line_bit (with_bit m n false) n ≡ false
unfolding with_bit
bit_gone m n = go (ltb (n / 8) (length m)) refl
  where
    go : (t : Bool) → ltb (n / 8) (length m) ≡ t → line_bit (with_bit m n false) n ≡ false
    go true e = bit-written m n false (ltb-true _ _ e)
    go false e =
        ap (λ (l : List ℕ). line_bit l n) (set_out m (n / 8) _ (ltb-false _ _ e))
        ∙ ap (λ (v : ℕ). eqb v 1) (zero_value m n (get_or-eq_default m 0 {n = n / 8} (ltb-false _ _ e)))

pub length-bit : (m : List ℕ) (n : ℕ) (b : Bool) → length (with_bit m n b) ≡ length m
unfolding with_bit
length-bit m n b = length-set m (n / 8) _

-- ---- whole maps

pub record WholeMap (m : List ℕ) : Type 0 where
  pub long : length m ≡ 32
  pub byte : (j : ℕ) → get_or m j 0 < 256

pub map_view : (m : List ℕ) → whole_map m ≡ true → WholeMap m
unfolding whole_map
map_view m e =
    let long : length m ≡ 32 = eqb-true _ _ (and_left (eqb (length m) 32) (all 32 (λ (j : ℕ). ltb (get_or m j 0) 256)) e) in
    let each = and_right (eqb (length m) 32) (all 32 (λ (j : ℕ). ltb (get_or m j 0) 256)) e in
    record { long = long; byte = λ j. go j long each (ltb j 32) refl }
  where
    go : (j : ℕ) → length m ≡ 32 → all 32 (λ (i : ℕ). ltb (get_or m i 0) 256) ≡ true → (t : Bool) → ltb j 32 ≡ t → get_or m j 0 < 256
    go j long each true h = ltb-true _ 256 (all-at 32 (λ (i : ℕ). ltb (get_or m i 0) 256) each j (ltb-true j 32 h))
    go j long each false h = let z = get_or-eq_default m 0 {n = j} (omega (arith, ltb-false j 32 h)) in omega arith

pub map_test : (m : List ℕ) → WholeMap m → whole_map m ≡ true
unfolding whole_map
map_test m w =
    and_true (eq-eqb (length m) 32 w.long) (at_all 32 (λ (j : ℕ). ltb (get_or m j 0) 256) (λ j _. lt-ltb (get_or m j 0) 256 (w.byte j)))

pub whole_bit : (m : List ℕ) (n : ℕ) (b : Bool) → whole_map m ≡ true → whole_map (with_bit m n b) ≡ true
unfolding with_bit
whole_bit m n b e =
    let w = map_view m e in
    map_test (with_bit m n b)
    (record {
      long = length-set m (n / 8) _ ∙ w.long;
      byte = λ j.
          set_cases (λ (x : ℕ). x < 256) m (n / 8) j _ 0 (λ _. byte_small (get_or m (n / 8) 0) (n % 8) b (mod-lt n (omega arith)) (w.byte (n / 8))) (w.byte j);
    })

-- a line's byte is one of a whole map
pub line_byte : (m : List ℕ) (n : ℕ) → whole_map m ≡ true → n < 256 → n / 8 < length m
line_byte m n e h = let w = (map_view m e).long in omega arith

-- ---- whether there is one

pub none_bit : (m : List ℕ) → any_bit m ≡ false → (n : ℕ) → n < 256 → line_bit m n ≡ false
unfolding any_bit
none_bit m e n h = any_at 256 (line_bit m) e n h

pub no_bit : (m : List ℕ) → ((n : ℕ) → n < 256 → line_bit m n ≡ false) → any_bit m ≡ false
unfolding any_bit
no_bit m f = at-any 256 (line_bit m) f

pub some-bit : (m : List ℕ) (n : ℕ) → n < 256 → line_bit m n ≡ true → any_bit m ≡ true
unfolding any_bit
some-bit m n h e = any-one 256 (line_bit m) n h e

-- no bytes: no bit
pub zero-byte : (j : ℕ) → get_or no_bits_value j 0 ≡ 0
zero-byte j = go (ltb j 32) refl
  where
    go : (t : Bool) → ltb j 32 ≡ t → get_or no_bits_value j 0 ≡ 0
    go true h = eqb-true _ 0 (at_every 32 (λ (i : ℕ). eqb (get_or no_bits_value i 0) 0) refl j (ltb-true j 32 h))
    go false h = get_or-eq_default no_bits_value 0 {n = j} (omega (arith, ltb-false j 32 h))

pub zero_line : (n : ℕ) → line_bit no_bits_value n ≡ false
zero_line n = ap (λ (v : ℕ). eqb v 1) (zero_value no_bits_value n (zero-byte (n / 8)))

pub no_bits : any_bit no_bits_value ≡ false
no_bits = no_bit no_bits_value (λ n _. zero_line n)

pub whole_zero : whole_map no_bits_value ≡ true
whole_zero = map_test no_bits_value (record { long = refl; byte = λ j. let z = zero-byte j in omega arith })
