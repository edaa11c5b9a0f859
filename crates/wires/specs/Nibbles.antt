-- Four bits under a mask, bit by bit.
use Rattle.std.specs.Prelude.{ℕ, zero, suc, ◌-◌, ◌*◌, ◌/◌, ◌%◌, ◌^◌, ◌≤◌, ◌<◌, Bool, true, false, ◌&&◌, ◌≡◌, refl, eqb, ltb}
use Rattle.std.proofs.Common.{sym, ap, subst, ◌∙◌, arith, mod-lt, mod-eq_of_lt, eqb-true, ltb-true, eq-eqb, lt-ltb}
use Rattle.std.proofs.Math.Nat.{zero-div}
use Rattle.std.specs.Int.Bits.{bit_and, bit_or, bit_xor, and_zero_l, and_zero_r}
use Rattle.std.proofs.lemmas.Nat.{and_shr, or_shr, xor_shr, and_mod, or_mod, xor_mod, and_le_r, or_lt, shl-shr}
use Rattle.std.proofs.Math.Pow.{pow-lt}
use Rattle.base.specs.Pick.{pick, and_left, and_right, and_true}
use Rattle.wires.specs.Below.{every, every-at, at_both}
use Rattle.wires.specs.Groups.{nibble}

-- ---- bits

abbrev pub bit_of : ℕ → ℕ → ℕ
bit_of x k = x / 2 ^ k % 2

pub data Binary : ℕ → Type 0 where
  off : Binary 0
  on : Binary 1

pub binary : (x : ℕ) → Binary (x % 2)
binary x = go (x % 2) (mod-lt x (omega arith))
  where
    go : (n : ℕ) → n < 2 → Binary n
    go zero h = off
    go (suc zero) h = on
    go (suc (suc n)) h = absurd (omega arith)

pub and_bit : (a b k : ℕ) → bit_of (bit_and a b) k ≡ bit_and (bit_of a k) (bit_of b k)
and_bit a b k = ap (λ (x : ℕ). x % 2) (and_shr a b k) ∙ and_mod (a / 2 ^ k) (b / 2 ^ k) 1

pub or_bit : (a b k : ℕ) → bit_of (bit_or a b) k ≡ bit_or (bit_of a k) (bit_of b k)
or_bit a b k = ap (λ (x : ℕ). x % 2) (or_shr a b k) ∙ or_mod (a / 2 ^ k) (b / 2 ^ k) 1

pub xor_bit : (a b k : ℕ) → bit_of (bit_xor a b) k ≡ bit_xor (bit_of a k) (bit_of b k)
xor_bit a b k = ap (λ (x : ℕ). x % 2) (xor_shr a b k) ∙ xor_mod (a / 2 ^ k) (b / 2 ^ k) 1

not_bit : (m k : ℕ) → m < 16 → k < 4 → bit_of (15 - m) k ≡ 1 - bit_of m k
not_bit m k hm hk = eqb-true _ _ (at_both 16 4 (λ (x j : ℕ). eqb (bit_of (15 - x) j) (1 - bit_of x j)) refl m k hm hk)

-- four bits say the number
pub same_bits : (x y : ℕ) → x < 16 → y < 16 → ((k : ℕ) → k < 4 → bit_of x k ≡ bit_of y k) → x ≡ y
same_bits x y hx hy z =
    let e = at_both 16 16 (λ (a b : ℕ). pick (every 4 (λ (j : ℕ). eqb (bit_of a j) (bit_of b j))) (eqb a b) true) refl x y hx hy in
    let a = every-at 4 (λ (j : ℕ). eqb (bit_of x j) (bit_of y j)) (λ k l. eq-eqb _ _ (z k l)) in
    eqb-true x y (subst (λ (t : Bool). pick t (eqb x y) true ≡ true) a e)

pub zero_bit : (k : ℕ) → bit_of 0 k ≡ 0
zero_bit k = ap (λ (x : ℕ). x % 2) (zero-div (2 ^ k))

pub one_bit : (b k : ℕ) → b < 4 → k < 4 → bit_of (2 ^ b) k ≡ pick (eqb k b) 1 0
one_bit b k hb hk = eqb-true _ _ (at_both 4 4 (λ (x j : ℕ). eqb (bit_of (2 ^ x) j) (pick (eqb j x) 1 0)) refl b k hb hk)

-- ---- a nibble: the bits of val where the mask has ones, those of old elsewhere

chosen : (o v m : ℕ) → Binary o → Binary v → Binary m → bit_or (bit_and o (1 - m)) (bit_and v m) ≡ pick (eqb m 1) v o
chosen o v m off off off = refl
chosen o v m off off on = refl
chosen o v m off on off = refl
chosen o v m off on on = refl
chosen o v m on off off = refl
chosen o v m on off on = refl
chosen o v m on on off = refl
chosen o v m on on on = refl

pub nibble-bit : (old val mask k : ℕ) → mask < 16 → k < 4 → bit_of (nibble old val mask) k ≡ pick (eqb (bit_of mask k) 1) (bit_of val k) (bit_of old k)
nibble-bit old val mask k hm hk =
    or_bit (bit_and old (15 - mask)) (bit_and val mask) k
    ∙ ap (λ (x : ℕ). bit_or x (bit_of (bit_and val mask) k)) (and_bit old (15 - mask) k ∙ ap (bit_and (bit_of old k)) (not_bit mask k hm hk))
    ∙ ap (bit_or (bit_and (bit_of old k) (1 - bit_of mask k))) (and_bit val mask k)
    ∙ chosen (bit_of old k) (bit_of val k) (bit_of mask k) (binary (old / 2 ^ k)) (binary (val / 2 ^ k)) (binary (mask / 2 ^ k))

pub nibble_small : (old val mask : ℕ) → mask < 16 → nibble old val mask < 16
nibble_small old val mask h =
    or_lt 4 (bit_and old (15 - mask)) (bit_and val mask)
    (omega (arith, and_le_r old (15 - mask)))
    (omega (arith, and_le_r val mask))

-- ---- a level that has ones only where a row has defined bits

abbrev pub clean_test : ℕ → ℕ → Bool
clean_test d x = eqb (bit_and x (15 - d)) 0 && ltb x 16

pub record Clean (d x : ℕ) : Type 0 where
  pub small : x < 16
  pub undefined_off : (k : ℕ) → k < 4 → bit_of d k ≡ 0 → bit_of x k ≡ 0

pub and_one : (x : ℕ) → Binary x → bit_and x 1 ≡ x
and_one x off = refl
and_one x on = refl

pub clean_view : (d x : ℕ) → d < 16 → clean_test d x ≡ true → Clean d x
clean_view d x h e =
    let z = eqb-true (bit_and x (15 - d)) 0 (and_left (eqb (bit_and x (15 - d)) 0) _ e) in
    record {
      small = ltb-true x 16 (and_right (eqb (bit_and x (15 - d)) 0) _ e);
      undefined_off = λ k hk q.
          sym (and_one (bit_of x k) (binary (x / 2 ^ k)))
          ∙ ap (λ (m : ℕ). bit_and (bit_of x k) (1 - m)) (sym q)
          ∙ ap (bit_and (bit_of x k)) (sym (not_bit d k h hk))
          ∙ sym (and_bit x (15 - d) k)
          ∙ ap (λ (y : ℕ). bit_of y k) z
          ∙ zero_bit k;
    }

pub clean_test_lem : (d x : ℕ) → d < 16 → Clean d x → clean_test d x ≡ true
clean_test_lem d x h c =
    let y = bit_and x (15 - d) in
    and_true (eq-eqb y 0 (same_bits y 0 (omega (arith, and_le_r x (15 - d))) (omega arith) outside)) (lt-ltb x 16 c.small)
  where
    covered : (k : ℕ) → k < 4 → {m : ℕ} → Binary m → bit_of d k ≡ m → bit_and (bit_of x k) (1 - bit_of d k) ≡ 0
    covered k hk off e = ap (λ (y : ℕ). bit_and y (1 - bit_of d k)) (c.undefined_off k hk e) ∙ and_zero_l (1 - bit_of d k)
    covered k hk on e = ap (λ (m : ℕ). bit_and (bit_of x k) (1 - m)) e ∙ and_zero_r (bit_of x k)

    outside : (k : ℕ) → k < 4 → bit_of (bit_and x (15 - d)) k ≡ bit_of 0 k
    outside k hk =
        and_bit x (15 - d) k ∙ ap (bit_and (bit_of x k)) (not_bit d k h hk) ∙ covered k hk (binary (d / 2 ^ k)) refl ∙ sym (zero_bit k)

-- only defined bits change
pub nibble_clean : (d old val mask : ℕ) → mask < 16 → ((k : ℕ) → k < 4 → bit_of d k ≡ 0 → bit_of mask k ≡ 0) → Clean d old → Clean d (nibble old val mask)
nibble_clean d old val mask h m c =
    record {
      small = nibble_small old val mask h;
      undefined_off =
          λ k hk q. nibble-bit old val mask k h hk ∙ ap (λ (t : ℕ). pick (eqb t 1) (bit_of val k) (bit_of old k)) (m k hk q) ∙ c.undefined_off k hk q;
    }

-- a mask cut to the defined bits
pub mask_inside : (v d k : ℕ) → bit_of d k ≡ 0 → bit_of (bit_and v d) k ≡ 0
mask_inside v d k e = and_bit v d k ∙ ap (bit_and (bit_of v k)) e ∙ and_zero_r (bit_of v k)

-- one bit set
pub set-bit : (old bit value k : ℕ) → bit < 4 → value ≤ 1 → k < 4 → bit_of (nibble old (value * 2 ^ bit) (2 ^ bit)) k ≡ pick (eqb k bit) value (bit_of old k)
set-bit old bit value k hb hv hk =
    nibble-bit old (value * 2 ^ bit) (2 ^ bit) k (pow-lt hb) hk
    ∙ ap (λ (m : ℕ). pick (eqb m 1) (bit_of (value * 2 ^ bit) k) (bit_of old k)) (one_bit bit k hb hk)
    ∙ go (eqb k bit) refl
  where
    go : (t : Bool) → eqb k bit ≡ t → pick (eqb (pick t 1 0) 1) (bit_of (value * 2 ^ bit) k) (bit_of old k) ≡ pick t value (bit_of old k)
    go true e =
        let m : value % 2 ≡ value = mod-eq_of_lt (omega arith) in
        ap (bit_of (value * 2 ^ bit)) (eqb-true k bit e) ∙ ap (λ (x : ℕ). x % 2) (shl-shr value bit) ∙ m
    go false e = refl
