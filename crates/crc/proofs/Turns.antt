-- Bytes as one number, and the CRC of eight and of sixteen more.
use Prim.Native.Nat.{ℕ, zero, suc, ◌+◌, ◌-◌, ◌*◌, ◌/◌, ◌^◌, ◌<◌, ◌≤◌, min}
use Rattle.std.specs.Prelude.{List, ◌≡◌, length, drop}
use Rattle.std.proofs.Math.Path.{refl, sym, ap, ap₂}
use Rattle.std.proofs.Common.{◌∙◌, suc-mul, zero-add, lt_of_lt_of_le, pow_mono}
use native.Mathlib.Omega.{arith}
use Rattle.std.proofs.Math.ListN.{get_or}
use Rattle.std.specs.Int.Bits.{bit_xor, xor_lt}
use Rattle.std.proofs.Math.Pow.{high}
use Rattle.crc.specs.Crc.{crc_bit, shifts, crc_byte, crc_from, crc}
use Rattle.crc.specs.Residue.{residue, residue_lt, residue-byte, bit_lt, shifts_lt, shifts-last, shifts_add}
use Rattle.crc.proofs.Residue.{residue_xor, residue-split, crc_bit_xor, shifts_xor}
use Rattle.crc.specs.Powers.{doubled, doubled_lt, power128}
use Rattle.crc.proofs.Powers.{doubled-residue}
use Rattle.crc.specs.Xor.{xor_assoc, xor_swap}
use Rattle.crc.specs.Turns.{after, after-from, byte_power, pair, pair_lt, shifts-zero, word, word_add}

module _ (s : List ℕ) (bytes : (k : ℕ) → get_or s k 0 < 256) where
  word_below : (n at : ℕ) → word n at s < 2 ^ (n * 8)
  unfolding word
  word_below zero at = omega arith
  word_below (suc n) at = omega (arith, word_below n at, bytes (at + n), byte_power n)

  pub word_lt : (n at : ℕ) → n ≤ 8 → word n at s < 2 ^ 64
  word_lt n at h = lt_of_lt_of_le (word_below n at) (pow_mono {i = n * 8} {j = 64} (omega (arith, h)))

  -- the first k of k + j bytes: the last j shifted out
  pub word-front : (k j n e at : ℕ) → k + j ≡ n → e ≡ j * 8 → word n at s / 2 ^ e ≡ word k at s
  word-front k j n e at p q =
      ap₂ (λ (x y : ℕ). word x at s / 2 ^ y) (sym p) q
      ∙ ap (λ (x : ℕ). x / 2 ^ (j * 8)) (word_add s k j at)
      ∙ high (word k at s) (j * 8) (word_below j (at + k))

  -- n bytes and one: the shifts of the register, and the residue of their number
  after-word : (n r at : ℕ) → n ≤ 7 → r < 256 → after r s at (suc n) ≡ shifts 8 (bit_xor (shifts (n * 8) r) (residue (word (suc n) at s)))
  unfolding after word shifts crc_byte
  after-word zero r at h hr =
      let b = get_or s (at + 0) 0 in ap (λ (x : ℕ). shifts 8 (bit_xor r x)) (sym (residue-byte b (bytes (at + 0))) ∙ ap residue (sym (zero-add b)))
  after-word (suc n) r at h hr =
      let b = get_or s (at + suc n) 0 in
      let w = word (suc n) at s in
      let short : w < 2 ^ 64 = word_lt (suc n) at (omega (arith, h)) in
      let rx = shifts_lt (n * 8) r hr in
      let rw = residue_lt w (omega (arith, short)) in
      ap (λ (x : ℕ). crc_byte x b) (after-word n r at (omega (arith, h)) hr)
      ∙ ap (shifts 8)
      (ap (λ (x : ℕ). bit_xor x b) (shifts_xor 8 (shifts (n * 8) r) (residue w) rx rw)
      ∙ xor_assoc (shifts 8 (shifts (n * 8) r)) (shifts 8 (residue w)) b
      ∙ ap₂ bit_xor
      (shifts_add 8 (n * 8) r ∙ ap (λ (k : ℕ). shifts k r) (sym (suc-mul n 8)))
      (ap (bit_xor (shifts 8 (residue w))) (sym (residue-byte b (bytes (at + suc n))))
      ∙ sym (residue-split 8 w b (bytes (at + suc n)) (omega (arith, short)) (omega (arith, bytes (at + suc n))))))

  word-from : (r at : ℕ) → r < 256 → at + 8 ≤ length s
      → crc_from (shifts 8 (bit_xor (shifts 56 r) (residue (word 8 at s)))) (drop (at + 8) s) ≡ crc_from r (drop at s)
  word-from r at hr h = ap (λ (x : ℕ). crc_from x (drop (at + 8) s)) (sym (after-word 7 r at (omega arith) hr)) ∙ after-from s r at 8 h

  word_next : (r at : ℕ) → r < 256 → at + 8 ≤ length s
      → crc_from (shifts 8 (bit_xor (shifts 64 r) (residue (word 8 at s)))) (drop (at + 8) s) ≡ crc_from (shifts 8 r) (drop at s)
  word_next r at hr h =
      ap (λ (x : ℕ). crc_from (shifts 8 (bit_xor x (residue (word 8 at s)))) (drop (at + 8) s)) (sym (shifts_add 56 8 r))
      ∙ word-from (shifts 8 r) at (shifts_lt 8 r hr) h

-- ---- sixteen bytes a turn: two numbers, the first sixty-four places up

-- of bytes: a hundred and twenty-eight shifts are one
twice : (x y u v : ℕ) → x < 256 → y < 256 → u < 256
    → bit_xor (shifts 64 (bit_xor (shifts 64 (bit_xor (shifts 64 x) y)) u)) v ≡ bit_xor (shifts 64 (bit_xor (crc_bit x) u)) (bit_xor (crc_bit y) v)
twice x y u v hx hy hu =
    let p = bit_xor (shifts 64 x) y in
    let sx = shifts_lt 64 x hx in
    let hp = xor_lt 8 (shifts 64 x) y sx hy in
    ap (λ (z : ℕ). bit_xor z v)
    (shifts_xor 64 (shifts 64 p) u (shifts_lt 64 p hp) hu
    ∙ ap (λ (z : ℕ). bit_xor z (shifts 64 u))
    (shifts_add 64 64 p ∙ sym (power128 p hp) ∙ crc_bit_xor (shifts 64 x) y sx hy ∙ ap (λ (z : ℕ). bit_xor z (crc_bit y)) (sym (shifts-last 64 x))))
    ∙ xor_assoc (bit_xor (shifts 64 (crc_bit x)) (crc_bit y)) (shifts 64 u) v
    ∙ xor_swap (shifts 64 (crc_bit x)) (crc_bit y) (shifts 64 u) v
    ∙ ap (λ (z : ℕ). bit_xor z (bit_xor (crc_bit y) v)) (sym (shifts_xor 64 (crc_bit x) u (bit_lt x hx) hu))

module _ (s : List ℕ) (bytes : (k : ℕ) → get_or s k 0 < 256) where
  turned : ℕ → ℕ → ℕ
  turned t at = bit_xor (doubled t) (word 8 at s)

  turned_residue : (t at : ℕ) → t < 2 ^ 64 → residue (turned t at) ≡ bit_xor (crc_bit (residue t)) (residue (word 8 at s))
  unfolding turned
  turned_residue t at h =
      let w = word_lt s bytes 8 at (omega arith) in
      residue_xor (doubled t) (word 8 at s) (omega (arith, doubled_lt t h)) (omega (arith, w))
      ∙ ap (λ (x : ℕ). bit_xor x (residue (word 8 at s))) (doubled-residue t h)

  pub turn-from : (a b x y at : ℕ) → a < 2 ^ 64 → b < 2 ^ 64 → at + 16 ≤ length s
      → x ≡ bit_xor (doubled a) (word 8 at s) → y ≡ bit_xor (doubled b) (word 8 (at + 8) s)
      → crc_from (shifts 8 (pair x y)) (drop (at + 16) s) ≡ crc_from (shifts 8 (pair a b)) (drop at s)
  unfolding pair turned
  turn-from a b x y at ha hb h ex ey =
      let ra = residue_lt a (omega (arith, ha)) in
      let rb = residue_lt b (omega (arith, hb)) in
      let u = residue (word 8 at s) in
      let v = residue (word 8 (at + 8) s) in
      let hu : u < 256 = residue_lt (word 8 at s) (omega (arith, word_lt s bytes 8 at (omega arith))) in
      let p = bit_xor (shifts 64 (pair a b)) u in
      let hp : p < 256 = xor_lt 8 _ _ (shifts_lt 64 (pair a b) (pair_lt a b ha hb)) hu in
      let e : at + 16 ≡ at + 8 + 8 = omega arith in
      ap₂ (λ (r k : ℕ). crc_from (shifts 8 r) (drop k s))
      (ap₂ (λ (m n : ℕ). bit_xor (shifts 64 (residue m)) (residue n)) ex ey
      ∙ ap₂ (λ (m n : ℕ). bit_xor (shifts 64 m) n) (turned_residue a at ha) (turned_residue b (at + 8) hb)
      ∙ sym (twice (residue a) (residue b) u v ra rb hu))
      e
      ∙ word_next s bytes p (at + 8) hp (omega (arith, h))
      ∙ word_next s bytes (pair a b) at (pair_lt a b ha hb) (omega (arith, h))

-- ---- the first bytes

module _ (s : List ℕ) (bytes : (k : ℕ) → get_or s k 0 < 256) where
  -- one to eight
  pub first_from : (n : ℕ) → 1 ≤ n → n ≤ 8 → n ≤ length s → crc_from (shifts 8 (residue (word n 0 s))) (drop n s) ≡ crc s
  unfolding crc
  first_from zero low high h = absurd (omega (arith, low))
  first_from (suc n) low high h =
      let w = residue (word (suc n) 0 s) in
      ap₂ (λ (r k : ℕ). crc_from r (drop k s))
      (sym (after-word s bytes n 0 0 (omega (arith, high)) (omega arith) ∙ ap (λ (x : ℕ). shifts 8 (bit_xor x w)) (shifts-zero (n * 8))))
      (sym (zero-add (suc n)))
      ∙ after-from s 0 0 (suc n) (omega (arith, h))

  -- one to sixteen: no more than eight, or some before the last eight
  pub start_from : (n a b : ℕ) → 1 ≤ n → n ≤ 16 → n ≤ length s → a ≡ word (n - 8) 0 s → b ≡ word (min n 8) (n - 8) s
      → crc_from (shifts 8 (pair a b)) (drop n s) ≡ crc s
  unfolding pair word
  start_from n a b low high h ea eb = go (n - 8) refl
    where
      go : (k : ℕ) → n - 8 ≡ k → crc_from (shifts 8 (pair a b)) (drop n s) ≡ crc s
      go zero q =
          let m : min n 8 ≡ n = omega (arith, q) in
          let none : shifts 64 (residue 0) ≡ 0 = ap (shifts 64) (residue-byte 0 (omega arith)) ∙ shifts-zero 64 in
          ap₂ (λ (x y : ℕ). crc_from (shifts 8 (bit_xor (shifts 64 (residue x)) (residue y))) (drop n s))
          (ea ∙ ap (λ (k : ℕ). word k 0 s) q) (eb ∙ ap₂ (λ (i k : ℕ). word i k s) m q)
          ∙ ap (λ (x : ℕ). crc_from (shifts 8 (bit_xor x (residue (word n 0 s)))) (drop n s)) none
          ∙ first_from n low (omega (arith, q)) h
      go (suc k) q =
          let m : min n 8 ≡ 8 = omega (arith, q) in
          let e : n ≡ suc k + 8 = omega (arith, q) in
          let r : ℕ = residue (word (suc k) 0 s) in
          let hr : r < 256 = residue_lt (word (suc k) 0 s) (omega (arith, word_lt s bytes (suc k) 0 (omega (arith, high, q)))) in
          ap₂ (λ (x y : ℕ). crc_from (shifts 8 (bit_xor (shifts 64 (residue x)) (residue y))) (drop n s))
          (ea ∙ ap (λ (k : ℕ). word k 0 s) q) (eb ∙ ap₂ (λ (i k : ℕ). word i k s) m q)
          ∙ ap (λ (i : ℕ). crc_from (shifts 8 (bit_xor (shifts 64 r) (residue (word 8 (suc k) s)))) (drop i s)) e
          ∙ word_next s bytes r (suc k) hr (omega (arith, h, e))
          ∙ first_from (suc k) (omega arith) (omega (arith, high, e)) (omega (arith, h, e))
