-- The steps of the code: numbers brought down to a byte, and that the byte is the CRC.
use Rattle.std.specs.Prelude.{ℕ, ◌+◌, ◌^◌, ◌<◌, ◌≤◌, ◌≡◌}
use Rattle.std.proofs.Common.{sym, ◌∙◌, arith, lt_of_lt_of_le, pow_mono, shl_lt}
use Rattle.std.proofs.Math.Path.{ap, ap₂}
use Rattle.std.specs.Int.Bits.{bit_xor}
use Rattle.std.proofs.lemmas.Nat.{xor_lt}
use Rattle.crc.specs.Crc.{shifts, crc_byte}
use Rattle.crc.specs.Powers.{times, folded, power16, power32, power64}
use Rattle.crc.proofs.Powers.{times-residue, times_lt, folded-residue, folded_lt, power8}
use Rattle.crc.specs.Residue.{residue, residue-byte}
use Rattle.crc.proofs.Residue.{residue_xor}
use Rattle.crc.specs.Turns.{pair}
use Rattle.crc.specs.Steps.{under}

-- ---- a byte more, not yet brought down

module _ {m t b : ℕ} (wide : 8 ≤ m) (ht : t < 2 ^ m) (hb : b < 256) where
  pub sum_lt : bit_xor t b < 2 ^ m
  sum_lt = xor_lt m t b ht (lt_of_lt_of_le hb (pow_mono wide))

  pub taken_lt : {u : ℕ} → u ≡ times 0 1 2 (bit_xor t b) → u < 2 ^ (m + 2)
  taken_lt {u} e = under e (times_lt power8 (m + 2) m (bit_xor t b) (omega arith) sum_lt)

  taken-residue : {u r : ℕ} → m ≤ 70 → u ≡ times 0 1 2 (bit_xor t b) → residue t ≡ r → residue u ≡ crc_byte r b
  unfolding crc_byte
  taken-residue {u} {r} short e f =
      ap residue e
      ∙ times-residue power8 (bit_xor t b) (lt_of_lt_of_le (shl_lt m 2 sum_lt) (pow_mono {i = m + 2} {j = 72} (omega (arith, short))))
      ∙ ap (shifts 8)
      (residue_xor t b (lt_of_lt_of_le ht (pow_mono {i = m} {j = 72} (omega (arith, short)))) (omega (arith, hb)) ∙ ap₂ bit_xor f (residue-byte b hb))

-- ---- three, brought down once: t, u and v with one, two and three taken in, and x

module _ {a b c t u v x : ℕ} (ha : a < 256) (hb : b < 256) (hc : c < 256)
    (et : t ≡ times 0 1 2 a) (eu : u ≡ times 0 1 2 (bit_xor t b)) (ev : v ≡ times 0 1 2 (bit_xor u c)) (ex : x ≡ folded 8 0 1 2 v) where
  t_lt : t < 2 ^ 10
  t_lt = taken_lt {m = 8} {t = 0} (omega arith) (omega arith) ha et

  u_lt : u < 2 ^ 12
  u_lt = taken_lt {m = 10} (omega arith) t_lt hb eu

  v_lt : v < 2 ^ 14
  v_lt = taken_lt {m = 12} (omega arith) u_lt hc ev

  pub three_lt : x < 256
  three_lt = under ex (folded_lt power8 8 6 v (omega arith) (omega arith) v_lt)

  pub three-step : x ≡ crc_byte (crc_byte (crc_byte 0 a) b) c
  three-step =
      sym (residue-byte x three_lt)
      ∙ ap residue ex
      ∙ folded-residue power8 v (omega (arith, v_lt))
      ∙ taken-residue {m = 12} (omega arith) u_lt hc (omega arith) ev
      (taken-residue {m = 10} (omega arith) t_lt hb (omega arith) eu
      (taken-residue {m = 8} {t = 0} (omega arith) (omega arith) ha (omega arith) et (residue-byte 0 (omega arith))))

-- ---- a number of 64 digits: f and g with the high half and the next quarter brought down, t times x^8, then u, v and x

pub fold32_lt : {w f : ℕ} → w < 2 ^ 64 → f ≡ folded 32 1 2 4 w → f < 2 ^ 36
fold32_lt {w} {f} h e = under e (folded_lt power32 36 32 w (omega arith) (omega arith) h)

pub fold16_lt : {f g : ℕ} → f < 2 ^ 36 → g ≡ folded 16 0 2 4 f → g < 2 ^ 24
fold16_lt {f} {g} h e = under e (folded_lt power16 24 20 f (omega arith) (omega arith) h)

times8_lt : {g t : ℕ} → g < 2 ^ 24 → t ≡ times 0 1 2 g → t < 2 ^ 26
times8_lt {g} {t} h e = under e (times_lt power8 26 24 g (omega arith) h)

pub short_lt : {g t u : ℕ} → g < 2 ^ 24 → t ≡ times 0 1 2 g → u ≡ folded 16 0 2 4 t → u < 2 ^ 16
short_lt {g} {t} {u} h et eu =
    under eu (folded_lt power16 16 10 t (omega arith) (omega arith) (times8_lt h et))

module _ {w f g t u v x : ℕ} (h : w < 2 ^ 64) (ef : f ≡ folded 32 1 2 4 w) (eg : g ≡ folded 16 0 2 4 f) (et : t ≡ times 0 1 2 g)
    (eu : u ≡ folded 16 0 2 4 t) (ev : v ≡ folded 8 0 1 2 u) (ex : x ≡ folded 8 0 1 2 v) where
  v_below : v < 2 ^ 10
  v_below =
      under ev
      (folded_lt power8 10 8 u (omega arith) (omega arith) (short_lt (fold16_lt (fold32_lt h ef) eg) et eu))

  pub word-step_lt : x < 256
  word-step_lt = under ex (folded_lt power8 8 2 v (omega arith) (omega arith) v_below)

  pub word-step : x ≡ shifts 8 (residue w)
  word-step =
      let f_lt = fold32_lt h ef in
      let g-lt = fold16_lt f_lt eg in
      sym (residue-byte x word-step_lt)
      ∙ ap residue ex
      ∙ folded-residue power8 v (omega (arith, v_below))
      ∙ ap residue ev
      ∙ folded-residue power8 u (omega (arith, short_lt g-lt et eu))
      ∙ ap residue eu
      ∙ folded-residue power16 t (omega (arith, times8_lt g-lt et))
      ∙ ap residue et
      ∙ times-residue power8 g (omega (arith, g-lt))
      ∙ ap (shifts 8) (ap residue eg ∙ folded-residue power16 f (omega (arith, f_lt)) ∙ ap residue ef ∙ folded-residue power32 w (omega (arith, h)))

-- two of them: the first, brought down, times x^64

module _ {a b f t : ℕ} (ha : a < 2 ^ 64) (hb : b < 2 ^ 64) (ef : f ≡ folded 32 1 2 4 a) (et : t ≡ times 0 1 4 f) where
  t_below : t < 2 ^ 40
  t_below = under et (times_lt power64 40 36 f (omega arith) (fold32_lt ha ef))

  pub pair_step : residue (bit_xor t b) ≡ pair a b
  unfolding pair
  pair_step =
      residue_xor t b (omega (arith, t_below)) (omega (arith, hb))
      ∙ ap (λ (x : ℕ). bit_xor x (residue b))
      (ap residue et
      ∙ times-residue power64 f (omega (arith, fold32_lt ha ef))
      ∙ ap (shifts 64) (ap residue ef ∙ folded-residue power32 a (omega (arith, ha))))
