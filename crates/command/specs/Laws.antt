-- Laws of the definitions, for the proofs of the code.
use Rattle.std.specs.Prelude.{ℕ, zero, suc, ◌+◌, ◌-◌, ◌*◌, ◌/◌, ◌^◌, ◌<◌, ◌≤◌, true, false, List, [], ◌∷◌, ◌≡◌, refl, length, get_or, drop, take}
use Rattle.std.proofs.Math.Nat.{pow-le-pow_right}
use Rattle.std.proofs.Common.{length-take, get_or-take, get_or-drop, ◌∙◌, arith, add-one, eq-eqb, ne_eqb, drop-cons}
use Rattle.command.specs.Rows.{short_row, row_of}
use Rattle.command.specs.Needs.{all_ff}
use Rattle.command.specs.Decode.{high_first}
use Rattle.std.specs.Prelude.{None}

-- ---- opcodes

-- the byte is no single opcode
abbrev pub NoSingle : ℕ → Type 0
NoSingle op =
    ((((((((Unit {0} × (op ≡ 0x00 → ⊥)) × (op ≡ 0x01 → ⊥)) × (op ≡ 0x02 → ⊥)) × (op ≡ 0x04 → ⊥)) × (op ≡ 0x05 → ⊥)) × (op ≡ 0x21 → ⊥)) × (op ≡ 0x22 → ⊥)) ×
    (op ≡ 0x25 → ⊥))
    × (op ≡ 0xFF → ⊥)

-- then the short accesses decide
pub no_single : (op : ℕ) → NoSingle op → row_of op ≡ short_row op
no_single op r =
    let (((((((((_, n00), n01), n02), n04), n05), n21), n22), n25), nFF) = r in
    simp (
      ne_eqb op 0x00 n00,
      ne_eqb op 0x01 n01,
      ne_eqb op 0x02 n02,
      ne_eqb op 0x04 n04,
      ne_eqb op 0x05 n05,
      ne_eqb op 0x21 n21,
      ne_eqb op 0x22 n22,
      ne_eqb op 0x25 n25,
      ne_eqb op 0xFF nFF,
    )

-- so it is between the single opcodes
pub middle : (op : ℕ) → 0x25 < op → op < 0xFF → row_of op ≡ short_row op
middle op l h =
    no_single op (
      (
        (((((((tt, λ e. omega arith), λ e. omega arith), λ e. omega arith), λ e. omega arith), λ e. omega arith), λ e. omega arith), λ e. omega arith),
        λ e.
            omega arith,
      ),
      λ e. omega arith,
    )

-- four opcodes in a row from a multiple of four
pub quad : (q op : ℕ) → q * 4 ≤ op → op ≤ q * 4 + 3 → op / 4 ≡ q
quad q op l h = omega arith

short_none : (op : ℕ) → (op / 4 ≡ 0x10 → ⊥) → (op / 4 ≡ 0x11 → ⊥) → (op / 4 ≡ 0x12 → ⊥) → (op / 4 ≡ 0x13 → ⊥) → short_row op ≡ None
short_none op h0 h1 h2 h3 = simp (ne_eqb (op / 4) 0x10 h0, ne_eqb (op / 4) 0x11 h1, ne_eqb (op / 4) 0x12 h2, ne_eqb (op / 4) 0x13 h3)

pub short_below : (op : ℕ) → op < 0x40 → short_row op ≡ None
short_below op h = short_none op (λ e. omega arith) (λ e. omega arith) (λ e. omega arith) (λ e. omega arith)

pub short_above : (op : ℕ) → 0x4F < op → short_row op ≡ None
short_above op h = short_none op (λ e. omega arith) (λ e. omega arith) (λ e. omega arith) (λ e. omega arith)

-- ---- all bytes FFh

-- from a place on
pub all_ff-end : (b : List ℕ) (i : ℕ) → length b ≤ i → all_ff (drop i b) ≡ true
unfolding all_ff
all_ff-end [] zero h = refl
all_ff-end [] (suc i) h = refl
all_ff-end (x ∷ xs) zero h = absurd (omega arith)
all_ff-end (x ∷ xs) (suc i) h = all_ff-end xs i (omega arith)

pub all_ff_next : (b : List ℕ) (i : ℕ) → i < length b → get_or b i 0 ≡ 0xFF → all_ff (drop (i + 1) b) ≡ all_ff (drop i b)
unfolding all_ff
all_ff_next b i h e = rw (add-one, drop-cons b i 0, eq-eqb (get_or b i 0) 0xFF e)

pub all_ff_stop : (b : List ℕ) (i : ℕ) → i < length b → (get_or b i 0 ≡ 0xFF → ⊥) → all_ff (drop i b) ≡ false
unfolding all_ff
all_ff_stop b i h e = rw (drop-cons b i 0, ne_eqb (get_or b i 0) 0xFF e)

-- ---- numbers of bytes

-- a byte of the n from a place on
pub byte_from : (b : List ℕ) (from n i : ℕ) → i < length (take (from + n - from) (drop from b))
    → (get_or (take (from + n - from) (drop from b)) i 0 ≡ get_or b (from + i) 0) × (i < n)
byte_from b from n i h =
    let l : i < from + n - from = omega (arith, length-take (from + n - from) (drop from b)) in
    (get_or-take (from + n - from) (drop from b) i 0 l ∙ get_or-drop from b i 0, omega arith)

pub high_next : (n at : ℕ) (b : List ℕ) {v x : ℕ} → v ≡ high_first n at b → x ≡ get_or b (at + n) 0 → v * 256 + x ≡ high_first (n + 1) at b
high_next n at b e f = rw (add-one, e, f)

pub power_next : (n v x : ℕ) → v < 256 ^ n → x < 256 → v * 256 + x < 256 ^ (n + 1)
power_next n v x h l = rw add-one (omega arith)

-- fewer bytes are less
pub within : (m n v : ℕ) → n ≤ m → v < 256 ^ n → v < 256 ^ m
within m n v h l = let up : 256 ^ n ≤ 256 ^ m = pow-le-pow_right (omega arith) h in omega arith
