-- N, the number of blocks of P bytes that a read of L bytes at A touches.
use Rattle.std.specs.Prelude.{ℕ, suc, ◌+◌, ◌-◌, ◌*◌, ◌/◌, ◌%◌, ◌^◌, ◌≤◌, ◌<◌, Bool, true, false, ◌≡◌, refl, leb}
use Rattle.std.proofs.Common.{sym, ap, ◌∙◌, mod-lt, mul-le-mul_right, div-add-mod', div-mul-le_self, le-div_iff_mul-le, div-lt_iff_lt-mul, arith, pow-add, pow_pos, pow_mono, leb-true, leb-false}
use Rattle.std.proofs.Math.Arith.{mod-mul}
use Rattle.std.specs.Int.Bits.{bit_and}
use Rattle.std.proofs.lemmas.Nat.{and_mask}
use Rattle.pieces.specs.Pieces.{blocks}

-- a size of blocks that 4,096 bytes are made of, as every legal size is: a power of two
pub record Block (b : ℕ) : Type 0 where
  pub bits : ℕ
  pub power : b ≡ 2 ^ bits
  pub least : 1 ≤ b
  pub divides : 4096 % b ≡ 0

pub block_bits : (k : ℕ) → 4096 % 2 ^ k ≡ 0 → Block (2 ^ k)
block_bits k d = record { bits = k; power = refl; least = pow_pos k; divides = d }

-- so a number's low bits are its place in a block
pub low_bits : (n b : ℕ) → Block b → bit_and n (b - 1) ≡ n % b
low_bits n b h =
    ap (λ (x : ℕ). bit_and n (x - 1)) h.power ∙ and_mask n h.bits ∙ ap (λ (x : ℕ). n % x) (sym h.power)

div_mono : {a b : ℕ} (P : ℕ) → 0 < P → a ≤ b → a / P ≤ b / P
div_mono {a} {b} P p h = (le-div_iff_mul-le p).1 (omega (arith, div-mul-le_self a P))

pub blocks-suc : (A L P : ℕ) → blocks A L P ≡ suc ((A + L - 1) / P - A / P)
unfolding blocks
blocks-suc A L P = omega arith

pub blocks_pos : (A L P : ℕ) → 0 < blocks A L P
unfolding blocks
blocks_pos A L P = omega arith

pub blocks-sum : (A L P : ℕ) → 0 < P → 0 < L → A / P + blocks A L P ≡ (A + L - 1) / P + 1
unfolding blocks
blocks-sum A L P p l = omega (arith, div_mono {a = A} {b = A + L - 1} P p (omega arith))

pub blocks_le : (A L P n : ℕ) → 0 < P → 0 < L → A % P + L ≤ n * P → blocks A L P ≤ n
blocks_le A L P n p l h =
    let a : (A + L - 1) / P < A / P + n = (div-lt_iff_lt-mul p).1 (omega (arith, div-add-mod' A P)) in
    omega (arith, blocks-sum A L P p l)

-- a read within a block of R bytes, R being m blocks of P, or a part of one
pub blocks_many : (A L P m : ℕ) → 0 < P → 0 < m → 0 < L → A % (m * P) + L ≤ m * P → blocks A L P ≤ m
blocks_many A L P m p h l fits = blocks_le A L P m p l (omega (arith, mod-mul A {m = m} {c = P} h p))

pub blocks-one : (A L R m : ℕ) → 0 < R → 0 < m → 0 < L → A % R + L ≤ R → blocks A L (m * R) ≤ 1
blocks-one A L R m r h l fits =
    let e : A % (m * R) ≡ A / R % m * R + A % R = mod-mul A h r in
    let u : A / R % m * R + R ≤ m * R = omega (arith, mul-le-mul_right {m = A / R % m + 1} {n = m} R (omega (arith, mod-lt (A / R) h))) in
    blocks_le A L (m * R) 1 (omega arith) l (omega arith)

sizes_apart : (i j : ℕ) → i ≤ j → 64 * 2 ^ j ≡ 2 ^ (j - i) * (64 * 2 ^ i)
sizes_apart i j h =
    let e : 2 ^ (j - i + i) ≡ 2 ^ j = ap (λ (n : ℕ). 2 ^ n) (omega arith) in
    omega (arith, pow-add 2 (j - i) i)

-- "1 to 64": P is 64 times 2^i, and the read passes the size test of a read request size of 64 times 2^j, at most 4,096
pub blocks_64 : (A L i j : ℕ) → j ≤ 6 → 0 < L → A % (64 * 2 ^ j) + L ≤ 64 * 2 ^ j → blocks A L (64 * 2 ^ i) ≤ 64
blocks_64 A L i j top l fits = go (leb i j) refl
  where
    go : (t : Bool) → leb i j ≡ t → blocks A L (64 * 2 ^ i) ≤ 64
    go true e =
        let le : i ≤ j = leb-true i j e in
        omega (
          arith,
          blocks_many A L (64 * 2 ^ i) (2 ^ (j - i)) (omega (arith, pow_pos i)) (pow_pos (j - i)) l (rw (sizes_apart i j le) at fits),
          pow_mono {i = j - i} {j = 6} (omega arith),
        )
    go false e =
        let le : j ≤ i = omega (arith, leb-false i j e) in
        let one : blocks A L (64 * 2 ^ i) ≤ 1 = rw (sizes_apart j i le)
        (blocks-one A L (64 * 2 ^ j) (2 ^ (i - j)) (omega (arith, pow_pos j)) (pow_pos (i - j)) l fits) in
        omega arith

-- each byte of the read lies in one of them
pub block_of : (A L P x : ℕ) → 0 < P → A ≤ x → x < A + L → (k : ℕ) × (k < blocks A L P) × (x / P ≡ A / P + k)
unfolding blocks
block_of A L P x p from upto =
    let low : A / P ≤ x / P = div_mono P p from in
    let high : x / P ≤ (A + L - 1) / P = div_mono P p (omega arith) in
    (x / P - A / P, omega arith, omega arith)
