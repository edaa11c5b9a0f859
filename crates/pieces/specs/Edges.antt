-- Edges between the pieces of a read, and the piece that comes next after the bytes sent.
use Rattle.std.specs.Prelude.{ℕ, zero, suc, ◌+◌, ◌-◌, ◌*◌, ◌/◌, ◌%◌, ◌≤◌, ◌<◌, Bool, true, false, ◌≢◌, ◌⊎◌, ◌≡◌, refl, eqb}
use Rattle.std.proofs.Common.{inl, inr, sym, ap, ◌∙◌, add-zero, div-add-mod', arith, eqb-true, eq-eqb, ne_eqb}
use Rattle.std.proofs.Math.Nat.{mod-lt, mod-add-mod, mod-mod_of_dvd, dvd_of_mod-eq-zero, mul-mod_left, mul-le-mul_right, div-mul-le_self, lt-div-mul-add, div-eq_of_lt-le}
use Rattle.std.proofs.Math.Arith.{lt_of_le-ne}
use Rattle.std.proofs.lemmas.Bool.{eqb-false}
use Rattle.pieces.specs.Blocks.{blocks_pos, blocks-sum, block_of}
use Rattle.pieces.specs.Pieces.{blocks, edge, next_size}

pub edge_le : (A L P k : ℕ) → edge A L P k ≤ L
unfolding edge
edge_le A L P k = omega arith

pub edge-up : (A L P k : ℕ) → edge A L P k ≤ edge A L P (suc k)
unfolding edge
edge-up A L P k = omega arith

pub edge-zero : (A L P : ℕ) → edge A L P 0 ≡ 0
unfolding edge
edge-zero A L P = omega (arith, div-mul-le_self A P)

-- an edge past the first lies no later than its block's end
pub edge_below : (A L P k : ℕ) → 0 < P → A + edge A L P (suc k) ≤ (A / P + suc k) * P
unfolding edge
edge_below A L P k p = omega (arith, lt-div-mul-add {a = A} p)

-- ---- the next piece, at any place

-- blocks that divide 4,096 bytes: the low bits of an address tell its place in one
pub place_low : (A P s : ℕ) → 4096 % P ≡ 0 → (A % 4096 + s) % P ≡ (A + s) % P
place_low A P s d =
    sym (mod-add-mod (A % 4096) P s) ∙ ap (λ (x : ℕ). (x + s) % P) (mod-mod_of_dvd P A (dvd_of_mod-eq-zero P d)) ∙ mod-add-mod A P s

pub next_le : (A L P s : ℕ) → s < L → s + next_size A L P s ≤ L
unfolding next_size
next_le A L P s h = omega arith

pub next_pos : (A L P s : ℕ) → 0 < P → s < L → 0 < next_size A L P s
unfolding next_size
next_pos A L P s p h = omega (arith, mod-lt (A + s) p)

-- the end of a piece short of the whole is a block's
next_whole : (A L P s : ℕ) → 0 < P → s < L → s + next_size A L P s ≢ L → A + (s + next_size A L P s) ≡ ((A + s) / P + 1) * P
unfolding next_size
next_whole A L P s p h e = omega (arith, mod-lt (A + s) p, div-add-mod' (A + s) P)

pub next_ok : (A L P s : ℕ) → 0 < P → s < L → s + next_size A L P s ≢ L → (s + next_size A L P s < L) × ((A + (s + next_size A L P s)) % P ≡ 0)
next_ok A L P s p h e = (lt_of_le-ne (next_le A L P s h) e, rw (next_whole A L P s p h e) (mul-mod_left _ P))

-- ---- the edges of a read

module _ (A L P : ℕ) (p : 0 < P) (l : 0 < L) where
  pub edge-last : edge A L P (blocks A L P) ≡ L
  unfolding edge
  edge-last = rw (blocks-sum A L P p l) (omega (arith, lt-div-mul-add {a = A + L - 1} p))

  pub edge-short : (k : ℕ) → k < blocks A L P → edge A L P k < L
  unfolding edge
  edge-short k h =
      let within : A / P + k ≤ (A + L - 1) / P = omega (arith, blocks-sum A L P p l) in
      omega (arith, div-mul-le_self (A + L - 1) P, mul-le-mul_right P within)

  -- past the first and before the last, an edge is a block's
  pub edge_whole : (k : ℕ) → suc k < blocks A L P → A + edge A L P (suc k) ≡ (A / P + suc k) * P
  unfolding edge
  edge_whole k h = omega (arith, edge-short (suc k) h, lt-div-mul-add {a = A} p)

  -- an edge before the last lies in the block that it begins, the read's own first byte for k = 0
  pub edge_div : (k : ℕ) → k < blocks A L P → (A + edge A L P k) / P ≡ A / P + k
  edge_div zero h = rw (edge-zero A L P, add-zero A, add-zero (A / P))
  edge_div (suc k) h = div-eq_of_lt-le P (omega (arith, edge_whole k h)) (omega (arith, edge_whole k h))

  -- what a place in its block says of the next edge
  from_place : (k s : ℕ) → s < L → (A + s) / P ≡ A / P + k → edge A L P (suc k) ≡ s + next_size A L P s
  unfolding next_size edge
  from_place k s h e = omega (arith, mod-lt (A + s) p, rw e at (div-add-mod' (A + s) P))

  pub edge_next : (k : ℕ) → k < blocks A L P → edge A L P (suc k) ≡ edge A L P k + next_size A L P (edge A L P k)
  edge_next k h = from_place k (edge A L P k) (edge-short k h) (edge_div k h)

  -- 0 bytes are sent exactly before the first piece, and all exactly after the last
  pub edge_first : (k : ℕ) → k < blocks A L P → eqb (edge A L P k) 0 ≡ eqb k 0
  edge_first zero h = rw edge-zero
  edge_first (suc k) h =
      let before : k < blocks A L P = omega arith in
      ne_eqb (edge A L P (suc k)) 0 (λ e. omega (arith, edge_next k before, next_pos A L P (edge A L P k) p (edge-short k before))) ∙ sym
      (ne_eqb (suc k) 0 (λ e. omega arith))

  pub edge-all : (k : ℕ) → k < blocks A L P → eqb (edge A L P (suc k)) L ≡ eqb (suc k) (blocks A L P)
  edge-all k h = go (eqb (suc k) (blocks A L P)) refl
    where
      go : (t : Bool) → eqb (suc k) (blocks A L P) ≡ t → eqb (edge A L P (suc k)) L ≡ t
      go true e = eq-eqb (edge A L P (suc k)) L (rw (eqb-true (suc k) (blocks A L P) e) edge-last)
      go false e = ne_eqb (edge A L P (suc k)) L (λ q. omega (arith, edge-short (suc k) (lt_of_le-ne h (eqb-false _ _ e))))

at_block : (A L P s k : ℕ) → s < L → (A + s) / P ≡ A / P + k → (A + s) % P ≡ 0 → s ≡ edge A L P k
unfolding edge
at_block A L P s k h b e = omega (arith, rw b at (div-add-mod' (A + s) P))

-- a place that is the start or a block's is an edge before the last
pub edge_of_lem : (A L P s : ℕ) → 0 < P → s < L → (s ≡ 0) ⊎ ((A + s) % P ≡ 0) → (k : ℕ) × (k < blocks A L P) × (s ≡ edge A L P k)
edge_of_lem A L P s p h (inl e) = (0, blocks_pos A L P, e ∙ sym (edge-zero A L P))
edge_of_lem A L P s p h (inr e) = let b = block_of A L P (A + s) p (omega arith) (omega arith) in (b.0, b.1, at_block A L P s b.0 h b.2 e)
