-- Numbers as bytes, there and back: what packing and unpacking rest on.
-- ---- a number's bytes give it back
use Rattle.std.specs.Prelude.{ℕ, ◌+◌, ◌*◌, ◌%◌, ◌^◌, ◌<◌, List, [], ◌∷◌, ◌≡◌, get_or}
use Rattle.std.proofs.Common.{◌∙◌, mod-eq_of_lt, arith}
use Rattle.std.proofs.lemmas.Nat.{mod-pow-add}
use Rattle.base.specs.Bytes.{low4, low8, joined4, number4, number8}
use Rattle.base.specs.Numbers.{digit, joined, joined-high, low8-joined}

mod4 : (v : ℕ) → number4 0 (low4 v) ≡ v % 2 ^ 32
mod4 v = joined _ _ _ _ _ _ _ (mod-pow-add v 8 8) (mod-pow-add v 8 16) (mod-pow-add v 8 24)

mod8 : (v : ℕ) → number8 0 (low8 v) ≡ v % 2 ^ 64
mod8 v = joined-high _ _ _ _ _ _ _ _ _ _ (mod4 v) (mod-pow-add v 8 32) (mod-pow-add v 8 40) (mod-pow-add v 8 48) (mod-pow-add v 8 56)

-- ---- parts, one behind the other

pub back4 : (v : ℕ) → v < 2 ^ 32 → number4 0 (low4 v) ≡ v
back4 v h = mod4 v ∙ mod-eq_of_lt h

pub back8 : (v : ℕ) → v < 2 ^ 64 → number8 0 (low8 v) ≡ v
back8 v h = mod8 v ∙ mod-eq_of_lt h

-- ---- bytes are those of the number that they make

low4-joined : (a b c d : ℕ) → a < 256 → b < 256 → c < 256 → d < 256 → low4 (joined4 a b c d) ≡ a ∷ b ∷ c ∷ d ∷ []
low4-joined a b c d ha hb hc hd =
    let v = joined4 a b c d in
    let e₀ : v % 256 ≡ a = omega arith in
    rw (
      e₀,
      digit 256 v a b (c + d * 256) ha hb (omega arith),
      digit 65536 v (a + b * 256) c d (omega arith) hc (omega arith),
      digit 16777216 v (a + b * 256 + c * 65536) d 0 (omega arith) hd (omega arith),
    )

module _ (l : List ℕ) (byte : (k : ℕ) → get_or l k 0 < 256) (at : ℕ) where
  pub low4-number4 : low4 (number4 at l) ≡ get_or l at 0 ∷ get_or l (at + 1) 0 ∷ get_or l (at + 2) 0 ∷ get_or l (at + 3) 0 ∷ []
  low4-number4 = low4-joined _ _ _ _ (byte at) (byte (at + 1)) (byte (at + 2)) (byte (at + 3))

  pub low8-number8 : low8 (number8 at l)
      ≡ get_or l at 0 ∷ get_or l (at + 1) 0 ∷ get_or l (at + 2) 0 ∷ get_or l (at + 3) 0
      ∷ get_or l (at + 4) 0 ∷ get_or l (at + 4 + 1) 0 ∷ get_or l (at + 4 + 2) 0 ∷ get_or l (at + 4 + 3) 0 ∷ []
  low8-number8 =
      low8-joined _ _ _ _ _ _ _ _ (byte at) (byte (at + 1)) (byte (at + 2)) (byte (at + 3)) (byte (at + 4)) (byte (at + 4 + 1)) (byte (at + 4 + 2))
      (byte (at + 4 + 3))
