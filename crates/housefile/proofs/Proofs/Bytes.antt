-- Two bytes and the number that they make; parts of a list of bytes.
use Rattle.std.specs.Prelude.{ℕ, suc, ◌+◌, ◌*◌, ◌/◌, ◌%◌, ◌<◌, List, [], ◌∷◌, ◌++◌, ◌≡◌, length, get_or, drop}
use Rattle.std.proofs.Common.{sym, subst, mod-lt, mod-eq_of_lt, zero-add, arith, get_or-drop, get_or-append-add}
use Rattle.std.proofs.Math.Nat.{add-mul-div_right, div-eq_of_lt}
use Rattle.base.specs.Bytes.{low2}
use Rattle.base.specs.AllBytes.{AllBytes, all_none, all_cons}
use Rattle.housefile.specs.Format.{number2}

low2-joined : (a b : ℕ) → a < 256 → b < 256 → low2 (a + b * 256) ≡ a ∷ b ∷ []
low2-joined a b ha hb =
    let e₀ : (a + b * 256) % 256 ≡ a = omega arith in
    let z : 0 < 256 = omega arith in
    let e₁ : (a + b * 256) / 256 ≡ b = rw (add-mul-div_right a b z, div-eq_of_lt ha, zero-add) in
    rw (e₀, e₁, mod-eq_of_lt hb)

-- two bytes are those of the number that they make
pub low2-number2 : (l : List ℕ) → AllBytes l → (at : ℕ) → low2 (number2 at l) ≡ get_or l at 0 ∷ get_or l (at + 1) 0 ∷ []
low2-number2 l h at = low2-joined _ _ (h.byte at) (h.byte (at + 1))

-- and a number is that of its two bytes
pub back2 : (v : ℕ) → v < 65536 → v % 256 + v / 256 % 256 * 256 ≡ v
back2 v h = omega arith

pub all-low2 : (v : ℕ) → AllBytes (low2 v)
all-low2 v = all_cons (mod-lt v (omega arith)) (all_cons (mod-lt (v / 256) (omega arith)) all_none)

pub all_left : (a b : List ℕ) → AllBytes (a ++ b) → AllBytes a
all_left [] b h = all_none
all_left (x ∷ a) b h = all_cons (h.byte 0) (all_left a b (record { byte = λ k. h.byte (suc k) }))

pub all_right : (a b : List ℕ) → AllBytes (a ++ b) → AllBytes b
all_right a b h = record { byte = λ k. subst (λ (x : ℕ). x < 256) (get_or-append-add a b k 0) (h.byte (length a + k)) }

pub all_drop : (n : ℕ) (l : List ℕ) → AllBytes l → AllBytes (drop n l)
all_drop n l h = record { byte = λ k. subst (λ (x : ℕ). x < 256) (sym (get_or-drop n l k 0)) (h.byte (n + k)) }
