-- The sizes and counts that reachable registers say (01, Registers and status).
use Rattle.std.specs.Prelude.{ℕ, ◌≤◌, ◌<◌, Bool, true, false, ◌&&◌, ◌||◌, not, ◌≡◌, refl, eqb, ltb}
use Rattle.std.proofs.Common.{inl, inr, sym, subst, eq-or-lt_of_le, arith, eqb-true, ltb-false}
use Rattle.std.proofs.lemmas.Bool.{eqb-false, not-true}
use Rattle.base.specs.Pick.{and_left, and_right}
use Rattle.registers.specs.declared.Reg010.{Reg010}
use Rattle.registers.specs.Registers.{bits, forbidden008, forbidden010, size_of, payload_legal, read_legal, payload_size, read_size, write008, write010, write020, fresh008, fresh010, fresh020, reachable008, reachable010, reachable020}

-- ---- a reachable value is not forbidden, and its own write to the reset value leaves it

own : (x v : ℕ) (f : Bool) → eqb x v && not f ≡ true → (f ≡ false) × (v ≡ x)
own x v f h = (not-true f (and_right (eqb x v) (not f) h), sym (eqb-true x v (and_left (eqb x v) (not f) h)))

pub own008 : (v : ℕ) → reachable008 v ≡ true → (forbidden008 v ≡ false) × (v ≡ (write008 fresh008 v).value)
unfolding reachable008
own008 v = own (write008 fresh008 v).value v (forbidden008 v)

pub own010 : (v : ℕ) → reachable010 v ≡ true → (forbidden010 v ≡ false) × (v ≡ (write010 fresh010 v).value)
unfolding reachable010
own010 v = own (write010 fresh010 v).value v (forbidden010 v)

pub own020 : (v : ℕ) → reachable020 v ≡ true → v ≡ (write020 fresh020 v).value
unfolding reachable020
own020 v h = sym (eqb-true (write020 fresh020 v).value v h)

-- ---- sizes and counts

-- what a test of equality finds
pub at_equal : (Q : ℕ → Type 0) (p k : ℕ) → Q k → eqb p k ≡ true → Q p
at_equal Q p k q e = subst Q (sym (eqb-true p k e)) q

pub sizes : (size_of 1 ≡ 64) × (size_of 2 ≡ 128) × (size_of 3 ≡ 256) × (size_of 4 ≡ 512) × (size_of 5 ≡ 1024) × (size_of 6 ≡ 2048) × (size_of 7 ≡ 4096)
unfolding size_of
sizes = (refl, refl, refl, refl, refl, refl, refl)

-- from k on: n is k, or above it
from_on : (Q : ℕ → Type 0) (n k : ℕ) → Q k → (k < n → Q n) → k ≤ n → Q n
from_on Q n k q above h = elim (eq-or-lt_of_le h) [ inl e ↦ subst Q e q | inr l ↦ above l ]

pub payload_coded : (n : ℕ) → 1 ≤ n → n ≤ 3 → payload_legal (size_of n) ≡ true
unfolding size_of
payload_coded n l u =
    let is = from_on (λ (x : ℕ). payload_legal (size_of x) ≡ true) n in
    is 1 refl (is 2 refl (is 3 refl (λ h. absurd (omega (arith, h, u))))) l

pub read_coded : (n : ℕ) → 1 ≤ n → n ≤ 7 → read_legal (size_of n) ≡ true
unfolding size_of
read_coded n l u =
    let is = from_on (λ (x : ℕ). read_legal (size_of x) ≡ true) n in
    is 1 refl (is 2 refl (is 3 refl (is 4 refl (is 5 refl (is 6 refl (is 7 refl (λ h. absurd (omega (arith, h, u))))))))) l

-- the parts of a test that fails
or_left : (a b : Bool) → a || b ≡ false → a ≡ false
or_left true b e = e
or_left false b e = refl

or_right : (a b : Bool) → a || b ≡ false → b ≡ false
or_right true true e = e
or_right true false e = refl
or_right false b e = e

-- a field that is not 000
coded : (n : ℕ) → eqb n 0 ≡ false → 1 ≤ n
coded n e = let h = eqb-false n 0 e in omega (arith, h)

pub payload_legal_lem : (r : Reg010) → reachable010 r.value ≡ true → payload_legal (payload_size r) ≡ true
payload_legal_lem r h =
    let n = bits 10 8 r.value in
    let f = or_right (eqb (bits 14 12 r.value) 0) (eqb n 0 || ltb 3 n) (own010 r.value h).0 in
    payload_coded n (coded n (or_left (eqb n 0) (ltb 3 n) f)) (ltb-false 3 n (or_right (eqb n 0) (ltb 3 n) f))

pub read_legal_lem : (r : Reg010) → reachable010 r.value ≡ true → read_legal (read_size r) ≡ true
read_legal_lem r h =
    let n = bits 14 12 r.value in
    let m = bits 10 8 r.value in
    read_coded n (coded n (or_left (eqb n 0) (eqb m 0 || ltb 3 m) (own010 r.value h).0)) (omega arith)

-- a size that is legal is one of those listed
one_of : (Q : ℕ → Type 0) (p k : ℕ) {rest : Bool} → Q k → (rest ≡ true → Q p) → eqb p k || rest ≡ true → Q p
one_of Q p k {rest} q go = tested (eqb p k) refl
  where
    tested : (t : Bool) → eqb p k ≡ t → t || rest ≡ true → Q p
    tested true e h = at_equal Q p k q e
    tested false e h = go h

pub payload_cases : (Q : ℕ → Type 0) → Q 64 → Q 128 → Q 256 → (p : ℕ) → payload_legal p ≡ true → Q p
payload_cases Q a b d p =
    one_of Q p 64 a (one_of Q p 128 b (at_equal Q p 256 d))

pub read_cases : (Q : ℕ → Type 0) → Q 64 → Q 128 → Q 256 → Q 512 → Q 1024 → Q 2048 → Q 4096 → (p : ℕ) → read_legal p ≡ true → Q p
read_cases Q a b d e f g h p =
    one_of Q p 64 a (one_of Q p 128 b (one_of Q p 256 d (one_of Q p 512 e (one_of Q p 1024 f (one_of Q p 2048 g (at_equal Q p 4096 h))))))
