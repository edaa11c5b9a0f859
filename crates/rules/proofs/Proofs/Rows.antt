-- Laws of a list of rows, of which the first that applies gives the number.
use Rattle.std.specs.Prelude.{ℕ, ◌<◌, Bool, true, false, ◌&&◌, not, List, [], ◌∷◌, ◌++◌, ◌↔◌, ◌≡◌, refl, eqb, ltb}
use Rattle.std.proofs.Common.{true≢false, sym, ap, ◌∙◌, subst, arith, ltb-true}
use Rattle.std.proofs.lemmas.Bool.{eqb-false, not-true}
use Rattle.base.specs.Pick.{pick, pick_ind, and_left, and_right}
use Rattle.rules.specs.Statements.Rows.{Row, first_of, none_applies, First}

-- every row has a number, of one byte
abbrev pub has_number : Row → Bool
has_number r = not (eqb r.number 0) && ltb r.number 256

abbrev pub numbered : List Row → Bool
numbered [] = true
numbered (r ∷ rs) = has_number r && numbered rs

pub none_first : (rows : List Row) → numbered rows ≡ true → (first_of rows ≡ 0) ↔ (none_applies rows ≡ true)
none_first [] h = (λ _. refl, λ _. refl)
none_first (r ∷ rs) h = go (none_first rs (and_right (has_number r) (numbered rs) h)) r.applies
  where
    some : eqb r.number 0 ≡ false
    some = not-true (eqb r.number 0) (and_left (not (eqb r.number 0)) (ltb r.number 256) (and_left (has_number r) (numbered rs) h))

    go : (first_of rs ≡ 0) ↔ (none_applies rs ≡ true) → (t : Bool) → (pick t r.number (first_of rs) ≡ 0) ↔ (not t && none_applies rs ≡ true)
    go rest true = (λ e. absurd (eqb-false r.number 0 some e), λ e. absurd (true≢false (sym e)))
    go rest false = rest

pub first_small : (rows : List Row) → numbered rows ≡ true → first_of rows < 256
first_small [] h = omega arith
first_small (r ∷ rs) h =
    pick_ind (λ (n : ℕ). n < 256) r.applies
    (λ _. ltb-true r.number 256 (and_right (not (eqb r.number 0)) (ltb r.number 256) (and_left (has_number r) (numbered rs) h)))
    (λ _. first_small rs (and_right (has_number r) (numbered rs) h))

pub first : {n : ℕ} {rows : List Row} → numbered rows ≡ true → n ≡ first_of rows → First n rows
first {n} {rows} h e =
    let i = none_first rows h in
    record { first = e; accepted = (λ z. i.0 (sym e ∙ z), λ z. e ∙ i.1 z) }

-- ---- one list after the other

pub first_after : (xs ys : List Row) → none_applies xs ≡ true → first_of (xs ++ ys) ≡ first_of ys
first_after [] ys h = refl
first_after (x ∷ xs) ys h =
    let e : x.applies ≡ false = not-true x.applies (and_left (not x.applies) (none_applies xs) h) in
    ap (λ (t : Bool). pick t x.number (first_of (xs ++ ys))) e ∙ first_after xs ys (and_right (not x.applies) (none_applies xs) h)

pub none_after : (xs ys : List Row) → none_applies (xs ++ ys) ≡ true → none_applies ys ≡ true
none_after [] ys h = h
none_after (x ∷ xs) ys h = none_after xs ys (and_right (not x.applies) (none_applies (xs ++ ys)) h)

-- one of the first list applies
pub first_among : (xs ys : List Row) (n : ℕ) → 0 < n → n ≡ first_of xs → n ≡ first_of (xs ++ ys)
first_among [] ys n h = λ e. absurd (omega arith)
first_among (x ∷ xs) ys n h = go (first_among xs ys n h) x.applies
  where
    go : (n ≡ first_of xs → n ≡ first_of (xs ++ ys)) → (t : Bool) → n ≡ pick t x.number (first_of xs) → n ≡ pick t x.number (first_of (xs ++ ys))
    go rest true e = e
    go rest false e = rest e

-- ---- tests against rows, one by one

-- a number read off the one picked
pub read_off : {A : Type 0} (f : A → ℕ) (t : Bool) {x y : A} {m n : ℕ} → (t ≡ true → f x ≡ m) → (t ≡ false → f y ≡ n) → f (pick t x y) ≡ pick t m n
read_off f true g h = g refl
read_off f false g h = h refl

-- the same test in two forms, and what is left where it fails
pub same_test : (n : ℕ) (t u : Bool) {x y : ℕ} → t ≡ u → (t ≡ false → x ≡ y) → pick t n x ≡ pick u n y
same_test n t u {x} {y} e h = subst (λ (v : Bool). pick t n x ≡ pick v n y) e (go t refl)
  where
    go : (v : Bool) → t ≡ v → pick v n x ≡ pick v n y
    go true q = refl
    go false q = h q
