-- P21 over any machine whose packets go round: any number of senders, each of size 1 or 2, and any capacity that fits every one of them. A sender
-- that waits is taken by the next packet, or that packet takes its share of those before it; and fewer than there are senders stand before it.
use Prim.Native.Nat.{ℕ, zero, suc, ◌+◌, ◌-◌, ◌*◌, ◌/◌, ◌≤◌, ◌<◌}
use Rattle.std.specs.Prelude.{Bool, ◌⊎◌, ◌≡◌, eqb, ltb, leb}
use Rattle.std.proofs.Math.Bool.{true, false}
use mathlib.Core.List.Memᴰ
use mathlib.Core.List.{List, [], ◌∷◌, Memᴰ}
use Rattle.std.proofs.Common.{inl, inr, ⊎_elim, ◌∙◌, zero-add, mul-le-mul_right}
use Rattle.std.proofs.Math.Path.{refl, ap}
use native.Mathlib.Omega.{arith}
use Rattle.std.proofs.Math.ListN.{length}
use borrow.Author.Tests.{ltb-true, ltb-false, leb-true, leb-false, le-leb, lt-leb, lt-ltb, le-ltb, eqb-true, eqb-false}
use Rattle.base.specs.Pick.{pick, pick_ind}
use Rattle.base.specs.Bytes.{bit, bit_below}
use Rattle.wires.specs.Below.{count}
use Rattle.wires.specs.Turn.{turn, after, place_after, sizes}

clash : {X : Type 0} → ◌≡◌ {A = ℕ} 0 1 → X
clash e = absurd (omega arith)

-- ---- the senders are those below n

pub data AllBelow (n : ℕ) : List ℕ → Type 0 where
  none : AllBelow n []
  more : {i : ℕ} {is : List ℕ} → i < n → AllBelow n is → AllBelow n (i ∷ is)

pub below_each : {n : ℕ} {is : List ℕ} → AllBelow n is → (i : ℕ) → Memᴰ i is → i < n
below_each none i m = absurd (Memᴰ.not-nil m)
below_each {n} (more h hs) i m = ⊎_elim (λ e. rw e h) (below_each hs i) (Memᴰ.cases_cons m)

pub after_below : (n i : ℕ) → i < n → after n i < n
unfolding after
after_below n i h = pick_ind (λ (k : ℕ). k < n) (ltb (suc i) n) (λ e. ltb-true _ _ e) (λ _. omega arith)

pub turn_below : (size : ℕ → ℕ) (waits : ℕ → Bool) (n left capacity i : ℕ) → i < n → AllBelow n (turn size waits n left capacity i)
unfolding turn
turn_below size waits n zero capacity i h = none
turn_below size waits n (suc left) capacity i h =
    pick_ind (AllBelow n) (waits i)
    (λ _. pick_ind (AllBelow n) (leb (size i) capacity) (λ _. more h (turn_below size waits n left (capacity - size i) (after n i) (after_below n i h)))
    (λ _. none))
    (λ _. turn_below size waits n left capacity (after n i) (after_below n i h))

pub place_below : (n p : ℕ) {is : List ℕ} → p < n → AllBelow n is → place_after n p is < n
unfolding place_after
place_below n p h none = h
place_below n p h (more {i = i} k ks) = place_below n (after n i) (after_below n i k) ks

-- ---- how much a packet holds

-- no more than its capacity
pub turn-fits : (size : ℕ → ℕ) (waits : ℕ → Bool) (n left capacity i : ℕ) → sizes size (turn size waits n left capacity i) ≤ capacity
unfolding turn sizes
turn-fits size waits n zero capacity i = omega arith
turn-fits size waits n (suc left) capacity i =
    let Q : List ℕ → Type 0 = λ is. sizes size is ≤ capacity in
    pick_ind Q (waits i)
    (λ _. pick_ind Q (leb (size i) capacity) (λ e. omega (arith, leb-true (size i) capacity e, turn-fits size waits n left (capacity - size i) (after n i)))
    (λ _. omega arith))
    (λ _. turn-fits size waits n left capacity (after n i))

-- a full packet takes none
pub turn_full : (size : ℕ → ℕ) (waits : ℕ → Bool) (n left i : ℕ) → ((k : ℕ) → 1 ≤ size k) → turn size waits n left 0 i ≡ []
unfolding turn
turn_full size waits n zero i h = refl
turn_full size waits n (suc left) i h =
    pick_ind (λ (is : List ℕ). is ≡ []) (waits i)
    (λ _. ap (λ (b : Bool). pick b (i ∷ turn size waits n left (0 - size i) (after n i)) []) (lt-leb (size i) 0 (h i)))
    (λ _. turn_full size waits n left (after n i) h)

-- ---- steps round

-- j steps on from i
unfoldable pub steps : ℕ → ℕ → ℕ → ℕ
steps n zero i = i
steps n (suc j) i = steps n j (after n i)

pub steps_up : (n j i : ℕ) → i + j < n → steps n j i ≡ i + j
unfolding steps after
steps_up n zero i h = omega arith
steps_up n (suc j) i h = ap (λ (b : Bool). steps n j (pick b (suc i) 0)) (lt-ltb (suc i) n (omega arith)) ∙ steps_up n j (suc i) (omega arith) ∙ omega arith

pub steps_add : (n a b i : ℕ) → steps n (a + b) i ≡ steps n b (steps n a i)
unfolding steps
steps_add n zero b i = ap (λ (k : ℕ). steps n k i) (zero-add b)
steps_add n (suc a) b i =
    let e : suc a + b ≡ suc (a + b) = omega arith in
    ap (λ (k : ℕ). steps n k i) e ∙ steps_add n a b (after n i)

-- round to the first sender
pub steps_round : (n i : ℕ) → i < n → steps n (n - i) i ≡ 0
unfolding steps after
steps_round n i h =
    let j = n - i - 1 in
    let e : n - i ≡ j + 1 = omega arith in
    ap (λ (k : ℕ). steps n k i) e ∙ steps_add n j 1 i
    ∙ ap (after n) (steps_up n j i (omega arith)) ∙ ap (λ (b : Bool). pick b (suc (i + j)) 0) (le-ltb (suc (i + j)) n (omega arith))

-- each sender is fewer than n steps from each place
pub reached : (n i g : ℕ) → i < n → g < n → (j : ℕ) × (j < n) × (steps n j i ≡ g)
reached n i g hi hg = go (leb i g) refl
  where
    go : (b : Bool) → leb i g ≡ b → (j : ℕ) × (j < n) × (steps n j i ≡ g)
    go true e = let l = leb-true i g e in (g - i, omega arith, steps_up n (g - i) i (omega arith) ∙ omega arith)
    go false e =
        let l = leb-false i g e in
        (n - i + g, omega arith, steps_add n (n - i) g i ∙ ap (steps n g) (steps_round n i hi) ∙ steps_up n g 0 (omega arith) ∙ omega arith)

-- ---- how many of the senders before one may wait

-- how many of the first n the test holds of: the senders that may wait at all (02, Q-4: "a bound from the number of senders")
unfoldable pub those : ℕ → (ℕ → Bool) → ℕ
those n may = count n may

-- how many may wait of the j senders from i on (01, Wires: "going round")
unfoldable pub ahead : (may : ℕ → Bool) (n j i : ℕ) → ℕ
ahead may n zero i = 0
ahead may n (suc j) i = bit (may i) + ahead may n j (after n i)

pub those-suc : (n : ℕ) (may : ℕ → Bool) → those (suc n) may ≡ bit (may n) + those n may
unfolding those
those-suc n may = refl

pub those-zero : (may : ℕ → Bool) → those 0 may ≡ 0
unfolding those
those-zero may = refl

-- all of them
pub those-all : (n : ℕ) → those n (λ _. true) ≡ n
those-all zero = those-zero (λ _. true)
those-all (suc n) = omega (arith, those-suc n (λ _. true), those-all n)

-- those of a last part alone
pub those-last : (l k : ℕ) (may : ℕ → Bool) → ((i : ℕ) → i < l → may i ≡ false) → those (l + k) may ≤ k
those-last zero zero may h = omega (arith, those-zero may)
those-last (suc l) zero may h = let e : suc l + 0 ≡ suc (l + 0) = omega arith in
    let z = ap bit (h (l + 0) (omega arith)) in
    let u = ap (λ (x : ℕ). those x may) e in
    omega (arith, u, those-suc (l + 0) may, those-last l zero may (λ i q. h i (omega arith)))
those-last l (suc k) may h = let e : l + suc k ≡ suc (l + k) = omega arith in
    let u = ap (λ (x : ℕ). those x may) e in
    omega (arith, u, those-suc (l + k) may, bit_below (may (l + k)), those-last l k may h)

module _ (may : ℕ → Bool) (n : ℕ) where
  ahead-zero : (i : ℕ) → ahead may n 0 i ≡ 0
  unfolding ahead
  ahead-zero i = refl

  ahead-suc : (j i : ℕ) → ahead may n (suc j) i ≡ bit (may i) + ahead may n j (after n i)
  unfolding ahead
  ahead-suc j i = refl

  ahead_add : (a b i : ℕ) → ahead may n (a + b) i ≡ ahead may n a i + ahead may n b (steps n a i)
  unfolding steps
  ahead_add zero b i = let e : 0 + b ≡ b = omega arith in rw e (omega (arith, ahead-zero i))
  ahead_add (suc a) b i =
      let e : suc a + b ≡ suc (a + b) = omega arith in
      rw e (omega (arith, ahead-suc (a + b) i, ahead-suc a i, ahead_add a b (after n i)))

  -- up to the last one
  ahead-up : (j i : ℕ) → i + j ≤ n → those i may + ahead may n j i ≡ those (i + j) may
  unfolding after
  ahead-up zero i h = let e : i + 0 ≡ i = omega arith in rw e (omega (arith, ahead-zero i))
  ahead-up (suc zero) i h = let e : i + 1 ≡ suc i = omega arith in rw e (omega (arith, ahead-suc 0 i, ahead-zero (after n i), those-suc i may))
  ahead-up (suc (suc j)) i h =
      let e : i + suc (suc j) ≡ suc i + suc j = omega arith in
      let f : after n i ≡ suc i = ap (λ (b : Bool). pick b (suc i) 0) (lt-ltb (suc i) n (omega arith)) in
      let g = ap (ahead may n (suc j)) f in
      rw e (omega (arith, ahead-suc (suc j) i, g, those-suc i may, ahead-up (suc j) (suc i) (omega arith)))

  -- going round all of them each is met once
  pub ahead-all : (p : ℕ) → p < n → ahead may n n p ≡ those n may
  ahead-all p h =
      let e : n ≡ n - p + p = omega arith in
      let f : p + (n - p) ≡ n = omega arith in
      let z : 0 + p ≡ p = omega arith in
      let round = ap (λ (k : ℕ). ahead may n k p) e ∙ ahead_add (n - p) p p in
      let first = ap (ahead may n p) (steps_round n p h) in
      let up = ahead-up (n - p) p (omega arith) ∙ ap (λ (k : ℕ). those k may) f in
      let rest = ahead-up p 0 (omega arith) ∙ ap (λ (k : ℕ). those k may) z in
      omega (arith, round, first, up, rest, those-zero may)

  -- so fewer stand before one of them than there are
  pub ahead_fewer : (j p g : ℕ) → j < n → p < n → steps n j p ≡ g → may g ≡ true → ahead may n j p < those n may
  ahead_fewer j p g hj hp t e =
      let d = n - j - 1 in
      let f : n ≡ j + suc d = omega arith in
      let whole = ap (λ (k : ℕ). ahead may n k p) f ∙ ahead_add j (suc d) p in
      let there = ap (ahead may n (suc d)) t in
      let one = ap bit e in
      omega (arith, ahead-all p hp, whole, there, ahead-suc d g, one)

-- ---- what a packet does for a sender j steps off

-- the least number of senders that a packet of this capacity takes where it leaves one waiting: "max(1, c / 2)", each being of size 1 or 2
-- (02, Q-4: "a bound from the number of senders and the operating count"; docs/DECISIONS.md, 67)
abbrev pub share : ℕ → ℕ
share c = pick (ltb c 2) 1 (c / 2)

pub share-some : (c : ℕ) → 1 ≤ share c
share-some c = pick_ind (λ (k : ℕ). 1 ≤ k) (ltb c 2) (λ _. omega arith) (λ e. omega (arith, ltb-false c 2 e))

share_most : (c k : ℕ) → 1 ≤ k → c ≤ k * 2 + 1 → share c ≤ k
share_most c k h l = pick_ind (λ (x : ℕ). x ≤ k) (ltb c 2) (λ _. h) (λ e. omega arith)

pub share_more : (c d : ℕ) → c ≤ d → share c ≤ share d
share_more c d h =
    share_most c (share d) (share-some d)
    (pick_ind (λ (x : ℕ). c ≤ x * 2 + 1) (ltb d 2) (λ e. omega (arith, ltb-true d 2 e)) (λ e. omega arith))

module _ (may : ℕ → Bool) (n : ℕ) where
  -- of a packet's senders xs: g is among them; or g is k steps from the place after them, with so many fewer ahead; or the first did not fit
  data Sweep (g a capacity : ℕ) (xs : List ℕ) : Type 0 where
    hit : Memᴰ g xs → Sweep g a capacity xs
    nearer : (k : ℕ) → k < n → ((p : ℕ) → (steps n k (place_after n p xs) ≡ g) × (ahead may n k (place_after n p xs) + length xs ≤ a))
        → 1 ≤ length xs → capacity ≤ length xs * 2 + 1 → Sweep g a capacity xs
    closed : xs ≡ [] → capacity ≤ 1 → Sweep g a capacity xs

  sweep_later : {g a b capacity : ℕ} {xs : List ℕ} → a ≤ b → Sweep g a capacity xs → Sweep g b capacity xs
  sweep_later l (hit h) = hit h
  sweep_later l (nearer k b h o c) = nearer k b (λ p. ((h p).0, omega (arith, (h p).1))) o c
  sweep_later l (closed e c) = closed e c

  sweep_cons : {g a b j capacity : ℕ} {xs : List ℕ} (i d : ℕ) → j < n → steps n j (after n i) ≡ g → ahead may n j (after n i) ≡ a
      → suc a ≤ b → d ≤ capacity + 2 → Sweep g a capacity xs → Sweep g b d (i ∷ xs)
  unfolding place_after
  sweep_cons i d hj t f l s (hit h) = hit (Memᴰ.tail h)
  sweep_cons i d hj t f l s (nearer k b h o c) = nearer k b (λ p. ((h (after n i)).0, omega (arith, (h (after n i)).1))) (omega arith) (omega arith)
  sweep_cons {j = j} i d hj t f l s (closed e c) =
      let z = ap length e in
      nearer j hj (λ p. (rw e t, rw e (omega arith))) (omega arith) (omega arith)

  module _ (size : ℕ → ℕ) (waits : ℕ → Bool) (small : (i : ℕ) → i < n → size i ≤ 2) (can : (i : ℕ) → i < n → waits i ≡ true → may i ≡ true) where
    sweeps : (left capacity i j : ℕ) → i < n → j < n → j < left → waits (steps n j i) ≡ true
        → Sweep (steps n j i) (ahead may n j i) capacity (turn size waits n left capacity i)
    unfolding turn steps
    sweeps zero capacity i j h b l e = absurd (omega arith)
    sweeps (suc left) capacity i zero h b l e =
        let Q = Sweep i (ahead may n 0 i) capacity in
        pick_ind Q (waits i)
        (λ _. pick_ind Q (leb (size i) capacity) (λ _. hit (Memᴰ.head refl)) (λ q. closed refl (omega (arith, leb-false (size i) capacity q, small i h))))
        (λ f. clash (cc))
    sweeps (suc left) capacity i (suc j) h b l e =
        let Q = Sweep (steps n j (after n i)) (ahead may n (suc j) i) capacity in
        let k = after_below n i h in
        pick_ind Q (waits i)
        (λ w. pick_ind Q (leb (size i) capacity)
        (λ q. let one = ap bit (can i h w) in
        sweep_cons {j = j} i capacity (omega arith) refl refl (omega (arith, ahead-suc may n j i)) (omega (arith, small i h))
        (sweeps left (capacity - size i) (after n i) j k (omega arith) (omega arith) e))
        (λ q. closed refl (omega (arith, leb-false (size i) capacity q, small i h))))
        (λ _. sweep_later (omega (arith, ahead-suc may n j i)) (sweeps left capacity (after n i) j k (omega arith) (omega arith) e))

module _ (size : ℕ → ℕ) (waits : ℕ → Bool) (n : ℕ) where
  filled : (left capacity i : ℕ) → ((k : ℕ) → k < n → size k ≤ capacity) → i < n
      → pick (leb (size i) capacity) (i ∷ turn size waits n left (capacity - size i) (after n i)) [] ≡ [] → ⊥
  filled left capacity i f h q =
      let z : ◌≡◌ {A = ℕ} 0 1 = cc (le-leb (size i) capacity (f i h)) in
      omega arith

  -- one that waits and is not beyond those asked keeps the packet from being empty
  pub some-taken : (left capacity i j : ℕ) → ((k : ℕ) → k < n → size k ≤ capacity) → i < n → j < left → waits (steps n j i) ≡ true
      → turn size waits n left capacity i ≡ [] → ⊥
  unfolding turn steps
  some-taken zero capacity i j f h l e = absurd (omega arith)
  some-taken (suc left) capacity i zero f h l e =
      pick_ind (λ (xs : List ℕ). xs ≡ [] → ⊥) (waits i) (λ _. filled left capacity i f h) (λ t. clash (cc))
  some-taken (suc left) capacity i (suc j) f h l e =
      pick_ind (λ (xs : List ℕ). xs ≡ [] → ⊥) (waits i) (λ _. filled left capacity i f h)
      (λ _. some-taken left capacity (after n i) j f (after_below n i h) (omega arith) e)

  -- none that waits: nothing is taken
  pub none_taken : (left capacity i : ℕ) → i < n → ((k : ℕ) → k < n → waits k ≡ false) → turn size waits n left capacity i ≡ []
  unfolding turn
  none_taken zero capacity i h f = refl
  none_taken (suc left) capacity i h f =
      let t = turn size waits n left in
      ap (λ (b : Bool). pick b (pick (leb (size i) capacity) (i ∷ t (capacity - size i) (after n i)) []) (t capacity (after n i))) (f i h)
      ∙ none_taken left capacity (after n i) (after_below n i h) f

-- the packet takes g, or it does not and leaves a place with its share of senders fewer ahead of g
data Next (may : ℕ → Bool) (n g a capacity p : ℕ) (xs : List ℕ) : Type 0 where
  takes : Memᴰ g xs → Next may n g a capacity p xs
  nears : (Memᴰ g xs → ⊥) → (k : ℕ) → k < n → steps n k (place_after n p xs) ≡ g → ahead may n k (place_after n p xs) + share capacity ≤ a
      → Next may n g a capacity p xs

member : (g : ℕ) (xs : List ℕ) → Memᴰ g xs ⊎ (Memᴰ g xs → ⊥)
member g [] = inr Memᴰ.not-nil
member g (x ∷ xs) = go (eqb g x) refl (member g xs)
  where
    go : (b : Bool) → eqb g x ≡ b → Memᴰ g xs ⊎ (Memᴰ g xs → ⊥) → Memᴰ g (x ∷ xs) ⊎ (Memᴰ g (x ∷ xs) → ⊥)
    go true e m = inl (Memᴰ.head (eqb-true g x e))
    go false e (inl m) = inl (Memᴰ.tail m)
    go false e (inr m) = inr (λ h. ⊎_elim (eqb-false g x e) m (Memᴰ.cases_cons h))

-- what a packet asks of its senders: sizes of 1 or 2 that fit, and that those which wait are among those that may (02, Q-4: "two entries in one packet")
pub record Fit (may : ℕ → Bool) (n capacity : ℕ) (size : ℕ → ℕ) (waits : ℕ → Bool) : Type 0 where
  pub small : (i : ℕ) → i < n → size i ≤ 2
  pub fits : (i : ℕ) → i < n → size i ≤ capacity
  pub can : (i : ℕ) → i < n → waits i ≡ true → may i ≡ true

-- a sender that waits, j steps from the place
turn_nears : (may : ℕ → Bool) (size : ℕ → ℕ) (waits : ℕ → Bool) (n capacity p g j : ℕ) → Fit may n capacity size waits
    → p < n → j < n → steps n j p ≡ g → waits g ≡ true → Next may n g (ahead may n j p) capacity p (turn size waits n n capacity p)
turn_nears may size waits n capacity p g j f hp hj t e =
    go (rw t at (sweeps may n size waits f.small f.can n capacity p j hp hj hj (rw t e))) (member g (turn size waits n n capacity p))
  where
    go : Sweep may n g (ahead may n j p) capacity (turn size waits n n capacity p)
        → Memᴰ g (turn size waits n n capacity p) ⊎ (Memᴰ g (turn size waits n n capacity p) → ⊥)
        → Next may n g (ahead may n j p) capacity p (turn size waits n n capacity p)
    go s (inl m) = takes m
    go (hit h) (inr m) = takes h
    go (nearer k b h o c) (inr m) =
        nears m k b (h p).0 (omega (arith, (h p).1, share_most capacity (length (turn size waits n n capacity p)) o c))
    go (closed q c) (inr m) = absurd (some-taken size waits n n capacity p j f.fits hp hj (rw t e) q)

-- ---- a machine whose packets go round

-- a call may send a packet: of those that wait, each of its size, from the place on, as many as its capacity holds
pub record Machine (S C : Type 0) : Type 0 where
  pub next : S → C → S
  pub packs : S → C → Bool
  pub size : S → ℕ → ℕ
  pub waits : S → ℕ → Bool
  pub capacity : S → ℕ
  pub place : S → ℕ

module _ {S C : Type 0} (m : Machine S C) (n : ℕ) where
  abbrev pub packet : S → List ℕ
  packet s = turn (m.size s) (m.waits s) n n (m.capacity s) (m.place s)

  -- what a call weighs: one, or its share of the senders, where it sends a packet (02, Q-4: "the bound of three .. becomes a bound from the number of
  -- senders and the operating count")
  abbrev pub one : S → C → ℕ
  one s c = bit (m.packs s c)

  -- .. its share (02, Q-4; docs/DECISIONS.md, 67)
  abbrev pub part : S → C → ℕ
  part s c = pick (m.packs s c) (share (m.capacity s)) 0

  -- the calls of a run together: with `one` its packets, with `part` their shares (02, Q-4)
  unfoldable pub weights : (S → C → ℕ) → S → List C → ℕ
  weights weigh s [] = 0
  weights weigh s (c ∷ cs) = weigh s c + weights weigh (m.next s c) cs

  -- the packets of a run
  abbrev pub packets : S → List C → ℕ
  packets s cs = weights one s cs

  -- g is in a packet of the run, and the calls before that packet weigh less than k: with `one`, g is in one of the first k packets
  pub data SentWithin (weigh : S → C → ℕ) (g : ℕ) : ℕ → S → List C → Type 0 where
    here : {k : ℕ} {s : S} {c : C} {cs : List C} → m.packs s c ≡ true → Memᴰ g (packet s) → SentWithin weigh g (suc k) s (c ∷ cs)
    later : {k : ℕ} {s : S} {c : C} {cs : List C} (i : ℕ) → weigh s c + i ≤ k → SentWithin weigh g i (m.next s c) cs → SentWithin weigh g k s (c ∷ cs)

  -- each packet of the run holds c entries or more (02, Q-4: "the operating count")
  pub data AllHold (c : ℕ) : S → List C → Type 0 where
    none_more : {s : S} → AllHold c s []
    hold : {s : S} {x : C} {xs : List C} → (m.packs s x ≡ true → c ≤ m.capacity s) → AllHold c (m.next s x) xs → AllHold c s (x ∷ xs)

  -- then so many packets weigh at least so many times that share
  pub weights_hold : (c : ℕ) (s : S) {cs : List C} → AllHold c s cs → packets s cs * share c ≤ weights part s cs
  unfolding weights
  weights_hold c s none_more = omega arith
  weights_hold c s (hold {x = x} {xs = xs} h a) = go (m.packs s x) h (weights_hold c (m.next s x) a)
    where
      go : (b : Bool) → (b ≡ true → c ≤ m.capacity s) → packets (m.next s x) xs * share c ≤ weights part (m.next s x) xs
          → (bit b + packets (m.next s x) xs) * share c ≤ pick b (share (m.capacity s)) 0 + weights part (m.next s x) xs
      go true f l = omega (arith, share_more c (m.capacity s) (f refl))
      go false f l = omega arith

  fewer : (c g k : ℕ) (b : ℕ) (s : S) {cs : List C} → AllHold c s cs → k ≤ b * share c → SentWithin part g k s cs → SentWithin one g b s cs
  fewer c g k zero s a l (here p q) = absurd (omega arith)
  fewer c g k (suc b) s a l (here p q) = here p q
  fewer c g k b s (hold {x = x} {xs = xs} h a) l (later i w t) = go (m.packs s x) refl b l w (λ d q. fewer c g i d (m.next s x) a q t)
    where
      go : (t : Bool) → m.packs s x ≡ t → (b : ℕ) → k ≤ b * share c → pick t (share (m.capacity s)) 0 + i ≤ k
          → ((d : ℕ) → i ≤ d * share c → SentWithin one g d (m.next s x) xs) → SentWithin one g b s (x ∷ xs)
      go true e zero l w rest = absurd (omega (arith, share-some (m.capacity s)))
      go true e (suc b) l w rest =
          let o = ap bit e in later {k = suc b} {s = s} {c = x} b (omega arith) (rest b (omega (arith, share_more c (m.capacity s) (h e))))
      go false e b l w rest = let o = ap bit e in later {k = b} {s = s} {c = x} b (omega arith) (rest b (omega arith))

  module _ (may : ℕ → Bool) where
    -- what a call may do while g waits: without a packet it leaves the place, and g waiting; a packet has room for any one, and moves the place on
    pub data Moves (g : ℕ) (s : S) (c : C) : Type 0 where
      stays : m.packs s c ≡ false → m.place (m.next s c) ≡ m.place s → m.waits (m.next s c) g ≡ true → Moves g s c
      sends : m.packs s c ≡ true → Fit may n (m.capacity s) (m.size s) (m.waits s) → m.place (m.next s c) ≡ place_after n (m.place s) (packet s)
          → ((Memᴰ g (packet s) → ⊥) → m.waits (m.next s c) g ≡ true) → Moves g s c

    pub data AllMove (g : ℕ) : S → List C → Type 0 where
      over : {s : S} → AllMove g s []
      on : {s : S} {c : C} {cs : List C} → (m.waits s g ≡ true → Moves g s c) → AllMove g (m.next s c) cs → AllMove g s (c ∷ cs)

    module _ (g : ℕ) where
      abbrev Later : ℕ → S → List C → Type 0
      Later k s cs = m.place s < n → steps n k (m.place s) ≡ g → m.waits s g ≡ true → ahead may n k (m.place s) < weights part s cs
          → SentWithin part g (suc (ahead may n k (m.place s))) s cs

      -- the bound: of the packets since it waits, those before the one that takes it have shares that come to no more than the senders ahead of it
      pub sent-after : (cs : List C) (s : S) (j : ℕ) → j < n → m.place s < n → steps n j (m.place s) ≡ g → m.waits s g ≡ true → AllMove g s cs
          → ahead may n j (m.place s) < weights part s cs → SentWithin part g (suc (ahead may n j (m.place s))) s cs
      unfolding weights
      sent-after [] s j hj hp t e a l = absurd (omega arith)
      sent-after (c ∷ cs) s j hj hp t e (on f a) l = go (f e) (λ k b p q w x. sent-after cs (m.next s c) k b p q w a x)
        where
          A : ℕ
          A = ahead may n j (m.place s)

          sent : m.packs s c ≡ true → m.place (m.next s c) ≡ place_after n (m.place s) (packet s)
              → ((Memᴰ g (packet s) → ⊥) → m.waits (m.next s c) g ≡ true) → Next may n g A (m.capacity s) (m.place s) (packet s)
              → ((k : ℕ) → k < n → Later k (m.next s c) cs) → SentWithin part g (suc A) s (c ∷ cs)
          sent p q w (takes h) rest = here p h
          sent p q w (nears h k b u d) rest =
              let o = ap (λ (x : Bool). pick x (share (m.capacity s)) 0) p in
              let v : m.place (m.next s c) < n = rw q
              (place_below n (m.place s) hp (turn_below (m.size s) (m.waits s) n n (m.capacity s) (m.place s) hp)) in
              let y = ap (ahead may n k) q in
              later {k = suc A} {s = s} {c = c} (suc (ahead may n k (m.place (m.next s c)))) (omega arith)
              (rest k b v (ap (steps n k) q ∙ u) (w h) (omega arith))

          go : Moves g s c → ((k : ℕ) → k < n → Later k (m.next s c) cs) → SentWithin part g (suc A) s (c ∷ cs)
          go (stays p q w) rest =
              let o = ap (λ (x : Bool). pick x (share (m.capacity s)) 0) p in
              let y = ap (ahead may n j) q in
              later {k = suc A} {s = s} {c = c} (suc (ahead may n j (m.place (m.next s c)))) (omega arith)
              (rest j hj (rw q hp) (ap (steps n j) q ∙ t) w (omega arith))
          go (sends p fit q w) rest = sent p q w (turn_nears may (m.size s) (m.waits s) n (m.capacity s) (m.place s) g j fit hp hj t e) rest

      sooner : {weigh : S → C → ℕ} {k l : ℕ} {s : S} {cs : List C} → k ≤ l → SentWithin weigh g k s cs → SentWithin weigh g l s cs
      sooner {l = zero} h (here p q) = absurd (omega arith)
      sooner {l = suc l} h (here p q) = here p q
      sooner {l = l} h (later {s = s} {c = c} i b t) = later {k = l} {s = s} {c = c} i (omega arith) t

      -- by the packet with which the shares reach the number of senders that may wait
      pub sent_weighed : (cs : List C) (s : S) → m.place s < n → g < n → may g ≡ true → m.waits s g ≡ true → AllMove g s cs
          → those n may ≤ weights part s cs → SentWithin part g (those n may) s cs
      sent_weighed cs s hp hg y e a l =
          let r = reached n (m.place s) g hp hg in
          let f = ahead_fewer may n r.0 (m.place s) g r.1 hp r.2 y in
          sooner f (sent-after cs s r.0 r.1 hp r.2 e a (omega arith))

      -- "by the B-th accepted one, B the least whole number with B * max(1, c / 2) >= n", where each packet holds c entries or more: in one of the first B
      pub sent-within : (c b : ℕ) (cs : List C) (s : S) → m.place s < n → g < n → may g ≡ true → m.waits s g ≡ true → AllMove g s cs → AllHold c s cs
          → those n may ≤ b * share c → b ≤ packets s cs → SentWithin one g b s cs
      sent-within c b cs s hp hg y e a h l k =
          let t = weights_hold c s h in
          let u : b * share c ≤ packets s cs * share c = mul-le-mul_right (share c) k in
          fewer c g (those n may) b s h l (sent_weighed cs s hp hg y e a (omega arith))
