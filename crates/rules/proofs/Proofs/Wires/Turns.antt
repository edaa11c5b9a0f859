-- Going round in the statements' words is the going round of the wires' definitions.
use Rattle.std.specs.Prelude.{ℕ, zero, suc, ◌+◌, ◌-◌, ◌<◌, ◌≤◌, Bool, true, false, ◌&&◌, ◌≡◌, refl, eqb, ltb, leb}
use mathlib.Core.List.Memᴰ
use mathlib.Core.List.{List, [], ◌∷◌, ◌++◌, Memᴰ}
use Rattle.std.proofs.Common.{⊎_elim, sym, ap, ap₂, subst, ◌∙◌, arith, eqb-true, ltb-false, lt-ltb, le-ltb}
use Rattle.std.proofs.lemmas.Bool.{eqb-false}
use Rattle.base.specs.Pick.{pick}
use Rattle.wires.specs.Below.{at_every}
use Rattle.wires.specs.Table.{is_line, senders, group_at}
use Rattle.wires.specs.Turn.{after, turn, place_after, sizes}
use Rattle.wires.specs.Groups.{mark_at, group_byte}
use Rattle.wires.specs.Lines.{line_bit, line_entries}
use Rattle.wires.specs.Senders as A
use Rattle.wires.specs.Senders.{AllWires, sender_size, waiting, sent_from, pair_bytes, entries}
use Rattle.wires.specs.Round.{AllBelow, none, more, after_below}
use Rattle.rules.specs.Statements.WireSteps.{next_turn, group_of, waits_at, room_at, room_of, turns, waiting_of, fitting_of, entries_at, entries_of}

-- ---- one sender

group_is : (k : ℕ) → 256 ≤ k → k < 259 → group_at k ≡ group_of k
group_is k l h =
    let q : 256 + (k - 256) ≡ k = omega arith in
    subst (λ (j : ℕ). group_at j ≡ group_of j) q
    (eqb-true _ _ (at_every 3 (λ (j : ℕ). eqb (group_at (256 + j)) (group_of (256 + j))) refl (k - 256) (omega arith)))

-- a group behind the lines has its own number, whatever is read of it
by_group : {X : Type 0} (f : ℕ → X) (x : X) (k : ℕ) → k < 259 → pick (is_line k) x (f (group_at k)) ≡ pick (is_line k) x (f (group_of k))
by_group f x k h = go (ltb k 256) refl
  where
    go : (t : Bool) → ltb k 256 ≡ t → pick t x (f (group_at k)) ≡ pick t x (f (group_of k))
    go true e = refl
    go false e = ap f (group_is k (ltb-false k 256 e) h)

pub waits_as : (w : AllWires) (k : ℕ) → k < 259 → waiting w k ≡ waits_at w k
waits_as w k h = by_group (mark_at w.groups) (line_bit w.lines.waits k) k h

pub edge_as : (w : AllWires) (k : ℕ) → sender_size w k ≡ room_at w k
edge_as w k = go (ltb k 256) (line_bit w.lines.edges k)
  where
    go : (a b : Bool) → ◌≡◌ {A = ℕ} (pick a (pick b 2 1) 1) (pick (a && b) 2 1)
    go true true = refl
    go true false = refl
    go false b = refl

pub entry_as : (w : AllWires) (k : ℕ) → k < 259 → A.entries_of w k ≡ entries_at w k
entry_as w k h = by_group (λ (i : ℕ). i ∷ group_byte w.groups i ∷ []) (line_entries w.lines k) k h

pub next_as : (k : ℕ) → k < 259 → after senders k ≡ next_turn k
unfolding after
next_as k h = go (eqb k 258) refl
  where
    go : (t : Bool) → eqb k 258 ≡ t → pick (ltb (suc k) 259) (suc k) 0 ≡ pick t 0 (k + 1)
    go true e = let q = eqb-true k 258 e in ap (λ (b : Bool). pick b (suc k) 0) (le-ltb (suc k) 259 (omega arith))
    go false e = let q = eqb-false k 258 e in ap (λ (b : Bool). pick b (suc k) 0) (lt-ltb (suc k) 259 (omega arith)) ∙ omega arith

-- ---- a packet

turn_as : (w : AllWires) (left room k : ℕ) → k < 259
    → turn (sender_size w) (waiting w) senders left room k ≡ fitting_of w room (waiting_of w (turns left k))
unfolding turn fitting_of waiting_of turns
turn_as w zero room k h = refl
turn_as w (suc left) room k h =
    ap (λ (t : Bool). pick t (pick (leb (sender_size w k) room) (k ∷ on-from (room - sender_size w k)) []) (on-from room)) (waits_as w k h)
    ∙ go (λ c. turn_as w left c (after senders k) (after_below senders k h)) (waits_at w k)
  where
    on-from : ℕ → List ℕ
    on-from c = turn (sender_size w) (waiting w) senders left c (after senders k)

    rest : List ℕ
    rest = waiting_of w (turns left (next_turn k))

    later : ((c : ℕ) → on-from c ≡ fitting_of w c (waiting_of w (turns left (after senders k)))) → (c : ℕ) → on-from c ≡ fitting_of w c rest
    later f c = f c ∙ ap (λ (i : ℕ). fitting_of w c (waiting_of w (turns left i))) (next_as k h)

    go : ((c : ℕ) → on-from c ≡ fitting_of w c (waiting_of w (turns left (after senders k)))) → (t : Bool)
        → pick t (pick (leb (sender_size w k) room) (k ∷ on-from (room - sender_size w k)) []) (on-from room) ≡ fitting_of w room (pick t (k ∷ rest) rest)
    go f true =
        ap (λ (z : ℕ). pick (leb z room) (k ∷ on-from (room - z)) []) (edge_as w k)
        ∙ ap (λ (l : List ℕ). pick (leb (room_at w k) room) (k ∷ l) []) (later f (room - room_at w k))
    go f false = later f room

pub sent_first : (w : AllWires) (k room : ℕ) → k < 259 → sent_from w k room ≡ fitting_of w room (waiting_of w (turns 259 k))
unfolding sent_from
sent_first w k room h = turn_as w 259 room k h

pub room_as : (w : AllWires) (ks : List ℕ) → entries w ks ≡ room_of w ks
unfolding sizes room_of
room_as w [] = refl
room_as w (k ∷ ks) = ap₂ (λ (a b : ℕ). a + b) (edge_as w k) (room_as w ks)

pub entries_as : {ks : List ℕ} (w : AllWires) → AllBelow senders ks → pair_bytes w ks ≡ entries_of w ks
unfolding pair_bytes entries_of
entries_as w none = refl
entries_as w (more {i = k} h hs) = ap₂ (λ (a b : List ℕ). a ++ b) (entry_as w k h) (entries_as w hs)

-- ---- the place behind the last one sent

pub mem_below : {ks : List ℕ} → AllBelow senders ks → (k : ℕ) → Memᴰ k ks → k < 259
mem_below none k m = absurd (Memᴰ.not-nil m)
mem_below (more {i = i} h hs) k m = ⊎_elim (λ e. subst (λ (j : ℕ). j < 259) (sym e) h) (mem_below hs k) (Memᴰ.cases_cons m)

last-place : (p : ℕ) (xs : List ℕ) (last : ℕ) → place_after senders p (xs ++ (last ∷ [])) ≡ after senders last
unfolding place_after
last-place p [] last = refl
last-place p (x ∷ xs) last = last-place (after senders x) xs last

last_below : (xs : List ℕ) (last : ℕ) → AllBelow senders (xs ++ (last ∷ [])) → last < 259
last_below [] last (more h hs) = h
last_below (x ∷ xs) last (more h hs) = last_below xs last hs

pub place-last : {ks : List ℕ} (p : ℕ) → AllBelow senders ks → (xs : List ℕ) (last : ℕ) → ks ≡ xs ++ (last ∷ []) → place_after senders p ks ≡ next_turn last
place-last p b xs last e =
    ap (place_after senders p) e ∙ last-place p xs last ∙ next_as last (last_below xs last (subst (AllBelow senders) e b))
