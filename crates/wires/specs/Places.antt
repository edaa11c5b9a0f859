-- Where the wires stand in the state's bytes: what one byte changed there makes of them.
use Rattle.std.specs.Prelude.{ℕ, zero, suc, ◌+◌, ◌-◌, ◌/◌, ◌%◌, ◌^◌, ◌≤◌, ◌<◌, Bool, true, false, ◌≡◌, refl, eqb, ltb, set}
use mathlib.Core.List.{List, [], ◌∷◌, ◌++◌, map, append_assoc}
use Rattle.std.proofs.Math.Path.{sym, ap}
use Rattle.std.proofs.Common.{subst, ◌∙◌, mod-eq_of_lt, length-append, take-append-drop, get_or-set_other, drop-set-lt, drop-drop, eqb-true, ltb-true, ltb-false}
use native.Mathlib.Omega.{arith}
use Rattle.std.proofs.lemmas.Nat.{and_le_l}
use Rattle.std.proofs.Math.ListN.{get_or, length, take, drop, length-set, get_or-eq_default}
use Rattle.std.proofs.Math.Seq.{get_or-set_same, take-nil}
use Rattle.std.proofs.lemmas.List.{set-get_or, take-set-le}
use Rattle.base.specs.Bytes.{bit, put}
use Rattle.base.specs.Numbers.{listed, listed-drop, join}
use Rattle.wires.specs.Table.{senders, is_line, group_at}
use Rattle.wires.specs.Below.{at_every}
use Rattle.wires.specs.Groups.{level_at, mark_at, with_place}
use Rattle.wires.specs.Lines.{map_length, map_in, map_bytes, bytes_from, lines_in, lines_bytes, line_value, byte_with, with_bit}
use Rattle.wires.specs.Senders.{AllWires, left_by}
use Rattle.wires.specs.Layout.{wires_in, wires_bytes, all_bytes, wires_same}
use Rattle.wires.specs.MapBytes.{listed_at}
use Rattle.wires.specs.Turn.{after}
use Rattle.wires.specs.Kept.{set_cases}
use Rattle.wires.specs.Sent.{left_line, left_group}
use Rattle.wires.specs.declared.Wires.{Wires}

-- ---- some bytes of a list, one by one

listed-beside : (n at i v : ℕ) (l : List ℕ) → ((k : ℕ) → k < n → at + k ≡ i → ⊥) → listed n at (set l i v) ≡ listed n at l
listed-beside zero at i v l h = refl
listed-beside (suc n) at i v l h =
    ap (λ (x : ℕ). x ∷ listed n (suc at) (set l i v)) (get_or-set_other l i at v 0 (λ e. h 0 (omega arith) (omega arith)))
    ∙ ap (λ (xs : List ℕ). get_or l at 0 ∷ xs) (listed-beside n (suc at) i v l (λ k q e. h (suc k) (omega arith) (omega arith)))

listed_own : (n at j v : ℕ) (l : List ℕ) → j < n → at + j < length l → listed n at (set l (at + j) v) ≡ set (listed n at l) j v
listed_own zero at j v l h b = absurd (omega arith)
listed_own (suc n) at zero v l h b =
    let z : at + 0 ≡ at = omega arith in
    ap (λ (i : ℕ). listed (suc n) at (set l i v)) z
    ∙ ap (λ (x : ℕ). x ∷ listed n (suc at) (set l at v)) (get_or-set_same l at v 0 (omega arith))
    ∙ ap (λ (xs : List ℕ). v ∷ xs) (listed-beside n (suc at) at v l (λ k q e. omega arith))
listed_own (suc n) at (suc j) v l h b =
    let z : at + suc j ≡ suc at + j = omega arith in
    ap (λ (x : ℕ). x ∷ listed n (suc at) (set l (at + suc j) v)) (get_or-set_other l (at + suc j) at v 0 (λ e. omega arith))
    ∙ ap (λ (i : ℕ). get_or l at 0 ∷ listed n (suc at) (set l i v)) z
    ∙ ap (λ (xs : List ℕ). get_or l at 0 ∷ xs) (listed_own n (suc at) j v l (omega arith) (omega arith))

-- ---- the maps

pub map_get : (at j : ℕ) (l : List ℕ) → j < 32 → get_or (map_in at l) j 0 ≡ get_or l (at + j) 0
unfolding map_in
map_get at j l h = listed_at map_length at l j h

-- a line's bit where its byte stands
pub line_get : (at n : ℕ) (l : List ℕ) → n < 256 → line_value (map_in at l) n ≡ get_or l (at + n / 8) 0 / 2 ^ (n % 8) % 2
line_get at n l h = ap (λ (x : ℕ). x / 2 ^ (n % 8) % 2) (map_get at (n / 8) l (omega arith))

pub map_own : (at j v : ℕ) (l : List ℕ) → j < 32 → at + j < length l → map_in at (set l (at + j) v) ≡ set (map_in at l) j v
unfolding map_in
map_own at j v l h b = listed_own map_length at j v l h b

pub map-beside : (at i v : ℕ) (l : List ℕ) → ((k : ℕ) → k < 32 → at + k ≡ i → ⊥) → map_in at (set l i v) ≡ map_in at l
unfolding map_in
map-beside at i v l h = listed-beside map_length at i v l h

pub map-drop : (at : ℕ) (l : List ℕ) → at + 32 ≤ length l → map_in at l ≡ take 32 (drop at l)
unfolding map_in
map-drop at l h = listed-drop map_length at l h

from_bytes : (n i : ℕ) (m : List ℕ) → ((j : ℕ) → get_or m j 0 < 256) → bytes_from n i m ≡ listed n i m
from_bytes zero i m h = refl
from_bytes (suc n) i m h = ap (λ (x : ℕ). x ∷ bytes_from n (suc i) m) (mod-eq_of_lt (h i)) ∙ ap (λ (xs : List ℕ). get_or m i 0 ∷ xs) (from_bytes n (suc i) m h)

bytes-length : (n i : ℕ) (m : List ℕ) → length (bytes_from n i m) ≡ n
bytes-length zero i m = refl
bytes-length (suc n) i m = omega (arith, bytes-length n (suc i) m)

pub map-length : (m : List ℕ) → length (map_bytes m) ≡ 32
unfolding map_bytes
map-length m = bytes-length map_length 0 m

-- bytes read one by one from a place, read again
listed_again : (n k i at : ℕ) (l : List ℕ) → listed n i (listed (i + n + k) at l) ≡ listed n (at + i) l
listed_again zero k i at l = refl
listed_again (suc n) k i at l =
    let e : i + suc n + k ≡ suc i + n + k = omega arith in
    let f : at + suc i ≡ suc (at + i) = omega arith in
    ap (λ (x : ℕ). x ∷ listed n (suc i) (listed (i + suc n + k) at l)) (listed_at (i + suc n + k) at l i (omega arith))
    ∙ ap (λ (x : ℕ). get_or l (at + i) 0 ∷ listed n (suc i) (listed x at l)) e
    ∙ ap (λ (xs : List ℕ). get_or l (at + i) 0 ∷ xs) (listed_again n k (suc i) at l ∙ ap (λ (x : ℕ). listed n x l) f)

map-bytes : (n at : ℕ) (l : List ℕ) → ((j : ℕ) → get_or l j 0 < 256) → bytes_from n 0 (listed n at l) ≡ listed n at l
map-bytes n at l h =
    let e : 0 + n + 0 ≡ n = omega arith in
    let z : at + 0 ≡ at = omega arith in
    from_bytes n 0 (listed n at l) (λ j. go j (ltb j n) refl)
    ∙ ap (λ (x : ℕ). listed n 0 (listed x at l)) (sym e)
    ∙ listed_again n 0 0 at l
    ∙ ap (λ (x : ℕ). listed n x l) z
  where
    length-listed : (k i : ℕ) → length (listed k i l) ≡ k
    length-listed zero i = refl
    length-listed (suc k) i = omega (arith, length-listed k (suc i))

    go : (j : ℕ) (b : Bool) → ltb j n ≡ b → get_or (listed n at l) j 0 < 256
    go j true e = subst (λ (x : ℕ). x < 256) (sym (listed_at n at l j (ltb-true j n e))) (h (at + j))
    go j false e = let z = get_or-eq_default (listed n at l) 0 {n = j} (omega (arith, length-listed n at, ltb-false j n e)) in omega arith

-- a map's bytes are those that stand there
pub map_back : (at : ℕ) (l : List ℕ) → ((j : ℕ) → get_or l j 0 < 256) → map_bytes (map_in at l) ≡ map_in at l
unfolding map_bytes map_in
map_back at l h = map-bytes map_length at l h

-- ---- a line's bit made 0 where it stands

-- the list with line n's bit of the map at a place made 0 (01, Wires: "and their pending marks go")
unfoldable pub cleared : (at n : ℕ) → List ℕ → List ℕ
cleared at n l = set l (at + n / 8) (byte_with (get_or l (at + n / 8) 0) (n % 8) false)

pub cleared_own : (at n : ℕ) (l : List ℕ) → n < 256 → at + 32 ≤ length l → map_in at (cleared at n l) ≡ with_bit (map_in at l) n false
unfolding cleared with_bit
cleared_own at n l h b =
    map_own at (n / 8) (byte_with (get_or l (at + n / 8) 0) (n % 8) false) l (omega arith) (omega arith)
    ∙ ap (λ (x : ℕ). set (map_in at l) (n / 8) (byte_with x (n % 8) false)) (sym (map_get at (n / 8) l (omega arith)))

pub cleared-map : (at other n : ℕ) (l : List ℕ) → n < 256 → ((k : ℕ) → k < 32 → (j : ℕ) → j < 32 → other + k ≡ at + j → ⊥)
    → map_in other (cleared at n l) ≡ map_in other l
unfolding cleared
cleared-map at other n l h f = map-beside other (at + n / 8) _ l (λ k q e. f k q (n / 8) (omega arith) e)

pub cleared-length : (at n : ℕ) (l : List ℕ) → length (cleared at n l) ≡ length l
unfolding cleared
cleared-length at n l = length-set l (at + n / 8) _

pub cleared_low : (at n k : ℕ) (l : List ℕ) → k < at → get_or (cleared at n l) k 0 ≡ get_or l k 0
unfolding cleared
cleared_low at n k l h = get_or-set_other l (at + n / 8) k _ 0 (λ e. omega arith)

pub cleared-bytes : (at n : ℕ) (l : List ℕ) → ((k : ℕ) → get_or l k 0 < 256) → (k : ℕ) → get_or (cleared at n l) k 0 < 256
unfolding cleared
cleared-bytes at n l h k =
    set_cases (λ (x : ℕ). x < 256) l (at + n / 8) k _ 0 (λ _. omega (arith, and_le_l (get_or l (at + n / 8) 0) (255 - 2 ^ (n % 8)), h (at + n / 8))) (h k)

-- ---- beside them nothing is changed

all-length : (w : AllWires) → length (all_bytes w) ≡ 110
all-length w =
    let a = length-append (wires_bytes w.groups) (lines_bytes w.lines) in
    let b = length-append (map_bytes w.lines.level) (map_bytes w.lines.waits ++ map_bytes w.lines.edges) in
    let c = length-append (map_bytes w.lines.waits) (map_bytes w.lines.edges) in
    omega (arith, map-length w.lines.level, map-length w.lines.waits, map-length w.lines.edges)

-- a byte of theirs that is changed is hidden by all of them put there
pub put_hides : (w : AllWires) (k v : ℕ) (l : List ℕ) → 64 ≤ k → k < 174 → put 64 (all_bytes w) (set l k v) ≡ put 64 (all_bytes w) l
unfolding put
put_hides w k v l a b =
    let z = all-length w in
    ap (λ (xs : List ℕ). xs ++ all_bytes w ++ drop (64 + length (all_bytes w)) (set l k v)) (take-set-le 64 l k v a)
    ∙ ap (λ (xs : List ℕ). take 64 l ++ all_bytes w ++ xs) (drop-set-lt (64 + length (all_bytes w)) l k v (omega arith))

pub cleared_hides : (w : AllWires) (at n : ℕ) (l : List ℕ) → n < 256 → 64 ≤ at → at ≤ 142 → put 64 (all_bytes w) (cleared at n l) ≡ put 64 (all_bytes w) l
unfolding cleared
cleared_hides w at n l h a b = put_hides w (at + n / 8) _ l (omega arith) (omega arith)

-- ---- the wires, with the place at which going round stands so far

-- the wires in the bytes, with another going-round place: its two bytes are written once, behind the last one sent (docs/DECISIONS.md, 66)
abbrev pub placed : List ℕ → ℕ → AllWires
placed l q = record { groups = with_place (wires_in l) q; lines = lines_in l }

-- all wires of the same parts
parts : {g g' : Wires} {a a' b b' c c' : List ℕ} → g ≡ g' → a ≡ a' → b ≡ b' → c ≡ c'
    → ◌≡◌ {A = AllWires} (record { groups = g; lines = record { level = a; waits = b; edges = c } })
    (record { groups = g'; lines = record { level = a'; waits = b'; edges = c' } })
parts p q r s = cc

-- a line's two bits made 0: it is sent
pub line_left_lem : (l : List ℕ) (q n : ℕ) → n < 256 → is_line n ≡ true → 174 ≤ length l
    → placed (cleared 142 n (cleared 110 n l)) (after senders n) ≡ left_by (placed l q) n
line_left_lem l q n h e long =
    let a = cleared 110 n l in
    let la = cleared-length 110 n l in
    let groups : wires_in (cleared 142 n a) ≡ wires_in l =
    wires_same (cleared 142 n a) l (λ k b. cleared_low 142 n k a (omega arith) ∙ cleared_low 110 n k l (omega arith)) in
    let level : map_in 78 (cleared 142 n a) ≡ map_in 78 l =
    cleared-map 142 78 n a h (λ k x j y z. omega arith) ∙ cleared-map 110 78 n l h (λ k x j y z. omega arith) in
    let waits : map_in 110 (cleared 142 n a) ≡ with_bit (map_in 110 l) n false =
    cleared-map 142 110 n a h (λ k x j y z. omega arith) ∙ cleared_own 110 n l h (omega arith) in
    let edges : map_in 142 (cleared 142 n a) ≡ with_bit (map_in 142 l) n false =
    cleared_own 142 n a h (omega arith) ∙ ap (λ (m : List ℕ). with_bit m n false) (cleared-map 110 142 n l h (λ k x j y z. omega arith)) in
    let p = after senders n in
    parts (ap (λ (g : Wires). with_place g p) groups) level waits edges
    ∙ sym (left_line (placed l q) n e)

-- ---- a group's mark made 0

map-set : {A B : Type 0} (f : A → B) (l : List A) (i : ℕ) (x : A) → map f (set l i x) ≡ set (map f l) i (f x)
map-set f [] i x = refl
map-set f (y ∷ l) zero x = refl
map-set f (y ∷ l) (suc i) x = ap (λ (r : List _). f y ∷ r) (map-set f l i x)

-- groups 4 to 6 stand behind the lines
pub group_number : (i : ℕ) → 256 ≤ i → i < 259 → group_at i ≡ i - 252
group_number i h l =
    let j = i - 256 in
    let e : 256 + j ≡ i = omega arith in
    let q : eqb (group_at (256 + j)) (4 + j) ≡ true = at_every 3 (λ (j : ℕ). eqb (group_at (256 + j)) (4 + j)) refl j (omega arith) in
    ap group_at (sym e) ∙ eqb-true (group_at (256 + j)) (4 + j) q ∙ omega arith

-- its mark and its level where they stand
pub group_mark : (l : List ℕ) (i : ℕ) → 256 ≤ i → i < 259 → mark_at (wires_in l) (group_at i) ≡ eqb (get_or l (i - 184) 0) 1
group_mark l i h b =
    let j = i - 254 in
    let e : i - 252 - 2 ≡ j = omega arith in
    let f : 70 + j ≡ i - 184 = omega arith in
    ap (λ (x : ℕ). get_or (wires_in l).pending (x - 2) false) (group_number i h b)
    ∙ ap (λ (x : ℕ). get_or (wires_in l).pending x false) e
    ∙ get_map (λ (x : ℕ). eqb x 1) (listed 6 70 l) j 0
    ∙ ap (λ (x : ℕ). eqb x 1) (listed_at 6 70 l j (omega arith))
    ∙ ap (λ (x : ℕ). eqb (get_or l x 0) 1) f
  where
    get_map : (f : ℕ → Bool) (m : List ℕ) (j d : ℕ) → get_or (map f m) j (f d) ≡ f (get_or m j d)
    get_map f [] j d = refl
    get_map f (x ∷ m) zero d = refl
    get_map f (x ∷ m) (suc j) d = get_map f m j d

pub group_level : (l : List ℕ) (i : ℕ) → 256 ≤ i → i < 259 → level_at (wires_in l) (group_at i) ≡ get_or l (i - 190) 0
group_level l i h b =
    let j = i - 254 in
    let e : i - 252 - 2 ≡ j = omega arith in
    let f : 64 + j ≡ i - 190 = omega arith in
    ap (λ (x : ℕ). get_or (wires_in l).level (x - 2) 0) (group_number i h b)
    ∙ ap (λ (x : ℕ). get_or (wires_in l).level x 0) e
    ∙ listed_at 6 64 l j (omega arith)
    ∙ ap (λ (x : ℕ). get_or l x 0) f

marked_off : (l : List ℕ) (j p : ℕ) → j < 6 → 78 ≤ length l
    → with_place (wires_in (set l (70 + j) 0)) p
    ≡ record { level = set (wires_in l).level j (get_or (wires_in l).level j 0); pending = set (wires_in l).pending j false; place = p }
marked_off l j p h b =
    let levels : (wires_in (set l (70 + j) 0)).level ≡ set (wires_in l).level j (get_or (wires_in l).level j 0) =
    listed-beside 6 64 (70 + j) 0 l (λ k q e. omega arith) ∙ sym (set-get_or (wires_in l).level j 0) in
    let marks : (wires_in (set l (70 + j) 0)).pending ≡ set (wires_in l).pending j false =
    ap (map (λ (x : ℕ). eqb x 1)) (listed_own 6 70 j 0 l h (omega arith)) ∙ map-set (λ (x : ℕ). eqb x 1) (listed 6 70 l) j 0 in
    ap (λ (m : List ℕ). record { level = m; pending = (wires_in (set l (70 + j) 0)).pending; place = p }) levels
    ∙ ap (λ (m : List Bool). record { level = set (wires_in l).level j (get_or (wires_in l).level j 0); pending = m; place = p }) marks

pub group_left_lem : (l : List ℕ) (q i : ℕ) → 256 ≤ i → i < 259 → is_line i ≡ false → 174 ≤ length l
    → placed (set l (i - 184) 0) (after senders i) ≡ left_by (placed l q) i
group_left_lem l q i h b e long =
    let j = i - 254 in
    let p = after senders i in
    let f : i - 184 ≡ 70 + j = omega arith in
    let g : group_at i - 2 ≡ j = ap (λ (x : ℕ). x - 2) (group_number i h b) ∙ omega arith in
    let level : map_in 78 (set l (70 + j) 0) ≡ map_in 78 l = map-beside 78 (70 + j) 0 l (λ k x y. omega arith) in
    let waits : map_in 110 (set l (70 + j) 0) ≡ map_in 110 l = map-beside 110 (70 + j) 0 l (λ k x y. omega arith) in
    let edges : map_in 142 (set l (70 + j) 0) ≡ map_in 142 l = map-beside 142 (70 + j) 0 l (λ k x y. omega arith) in
    let left : ℕ → Wires = λ x.
    record { level = set (wires_in l).level x (get_or (wires_in l).level x 0); pending = set (wires_in l).pending x false; place = p } in
    ap (λ (x : ℕ). placed (set l x 0) p) f
    ∙ parts (marked_off l j p (omega arith) (omega arith) ∙ ap left (sym g)) level waits edges
    ∙ sym (left_group (placed l q) i e)

-- ---- the place's two bytes written behind the last one sent: all is as the wires' bytes say

-- the list with the going-round place at its two bytes, low byte first (docs/STATE.md)
unfoldable pub place_set_value : List ℕ → ℕ → List ℕ
place_set_value l q = set (set l 76 (q % 256)) 77 (q / 256 % 256)

cut : (a b i : ℕ) (l : List ℕ) → take (a + b) (drop i l) ≡ take a (drop i l) ++ take b (drop (i + a) l)
cut a b i l =
    take-both a b (drop i l) ∙ ap (λ (xs : List ℕ). take a (drop i l) ++ take b xs) (drop-drop a i l)
  where
    take-both : (a b : ℕ) (l : List ℕ) → take (a + b) l ≡ take a l ++ take b (drop a l)
    take-both zero b l = let e : 0 + b ≡ b = omega arith in ap (λ (x : ℕ). take x l) e
    take-both (suc a) b [] = let e : suc a + b ≡ suc (a + b) = omega arith in ap (λ (x : ℕ). take x []) e ∙ sym (take-nil b)
    take-both (suc a) b (x ∷ l) =
        let e : suc a + b ≡ suc (a + b) = omega arith in
        ap (λ (y : ℕ). take y (x ∷ l)) e ∙ ap (λ (r : List ℕ). x ∷ r) (take-both a b l)

mark_byte : (x : ℕ) → x ≤ 1 → bit (eqb x 1) ≡ x
mark_byte zero h = refl
mark_byte (suc zero) h = refl
mark_byte (suc (suc x)) h = absurd (omega arith)

module _ (l : List ℕ) (q : ℕ) (long : 174 ≤ length l) (bytes : (k : ℕ) → get_or l k 0 < 256) (marks : (k : ℕ) → k < 6 → get_or l (70 + k) 0 ≤ 1) where
  abbrev t : List ℕ
  t = place_set_value l q

  t_long : length t ≡ length l
  unfolding place_set_value
  t_long = length-set (set l 76 (q % 256)) 77 _ ∙ length-set l 76 _

  beside : (n at : ℕ) → ((k : ℕ) → k < n → (at + k ≡ 76 → ⊥) × (at + k ≡ 77 → ⊥)) → listed n at t ≡ listed n at l
  unfolding place_set_value
  beside n at h =
      listed-beside n at 77 (q / 256 % 256) (set l 76 (q % 256)) (λ k b. (h k b).1) ∙ listed-beside n at 76 (q % 256) l (λ k b. (h k b).0)

  two : listed 2 76 t ≡ q % 256 ∷ q / 256 % 256 ∷ []
  unfolding place_set_value
  two =
      ap (λ (x : ℕ). x ∷ get_or t 77 0 ∷ []) (get_or-set_other (set l 76 (q % 256)) 77 76 _ 0 (λ e. omega arith) ∙ get_or-set_same l 76 _ 0 (omega arith))
      ∙ ap (λ (x : ℕ). q % 256 ∷ x ∷ []) (get_or-set_same (set l 76 (q % 256)) 77 _ 0 (omega (arith, length-set l 76 (q % 256))))

  lines_there : (at : ℕ) → 78 ≤ at → at ≤ 142 → take 32 (drop at t) ≡ map_bytes (map_in at l)
  unfolding map_in
  lines_there at a b =
      sym (map-drop at t (omega (arith, t_long)))
      ∙ beside map_length at (λ k h. (λ e. omega arith, λ e. omega arith))
      ∙ sym (map_back at l bytes)

  six_there : (at : ℕ) → at + 6 ≤ 76 → take 6 (drop at t) ≡ listed 6 at l
  six_there at a = sym (listed-drop 6 at t (omega (arith, t_long))) ∙ beside 6 at (λ k h. (λ e. omega arith, λ e. omega arith))

  marks_there : bit (eqb (get_or l 70 0) 1) ∷ bit (eqb (get_or l 71 0) 1) ∷ bit (eqb (get_or l 72 0) 1)
      ∷ bit (eqb (get_or l 73 0) 1) ∷ bit (eqb (get_or l 74 0) 1) ∷ bit (eqb (get_or l 75 0) 1) ∷ [] ≡ listed 6 70 l
  marks_there =
      rw (
        mark_byte (get_or l 70 0) (marks 0 (omega arith)),
        mark_byte (get_or l 71 0) (marks 1 (omega arith)),
        mark_byte (get_or l 72 0) (marks 2 (omega arith)),
        mark_byte (get_or l 73 0) (marks 3 (omega arith)),
        mark_byte (get_or l 74 0) (marks 4 (omega arith)),
        mark_byte (get_or l 75 0) (marks 5 (omega arith)),
      )

  all_there : take 110 (drop 64 t) ≡ all_bytes (placed l q)
  all_there =
      cut 6 104 64 t
      ∙ join (six_there 64 (omega arith))
      (cut 6 98 70 t
      ∙ join (six_there 70 (omega arith) ∙ sym marks_there)
      (cut 2 96 76 t
      ∙ join (sym (listed-drop 2 76 t (omega (arith, t_long))) ∙ two)
      (cut 32 64 78 t
      ∙ join (lines_there 78 (omega arith) (omega arith))
      (cut 32 32 110 t ∙ join (lines_there 110 (omega arith) (omega arith)) (lines_there 142 (omega arith) (omega arith))))))

  pub place_set : place_set_value l q ≡ put 64 (all_bytes (placed l q)) l
  unfolding place_set_value put
  place_set =
      let x = all_bytes (placed l q) in
      let z = all-length (placed l q) in
      let d : 64 + length x ≡ 174 = omega arith in
      sym (take-append-drop 64 t)
      ∙ ap (λ (xs : List ℕ). take 64 t ++ xs) (sym (take-append-drop 110 (drop 64 t)))
      ∙ ap (λ (xs : List ℕ). take 64 t ++ (xs ++ drop 110 (drop 64 t))) all_there
      ∙ sym (append_assoc (take 64 t) x (drop 110 (drop 64 t)))
      ∙ ap (λ (xs : List ℕ). take 64 t ++ x ++ xs) (drop-drop 110 64 t)
      ∙ ap (λ (k : ℕ). take 64 t ++ x ++ drop k t) (sym d)
      ∙ put_hides (placed l q) 77 _ (set l 76 (q % 256)) (omega arith) (omega arith)
      ∙ put_hides (placed l q) 76 _ l (omega arith) (omega arith)
