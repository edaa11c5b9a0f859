-- P3 for all wires: their bytes, there and back; a part of them stored at its own place is the whole part stored.
use Rattle.std.specs.Prelude.{ℕ, zero, suc, ◌+◌, ◌-◌, ◌<◌, ◌≤◌, Bool, true, ◌&&◌, List, ◌∷◌, ◌++◌, ◌≡◌, refl, eqb, ltb, length, get_or, take, drop}
use Rattle.std.proofs.Common.{append_assoc, sym, ap, ap₂, subst, ◌∙◌, mod-lt, mod-eq_of_lt, arith, length-append, length-drop, take-append-drop, take_all, take_at, length-take-le, drop-drop, eqb-true, eq-eqb, ltb-true, lt-ltb}
use Rattle.std.proofs.Math.Seq.{drop-append-add}
use Rattle.base.specs.Pick.{and_left, and_right, and_true}
use Rattle.base.specs.Bytes.{put, put-put, length-put}
use Rattle.base.specs.Numbers.{length_join, join, listed, listed-drop}
use Rattle.base.specs.AllBytes.{AllBytes, all_none, all_cons, all_append}
use Rattle.wires.specs.Below.{all, all-at, at_all}
use Rattle.wires.specs.Groups.{sound_wires, whole_wires}
use Rattle.wires.specs.Lines.{map_length, Lines, whole_map, whole_lines, map_in, bytes_from, map_bytes, lines_in, lines_bytes}
use Rattle.wires.specs.Senders.{AllWires, with_groups, with_lines, sound_all, whole_all}
use Rattle.wires.specs.Kept.{sound_view, whole_level, whole_marks}
use Rattle.wires.specs.Layout.{wires_bytes, wires_in, tidy_wires, all_bytes, all_in, wires_back, all_wires, wires_same}
use Rattle.wires.specs.Tidy.{wires_again, wires_tidy}
use Rattle.wires.specs.declared.Wires.{Wires}

-- ---- lists one by one

listed-length : (n i : ℕ) (l : List ℕ) → length (listed n i l) ≡ n
listed-length zero i l = refl
listed-length (suc n) i l = ap suc (listed-length n (suc i) l)

pub listed_at : (n i : ℕ) (l : List ℕ) (j : ℕ) → j < n → get_or (listed n i l) j 0 ≡ get_or l (i + j) 0
listed_at zero i l j h = absurd (omega arith)
listed_at (suc n) i l zero h = let e : i ≡ i + 0 = omega arith in ap (λ (k : ℕ). get_or l k 0) e
listed_at (suc n) i l (suc j) h =
    let e : suc i + j ≡ i + suc j = omega arith in listed_at n (suc i) l j (omega arith) ∙ ap (λ (k : ℕ). get_or l k 0) e

listed_same : (n i : ℕ) (a b : List ℕ) → ((k : ℕ) → i ≤ k → k < i + n → get_or a k 0 ≡ get_or b k 0) → listed n i a ≡ listed n i b
listed_same zero i a b e = refl
listed_same (suc n) i a b e =
    ap (λ (x : ℕ). x ∷ listed n (suc i) a) (e i (omega arith) (omega arith))
    ∙ ap (λ (xs : List ℕ). get_or b i 0 ∷ xs) (listed_same n (suc i) a b (λ k h l. e k (omega arith) (omega arith)))

listed-both : (m n i : ℕ) (l : List ℕ) → listed (m + n) i l ≡ listed m i l ++ listed n (i + m) l
listed-both zero n i l =
    let z : 0 + n ≡ n = omega arith in
    let e : i ≡ i + 0 = omega arith in
    ap (λ (k : ℕ). listed k i l) z ∙ ap (λ (k : ℕ). listed n k l) e
listed-both (suc m) n i l =
    let s : suc m + n ≡ suc (m + n) = omega arith in
    let e : suc i + m ≡ i + suc m = omega arith in
    ap (λ (k : ℕ). listed k i l) s
    ∙ ap (λ (xs : List ℕ). get_or l i 0 ∷ xs) (listed-both m n (suc i) l ∙ ap (λ (k : ℕ). listed m (suc i) l ++ listed n k l) e)

-- a list's own bytes put where they stand
pub put_own : (n at : ℕ) (l : List ℕ) → at + n ≤ length l → put at (listed n at l) l ≡ l
unfolding put
put_own n at l h =
    let e = listed-drop n at l h in
    let k : at + length (listed n at l) ≡ at + n = ap (λ (x : ℕ). at + x) (listed-length n at l) in
    ap₂ (λ (xs : List ℕ) (x : ℕ). (take at l ++ xs) ++ drop x l) e k
    ∙ append_assoc (take at l) (take n (drop at l)) (drop (at + n) l)
    ∙ ap (λ (xs : List ℕ). take at l ++ (take n (drop at l) ++ xs)) (sym (drop-drop n at l))
    ∙ ap (λ (xs : List ℕ). take at l ++ xs) (take-append-drop n (drop at l))
    ∙ take-append-drop at l

-- what stands behind bytes that were put stays
behind-put : (n at k : ℕ) (vs l : List ℕ) → at + length vs ≤ k → k + n ≤ length l → listed n k (put at vs l) ≡ listed n k l
unfolding put
behind-put n at k vs l e h =
    let m = at + length vs in
    let t : length (take at l ++ vs) ≡ m = length-append (take at l) vs ∙ ap (λ (x : ℕ). x + length vs) (length-take-le at l (omega arith)) in
    let long : k + n ≤ length ((take at l ++ vs) ++ drop m l) = rw (length-append (take at l ++ vs) (drop m l), length-drop) (omega (arith, t)) in
    let q : k ≡ length (take at l ++ vs) + (k - m) = omega (arith, t) in
    let r : m + (k - m) ≡ k = omega arith in
    listed-drop n k ((take at l ++ vs) ++ drop m l) long
    ∙ ap (λ (x : ℕ). take n (drop x ((take at l ++ vs) ++ drop m l))) q
    ∙ ap (take n) (drop-append-add (take at l ++ vs) (drop m l) (k - m) ∙ drop-drop (k - m) m l)
    ∙ ap (λ (x : ℕ). take n (drop x l)) r
    ∙ sym (listed-drop n k l h)

-- ---- a map

bytes-length : (n i : ℕ) (m : List ℕ) → length (bytes_from n i m) ≡ n
bytes-length zero i m = refl
bytes-length (suc n) i m = ap suc (bytes-length n (suc i) m)

bytes-all : (n i : ℕ) (m : List ℕ) → AllBytes (bytes_from n i m)
bytes-all zero i m = all_none
bytes-all (suc n) i m = all_cons (mod-lt (get_or m i 0) (omega arith)) (bytes-all n (suc i) m)

bytes-listed : (n i : ℕ) (m : List ℕ) → ((k : ℕ) → k < i + n → get_or m k 0 < 256) → bytes_from n i m ≡ listed n i m
bytes-listed zero i m b = refl
bytes-listed (suc n) i m b =
    ap (λ (x : ℕ). x ∷ bytes_from n (suc i) m) (mod-eq_of_lt (b i (omega arith)))
    ∙ ap (λ (xs : List ℕ). get_or m i 0 ∷ xs) (bytes-listed n (suc i) m (λ k h. b k (omega arith)))

whole_of : (n : ℕ) (m : List ℕ) → eqb (length m) n && all n (λ (j : ℕ). ltb (get_or m j 0) 256) ≡ true → bytes_from n 0 m ≡ m
whole_of n m e =
    let l = eqb-true (length m) n (and_left (eqb (length m) n) _ e) in
    let b = and_right (eqb (length m) n) _ e in
    bytes-listed n 0 m (λ k h. ltb-true _ 256 (all-at n (λ (j : ℕ). ltb (get_or m j 0) 256) b k (omega arith)))
    ∙ listed-drop n 0 m (omega arith) ∙ take_all n m (omega arith)

whole_listed : (n i : ℕ) (l : List ℕ) → ((k : ℕ) → get_or l k 0 < 256)
    → eqb (length (listed n i l)) n && all n (λ (j : ℕ). ltb (get_or (listed n i l) j 0) 256) ≡ true
whole_listed n i l byte =
    and_true (eq-eqb _ n (listed-length n i l))
    (at_all n (λ (j : ℕ). ltb (get_or (listed n i l) j 0) 256) (λ j h. lt-ltb _ 256 (subst (λ (x : ℕ). x < 256) (sym (listed_at n i l j h)) (byte (i + j)))))

pub map-length : (m : List ℕ) → length (map_bytes m) ≡ map_length
unfolding map_bytes
map-length m = bytes-length map_length 0 m

pub map-all : (m : List ℕ) → AllBytes (map_bytes m)
unfolding map_bytes
map-all m = bytes-all map_length 0 m

pub map_whole : (at : ℕ) (l : List ℕ) → ((k : ℕ) → get_or l k 0 < 256) → whole_map (map_in at l) ≡ true
unfolding whole_map map_in
map_whole at l byte = whole_listed map_length at l byte

pub map-bytes : (m : List ℕ) → whole_map m ≡ true → map_bytes m ≡ m
unfolding whole_map map_bytes
map-bytes m e = whole_of map_length m e

map-listed : (at : ℕ) (l : List ℕ) → map_in at l ≡ listed map_length at l
unfolding map_in
map-listed at l = refl

pub map_again : (at : ℕ) (l : List ℕ) → ((k : ℕ) → get_or l k 0 < 256) → map_bytes (map_in at l) ≡ listed map_length at l
map_again at l byte = map-bytes (map_in at l) (map_whole at l byte) ∙ map-listed at l

map_same : (at : ℕ) (a b : List ℕ) → ((k : ℕ) → at ≤ k → k < at + map_length → get_or a k 0 ≡ get_or b k 0) → map_in at a ≡ map_in at b
unfolding map_in
map_same at a b e = listed_same map_length at a b e

-- a map's bytes among others give it back
there : (n at : ℕ) (p x r : List ℕ) → length p ≡ at → length x ≡ n → listed n at (p ++ (x ++ r)) ≡ x
there n at p x r h g =
    let long : at + n ≤ length (p ++ (x ++ r)) = rw (length-append p (x ++ r), length-append x r) (omega arith) in
    let e : at ≡ length p + 0 = omega arith in
    listed-drop n at (p ++ (x ++ r)) long
    ∙ ap (λ (k : ℕ). take n (drop k (p ++ (x ++ r)))) e
    ∙ ap (take n) (drop-append-add p (x ++ r) 0)
    ∙ take_at x r n g

pub map_back : (at : ℕ) (p m r : List ℕ) → length p ≡ at → whole_map m ≡ true → map_in at (p ++ (map_bytes m ++ r)) ≡ m
unfolding map_in
map_back at p m r h e = there map_length at p (map_bytes m) r h (map-length m) ∙ map-bytes m e

-- ---- all wires

pub all-length : (w : AllWires) → length (all_bytes w) ≡ 110
all-length w =
    let l = w.lines in
    length_join (wires_bytes w.groups) (lines_bytes l) 14 96 refl
    (length_join (map_bytes l.level) (map_bytes l.waits ++ map_bytes l.edges) 32 64 (map-length l.level)
    (length_join (map_bytes l.waits) (map_bytes l.edges) 32 32 (map-length l.waits) (map-length l.edges)))

module _ (p r : List ℕ) (w : AllWires) (h : length p ≡ 64) where
  abbrev g : List ℕ
  g = wires_bytes w.groups

  abbrev a : List ℕ
  a = map_bytes w.lines.level

  abbrev b : List ℕ
  b = map_bytes w.lines.waits

  abbrev c : List ℕ
  c = map_bytes w.lines.edges

  -- the same bytes, each map by itself
  at-groups : p ++ (all_bytes w ++ r) ≡ p ++ (g ++ ((a ++ (b ++ c)) ++ r))
  at-groups = ap (λ (z : List ℕ). p ++ z) (append_assoc g (a ++ (b ++ c)) r)

  at_level : p ++ (all_bytes w ++ r) ≡ (p ++ g) ++ (a ++ ((b ++ c) ++ r))
  at_level =
      at-groups ∙ ap (λ (z : List ℕ). p ++ (g ++ z)) (append_assoc a (b ++ c) r) ∙ sym (append_assoc p g (a ++ ((b ++ c) ++ r)))

  at_waits : p ++ (all_bytes w ++ r) ≡ ((p ++ g) ++ a) ++ (b ++ (c ++ r))
  at_waits =
      at_level ∙ ap (λ (z : List ℕ). (p ++ g) ++ (a ++ z)) (append_assoc b c r) ∙ sym (append_assoc (p ++ g) a (b ++ (c ++ r)))

  at-edges : p ++ (all_bytes w ++ r) ≡ (((p ++ g) ++ a) ++ b) ++ (c ++ r)
  at-edges = at_waits ∙ sym (append_assoc ((p ++ g) ++ a) b (c ++ r))

  long_level : length (p ++ g) ≡ 78
  long_level = length_join p g 64 14 h refl

  long_waits : length ((p ++ g) ++ a) ≡ 110
  long_waits = length_join (p ++ g) a 78 32 long_level (map-length w.lines.level)

  long_edges : length (((p ++ g) ++ a) ++ b) ≡ 142
  long_edges = length_join ((p ++ g) ++ a) b 110 32 long_waits (map-length w.lines.waits)

  lines_back : whole_lines w.lines ≡ true → lines_in (p ++ (all_bytes w ++ r)) ≡ w.lines
  lines_back e =
      let l = w.lines in
      let e₁ = and_right (whole_map l.level) _ e in
      let x = ap (map_in 78) at_level ∙ map_back 78 (p ++ g) l.level ((b ++ c) ++ r) long_level (and_left (whole_map l.level) _ e) in
      let y = ap (map_in 110) at_waits ∙ map_back 110 ((p ++ g) ++ a) l.waits (c ++ r) long_waits (and_left (whole_map l.waits) _ e₁) in
      let z = ap (map_in 142) at-edges ∙ map_back 142 (((p ++ g) ++ a) ++ b) l.edges r long_edges (and_right (whole_map l.waits) _ e₁) in
      rw (x, y, z)

  -- they give them back
  pub all_back : (on : Bool) (count : ℕ) → sound_all on count w ≡ true → whole_all w ≡ true → all_in (p ++ (all_bytes w ++ r)) ≡ w
  all_back on count s e =
      let v = and_left (whole_wires w.groups) _ e in
      let q = sound_view on w.groups (and_left (sound_wires on w.groups) _ s) in
      let x : wires_in (p ++ (all_bytes w ++ r)) ≡ w.groups =
      ap wires_in at-groups ∙ wires_back p ((a ++ (b ++ c)) ++ r) w.groups h (whole_level w.groups v) (whole_marks w.groups v) q.below in
      rw (x, lines_back (and_right (whole_wires w.groups) _ e))

  pub all-tidy : tidy_wires (p ++ (all_bytes w ++ r)) ≡ true
  all-tidy = ap tidy_wires at-groups ∙ wires_tidy p ((a ++ (b ++ c)) ++ r) w.groups h

-- those of sound wires are bytes
pub all-all : (on : Bool) (count : ℕ) (w : AllWires) → sound_all on count w ≡ true → AllBytes (all_bytes w)
all-all on count w s =
    let l = w.lines in
    all_append (wires_bytes w.groups) (all_wires on w.groups (and_left (sound_wires on w.groups) _ s))
    (all_append (map_bytes l.level) (map-all l.level) (all_append (map_bytes l.waits) (map-all l.waits) (map-all l.edges)))

-- what bytes make is six groups and three maps
pub all-fits : (l : List ℕ) → ((k : ℕ) → get_or l k 0 < 256) → whole_all (all_in l) ≡ true
all-fits l byte = and_true refl (and_true (map_whole 78 l byte) (and_true (map_whole 110 l byte) (map_whole 142 l byte)))

pub all_same : (a b : List ℕ) → ((k : ℕ) → k < 174 → get_or a k 0 ≡ get_or b k 0) → all_in a ≡ all_in b
all_same a b e =
    rw (
      wires_same a b (λ k h. e k (omega arith)),
      map_same 78 a b (λ k h l. e k (omega arith)),
      map_same 110 a b (λ k h l. e k (omega arith)),
      map_same 142 a b (λ k h l. e k (omega arith)),
    )

lines_again : (l : List ℕ) → ((k : ℕ) → get_or l k 0 < 256) → lines_bytes (lines_in l) ≡ listed 96 78 l
lines_again l byte =
    join (map_again 78 l byte) (join (map_again 110 l byte) (map_again 142 l byte))
    ∙ ap (λ (z : List ℕ). listed map_length 78 l ++ z) (sym (listed-both map_length map_length 110 l))
    ∙ sym (listed-both map_length (map_length + map_length) 78 l)

pub all_again : (l : List ℕ) → ((k : ℕ) → get_or l k 0 < 256) → tidy_wires l ≡ true → all_bytes (all_in l) ≡ listed 110 64 l
all_again l byte e = join (wires_again l byte e) (lines_again l byte) ∙ sym (listed-both 14 96 64 l)

-- ---- a part of the part at its own place is the whole stored

module _ (l : List ℕ) (byte : (k : ℕ) → get_or l k 0 < 256) (long : 174 ≤ length l) where
  pub stored-groups : (g : Wires) → put 64 (wires_bytes g) l ≡ put 64 (all_bytes (with_groups (all_in l) g)) l
  stored-groups g =
      let m = put 64 (wires_bytes g) l in
      let n : length m ≡ length l = length-put 64 (wires_bytes g) l (omega arith) in
      sym
      (ap (λ (z : List ℕ). put 64 (wires_bytes g ++ z) l) (lines_again l byte ∙ sym (behind-put 96 64 78 (wires_bytes g) l (omega arith) (omega arith)))
      ∙ sym (put-put 64 78 (wires_bytes g) (listed 96 78 m) l (omega arith) refl)
      ∙ put_own 96 78 m (omega arith))

  pub stored_lines : tidy_wires l ≡ true → (x : Lines) → put 78 (lines_bytes x) l ≡ put 64 (all_bytes (with_lines (all_in l) x)) l
  stored_lines e x =
      ap (put 78 (lines_bytes x)) (sym (put_own 14 64 l (omega arith)))
      ∙ put-put 64 78 (listed 14 64 l) (lines_bytes x) l (omega arith) refl
      ∙ ap (λ (z : List ℕ). put 64 (z ++ lines_bytes x) l) (sym (wires_again l byte e))

  -- the groups' bytes leave the lines'
  pub lines_beside : (g : Wires) → lines_in (put 64 (wires_bytes g) l) ≡ lines_in l
  unfolding map_in
  lines_beside g =
      let e : (k : ℕ) → 78 ≤ k → k + map_length ≤ 174 → listed map_length k (put 64 (wires_bytes g) l) ≡ listed map_length k l =
      λ k h j. behind-put map_length 64 k (wires_bytes g) l h (omega arith) in
      rw (e 78 (omega arith) (omega arith), e 110 (omega arith) (omega arith), e 142 (omega arith) (omega arith))
