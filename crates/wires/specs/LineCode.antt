-- The lines' maps where they stand in a state's bytes: read, changed by a byte, copied and cleared.
use Rattle.std.specs.Prelude.{ℕ, zero, suc, ◌+◌, ◌-◌, ◌*◌, ◌/◌, ◌%◌, ◌^◌, ◌≤◌, ◌<◌, Bool, ◌⊎◌, ◌≡◌, refl, eqb, ltb, leb, get_or, set, length, take, drop}
use Rattle.std.proofs.Math.Bool.{true, false}
use mathlib.Core.List.{List, ◌++◌, append_assoc}
use Rattle.std.proofs.Common.{inl, inr, ⊎_elim, sym, subst, ◌∙◌, mod-lt, mod-eq_of_lt, one-mul, arith, shl_exact, length-append, length-drop, take-append-drop, get_or-set_same, get_or-set_other, get_or-take, get_or-drop, take_all, take-add, drop-drop, ext_get_or, length-take-le, eqb-true, eq-eqb, ne_eqb, ltb-true, ltb-false}
use Rattle.std.proofs.Math.Path.{ap}
use Rattle.std.proofs.Math.ListN.{length-set, get_or-append, get_or-eq_default}
use Rattle.std.proofs.lemmas.Bool.{eqb-false}
use Rattle.std.proofs.lemmas.List.{take-replicate}
use Rattle.std.proofs.Math.ListN.{replicate}
use borrow.Rule.Slice.PartMut.{put_mid}
use Rattle.base.specs.Pick.{and_left, taken, passed}
use Rattle.base.specs.Bytes.{put, length-put, put-put}
use Rattle.base.specs.Numbers.{listed, listed-drop, past, join}
use Rattle.wires.specs.Table.{is_line}
use Rattle.wires.specs.Kept.{set_cases}
use Rattle.wires.specs.Lines.{line_value, byte_with, with_bit, no_bits_value, Lines, no_lines, line_level_ok, changed_line, set_line, pulse_line, raised, dropped, map_in, lines_in, bytes_from, map_bytes, lines_bytes}
use Rattle.wires.specs.Places.{map_get}
use Rattle.wires.specs.LineBits.{byte_small, length-bit, zero-byte}
use Rattle.std.proofs.Math.Seq.{paste, paste-zero, paste-suc, take-length}
use Rattle.std.proofs.lemmas.List.Edits.{take-paste}
use Rattle.wires.specs.Below.{at_every}

-- ---- reading

listed-length : (n i : ℕ) (l : List ℕ) → length (listed n i l) ≡ n
listed-length zero i l = refl
listed-length (suc n) i l = ap suc (listed-length n (suc i) l)

pub map-length : (at : ℕ) (l : List ℕ) → length (map_in at l) ≡ 32
unfolding map_in
map-length at l = listed-length 32 at l

-- a map is what stands at its bytes
map_is : (at : ℕ) (l m : List ℕ) → length m ≡ 32 → ((k : ℕ) → k < 32 → get_or l (at + k) 0 ≡ get_or m k 0) → map_in at l ≡ m
map_is at l m h f =
    ext_get_or 0 (map_in at l) m (map-length at l ∙ sym h) (λ k b. let j : k < 32 = subst (λ (n : ℕ). k < n) (map-length at l) b in map_get at k l j ∙ f k j)

map_same : (at : ℕ) (a b : List ℕ) → ((k : ℕ) → k < 32 → get_or a (at + k) 0 ≡ get_or b (at + k) 0) → map_in at a ≡ map_in at b
map_same at a b f = map_is at a (map_in at b) (map-length at b) (λ k h. f k h ∙ sym (map_get at k b h))

-- ---- bytes that a change leaves

-- beside the lines' bytes all is as it was, and what there is are bytes
pub record Beside (was is : List ℕ) : Type 0 where
  pub long : length is ≡ length was
  pub same : (j : ℕ) → (j < 78) ⊎ (174 ≤ j) → get_or is j 0 ≡ get_or was j 0
  pub byte : (j : ℕ) → get_or is j 0 < 256

pub beside_same : (l : List ℕ) → ((j : ℕ) → get_or l j 0 < 256) → Beside l l
beside_same l f = record { long = refl; same = λ j h. refl; byte = f }

bytes_back : (n i : ℕ) (m : List ℕ) → ((k : ℕ) → get_or m k 0 < 256) → bytes_from n i m ≡ listed n i m
bytes_back zero i m f = refl
bytes_back (suc n) i m f = rw (mod-eq_of_lt (f i), bytes_back n (suc i) m f)

listed-all : (n : ℕ) (m : List ℕ) → length m ≡ n → listed n 0 m ≡ m
listed-all n m h = listed-drop n 0 m (omega arith) ∙ take_all n m (omega arith)

map-bytes : (m : List ℕ) → length m ≡ 32 → ((k : ℕ) → get_or m k 0 < 256) → map_bytes m ≡ m
unfolding map_bytes
map-bytes m h f = bytes_back 32 0 m f ∙ listed-all 32 m h

map-take : (at : ℕ) (l : List ℕ) → at + 32 ≤ length l → map_in at l ≡ take 32 (drop at l)
unfolding map_in
map-take at l h = listed-drop 32 at l h

map-byte : (at : ℕ) (l : List ℕ) → ((j : ℕ) → get_or l j 0 < 256) → (k : ℕ) → get_or (map_in at l) k 0 < 256
map-byte at l f k = go (ltb k 32) refl
  where
    go : (t : Bool) → ltb k 32 ≡ t → get_or (map_in at l) k 0 < 256
    go true e = subst (λ (x : ℕ). x < 256) (sym (map_get at k l (ltb-true k 32 e))) (f (at + k))
    go false e =
        let h = map-length at l in
        subst (λ (x : ℕ). x < 256) (sym (get_or-eq_default (map_in at l) 0 {n = k} (omega (arith, ltb-false k 32 e)))) (omega arith)

taken-map : (at : ℕ) (l : List ℕ) → at + 32 ≤ length l → ((j : ℕ) → get_or l j 0 < 256) → map_bytes (map_in at l) ≡ take 32 (drop at l)
taken-map at l h f = map-bytes (map_in at l) (map-length at l) (map-byte at l f) ∙ map-take at l h

three : (n at : ℕ) (l : List ℕ)
    → take n (drop at l) ++ (take n (drop (at + n) l) ++ take n (drop (at + n + n) l)) ≡ take (n + (n + n)) (drop at l)
three n at l =
    sym
    (take-add n (n + n) (drop at l)
    ∙ ap (λ (z : List ℕ). take n (drop at l) ++ z)
    (ap (take (n + n)) (drop-drop n at l)
    ∙ take-add n n (drop (at + n) l)
    ∙ ap (λ (z : List ℕ). take n (drop (at + n) l) ++ take n z) (drop-drop n (at + n) l)))

put-part : (at n : ℕ) (was is vs : List ℕ) → at + n ≤ length was → length is ≡ length was → vs ≡ take n (drop at is)
    → ((j : ℕ) → (j < at) ⊎ (at + n ≤ j) → get_or is j 0 ≡ get_or was j 0) → is ≡ put at vs was
unfolding put
put-part at n was is vs h e v f =
    let long : length vs ≡ n = ap length v ∙ length-take-le n (drop at is) (simp length-drop (omega arith)) in
    let low : take at is ≡ take at was =
    ext_get_or 0 (take at is) (take at was) (length-take-le at is (omega arith) ∙ sym (length-take-le at was (omega arith)))
    (λ j b.
    let k : j < at = subst (λ (x : ℕ). j < x) (length-take-le at is (omega arith)) b in
    get_or-take at is j 0 k ∙ f j (inl k) ∙ sym (get_or-take at was j 0 k)) in
    let high : drop (at + n) is ≡ drop (at + n) was =
    ext_get_or 0 (drop (at + n) is) (drop (at + n) was) (simp length-drop (omega arith))
    (λ j b. get_or-drop (at + n) is j 0 ∙ f (at + n + j) (inr (omega arith)) ∙ sym (get_or-drop (at + n) was j 0)) in
    sym (take-append-drop at is)
    ∙ ap (λ (z : List ℕ). take at is ++ z) (sym (take-append-drop n (drop at is)) ∙ ap (λ (z : List ℕ). take n (drop at is) ++ z) (drop-drop n at is))
    ∙ join low (join (sym v) (high ∙ ap (λ (k : ℕ). drop (at + k) was) (sym long)))
    ∙ sym (append_assoc (take at was) vs (drop (at + length vs) was))

-- so the whole is the lines' bytes put at their place
pub stored : (was is : List ℕ) (l : Lines) → 174 ≤ length was → Beside was is → lines_in is ≡ l → is ≡ put 78 (lines_bytes l) was
stored was is l h b e =
    let long = b.long in
    put-part 78 96 was is (lines_bytes l) (omega arith) b.long
    (ap lines_bytes (sym e)
    ∙ join (taken-map 78 is (omega arith) b.byte) (join (taken-map 110 is (omega arith) b.byte) (taken-map 142 is (omega arith) b.byte))
    ∙ three 32 78 is)
    b.same

-- ---- one bit of a map

-- the byte of a map's line, where it stands (docs/STATE.md)
abbrev pub place : ℕ → ℕ → ℕ
place at n = at + n / 8

-- the bytes with one line's bit made another (docs/STATE.md)
abbrev pub bit_put : ℕ → List ℕ → ℕ → Bool → List ℕ
bit_put at l n b = set l (place at n) (byte_with (get_or l (place at n) 0) (n % 8) b)

pub beside-bit : (at : ℕ) (was is : List ℕ) (n : ℕ) (b : Bool) → 78 ≤ at → at ≤ 142 → n < 256 → Beside was is → Beside was (bit_put at is n b)
beside-bit at was is n b ha hb hn s =
    record {
      long = length-set is (place at n) _ ∙ s.long;
      same = λ j o. get_or-set_other is (place at n) j _ 0 (λ e. ⊎_elim (λ h. omega arith) (λ h. omega arith) o) ∙ s.same j o;
      byte = λ j.
          set_cases (λ (x : ℕ). x < 256) is (place at n) j _ 0
          (λ _. byte_small (get_or is (place at n) 0) (n % 8) b (mod-lt n (omega arith)) (s.byte (place at n))) (s.byte j);
    }

-- the map has the bit
pub bit_in : (at : ℕ) (l : List ℕ) (n : ℕ) (b : Bool) → at + 32 ≤ length l → n < 256 → map_in at (bit_put at l n b) ≡ with_bit (map_in at l) n b
unfolding with_bit
bit_in at l n b h hn =
    map_is at (bit_put at l n b) (with_bit (map_in at l) n b) (length-bit (map_in at l) n b ∙ map-length at l) (λ k hk. go k hk (eqb k (n / 8)) refl)
  where
    go : (k : ℕ) → k < 32 → (t : Bool) → eqb k (n / 8) ≡ t → get_or (bit_put at l n b) (at + k) 0 ≡ get_or (with_bit (map_in at l) n b) k 0
    go k hk true e =
        let q = eqb-true k (n / 8) e in
        let long = map-length at l in
        ap (λ (j : ℕ). get_or (bit_put at l n b) (at + j) 0) q
        ∙ get_or-set_same l (place at n) _ 0 (omega arith)
        ∙ ap (λ (x : ℕ). byte_with x (n % 8) b) (sym (map_get at (n / 8) l (omega arith)))
        ∙ sym (get_or-set_same (map_in at l) (n / 8) _ 0 (omega arith))
        ∙ ap (λ (j : ℕ). get_or (with_bit (map_in at l) n b) j 0) (sym q)
    go k hk false e =
        let q = eqb-false k (n / 8) e in
        get_or-set_other l (place at n) (at + k) _ 0 (λ r. q (omega arith))
        ∙ sym (map_get at k l hk)
        ∙ sym (get_or-set_other (map_in at l) (n / 8) k _ 0 q)

-- the other maps stay
pub bit-beside : (at other : ℕ) (l : List ℕ) (n : ℕ) (b : Bool) → n < 256 → (at + 32 ≤ other) ⊎ (other + 32 ≤ at)
    → map_in other (bit_put at l n b) ≡ map_in other l
bit-beside at other l n b hn o =
    map_same other (bit_put at l n b) l
    (λ k h. get_or-set_other l (place at n) (other + k) _ 0 (λ e. ⊎_elim (λ x. omega arith) (λ x. omega arith) o))

-- ---- a whole map

put_inside : (at : ℕ) (vs l : List ℕ) (k : ℕ) → at + length vs ≤ length l → k < length vs → get_or (put at vs l) (at + k) 0 ≡ get_or vs k 0
unfolding put
put_inside at vs l k h hk =
    let long = length-take-le at l (omega arith) in
    ap (λ (z : List ℕ). get_or z (at + k) 0) (append_assoc (take at l) vs (drop (at + length vs) l))
    ∙ past (take at l) (vs ++ drop (at + length vs) l) (at + k) k (omega arith)
    ∙ get_or-append vs (drop (at + length vs) l) 0 k hk

put_outside : (at : ℕ) (vs l : List ℕ) (j : ℕ) → at + length vs ≤ length l → (j < at) ⊎ (at + length vs ≤ j) → get_or (put at vs l) j 0 ≡ get_or l j 0
unfolding put
put_outside at vs l j h o = ⊎_elim low high o
  where
    long : length (take at l) ≡ at
    long = length-take-le at l (omega arith)

    low : j < at → get_or (put at vs l) j 0 ≡ get_or l j 0
    low b =
        ap (λ (z : List ℕ). get_or z j 0) (append_assoc (take at l) vs (drop (at + length vs) l))
        ∙ get_or-append (take at l) (vs ++ drop (at + length vs) l) 0 j (omega (arith, long))
        ∙ get_or-take at l j 0 b

    high : at + length vs ≤ j → get_or (put at vs l) j 0 ≡ get_or l j 0
    high b =
        let e : at + length vs + (j - (at + length vs)) ≡ j = omega arith in
        past (take at l ++ vs) (drop (at + length vs) l) j (j - (at + length vs)) (rw length-append (omega (arith, long)))
        ∙ get_or-drop (at + length vs) l (j - (at + length vs)) 0
        ∙ ap (λ (k : ℕ). get_or l k 0) e

-- a map put at a map's place
module _ (at : ℕ) (m is : List ℕ) (long : length m ≡ 32) (fits : at + 32 ≤ length is) where
  pub beside-map : (was : List ℕ) → 78 ≤ at → at ≤ 142 → ((k : ℕ) → get_or m k 0 < 256) → Beside was is → Beside was (put at m is)
  beside-map was ha hb f s =
      record {
        long = length-put at m is (omega arith) ∙ s.long;
        same = λ j o. put_outside at m is j (omega arith) (⊎_elim (λ h. inl (omega arith)) (λ h. inr (omega arith)) o) ∙ s.same j o;
        byte = λ j. go j (ltb j at) (ltb j (at + 32)) refl refl;
      }
    where
      go : (j : ℕ) (x y : Bool) → ltb j at ≡ x → ltb j (at + 32) ≡ y → get_or (put at m is) j 0 < 256
      go j true y e q = rw (put_outside at m is j (omega arith) (inl (ltb-true j at e))) (s.byte j)
      go j false true e q =
          let a = ltb-false j at e in
          let b = ltb-true j (at + 32) q in
          let k : at + (j - at) ≡ j = omega arith in
          subst (λ (i : ℕ). get_or (put at m is) i 0 < 256) k (rw (put_inside at m is (j - at) (omega arith) (omega arith)) (f (j - at)))
      go j false false e q = rw (put_outside at m is j (omega arith) (inr (let b = ltb-false j (at + 32) q in omega arith))) (s.byte j)

  pub map_in_lem : map_in at (put at m is) ≡ m
  map_in_lem = map_is at (put at m is) m long (λ k h. put_inside at m is k (omega arith) (omega arith))

  pub map-beside : (other : ℕ) → (at + 32 ≤ other) ⊎ (other + 32 ≤ at) → map_in other (put at m is) ≡ map_in other is
  map-beside other o =
      map_same other (put at m is) is (λ k h. put_outside at m is (other + k) (omega arith) (⊎_elim (λ x. inr (omega arith)) (λ x. inl (omega arith)) o))

-- ---- what the code has on its way

pub line_small : (n level : ℕ) → line_level_ok n level ≡ true → n < 256
line_small n level e = ltb-true n 256 (and_left (is_line n) (leb level 1) e)

-- three maps with no bit: "lower all lines and drop their waits and edges" (02, Q-4)
abbrev pub three_empty : List ℕ
three_empty = no_bits_value ++ (no_bits_value ++ no_bits_value)

-- bytes of 0 over the maps from one on: "lower all lines and drop their waits and edges" (02, Q-4)
pub zeros_put : (at : ℕ) (l ys : List ℕ) → 174 ≤ length l → 78 ≤ at → at ≤ 174 → ys ≡ replicate (length (take (174 - at) (drop at l))) 0
    → put_mid at (174 - at) l ys ≡ put at (take (174 - at) three_empty) l
unfolding put
zeros_put at l ys h low high e =
    let vs = take (174 - at) three_empty in
    let part = length-take-le (174 - at) (drop at l) (simp length-drop (omega arith)) in
    let same : ys ≡ vs = e ∙ ap (λ (n : ℕ). replicate n 0) part ∙ sym (take-replicate (174 - at) 96 0 (omega arith)) in
    let long : length vs ≡ 174 - at = length-take-le (174 - at) three_empty (omega arith) in
    ap (λ (z : List ℕ). take at l ++ (z ++ drop (174 - at) (drop at l))) same
    ∙ sym (append_assoc (take at l) vs (drop (174 - at) (drop at l)))
    ∙ ap (λ (z : List ℕ). take at l ++ vs ++ z) (drop-drop (174 - at) at l ∙ ap (λ (n : ℕ). drop (at + n) l) (sym long))

-- ---- what each function leaves

same_lines : {k l : Lines} → k.level ≡ l.level → k.waits ≡ l.waits → k.edges ≡ l.edges → k ≡ l
same_lines {k} {l} e f g =
    ap (λ (x : List ℕ). record { level = x; waits = k.waits; edges = k.edges }) e
    ∙ ap (λ (x : List ℕ). record { level = l.level; waits = x; edges = k.edges }) f
    ∙ ap (λ (x : List ℕ). record { level = l.level; waits = l.waits; edges = x }) g

module _ (l : List ℕ) (fits : 174 ≤ length l) (byte : (j : ℕ) → get_or l j 0 < 256) where
  -- no change
  pub line_stays : (on : Bool) (n level : ℕ) → line_value (map_in 78 l) n ≡ level → l ≡ put 78 (lines_bytes (set_line on (lines_in l) n level)) l
  unfolding set_line
  line_stays on n level e =
      stored l l _ fits (beside_same l byte)
      (taken (lines_in l) (changed_line on (lines_in l) n level) (eq-eqb (line_value (map_in 78 l) n) level e) refl)

  -- a change while channel 1 is off, and while it is on
  pub line_off : (on : Bool) (n level : ℕ) → on ≡ false → n < 256 → (line_value (map_in 78 l) n ≡ level → ⊥)
      → bit_put 78 l n (eqb level 1) ≡ put 78 (lines_bytes (set_line on (lines_in l) n level)) l
  unfolding set_line
  line_off on n level o h e =
      rw o
      (stored l (bit_put 78 l n (eqb level 1)) _ fits (beside-bit 78 l l n (eqb level 1) (omega arith) (omega arith) h (beside_same l byte))
      (passed (lines_in l) (changed_line false (lines_in l) n level) (ne_eqb (line_value (map_in 78 l) n) level e)
      (same_lines (bit_in 78 l n (eqb level 1) (omega arith) h) (bit-beside 78 110 l n (eqb level 1) h (inl (omega arith)))
      (bit-beside 78 142 l n (eqb level 1) h (inl (omega arith))))))

  pub line_on : (on : Bool) (n level : ℕ) → on ≡ true → n < 256 → (line_value (map_in 78 l) n ≡ level → ⊥)
      → bit_put 110 (bit_put 78 l n (eqb level 1)) n true ≡ put 78 (lines_bytes (set_line on (lines_in l) n level)) l
  unfolding set_line
  line_on on n level o h e =
      let m = bit_put 78 l n (eqb level 1) in
      let long = length-set l (place 78 n) (byte_with (get_or l (place 78 n) 0) (n % 8) (eqb level 1)) in
      rw o
      (stored l (bit_put 110 m n true) _ fits
      (beside-bit 110 l m n true (omega arith) (omega arith) h (beside-bit 78 l l n (eqb level 1) (omega arith) (omega arith) h (beside_same l byte)))
      (passed (lines_in l) (changed_line true (lines_in l) n level) (ne_eqb (line_value (map_in 78 l) n) level e)
      (same_lines
      (bit-beside 110 78 m n true h (inr (omega arith)) ∙ bit_in 78 l n (eqb level 1) (omega arith) h)
      (bit_in 110 m n true (omega arith) h ∙ ap (λ (z : List ℕ). with_bit z n true) (bit-beside 78 110 l n (eqb level 1) h (inl (omega arith))))
      (bit-beside 110 142 m n true h (inl (omega arith)) ∙ bit-beside 78 142 l n (eqb level 1) h (inl (omega arith))))))

  -- an edge
  pub edge-put : (n : ℕ) → n < 256 → bit_put 142 (bit_put 110 l n true) n true ≡ put 78 (lines_bytes (pulse_line (lines_in l) n)) l
  unfolding pulse_line
  edge-put n h =
      let m = bit_put 110 l n true in
      let long = length-set l (place 110 n) (byte_with (get_or l (place 110 n) 0) (n % 8) true) in
      stored l (bit_put 142 m n true) _ fits
      (beside-bit 142 l m n true (omega arith) (omega arith) h (beside-bit 110 l l n true (omega arith) (omega arith) h (beside_same l byte)))
      (same_lines
      (bit-beside 142 78 m n true h (inr (omega arith)) ∙ bit-beside 110 78 l n true h (inr (omega arith)))
      (bit-beside 142 110 m n true h (inr (omega arith)) ∙ bit_in 110 l n true (omega arith) h)
      (bit_in 142 m n true (omega arith) h ∙ ap (λ (z : List ℕ). with_bit z n true) (bit-beside 110 142 l n true h (inl (omega arith)))))

  zero_small : (k : ℕ) → get_or no_bits_value k 0 < 256
  zero_small k = let z = zero-byte k in omega arith

  -- two maps put, waits and then edges
  waits_edges : (m : List ℕ) → length m ≡ 32 → ((k : ℕ) → get_or m k 0 < 256)
      → put 142 no_bits_value (put 110 m l) ≡ put 78 (lines_bytes (record { level = map_in 78 l; waits = m; edges = no_bits_value })) l
  waits_edges m hm f =
      let long = length-put 110 m l (omega arith) in
      let mid = put 110 m l in
      stored l (put 142 no_bits_value mid) _ fits
      (beside-map 142 no_bits_value mid refl (omega arith) l (omega arith) (omega arith) zero_small
      (beside-map 110 m l hm (omega arith) l (omega arith) (omega arith) f (beside_same l byte)))
      (same_lines
      (map-beside 142 no_bits_value mid refl (omega arith) 78 (inr (omega arith)) ∙ map-beside 110 m l hm (omega arith) 78 (inr (omega arith)))
      (map-beside 142 no_bits_value mid refl (omega arith) 110 (inr (omega arith)) ∙ map_in_lem 110 m l hm (omega arith))
      (map_in_lem 142 no_bits_value mid refl (omega arith)))

  pub raised-put : put 142 no_bits_value (put 110 (map_in 78 l) l) ≡ put 78 (lines_bytes (raised (lines_in l))) l
  raised-put = waits_edges (map_in 78 l) (map-length 78 l) (map-byte 78 l byte)

  pub dropped-put : put 110 (take 64 three_empty) l ≡ put 78 (lines_bytes (dropped (lines_in l))) l
  dropped-put = sym (put-put 110 142 no_bits_value no_bits_value l (omega arith) refl) ∙ waits_edges no_bits_value refl zero_small

  pub cleared-put : put 78 three_empty l ≡ put 78 (lines_bytes no_lines) l
  cleared-put =
      let first = put 78 no_bits_value l in
      let long = length-put 78 no_bits_value l (omega arith) in
      let mid = put 110 no_bits_value first in
      let still = length-put 110 no_bits_value first (omega arith) in
      sym (ap (put 142 no_bits_value) (put-put 78 110 no_bits_value no_bits_value l (omega arith) refl)
      ∙ put-put 78 142 (no_bits_value ++ no_bits_value) no_bits_value l (omega arith) refl)
      ∙ stored l (put 142 no_bits_value mid) no_lines fits
      (beside-map 142 no_bits_value mid refl (omega arith) l (omega arith) (omega arith) zero_small
      (beside-map 110 no_bits_value first refl (omega arith) l (omega arith) (omega arith) zero_small
      (beside-map 78 no_bits_value l refl (omega arith) l (omega arith) (omega arith) zero_small (beside_same l byte))))
      (same_lines
      (map-beside 142 no_bits_value mid refl (omega arith) 78 (inr (omega arith)) ∙ map-beside 110 no_bits_value first refl (omega arith) 78 (inr (omega arith))
      ∙ map_in_lem 78 no_bits_value l refl (omega arith))
      (map-beside 142 no_bits_value mid refl (omega arith) 110 (inr (omega arith)) ∙ map_in_lem 110 no_bits_value first refl (omega arith))
      (map_in_lem 142 no_bits_value mid refl (omega arith)))

-- ---- a loop over the bytes, byte by byte

pub map_at : (at : ℕ) (l : List ℕ) (k : ℕ) → k < 32 → get_or (map_in at l) k 0 ≡ get_or l (at + k) 0
map_at at l k h = map_get at k l h

pub value_in : (at : ℕ) (l : List ℕ) (n : ℕ) → n < 256 → line_value (map_in at l) n ≡ get_or l (at + n / 8) 0 / 2 ^ (n % 8) % 2
value_in at l n h = ap (λ (x : ℕ). x / 2 ^ (n % 8) % 2) (map_at at l (n / 8) (omega arith))

pub power_exact : (k : ℕ) → k < 8 → (1 * 2 ^ k) % 256 ≡ 2 ^ k
power_exact k h = shl_exact {a = 1} 1 k 8 (omega arith) (omega arith) ∙ one-mul (2 ^ k)

-- the first i bytes of the levels are those of the waits: "every high line pending" (02, Q-4)
abbrev pub waits_from : List ℕ → ℕ → List ℕ
waits_from l i = paste l 110 (map_in 78 l) i

pub waits_none : (l : List ℕ) → l ≡ waits_from l 0
waits_none l = paste-zero l 110 (map_in 78 l)

level_byte : (l : List ℕ) (i : ℕ) → 174 ≤ length l → i < 32 → get_or (waits_from l i) (78 + i) 0 ≡ get_or (map_in 78 l) i 0
level_byte l i h b =
    let m = map_in 78 l in
    let long = map-length 78 l in
    let first = length-take-le 110 l (omega arith) in
    sym (get_or-take (110 + i) (waits_from l i) (78 + i) 0 (omega arith))
    ∙ ap (λ (z : List ℕ). get_or z (78 + i) 0) (take-paste l 110 m i (omega arith) (omega arith))
    ∙ get_or-append (take 110 l) (take i m) 0 (78 + i) (omega arith)
    ∙ get_or-take 110 l (78 + i) 0 (omega arith)
    ∙ sym (map_at 78 l i b)

pub waits_next : (l is : List ℕ) (i : ℕ) → 174 ≤ length l → i < 32 → is ≡ waits_from l i → set is (110 + i) (get_or is (78 + i) 0) ≡ waits_from l (i + 1)
waits_next l is i h b e =
    let long = map-length 78 l in
    let s : suc i ≡ i + 1 = omega arith in
    ap (λ (z : List ℕ). set z (110 + i) (get_or z (78 + i) 0)) e
    ∙ ap (set (waits_from l i) (110 + i)) (level_byte l i h b)
    ∙ paste-suc l 110 (map_in 78 l) i 0 (omega arith) (omega arith)
    ∙ ap (waits_from l) s

pub waits_all : (l is : List ℕ) (i : ℕ) → i ≡ 32 → is ≡ waits_from l i → is ≡ put 110 (map_in 78 l) l
unfolding put
waits_all l is i q e =
    let m = map_in 78 l in
    e
    ∙ ap (λ (k : ℕ). waits_from l k) (q ∙ sym (map-length 78 l))
    ∙ ap (λ (z : List ℕ). take 110 l ++ z ++ drop (110 + length m) l) (take-length m)

empty_at : (k : ℕ) → k < 96 → get_or three_empty k 0 ≡ 0
empty_at k h = eqb-true _ 0 (at_every 96 (λ (j : ℕ). eqb (get_or three_empty j 0) 0) refl k h)

-- cleared from a map up to i: "lower all lines and drop their waits and edges" (02, Q-4)
abbrev pub cleared_to : ℕ → List ℕ → ℕ → List ℕ
cleared_to at l i = paste l at three_empty (i - at)

pub cleared_none : (at : ℕ) (l : List ℕ) → l ≡ cleared_to at l at
cleared_none at l = let z : 0 ≡ at - at = omega arith in paste-zero l at three_empty ∙ ap (paste l at three_empty) z

pub cleared_next : (at : ℕ) (l is : List ℕ) (i : ℕ) → 174 ≤ length l → 78 ≤ at → at ≤ i → i < 174 → is ≡ cleared_to at l i
    → set is i 0 ≡ cleared_to at l (i + 1)
cleared_next at l is i h ha hi b e =
    let k = i - at in
    let p : i ≡ at + k = omega arith in
    let q : suc k ≡ i + 1 - at = omega arith in
    ap (λ (z : List ℕ). set z i 0) e
    ∙ ap (λ (j : ℕ). set (paste l at three_empty k) j 0) p
    ∙ ap (set (paste l at three_empty k) (at + k)) (sym (empty_at k (omega arith)))
    ∙ paste-suc l at three_empty k 0 (omega arith) (omega arith)
    ∙ ap (paste l at three_empty) q

pub cleared-all : (at : ℕ) (l is : List ℕ) (i : ℕ) → 78 ≤ at → i ≡ 174 → is ≡ cleared_to at l i → is ≡ put at (take (174 - at) three_empty) l
unfolding put
cleared-all at l is i ha q e =
    let long = length-take-le (174 - at) three_empty (omega arith) in
    e
    ∙ ap (cleared_to at l) q
    ∙ ap (λ (n : ℕ). take at l ++ take (174 - at) three_empty ++ drop (at + n) l) (sym long)
