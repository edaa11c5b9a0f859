-- P4 for the wires: each change keeps them sound, and six.
use Rattle.std.specs.Prelude.{ℕ, zero, suc, ◌+◌, ◌-◌, ◌*◌, ◌/◌, ◌%◌, ◌^◌, ◌≤◌, ◌<◌, Bool, true, false, ◌&&◌, ◌||◌, not, List, [], ◌∷◌, ◌++◌, map, ◌≡◌, refl, eqb, get_or, set, length}
use Rattle.std.proofs.Common.{true≢false, sym, ap, subst, ◌∙◌, ⊎_elim, arith, length-set, drop_of_length-le, ltb-true, lt-ltb, le-leb, eqb-true, ne_eqb}
use Rattle.std.specs.Int.Bits.{bit_and}
use Rattle.std.proofs.lemmas.Nat.{and_le_r}
use Rattle.std.proofs.Math.Pow.{pow-lt}
use Rattle.std.proofs.Math.Seq.{paste, paste-suc}
use Rattle.std.proofs.lemmas.List.{set-get_or}
use Rattle.base.specs.Pick.{or_either, pick, pick_ind, and_left, and_right, and_true}
use Rattle.wires.specs.Below.{at_every, every-at}
use Rattle.wires.specs.Table.{table, no_row, row_at, is_group, senders, is_up}
use Rattle.wires.specs.Rows.{row_right, in_table, DefinedBit, Settable, settable-bit}
use Rattle.wires.specs.Nibbles.{bit_of, clean_test, clean_view, clean_test_lem, nibble_clean, mask_inside, one_bit, nibble_small}
use Rattle.wires.specs.Groups.{first_place, level_at, mark_at, with_group, nibble, is_down, put_pair, put_pairs, settable, set_wire, unmarked, with_place, differs, remarked, enabled, disabled, platform_wires, fresh_wires, only_defined, mark_right, group_right, groups_right, place_right, sound_wires, whole_wires}
use Rattle.wires.specs.declared.WireRow.{WireRow}
use Rattle.wires.specs.declared.Wires.{Wires}

pub clash : {X : Type 0} → false ≡ true → X
clash e = absurd (true≢false (sym e))

-- ---- soundness, index by index

pub record Sound (on : Bool) (w : Wires) : Type 0 where
  pub clean : (i : ℕ) → 2 ≤ i → i ≤ 7 → only_defined w i ≡ true
  pub marks : (i : ℕ) → 2 ≤ i → i ≤ 7 → mark_at w i ≡ true → (is_up i ≡ true) × (on ≡ true)
  pub below : w.place < senders

-- a group of the table is an up group or not by its row
pub up-row : (i : ℕ) → 2 ≤ i → i ≤ 7 → is_up i ≡ not (row_at (i - 2)).down
up-row i h l = ap (λ (t : Bool). t && not (row_at (i - 2)).down) (and_true (le-leb 2 i h) (le-leb i 7 l))

pub sound_view : (on : Bool) (w : Wires) → sound_wires on w ≡ true → Sound on w
sound_view on w e =
    let p = and_right (groups_right on w (length table)) (place_right w) e in
    record {
      clean = λ i h l. and_left (only_defined w i) (mark_right on w i) (group i h l);
      marks = λ i h l t.
          let u = marked (mark_at w i) (on && not (row_at (i - 2)).down) (and_right (only_defined w i) (mark_right on w i) (group i h l)) t in
          (up-row i h l ∙ and_right on _ u, and_left on _ u);
      below = ltb-true w.place senders p;
    }
  where
    group : (i : ℕ) → 2 ≤ i → i ≤ 7 → group_right on w i ≡ true
    group i h l =
        let q : i - 2 + 2 ≡ i = omega arith in
        subst (λ (j : ℕ). group_right on w j ≡ true) q
        (at_every (length table) (λ (k : ℕ). group_right on w (k + 2)) (and_left (groups_right on w (length table)) (place_right w) e) (i - 2) (omega arith))

    marked : (m b : Bool) → not m || b ≡ true → m ≡ true → b ≡ true
    marked true b q t = q
    marked false b q t = clash t

pub sound_test : (on : Bool) (w : Wires) → Sound on w → sound_wires on w ≡ true
sound_test on w s =
    and_true (every-at (length table) (λ (k : ℕ). group_right on w (k + 2)) (λ k h. group (k + 2) (omega arith) (omega arith)))
    (lt-ltb w.place senders s.below)
  where
    right : (i : ℕ) → 2 ≤ i → i ≤ 7 → (m : Bool) → mark_at w i ≡ m → not m || (on && not (row_at (i - 2)).down) ≡ true
    right i h l true e = let t = s.marks i h l e in and_true t.1 (sym (up-row i h l) ∙ t.0)
    right i h l false e = refl

    group : (i : ℕ) → 2 ≤ i → i ≤ 7 → group_right on w i ≡ true
    group i h l = and_true (s.clean i h l) (right i h l (mark_at w i) refl)

-- ---- one group changed

-- what a list has at a place after a change at one: what was put there, or what it had
pub set_cases : {A : Type 0} (Q : A → Type 0) (l : List A) (i j : ℕ) (a d : A) → (j ≡ i → Q a) → Q (get_or l j d) → Q (get_or (set l i a) j d)
set_cases Q [] i j a d f q = q
set_cases Q (x ∷ l) zero zero a d f q = f refl
set_cases Q (x ∷ l) zero (suc j) a d f q = q
set_cases Q (x ∷ l) (suc i) zero a d f q = q
set_cases Q (x ∷ l) (suc i) (suc j) a d f q = set_cases Q l i j a d (λ e. f (ap suc e)) q

sound_with : {on : Bool} {w : Wires} (i level : ℕ) (mark : Bool) (p : ℕ) → 2 ≤ i → i ≤ 7 → clean_test (row_at (i - 2)).defined level ≡ true
    → (mark ≡ true → (is_up i ≡ true) × (on ≡ true)) → p < senders → Sound on w → Sound on (with_group w i level mark p)
sound_with {on} {w} i level mark p h l c m below s =
    record {
      clean = λ j hj lj.
          set_cases (λ (x : ℕ). clean_test (row_at (j - 2)).defined x ≡ true) w.level (i - 2) (j - 2) level 0
          (λ e. subst (λ (k : ℕ). clean_test (row_at k).defined level ≡ true) (sym e) c)
          (s.clean j hj lj);
      marks = λ j hj lj.
          set_cases (λ (b : Bool). b ≡ true → (is_up j ≡ true) × (on ≡ true)) w.pending (i - 2) (j - 2) mark false
          (λ e. let q : i ≡ j = omega arith in subst (λ (k : ℕ). mark ≡ true → (is_up k ≡ true) × (on ≡ true)) q m)
          (s.marks j hj lj);
      below = below;
    }

-- ---- each change

small_row : (i : ℕ) → 2 ≤ i → i ≤ 7 → (row_at (i - 2)).defined < 16
small_row i h l = (row_right (i - 2) (omega arith)).defined_small

-- a level with bits changed under a mask of defined bits
clean_nibble : {on : Bool} {w : Wires} (i val mask : ℕ) → 2 ≤ i → i ≤ 7 → mask < 16
    → ((k : ℕ) → k < 4 → bit_of (row_at (i - 2)).defined k ≡ 0 → bit_of mask k ≡ 0) → Sound on w
    → clean_test (row_at (i - 2)).defined (nibble (level_at w i) val mask) ≡ true
clean_nibble {on} {w} i val mask h l hm m s =
    let d = (row_at (i - 2)).defined in
    clean_test_lem d _ (small_row i h l) (nibble_clean d (level_at w i) val mask hm m (clean_view d (level_at w i) (small_row i h l) (s.clean i h l)))

pair-kept : {on : Bool} (w : Wires) (i b : ℕ) → Sound on w → Sound on (put_pair w i b)
pair-kept {on} w i b s =
    pick_ind (Sound on) (is_down i)
    (λ e.
    let t = in_table i (and_left (is_group i) (row_at (i - 2)).down e) in
    let d = (row_at (i - 2)).defined in
    sound_with i _ (mark_at w i) w.place t.from t.upto
    (clean_nibble i (b % 16) (bit_and (b / 16) d) t.from t.upto
    (omega (arith, and_le_r (b / 16) d, small_row i t.from t.upto))
    (λ k _ q. mask_inside (b / 16) d k q) s)
    (s.marks i t.from t.upto) s.below
    s)
    (λ _. s)

pairs-kept : {on : Bool} (w : Wires) (ps : List ℕ) → Sound on w → Sound on (put_pairs w ps)
unfolding put_pairs
pairs-kept w [] s = s
pairs-kept w (i ∷ []) s = s
pairs-kept w (i ∷ b ∷ ps) s = pairs-kept (put_pair w i b) ps (pair-kept w i b s)

wire_kept : (on : Bool) (w : Wires) (i bit value : ℕ) → Settable i bit value → Sound on w → Sound on (set_wire on w i bit value)
wire_kept on w i bit value t s =
    let d = t.defined in
    sound_with i _ _ w.place d.from d.upto
    (clean_nibble i (value * 2 ^ bit) (2 ^ bit) d.from d.upto (pow-lt d.small) (alone d) s)
    (λ e. ⊎_elim (s.marks i d.from d.upto) (λ o. (up-row i d.from d.upto ∙ ap not t.up, and_left on _ o)) (or_either (mark_at w i) _ e))
    s.below s
  where
    alone : DefinedBit i bit → (k : ℕ) → k < 4 → bit_of (row_at (i - 2)).defined k ≡ 0 → bit_of (2 ^ bit) k ≡ 0
    alone d k hk z =
        one_bit bit k d.small hk
        ∙ ap (λ (b : Bool). pick b 1 0)
        (ne_eqb k bit (λ e. let q : ◌≡◌ {A = ℕ} 0 1 = sym z ∙ ap (bit_of (row_at (i - 2)).defined) e ∙ d.one in omega arith))

-- a group sent, or another place alone
unmarked-kept : {on : Bool} (w : Wires) (i p : ℕ) → 2 ≤ i → i ≤ 7 → p < senders → Sound on w → Sound on (unmarked w i p)
unmarked-kept w i p from upto below s = sound_with i (level_at w i) false p from upto (s.clean i from upto) clash below s

placed-kept : {on : Bool} (w : Wires) (p : ℕ) → p < senders → Sound on w → Sound on (with_place w p)
placed-kept w p below s = record { clean = s.clean; marks = s.marks; below = below }

map_at : {A B : Type 0} (f : A → B) (l : List A) (k : ℕ) (d : A) (e : B) → k < length l → get_or (map f l) k e ≡ f (get_or l k d)
map_at f [] k d e h = absurd (omega arith)
map_at f (x ∷ l) zero d e h = refl
map_at f (x ∷ l) (suc k) d e h = map_at f l k d e (omega arith)

-- the marks anew, index by index
pub remarked_mark : (on : Bool) (w : Wires) (p i : ℕ) → 2 ≤ i → i ≤ 7 → mark_at (remarked on w p) i ≡ (on && differs w i)
remarked_mark on w p i h l =
    let q : i - 2 + 2 ≡ i = omega arith in
    map_at (λ (r : WireRow). on && differs w r.index) table (i - 2) no_row false (omega arith)
    ∙ ap (λ (j : ℕ). on && differs w j) ((row_right (i - 2) (omega arith)).index_is ∙ q)

-- one mark after the other
pub remarked_next : (on : Bool) (w next : Wires) (p i : ℕ) → i < 6 → length w.pending ≡ 6 → next.level ≡ w.level
    → next.pending ≡ paste w.pending 0 (remarked on w p).pending i
    → let v = with_group next (i + 2) (get_or w.level i 0) (on && (not (row_at i).down && not (eqb (get_or w.level i 0) (row_at i).reset))) p in
    (v.level ≡ w.level) × (v.pending ≡ paste w.pending 0 (remarked on w p).pending (i + 1))
remarked_next on w next p i h l e f =
    let d : i + 2 - 2 ≡ i = omega arith in
    let z : i ≡ 0 + i = omega arith in
    let s : suc i ≡ i + 1 = omega arith in
    let marks : List Bool = (remarked on w p).pending in
    let at : ℕ → Bool = λ j. on && (not (row_at j).down && not (eqb (get_or w.level j 0) (row_at j).reset)) in
    let m : at i ≡ get_or marks i false = ap at (sym d) ∙ sym (remarked_mark on w p (i + 2) (omega arith) (omega arith)) ∙ ap (λ (j : ℕ). get_or marks j false)
    d in (
      ap (λ (j : ℕ). set next.level j (get_or w.level i 0)) d ∙ ap (λ (l : List ℕ). set l i (get_or w.level i 0)) e ∙ set-get_or w.level i 0,
      ap (λ (j : ℕ). set next.pending j (at i)) d
          ∙ ap (λ (l : List Bool). set l i (at i)) f
          ∙ ap (set (paste w.pending 0 marks i) i) m
          ∙ ap (λ (j : ℕ). set (paste w.pending 0 marks i) j (get_or marks i false)) z
          ∙ paste-suc w.pending 0 marks i false (omega arith) (omega arith)
          ∙ ap (paste w.pending 0 marks) s,
    )

-- levels, marks and place are the wires
pub same_wires : {v w : Wires} → v.level ≡ w.level → v.pending ≡ w.pending → v.place ≡ w.place → v ≡ w
same_wires {v} {w} e f g =
    ap (λ (l : List ℕ). record { level = l; pending = v.pending; place = v.place }) e
    ∙ ap (λ (m : List Bool). record { level = w.level; pending = m; place = v.place }) f
    ∙ ap (λ (n : ℕ). record { level = w.level; pending = w.pending; place = n }) g

pub remarked-all : (on : Bool) (w next : Wires) (p : ℕ) → length w.pending ≡ 6 → next.level ≡ w.level
    → next.pending ≡ paste w.pending 0 (remarked on w p).pending 6 → next.place ≡ p → next ≡ remarked on w p
remarked-all on w next p l e f g =
    let marks : List Bool = (remarked on w p).pending in
    let q : next.pending ≡ marks = f ∙ ap (λ (t : List Bool). marks ++ t) (drop_of_length-le w.pending {i = 6} (omega arith)) in
    same_wires e q g

remarked-kept : {was : Bool} (on : Bool) (w : Wires) (p : ℕ) → p < senders → Sound was w → Sound on (remarked on w p)
remarked-kept on w p below s =
    record {
      clean = s.clean;
      marks = λ i h l t.
          let e = sym (remarked_mark on w p i h l) ∙ t in
          (up-row i h l ∙ and_left (not (row_at (i - 2)).down) _ (and_right on _ e), and_left on _ e);
      below = below;
    }

platform_kept : {on : Bool} (w : Wires) → Sound on w → Sound on (platform_wires w)
platform_kept w s =
    sound_with 7 _ false first_place (omega arith) (omega arith) refl clash (omega arith)
    (sound_with 6 _ false first_place (omega arith) (omega arith) refl clash (omega arith) s)

-- ---- the laws: soundness is kept

pub sound-fresh : (on : Bool) → sound_wires on fresh_wires ≡ true
sound-fresh true = refl
sound-fresh false = refl

pub sound-put : (on : Bool) (w : Wires) (ps : List ℕ) → sound_wires on w ≡ true → sound_wires on (put_pairs w ps) ≡ true
sound-put on w ps e = sound_test on _ (pairs-kept w ps (sound_view on w e))

pub sound-set : (on : Bool) (w : Wires) (i bit value : ℕ) → settable i bit value ≡ true → sound_wires on w ≡ true
    → sound_wires on (set_wire on w i bit value) ≡ true
sound-set on w i bit value t e = sound_test on _ (wire_kept on w i bit value (settable-bit i bit value t) (sound_view on w e))

pub sound-unmarked : (on : Bool) (w : Wires) (i p : ℕ) → 2 ≤ i → i ≤ 7 → p < senders → sound_wires on w ≡ true → sound_wires on (unmarked w i p) ≡ true
sound-unmarked on w i p from upto below e = sound_test on _ (unmarked-kept w i p from upto below (sound_view on w e))

pub sound-placed : (on : Bool) (w : Wires) (p : ℕ) → p < senders → sound_wires on w ≡ true → sound_wires on (with_place w p) ≡ true
sound-placed on w p below e = sound_test on _ (placed-kept w p below (sound_view on w e))

pub sound-enabled : (w : Wires) → sound_wires false w ≡ true → sound_wires true (enabled w) ≡ true
sound-enabled w e = let s = sound_view false w e in sound_test true _ (remarked-kept true w w.place s.below s)

pub sound-disabled : (on : Bool) (w : Wires) → sound_wires on w ≡ true → sound_wires false (disabled w) ≡ true
sound-disabled on w e = sound_test false _ (remarked-kept false w first_place (omega arith) (sound_view on w e))

pub sound_platform : (on : Bool) (w : Wires) → sound_wires on w ≡ true → sound_wires on (platform_wires w) ≡ true
sound_platform on w e = sound_test on _ (platform_kept w (sound_view on w e))

-- a level is four bits
pub sound_level : (on : Bool) (w : Wires) → sound_wires on w ≡ true → (i : ℕ) → 2 ≤ i → i ≤ 7 → level_at w i < 16
sound_level on w e i h l = (clean_view (row_at (i - 2)).defined (level_at w i) (small_row i h l) ((sound_view on w e).clean i h l)).small

-- what a packet's bytes ask of the levels
pub sound-levels : (on : Bool) (w : Wires) → sound_wires on w ≡ true → (i : ℕ) → is_up i ≡ true → level_at w i < 16
sound-levels on w e i u = let t = in_table i (and_left (is_group i) _ u) in sound_level on w e i t.from t.upto

-- four bits stay four bits
pair_small : (w : Wires) (i b j : ℕ) → level_at w j < 16 → level_at (put_pair w i b) j < 16
pair_small w i b j h =
    pick_ind (λ (v : Wires). level_at v j < 16) (is_down i)
    (λ e.
    let t = in_table i (and_left (is_group i) (row_at (i - 2)).down e) in
    let d = (row_at (i - 2)).defined in
    set_cases (λ (x : ℕ). x < 16) w.level (i - 2) (j - 2) _ 0
    (λ _. nibble_small (level_at w i) (b % 16) (bit_and (b / 16) d) (omega (arith, and_le_r (b / 16) d, small_row i t.from t.upto))) h)
    (λ _. h)

pub put_small : (w : Wires) (ps : List ℕ) (j : ℕ) → level_at w j < 16 → level_at (put_pairs w ps) j < 16
unfolding put_pairs
put_small w [] j h = h
put_small w (i ∷ []) j h = h
put_small w (i ∷ b ∷ ps) j h = put_small (put_pair w i b) ps j (pair_small w i b j h)

-- ---- the laws: six groups stay six

pub whole_with : (w : Wires) (i level : ℕ) (mark : Bool) (p : ℕ) → whole_wires (with_group w i level mark p) ≡ whole_wires w
whole_with w i level mark p = rw (length-set w.level (i - 2) level, length-set w.pending (i - 2) mark)

pub whole_pair : (w : Wires) (i b : ℕ) → whole_wires (put_pair w i b) ≡ whole_wires w
whole_pair w i b = pick_ind (λ (v : Wires). whole_wires v ≡ whole_wires w) (is_down i) (λ _. whole_with w i _ _ w.place) (λ _. refl)

pub whole_put : (w : Wires) (ps : List ℕ) → whole_wires (put_pairs w ps) ≡ whole_wires w
unfolding put_pairs
whole_put w [] = refl
whole_put w (i ∷ []) = refl
whole_put w (i ∷ b ∷ ps) = whole_put (put_pair w i b) ps ∙ whole_pair w i b

pub whole_set : (on : Bool) (w : Wires) (i bit value : ℕ) → whole_wires (set_wire on w i bit value) ≡ whole_wires w
whole_set on w i bit value = whole_with w i _ _ w.place

pub whole_remarked : (on : Bool) (w : Wires) (p : ℕ) → whole_wires w ≡ true → whole_wires (remarked on w p) ≡ true
whole_remarked on w p e = and_true (and_left (eqb (length w.level) 6) _ e) refl

pub whole_platform : (w : Wires) → whole_wires (platform_wires w) ≡ whole_wires w
whole_platform w = simp length-set

pub whole_fresh : whole_wires fresh_wires ≡ true
whole_fresh = refl

pub whole_level : (w : Wires) → whole_wires w ≡ true → length w.level ≡ 6
whole_level w e = eqb-true _ 6 (and_left (eqb (length w.level) 6) _ e)

pub whole_marks : (w : Wires) → whole_wires w ≡ true → length w.pending ≡ 6
whole_marks w e = eqb-true _ 6 (and_right (eqb (length w.level) 6) _ e)
