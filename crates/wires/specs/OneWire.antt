-- One wire in the pass: its bit of the four words says its value and its transitions so far; any other bit stays.
use Rattle.std.specs.Prelude.{ℕ, ◌+◌, ◌*◌, ◌/◌, ◌%◌, ◌^◌, ◌≤◌, ◌<◌, Bool, ◌&&◌, not, ◌≡◌, eqb, ltb}
use Rattle.std.proofs.Math.Bool.{true, false}
use Rattle.std.proofs.Common.{true≢false, sym, ap₂, subst, ◌∙◌, arith, add_assoc, eqb-true, eq-eqb, lt-ltb, le-ltb}
use mathlib.Core.List.{List, [], ◌∷◌}
use Rattle.std.proofs.Math.Path.{refl, ap}
use Rattle.std.specs.Int.Bits.{bit_and, bit_or, bit_xor, and_zero_l, and_zero_r, xor_zero_r}
use Rattle.base.specs.Pick.{pick, and_left, and_right}
use Rattle.base.specs.Bytes.{bit}
use Rattle.wires.specs.Below.{at_both}
use Rattle.wires.specs.Nibbles.{bit_of, Binary, off, on, binary, and_bit, or_bit, xor_bit}
use Rattle.wires.specs.Lanes.{low_bit, group_bit}
use Rattle.wires.specs.Groups.{is_down, defined_bit}
use Rattle.wires.specs.Changes.{names, last_named}
use Rattle.wires.specs.Transitions.{values_given, transitions}
use Rattle.wires.specs.Course.{host_wires, changed_by, counted, past_pair, past_pairs}
use Rattle.wires.specs.declared.Course.{Course}

-- ---- one bit

-- so many transitions of a wire, as the three words have them
pub data Seen : (n once twice third : ℕ) → Type 0 where
  none : Seen 0 0 0 0
  one : Seen 1 1 0 0
  two : Seen 2 1 1 0
  more : (n : ℕ) → 3 ≤ n → Seen n 1 1 1

seen_next : {n o t h x : ℕ} → Seen n o t h → Binary x → Seen (n + x) (bit_or o x) (bit_or t (bit_and o x)) (bit_or h (bit_and t x))
seen_next none off = none
seen_next none on = one
seen_next one off = one
seen_next one on = two
seen_next two off = two
seen_next two on = more 3 (omega arith)
seen_next (more n h) off = more (n + 0) (omega arith)
seen_next (more n h) on = more (n + 1) (omega arith)

pub seen_third : {n o t h : ℕ} → Seen n o t h → h ≡ bit (ltb 2 n)
seen_third none = refl
seen_third one = refl
seen_third two = refl
seen_third (more n h) = ap bit (sym (lt-ltb 2 n h))

-- a valid value changes a wire exactly where it differs, and is its value then
valid_value : {l v : ℕ} → Binary l → Binary v → (bit_and (bit_xor l v) (bit_and 1 1) ≡ bit (not (eqb l v))) × (bit_xor l (bit (not (eqb l v))) ≡ v)
valid_value off off = (refl, refl)
valid_value off on = (refl, refl)
valid_value on off = (refl, refl)
valid_value on on = (refl, refl)

bit_binary : (t : Bool) → Binary (bit t)
bit_binary true = on
bit_binary false = off

-- ---- one wire, or a bit of the words that is none

pub host_bit : (i k : ℕ) → i < 8 → k < 4 → bit_of host_wires (i * 4 + k) ≡ bit (is_down i && defined_bit i k)
host_bit i k h l = eqb-true _ _ (at_both 8 4 (λ (a b : ℕ). eqb (bit_of host_wires (a * 4 + b)) (bit (is_down a && defined_bit a b))) refl i k h l)

module _ (i k : ℕ) (low : i < 8) (small : k < 4) where
  abbrev p : ℕ
  p = i * 4 + k

  -- what the words have of it
  pub record Has (c : Course) (l n : ℕ) : Type 0 where
    pub level : bit_of c.level p ≡ l
    pub seen : Seen n (bit_of c.once p) (bit_of c.twice p) (bit_of c.third p)

  changed_bit : (level j d : ℕ)
      → bit_of (changed_by level j d) p
      ≡ bit_and (bit_xor (bit_of level p) (pick (eqb j i) (bit_of (d % 16) k) 0)) (bit_and (pick (eqb j i) (bit_of (d / 16) k) 0) (bit_of host_wires p))
  changed_bit level j d =
      let value = d % 16 * 2 ^ (j * 4) in
      let valid = d / 16 % 16 * 2 ^ (j * 4) in
      and_bit (bit_xor level value) (bit_and valid host_wires) p
      ∙ ap₂ bit_and
      (xor_bit level value p ∙ ap (bit_xor (bit_of level p)) (group_bit (d % 16) j i k (omega arith) small))
      (and_bit valid host_wires p
      ∙ ap (λ (x : ℕ). bit_and x (bit_of host_wires p))
      (group_bit (d / 16 % 16) j i k (omega arith) small ∙ ap (λ (x : ℕ). pick (eqb j i) x 0) (low_bit (d / 16) k small)))

  -- the words after a change of these wires, this one's bit being x
  counted-bit : {c : Course} {l n : ℕ} (x y : ℕ) → bit_of y p ≡ x → Binary x → Has c l n → Has (counted c y) (bit_xor l x) (n + x)
  counted-bit {c} x y e b h =
      record {
        level = xor_bit c.level y p ∙ ap₂ bit_xor h.level e;
        seen = rw (
          or_bit c.once y p,
          or_bit c.twice (bit_and c.once y) p,
          or_bit c.third (bit_and c.twice y) p,
          and_bit c.once y p,
          and_bit c.twice y p,
          e,
        ) (seen_next h.seen b);
      }

  -- none of its own
  kept-bit : {c : Course} {l n : ℕ} (y : ℕ) → bit_of y p ≡ 0 → Has c l n → Has (counted c y) l n
  kept-bit {c} {l} {n} y e h =
      let g = counted-bit 0 y e off h in
      let z : n + 0 ≡ n = omega arith in
      record {
        level = g.level ∙ xor_zero_r l;
        seen = subst (λ (m : ℕ). Seen m (bit_of (counted c y).once p) (bit_of (counted c y).twice p) (bit_of (counted c y).third p)) z g.seen;
      }

  past_group : (c : Course) (j d : ℕ) (t : Bool) → ltb 7 j ≡ t → past_pair c j d ≡ pick t c (counted c (changed_by c.level j d))
  unfolding past_pair
  past_group c j d t e = ap (λ (b : Bool). pick b c (counted c (changed_by c.level j d))) e

  -- a pair in which no bit of the words is its own
  kept_pair : {c : Course} {l n : ℕ} (j d : ℕ) → bit_of (changed_by c.level j d) p ≡ 0 → Has c l n → Has (past_pair c j d) l n
  kept_pair {c} {l} {n} j d e h = go (ltb 7 j) refl
    where
      go : (t : Bool) → ltb 7 j ≡ t → Has (past_pair c j d) l n
      go true q = subst (λ (v : Course). Has v l n) (sym (past_group c j d true q)) h
      go false q = subst (λ (v : Course). Has v l n) (sym (past_group c j d false q)) (kept-bit _ e h)

  -- ---- a bit that is no wire of the host's

  module _ (none : bit_of host_wires p ≡ 0) where
    other_pair : {c : Course} {l n : ℕ} (j d : ℕ) → Has c l n → Has (past_pair c j d) l n
    other_pair {c} j d h =
        let x = bit_xor (bit_of c.level p) (pick (eqb j i) (bit_of (d % 16) k) 0) in
        let v = pick (eqb j i) (bit_of (d / 16) k) 0 in
        kept_pair j d (changed_bit c.level j d ∙ ap (λ (m : ℕ). bit_and x (bit_and v m)) none ∙ ap (bit_and x) (and_zero_r v) ∙ and_zero_r x) h

    pub other_pairs : {l n : ℕ} (ps : List ℕ) (c : Course) → Has c l n → Has (past_pairs c ps) l n
    unfolding past_pairs
    other_pairs [] c h = h
    other_pairs (j ∷ []) c h = h
    other_pairs (j ∷ d ∷ ps) c h = other_pairs ps (past_pair c j d) (other_pair j d h)

  -- ---- a wire of the host's

  not_named : (t : Bool) {m : ℕ} → Binary m → (t && eqb m 1) ≡ false → pick t m 0 ≡ 0
  not_named true off e = refl
  not_named true on e = absurd (true≢false e)
  not_named false b e = refl

  module _ (host : bit_of host_wires p ≡ 1) where
    passed-pair : {c : Course} {l n : ℕ} (j d : ℕ) → names j d i k ≡ false → Has c l n → Has (past_pair c j d) l n
    passed-pair {c} j d e h =
        let x = bit_xor (bit_of c.level p) (pick (eqb j i) (bit_of (d % 16) k) 0) in
        kept_pair j d
        (changed_bit c.level j d
        ∙ ap (λ (m : ℕ). bit_and x (bit_and m (bit_of host_wires p))) (not_named (eqb j i) (binary (d / 16 / 2 ^ k)) e)
        ∙ ap (bit_and x) (and_zero_l (bit_of host_wires p))
        ∙ and_zero_r x)
        h

    named_pair : {c : Course} {l n : ℕ} (j d : ℕ) → Binary l → names j d i k ≡ true → Has c l n
        → Has (past_pair c j d) (bit_of (d % 16) k) (n + bit (not (eqb l (bit_of (d % 16) k))))
    named_pair {c} {l} {n} j d b e h =
        let v = bit_of (d % 16) k in
        let q = eqb-true j i (and_left (eqb j i) _ e) in
        let m = eqb-true (bit_of (d / 16) k) 1 (and_right (eqb j i) (eqb (bit_of (d / 16) k) 1) e) in
        let s = valid_value b (binary (d % 16 / 2 ^ k)) in
        let x : bit_of (changed_by c.level j d) p ≡ bit (not (eqb l v)) = changed_bit c.level j d
        ∙ ap₂ (λ (t : Bool) (o : ℕ). bit_and (bit_xor o (pick t v 0)) (bit_and (pick t (bit_of (d / 16) k) 0) (bit_of host_wires p))) (eq-eqb j i q) h.level
        ∙ ap₂ (λ (a o : ℕ). bit_and (bit_xor l v) (bit_and a o)) m host ∙ s.0 in
        subst (λ (u : Course). Has u v (n + bit (not (eqb l v)))) (sym (past_group c j d false (le-ltb 7 j (omega arith))))
        (subst (λ (u : ℕ). Has (counted c (changed_by c.level j d)) u (n + bit (not (eqb l v)))) s.1
        (counted-bit (bit (not (eqb l v))) (changed_by c.level j d) x (bit_binary (not (eqb l v))) h))

    -- what a pass makes of it: its value, and whether it has a third transition
    pub record Ran (ps : List ℕ) (l n : ℕ) (c : Course) : Type 0 where
      pub level : bit_of c.level p ≡ last_named ps i k l
      pub third : bit_of c.third p ≡ bit (ltb 2 (n + transitions (l ∷ values_given ps i k)))

    ran_none : {ps : List ℕ} {l n : ℕ} {c : Course} → last_named ps i k l ≡ l → transitions (l ∷ values_given ps i k) ≡ 0 → Has c l n → Ran ps l n c
    ran_none {ps} {l} {n} e f h =
        let z : n ≡ n + transitions (l ∷ values_given ps i k) = omega (arith, f) in
        record { level = h.level ∙ sym e; third = seen_third h.seen ∙ ap (λ (m : ℕ). bit (ltb 2 m)) z }

    ran_next : {ps : List ℕ} {l n j d : ℕ} {c : Course} (t : Bool) → names j d i k ≡ t
        → (t ≡ true → Ran ps (bit_of (d % 16) k) (n + bit (not (eqb l (bit_of (d % 16) k)))) c)
        → (t ≡ false → Ran ps l n c)
        → Ran (j ∷ d ∷ ps) l n c
    unfolding last_named values_given transitions
    ran_next {ps} {l} {n} {j} {d} true e f g =
        let v = bit_of (d % 16) k in
        let r = f refl in
        record {
          level = r.level ∙ ap (λ (t : Bool). last_named ps i k (pick t v l)) (sym e);
          third = r.third ∙ ap (λ (m : ℕ). bit (ltb 2 m)) (add_assoc n (bit (not (eqb l v))) (transitions (v ∷ values_given ps i k)))
              ∙ ap (λ (t : Bool). bit (ltb 2 (n + transitions (l ∷ pick t (v ∷ values_given ps i k) (values_given ps i k))))) (sym e);
        }
    ran_next {ps} {l} {n} {j} {d} false e f g =
        let v = bit_of (d % 16) k in
        let r = g refl in
        record {
          level = r.level ∙ ap (λ (t : Bool). last_named ps i k (pick t v l)) (sym e);
          third = r.third ∙ ap (λ (t : Bool). bit (ltb 2 (n + transitions (l ∷ pick t (v ∷ values_given ps i k) (values_given ps i k))))) (sym e);
        }

    pub ran : {l n : ℕ} (ps : List ℕ) (c : Course) → Binary l → Has c l n → Ran ps l n (past_pairs c ps)
    unfolding past_pairs last_named values_given transitions
    ran {l} {n} [] c b h = ran_none refl refl h
    ran {l} {n} (j ∷ []) c b h = ran_none refl refl h
    ran {l} {n} (j ∷ d ∷ ps) c b h =
        ran_next (names j d i k) refl
        (λ e. ran {l = bit_of (d % 16) k} {n = n + bit (not (eqb l (bit_of (d % 16) k)))} ps (past_pair c j d) (binary (d % 16 / 2 ^ k)) (named_pair j d b e h))
        (λ e. ran {l = l} {n = n} ps (past_pair c j d) b (passed-pair j d e h))
