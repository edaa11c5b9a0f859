-- P18: the six rows of the wire table and the senders among them, by computed tests, and what the tests on an index, a bit and a value say.
use Rattle.std.specs.Prelude.{ℕ, zero, suc, ◌+◌, ◌-◌, ◌*◌, ◌/◌, ◌%◌, ◌^◌, ◌≤◌, ◌<◌, Bool, true, false, ◌&&◌, not, ◌≡◌, refl, eqb, ltb, leb, length}
use Rattle.std.proofs.Common.{sym, ap, subst, ◌∙◌, arith, one-mul, shl_exact, leb-true, ltb-true, ltb-false, eqb-true, lt-ltb}
use Rattle.std.specs.Int.Bits.{bit_and}
use Rattle.std.proofs.lemmas.Bool.{eqb-false, not-true}
use Rattle.base.specs.Pick.{pick, and_left, and_right}
use Rattle.wires.specs.Below.{every, at_every}
use Rattle.wires.specs.Table.{table, row_at, is_group, up_groups, line_count, is_line, senders, group_at, sender_of, is_up}
use Rattle.wires.specs.Groups.{defined_bit, settable}

-- ---- the rows

-- what is right of the row at place k
abbrev pub right_row : ℕ → Bool
right_row k =
    eqb (row_at k).index (k + 2)
    && (eqb (bit_and (row_at k).reset (row_at k).defined) (row_at k).reset && (ltb (row_at k).defined 16 && ltb (row_at k).reset 16))

pub record RightRow (k : ℕ) : Type 0 where
  pub index_is : (row_at k).index ≡ k + 2
  pub reset_in : bit_and (row_at k).reset (row_at k).defined ≡ (row_at k).reset
  pub defined_small : (row_at k).defined < 16
  pub reset_small : (row_at k).reset < 16

right_row_lem : (k : ℕ) → right_row k ≡ true → RightRow k
right_row_lem k e =
    let r = row_at k in
    let e₁ = and_right (eqb r.index (k + 2)) _ e in
    let e₂ = and_right (eqb (bit_and r.reset r.defined) r.reset) _ e₁ in
    record {
      index_is = eqb-true _ _ (and_left (eqb r.index (k + 2)) _ e);
      reset_in = eqb-true _ _ (and_left (eqb (bit_and r.reset r.defined) r.reset) _ e₁);
      defined_small = ltb-true _ _ (and_left (ltb r.defined 16) _ e₂);
      reset_small = ltb-true _ _ (and_right (ltb r.defined 16) _ e₂);
    }

-- each row: its index is its place and 2, its reset value lies in its defined bits, which are four at most
pub row_right : (k : ℕ) → k < 6 → RightRow k
row_right k h = right_row_lem k (at_every (length table) right_row refl k h)

-- ---- the senders behind the lines are the groups 4 to 6, in that order, and going round begins with the first of them

abbrev pub right_group : ℕ → Bool
right_group i = (leb line_count (sender_of i) && ltb (sender_of i) senders) && (eqb (group_at (sender_of i)) i && (leb 4 i && leb i 6))

pub record UpGroup (i : ℕ) : Type 0 where
  pub above : line_count ≤ sender_of i
  pub below : sender_of i < senders
  pub back : group_at (sender_of i) ≡ i
  pub from : 4 ≤ i
  pub upto : i ≤ 6

-- a test that holds wherever another does, of the numbers below n
where_holds : (n : ℕ) (f g : ℕ → Bool) → every n (λ (k : ℕ). pick (f k) (g k) true) ≡ true → (k : ℕ) → k < n → f k ≡ true → g k ≡ true
where_holds n f g e k h t = subst (λ (b : Bool). pick b (g k) true ≡ true) t (at_every n (λ (j : ℕ). pick (f j) (g j) true) e k h)

pub up_group : (i : ℕ) → is_up i ≡ true → UpGroup i
up_group i u =
    let l = leb-true i 7 (and_right (leb 2 i) _ (and_left (is_group i) _ u)) in
    let e = where_holds 8 is_up right_group refl i (omega arith) u in
    let e₀ = and_left (leb line_count (sender_of i) && ltb (sender_of i) senders) _ e in
    let e₁ = and_right (leb line_count (sender_of i) && ltb (sender_of i) senders) _ e in
    let e₂ = and_right (eqb (group_at (sender_of i)) i) _ e₁ in
    record {
      above = leb-true line_count (sender_of i) (and_left (leb line_count (sender_of i)) _ e₀);
      below = ltb-true _ _ (and_right (leb line_count (sender_of i)) _ e₀);
      back = eqb-true _ _ (and_left (eqb (group_at (sender_of i)) i) _ e₁);
      from = leb-true 4 i (and_left (leb 4 i) _ e₂);
      upto = leb-true i 6 (and_right (leb 4 i) _ e₂);
    }

-- what holds of each up group holds of any
pub by_group : (P : ℕ → Type 0) (i : ℕ) → is_up i ≡ true → P 4 → P 5 → P 6 → P i
by_group P i u four five six = let g = up_group i u in go (i - 4) (omega (arith, g.from)) (omega (arith, g.upto))
  where
    go : (k : ℕ) → i ≡ k + 4 → k ≤ 2 → P i
    go zero e h = subst P (sym e) four
    go (suc zero) e h = subst P (sym e) five
    go (suc (suc zero)) e h = subst P (sym e) six
    go (suc (suc (suc k))) e h = absurd (omega arith)

-- so one that is neither 4 nor 5 is 6: where a chain of guards ends
pub last_group : (i : ℕ) → is_up i ≡ true → (i ≡ 4 → ⊥) → (i ≡ 5 → ⊥) → i ≡ 6
last_group i u = by_group (λ (j : ℕ). (j ≡ 4 → ⊥) → (j ≡ 5 → ⊥) → j ≡ 6) i u (λ a b. absurd (a refl)) (λ a b. absurd (b refl)) (λ a b. refl)

pub first_sender : group_at line_count ≡ 4
first_sender = refl

-- sender k, behind the lines, is a group
pub record Sender (k : ℕ) : Type 0 where
  pub up : is_up (group_at k) ≡ true
  pub own : sender_of (group_at k) ≡ k

pub sender : (k : ℕ) → line_count ≤ k → k < senders → Sender k
sender k l h =
    let j = k - line_count in
    let q : line_count + j ≡ k = omega arith in
    subst Sender q
    (go j (at_every up_groups (λ (j : ℕ). is_up (group_at (line_count + j)) && eqb (sender_of (group_at (line_count + j))) (line_count + j)) refl j
    (omega arith)))
  where
    go : (j : ℕ) → is_up (group_at (line_count + j)) && eqb (sender_of (group_at (line_count + j))) (line_count + j) ≡ true → Sender (line_count + j)
    go j e = record { up = and_left (is_up (group_at (line_count + j))) _ e; own = eqb-true _ _ (and_right (is_up (group_at (line_count + j))) _ e) }

-- its group lies in the table
pub sender_group : (k : ℕ) → line_count ≤ k → k < senders → UpGroup (group_at k)
sender_group k l h = up_group (group_at k) (sender k l h).up

-- a sender is a line or a group
pub by_sender : {X : Type 0} (k : ℕ) → k < senders → (k < line_count → is_line k ≡ true → X) → (line_count ≤ k → is_line k ≡ false → X) → X
by_sender {X} k h line group = go (is_line k) refl
  where
    go : (b : Bool) → is_line k ≡ b → X
    go true e = line (ltb-true k line_count e) e
    go false e = group (ltb-false k line_count e) e

-- ---- the tests on an index, a bit and a value

pub record InTable (i : ℕ) : Type 0 where
  pub from : 2 ≤ i
  pub upto : i ≤ 7

pub in_table : (i : ℕ) → is_group i ≡ true → InTable i
in_table i e = record { from = leb-true 2 i (and_left _ _ e); upto = leb-true i 7 (and_right (leb 2 i) _ e) }

pub record DefinedBit (i bit : ℕ) : Type 0 where
  pub from : 2 ≤ i
  pub upto : i ≤ 7
  pub small : bit < 4
  pub one : (row_at (i - 2)).defined / 2 ^ bit % 2 ≡ 1

pub defined-bit : (i bit : ℕ) → defined_bit i bit ≡ true → DefinedBit i bit
defined-bit i bit e =
    let t = in_table i (and_left (is_group i) _ e) in
    let e₁ = and_right (is_group i) _ e in
    record {
      from = t.from;
      upto = t.upto;
      small = ltb-true bit 4 (and_left (ltb bit 4) _ e₁);
      one = eqb-true _ 1 (and_right (ltb bit 4) _ e₁);
    }

not_one : (x : ℕ) → eqb (x % 2) 1 ≡ false → x % 2 ≡ 0
not_one x e = omega (arith, eqb-false (x % 2) 1 e)

-- a bit of a group that is not defined
pub undefined_bit : (i bit : ℕ) → is_group i ≡ true → bit < 4 → defined_bit i bit ≡ false → (row_at (i - 2)).defined / 2 ^ bit % 2 ≡ 0
undefined_bit i bit g h e =
    not_one ((row_at (i - 2)).defined / 2 ^ bit)
    (sym (ap (λ (t : Bool). t && eqb ((row_at (i - 2)).defined / 2 ^ bit % 2) 1) (lt-ltb bit 4 h))
    ∙ sym (ap (λ (t : Bool). t && (ltb bit 4 && eqb ((row_at (i - 2)).defined / 2 ^ bit % 2) 1)) g)
    ∙ e)

pub record Settable (i bit value : ℕ) : Type 0 where
  pub defined : DefinedBit i bit
  pub up : (row_at (i - 2)).down ≡ false
  pub level : value ≤ 1

pub settable-bit : (i bit value : ℕ) → settable i bit value ≡ true → Settable i bit value
settable-bit i bit value e =
    let e₁ = and_right (defined_bit i bit) _ e in
    record {
      defined = defined-bit i bit (and_left (defined_bit i bit) _ e);
      up = not-true _ (and_left (not (row_at (i - 2)).down) _ e₁);
      level = leb-true value 1 (and_right (not (row_at (i - 2)).down) _ e₁);
    }

-- a level moved to its bit loses nothing in eight bits
pub bit_exact : (bit value : ℕ) → bit < 4 → value ≤ 1 → (value * 2 ^ bit) % 256 ≡ value * 2 ^ bit
bit_exact bit value h l = shl_exact {a = value} 1 bit 8 (omega arith) (omega arith)

pub bit_alone : (bit : ℕ) → bit < 4 → (1 * 2 ^ bit) % 256 ≡ 2 ^ bit
bit_alone bit h = bit_exact bit 1 h (omega arith) ∙ one-mul (2 ^ bit)
