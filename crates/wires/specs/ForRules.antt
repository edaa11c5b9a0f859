-- What the statements over runs ask of all wires: whether one waits, and that each fits a packet of the operating count.
use Prim.Native.Nat.{ℕ, zero, suc, ◌+◌, ◌-◌, ◌*◌, ◌≤◌, ◌<◌}
use Rattle.std.specs.Prelude.{Bool, ◌&&◌, ◌||◌, not, ◌≡◌, eqb, ltb, get_or, length}
use Rattle.std.proofs.Math.Bool.{true, false}
use Rattle.std.proofs.Common.{true≢false, sym, ap, ap₂, ◌∙◌, arith, length-append}
use mathlib.Core.List.{List, [], ◌∷◌, ◌++◌, append_assoc, Memᴰ}
use Rattle.std.proofs.Math.Path.{refl}
use borrow.Author.Tests.{eqb-true, lt-ltb, ltb-true, ltb-false}
use Rattle.base.specs.Pick.{pick, pick_ind}
use Rattle.base.specs.Bytes.{bit}
use Rattle.wires.specs.Below.{any_at}
use Rattle.wires.specs.Table.{is_line, senders, group_at}
use Rattle.wires.specs.Turn.{sizes}
use Rattle.wires.specs.Changes.{put-marks}
use Rattle.wires.specs.Groups.{level_at, mark_at, put_pairs, set_level, set_wire}
use Rattle.wires.specs.Lines.{Lines, line_bit, line_value, any_bit, changed_line, set_line, pulse_line, whole_lines}
use Rattle.wires.specs.LineBits.{none_bit, bit_stays, value_written, value_other, bit-written, bit_other, line_byte}
use Rattle.wires.specs.Kept.{sound_view, set_cases}
use Rattle.wires.specs.LinesKept.{off_quiet, single_no_edge, whole_view}
use Rattle.wires.specs.Senders.{AllWires, with_groups, with_lines, sender_size, waiting, left_by, after_sent, entries_of, pair_bytes, entries, any_pending, sound_all}
use Rattle.wires.specs.Pending.{pending_is}
use Rattle.wires.specs.AllKept.{sound-groups, sound_lines_lem}
use Rattle.wires.specs.Sent.{size_fits, size-one, sent_off, entry_length}
use Rattle.wires.specs.Round.{AllBelow}

-- one of the groups 4, 5 and 6, or a line
pub pending_any : (w : AllWires) → any_pending w ≡ (mark_at w.groups 4 || (mark_at w.groups 5 || mark_at w.groups 6)) || any_bit w.lines.waits
pending_any w = pending_is w ∙ turned (any_bit w.lines.waits) (mark_at w.groups 4 || (mark_at w.groups 5 || mark_at w.groups 6))
  where
    turned : (a b : Bool) → a || b ≡ b || a
    turned true true = refl
    turned true false = refl
    turned false true = refl
    turned false false = refl

-- each sender's entries fit a packet of the operating count
pub sizes_fit : (on : Bool) (count : ℕ) (w : AllWires) → 1 ≤ count → sound_all on count w ≡ true → (k : ℕ) → sender_size w k ≤ count
sizes_fit on count w c e k = go (ltb 1 count) refl
  where
    go : (t : Bool) → ltb 1 count ≡ t → sender_size w k ≤ count
    go true q = size_fits w count (ltb-true 1 count q) k
    go false q =
        let one = size-one w (none_bit w.lines.edges (single_no_edge on count w.lines (ltb-false 1 count q) (sound_lines_lem on count w e))) k in
        omega arith

-- while channel 1 is off nothing waits
pub off_none : (count : ℕ) (w : AllWires) → sound_all false count w ≡ true → any_pending w ≡ false
off_none count w e =
    let s = sound_view false w.groups (sound-groups false count w e) in
    let m : (i : ℕ) → 2 ≤ i → i ≤ 7 → mark_at w.groups i ≡ false = λ i h l. go (mark_at w.groups i) (λ q. (s.marks i h l q).1) in
    pending_any w
    ∙ ap₂ (λ (a b : Bool). (a || b) || any_bit w.lines.waits) (m 4 (omega arith) (omega arith))
    (ap₂ (λ (a b : Bool). a || b) (m 5 (omega arith) (omega arith)) (m 6 (omega arith) (omega arith)))
    ∙ off_quiet count w.lines (sound_lines_lem false count w e)
  where
    go : (b : Bool) → (b ≡ true → false ≡ true) → b ≡ false
    go true f = sym (f refl)
    go false f = refl

-- ---- a line raised or lowered, and an edge asked for: the line itself, and every other

module _ (on : Bool) (l : Lines) (n level : ℕ) where
  pub set_level_lem : whole_lines l ≡ true → n < 256 → level ≤ 1 → line_value (set_line on l n level).level n ≡ level
  unfolding set_line
  set_level_lem w h s =
      pick_ind (λ (v : Lines). line_value v.level n ≡ level) (eqb (line_value l.level n) level) (λ e. eqb-true _ level e)
      (λ _. value_written l.level n (eqb level 1) (line_byte l.level n (whole_view l w).level h) ∙ go level s)
    where
      go : (v : ℕ) → v ≤ 1 → bit (eqb v 1) ≡ v
      go zero q = refl
      go (suc zero) q = refl
      go (suc (suc v)) q = absurd (omega arith)

  pub set_level_other : (k : ℕ) → (k ≡ n → ⊥) → line_value (set_line on l n level).level k ≡ line_value l.level k
  unfolding set_line
  set_level_other k h =
      pick_ind (λ (v : Lines). line_value v.level k ≡ line_value l.level k) (eqb (line_value l.level n) level) (λ _. refl)
      (λ _. value_other l.level n k (eqb level 1) h)

  pub set_waits : whole_lines l ≡ true → n < 256
      → line_bit (set_line on l n level).waits n ≡ line_bit l.waits n || (on && not (eqb (line_value l.level n) level))
  unfolding set_line
  set_waits w h = go (eqb (line_value l.level n) level) on
    where
      or_none : (b : Bool) → b || false ≡ b
      or_none true = refl
      or_none false = refl

      or_on : (b : Bool) → b || true ≡ true
      or_on true = refl
      or_on false = refl

      go : (t o : Bool) → line_bit (pick t l (changed_line o l n level)).waits n ≡ line_bit l.waits n || (o && not t)
      go true true = sym (or_none (line_bit l.waits n))
      go true false = sym (or_none (line_bit l.waits n))
      go false true = bit-written l.waits n true (line_byte l.waits n (whole_view l w).waits h) ∙ sym (or_on (line_bit l.waits n))
      go false false = sym (or_none (line_bit l.waits n))

  pub set_waits_other : (k : ℕ) → (k ≡ n → ⊥) → line_bit (set_line on l n level).waits k ≡ line_bit l.waits k
  unfolding set_line
  set_waits_other k h = go (eqb (line_value l.level n) level) on
    where
      go : (t o : Bool) → line_bit (pick t l (changed_line o l n level)).waits k ≡ line_bit l.waits k
      go true o = refl
      go false true = bit_other l.waits n k true h
      go false false = refl

  pub set-edges : (set_line on l n level).edges ≡ l.edges
  unfolding set_line
  set-edges = pick_ind (λ (v : Lines). v.edges ≡ l.edges) (eqb (line_value l.level n) level) (λ _. refl) (λ _. refl)

module _ (l : Lines) (n : ℕ) where
  pub pulse_level : (pulse_line l n).level ≡ l.level
  unfolding pulse_line
  pulse_level = refl

  pub pulse_own : whole_lines l ≡ true → n < 256 → (line_bit (pulse_line l n).waits n ≡ true) × (line_bit (pulse_line l n).edges n ≡ true)
  unfolding pulse_line
  pulse_own w h =
      let v = whole_view l w in
      (bit-written l.waits n true (line_byte l.waits n v.waits h), bit-written l.edges n true (line_byte l.edges n v.edges h))

  pub pulse_other : (k : ℕ) → (k ≡ n → ⊥)
      → (line_bit (pulse_line l n).waits k ≡ line_bit l.waits k) × (line_bit (pulse_line l n).edges k ≡ line_bit l.edges k)
  unfolding pulse_line
  pulse_other k h = (bit_other l.waits n k true h, bit_other l.edges n k true h)

-- one that did not wait and does now was changed while channel 1 is on
pub set_waited : (on : Bool) (l : Lines) (n level : ℕ) → line_bit l.waits n ≡ false → line_bit (set_line on l n level).waits n ≡ true
    → (on ≡ true) × (eqb (line_value l.level n) level ≡ false)
unfolding set_line
set_waited on l n level off h = go (eqb (line_value l.level n) level) on h
  where
    go : (t o : Bool) → line_bit (pick t l (changed_line o l n level)).waits n ≡ true → (o ≡ true) × (t ≡ false)
    go true o q = absurd (true≢false (sym q ∙ off))
    go false true q = (refl, refl)
    go false false q = absurd (true≢false (sym q ∙ off))

-- ---- what a packet leaves

-- no packet marks a group
pub sent-marks : (w : AllWires) (ks : List ℕ) (i : ℕ) → mark_at w.groups i ≡ false → mark_at (after_sent w ks).groups i ≡ false
unfolding after_sent
sent-marks w [] i e = e
sent-marks w (k ∷ ks) i e =
    sent-marks (left_by w k) ks i
    (pick_ind (λ (v : AllWires). mark_at v.groups i ≡ false) (is_line k) (λ _. e)
    (λ _. set_cases (λ (b : Bool). b ≡ false) w.groups.pending (group_at k - 2) (i - 2) false false (λ _. refl) e))

-- nor makes a line wait
pub sent_line_off : {ks : List ℕ} (w : AllWires) → AllBelow senders ks → (n : ℕ) → n < 256 → line_bit w.lines.waits n ≡ false
    → line_bit (after_sent w ks).lines.waits n ≡ false
sent_line_off {ks} w b n h e =
    let at : (v : AllWires) → waiting v n ≡ line_bit v.lines.waits n = λ v.
    ap (λ (t : Bool). pick t (line_bit v.lines.waits n) (mark_at v.groups (group_at n))) (lt-ltb n 256 h) in
    sym (at (after_sent w ks)) ∙ sent_off w n (omega arith) b (at w ∙ e)

-- ---- one that waits goes on waiting, but for a packet

-- a line's, or a group's
pick_keeps : (t a b c d : Bool) → (a ≡ true → c ≡ true) → (b ≡ true → d ≡ true) → pick t a b ≡ true → pick t c d ≡ true
pick_keeps true a b c d f g h = f h
pick_keeps false a b c d f g h = g h

module _ (w : AllWires) (g : ℕ) (waits : waiting w g ≡ true) where
  pub line_keeps : (on : Bool) (n level : ℕ) → waiting (with_lines w (set_line on w.lines n level)) g ≡ true
  unfolding set_line
  line_keeps on n level =
      pick_keeps (is_line g) (line_bit w.lines.waits g) (mark_at w.groups (group_at g)) _ _ (go (eqb (line_value w.lines.level n) level) on) (λ e. e)
      waits
    where
      go : (t o : Bool) → line_bit w.lines.waits g ≡ true → line_bit (pick t w.lines (changed_line o w.lines n level)).waits g ≡ true
      go true o e = e
      go false true e = bit_stays w.lines.waits n g e
      go false false e = e

  pub pulse_keeps : (n : ℕ) → waiting (with_lines w (pulse_line w.lines n)) g ≡ true
  unfolding pulse_line
  pulse_keeps n =
      pick_keeps (is_line g) (line_bit w.lines.waits g) (mark_at w.groups (group_at g)) _ _ (bit_stays w.lines.waits n g) (λ e. e) waits

  pub put_keeps : (ps : List ℕ) → waiting (with_groups w (put_pairs w.groups ps)) g ≡ true
  put_keeps ps =
      pick_keeps (is_line g) (line_bit w.lines.waits g) (mark_at w.groups (group_at g)) _ _ (λ e. e)
      (λ e. ap (λ (m : List Bool). get_or m (group_at g - 2) false) (put-marks w.groups ps) ∙ e) waits

  pub set_keeps : (on : Bool) (i k value : ℕ) → waiting (with_groups w (set_wire on w.groups i k value)) g ≡ true
  set_keeps on i k value =
      let raised = on && not (eqb (set_level w.groups i k value) (level_at w.groups i)) in
      pick_keeps (is_line g) (line_bit w.lines.waits g) (mark_at w.groups (group_at g)) _ _ (λ e. e)
      (λ e. set_cases (λ (b : Bool). b ≡ true) w.groups.pending (i - 2) (group_at g - 2) _ false
      (λ q. ap (λ (j : ℕ). get_or w.groups.pending j false || raised) (sym q) ∙ ap (λ (b : Bool). b || raised) e) e) waits

-- while channel 1 is off no sender waits
pub off_waiting : (count : ℕ) (w : AllWires) → sound_all false count w ≡ true → (k : ℕ) → k < senders → waiting w k ≡ false
unfolding any_pending
off_waiting count w e k h = any_at senders (waiting w) (off_none count w e) k h

-- ---- a sender's entries stand among a packet's

pub record EntryAt (w : AllWires) (ks : List ℕ) (g : ℕ) : Type 0 where
  pub at : ℕ
  pub front : List ℕ
  pub rest : List ℕ
  pub whole : pair_bytes w ks ≡ front ++ (entries_of w g ++ rest)
  pub long : length front ≡ at * 2
  pub within : at + sender_size w g ≤ entries w ks

entry_in : (w : AllWires) (g : ℕ) (ks : List ℕ) → Memᴰ g ks → EntryAt w ks g
unfolding pair_bytes sizes
entry_in w g ks (Memᴰ.head {x = x} {xs = xs} q) =
    record {
      at = 0;
      front = [];
      rest = pair_bytes w xs;
      whole = ap (λ (k : ℕ). entries_of w k ++ pair_bytes w xs) (sym q);
      long = refl;
      within = let e = ap (sender_size w) q in omega arith;
    }
entry_in w g ks (Memᴰ.tail {x = x} {xs = xs} m) =
    let p = entry_in w g xs m in
    record {
      at = sender_size w x + p.at;
      front = entries_of w x ++ p.front;
      rest = p.rest;
      whole = ap (λ (l : List ℕ). entries_of w x ++ l) p.whole ∙ sym (append_assoc (entries_of w x) p.front (entries_of w g ++ p.rest));
      long = omega (arith, length-append (entries_of w x) p.front, entry_length w x, p.long);
      within = omega (arith, p.within);
    }

pub entry_at : (w : AllWires) (ks : List ℕ) (g : ℕ) → Memᴰ g ks → EntryAt w ks g
entry_at w ks g m = entry_in w g ks m
