-- P4 for the lines: each change keeps them sound, and three whole maps.
use Rattle.std.specs.Prelude.{ℕ, ◌/◌, ◌≤◌, ◌<◌, Bool, true, false, ◌&&◌, ◌||◌, not, List, ◌⊎◌, ◌≡◌, refl, eqb, ltb, length}
use Rattle.std.proofs.Common.{true≢false, inl, inr, ⊎_elim, sym, ap, ◌∙◌, arith, eqb-true, ltb-true, lt-ltb}
use Rattle.std.proofs.lemmas.Bool.{eqb-false}
use Rattle.base.specs.Pick.{pick_ind, and_left, and_right, and_true}
use Rattle.wires.specs.Below.{all-at, at_all}
use Rattle.wires.specs.Table.{is_line}
use Rattle.wires.specs.Kept.{clash}
use Rattle.wires.specs.Lines.{line_bit, line_value, with_bit, no_bits_value, any_bit, Lines, no_lines, changed_line, set_line, pulse_line, can_pulse, any_edge, sent_line, raised, dropped, edges_wait, sound_lines, whole_map, whole_lines}
use Rattle.wires.specs.LineBits.{bit-written, bit_other, bit_stays, bit-was, bit_gone, line_byte, whole_bit, none_bit, no_bit, some-bit, zero_line, whole_zero}

-- ---- soundness, line by line

pub record SoundLines (on : Bool) (count : ℕ) (l : Lines) : Type 0 where
  pub waits : (n : ℕ) → n < 256 → line_bit l.edges n ≡ true → line_bit l.waits n ≡ true
  pub while_on : (n : ℕ) → n < 256 → line_bit l.waits n ≡ true → on ≡ true
  pub room : (n : ℕ) → n < 256 → line_bit l.edges n ≡ true → 1 < count

edge_waits : (e w : Bool) → not e || w ≡ true → e ≡ true → w ≡ true
edge_waits true w q t = q
edge_waits false w q t = clash t

waits_edge : (e w : Bool) → (e ≡ true → w ≡ true) → not e || w ≡ true
waits_edge true w f = f refl
waits_edge false w f = refl

not_on : (t : Bool) → (t ≡ true → ⊥) → t ≡ false
not_on true g = absurd (g refl)
not_on false g = refl

-- a test, or no bit of a map: one that there is says the test
or_none : (b : Bool) (m : List ℕ) → b || not (any_bit m) ≡ true → (n : ℕ) → n < 256 → line_bit m n ≡ true → b ≡ true
or_none true m q n h e = refl
or_none false m q n h e = clash (sym (ap not (some-bit m n h e)) ∙ q)

none_or : (b : Bool) (m : List ℕ) → ((n : ℕ) → n < 256 → line_bit m n ≡ true → b ≡ true) → b || not (any_bit m) ≡ true
none_or true m f = refl
none_or false m f = ap not (no_bit m (λ n h. not_on (line_bit m n) (λ t. clash (f n h t))))

pub edges_view : (l : Lines) → edges_wait l ≡ true → (n : ℕ) → n < 256 → line_bit l.edges n ≡ true → line_bit l.waits n ≡ true
unfolding edges_wait
edges_view l e n h =
    edge_waits (line_bit l.edges n) (line_bit l.waits n) (all-at 256 (λ (k : ℕ). not (line_bit l.edges k) || line_bit l.waits k) e n h)

pub edges_test : (l : Lines) → ((n : ℕ) → n < 256 → line_bit l.edges n ≡ true → line_bit l.waits n ≡ true) → edges_wait l ≡ true
unfolding edges_wait
edges_test l f =
    at_all 256 (λ (k : ℕ). not (line_bit l.edges k) || line_bit l.waits k)
    (λ n h. waits_edge (line_bit l.edges n) (line_bit l.waits n) (f n h))

pub lines_view : (on : Bool) (count : ℕ) (l : Lines) → sound_lines on count l ≡ true → SoundLines on count l
lines_view on count l e =
    let a = and_left (edges_wait l) _ e in
    let r = and_right (edges_wait l) ((on || not (any_bit l.waits)) && (ltb 1 count || not (any_bit l.edges))) e in
    record {
      waits = edges_view l a;
      while_on = or_none on l.waits (and_left (on || not (any_bit l.waits)) _ r);
      room = λ n h t. ltb-true 1 count (or_none (ltb 1 count) l.edges (and_right (on || not (any_bit l.waits)) _ r) n h t);
    }

pub lines_test : (on : Bool) (count : ℕ) (l : Lines) → SoundLines on count l → sound_lines on count l ≡ true
lines_test on count l s =
    and_true (edges_test l s.waits)
    (and_true (none_or on l.waits s.while_on) (none_or (ltb 1 count) l.edges (λ n h t. lt-ltb 1 count (s.room n h t))))

-- ---- each change

same_or_other : (k n : ℕ) → (k ≡ n) ⊎ (k ≡ n → ⊥)
same_or_other k n = go (eqb k n) refl
  where
    go : (t : Bool) → eqb k n ≡ t → (k ≡ n) ⊎ (k ≡ n → ⊥)
    go true e = inl (eqb-true k n e)
    go false e = inr (eqb-false k n e)

changed_kept : (on : Bool) (count : ℕ) (l : Lines) (n level : ℕ) → SoundLines on count l → SoundLines on count (changed_line on l n level)
changed_kept true count l n level s =
    record { waits = λ k h e. bit_stays l.waits n k (s.waits k h e); while_on = λ k h e. refl; room = s.room }
changed_kept false count l n level s = record { waits = s.waits; while_on = s.while_on; room = s.room }

pub sound_line : (on : Bool) (count : ℕ) (l : Lines) (n level : ℕ) → sound_lines on count l ≡ true → sound_lines on count (set_line on l n level) ≡ true
unfolding set_line
sound_line on count l n level e =
    pick_ind (λ (v : Lines). sound_lines on count v ≡ true) (eqb (line_value l.level n) level)
    (λ _. e)
    (λ _. lines_test on count _ (changed_kept on count l n level (lines_view on count l e)))

pub pulse_kept : (on : Bool) (count : ℕ) (l : Lines) (n : ℕ) → on ≡ true → 1 < count → n / 8 < length l.waits → SoundLines on count l
    → SoundLines on count (pulse_line l n)
unfolding pulse_line
pulse_kept on count l n o c h s =
    record {
      waits = λ k hk e.
          ⊎_elim (λ q. ap (line_bit (with_bit l.waits n true)) q ∙ bit-written l.waits n true h)
          (λ d. bit_stays l.waits n k (s.waits k hk (bit-was l.edges n k e d)))
          (same_or_other k n);
      while_on = λ k hk e. o;
      room = λ k hk e. c;
    }

sent-kept : {on : Bool} {count : ℕ} (l : Lines) (n : ℕ) → SoundLines on count l → SoundLines on count (sent_line l n)
sent-kept l n s =
    record {
      waits = λ k h e. bit_other l.waits n k false (kept l.edges k e) ∙ s.waits k h (was l.edges k e);
      while_on = λ k h e. s.while_on k h (was l.waits k e);
      room = λ k h e. s.room k h (was l.edges k e);
    }
  where
    kept : (m : List ℕ) (k : ℕ) → line_bit (with_bit m n false) k ≡ true → k ≡ n → ⊥
    kept m k e q = true≢false (sym e ∙ ap (line_bit (with_bit m n false)) q ∙ bit_gone m n)

    was : (m : List ℕ) (k : ℕ) → line_bit (with_bit m n false) k ≡ true → line_bit m k ≡ true
    was m k e = sym (bit_other m n k false (kept m k e)) ∙ e

pub sound-sent_line : (on : Bool) (count : ℕ) (l : Lines) (n : ℕ) → sound_lines on count l ≡ true → sound_lines on count (sent_line l n) ≡ true
sound-sent_line on count l n e = lines_test on count _ (sent-kept l n (lines_view on count l e))

no_edge_lem : {X : Type 0} (n : ℕ) → line_bit no_bits_value n ≡ true → X
no_edge_lem n e = clash (sym (zero_line n) ∙ e)

pub sound-raised : (count : ℕ) (l : Lines) → sound_lines true count (raised l) ≡ true
sound-raised count l =
    lines_test true count (raised l) (record { waits = λ n h e. no_edge_lem n e; while_on = λ n h e. refl; room = λ n h e. no_edge_lem n e })

pub sound-dropped : (on : Bool) (count : ℕ) (l : Lines) → sound_lines on count (dropped l) ≡ true
sound-dropped on count l =
    lines_test on count (dropped l) (record { waits = λ n h e. no_edge_lem n e; while_on = λ n h e. no_edge_lem n e; room = λ n h e. no_edge_lem n e })

pub sound_no_lines : (on : Bool) (count : ℕ) → sound_lines on count no_lines ≡ true
sound_no_lines on count = sound-dropped on count no_lines

-- another operating count: "The operating count may not be lowered to 1 while an edge waits" (02, Q-4)
pub sound-count : (on : Bool) (count next : ℕ) (l : Lines) → (1 < next) ⊎ (any_edge l ≡ false) → sound_lines on count l ≡ true → sound_lines on next l ≡ true
sound-count on count next l f e =
    let s = lines_view on count l e in
    lines_test on next l
    (record {
      waits = s.waits;
      while_on = s.while_on;
      room = λ n h t. ⊎_elim (λ r. r) (λ a. clash (sym (none_bit l.edges a n h) ∙ t)) f;
    })

-- while channel 1 is off none waits, and none is an edge
pub off_quiet : (count : ℕ) (l : Lines) → sound_lines false count l ≡ true → any_bit l.waits ≡ false
off_quiet count l e = let s = lines_view false count l e in no_bit l.waits (λ n h. not_on (line_bit l.waits n) (λ t. clash (s.while_on n h t)))

pub off_no_edge : (count : ℕ) (l : Lines) → sound_lines false count l ≡ true → any_edge l ≡ false
off_no_edge count l e =
    let s = lines_view false count l e in
    no_bit l.edges (λ n h. not_on (line_bit l.edges n) (λ t. clash (s.while_on n h (s.waits n h t))))

-- with room for one entry no edge waits
pub single_no_edge : (on : Bool) (count : ℕ) (l : Lines) → count ≤ 1 → sound_lines on count l ≡ true → any_edge l ≡ false
single_no_edge on count l c e =
    let s = lines_view on count l e in
    no_bit l.edges (λ n h. not_on (line_bit l.edges n) (λ t. omega (arith, s.room n h t)))

-- ---- three whole maps stay so

pub record WholeLines (l : Lines) : Type 0 where
  pub level : whole_map l.level ≡ true
  pub waits : whole_map l.waits ≡ true
  pub edges : whole_map l.edges ≡ true

pub whole_view : (l : Lines) → whole_lines l ≡ true → WholeLines l
whole_view l e =
    let r = and_right (whole_map l.level) (whole_map l.waits && whole_map l.edges) e in
    record {
      level = and_left (whole_map l.level) _ e;
      waits = and_left (whole_map l.waits) _ r;
      edges = and_right (whole_map l.waits) (whole_map l.edges) r;
    }

pub whole_test_lem : (l : Lines) → WholeLines l → whole_lines l ≡ true
whole_test_lem l w = and_true w.level (and_true w.waits w.edges)

pub whole_line : (on : Bool) (l : Lines) (n level : ℕ) → whole_lines l ≡ true → whole_lines (set_line on l n level) ≡ true
unfolding set_line
whole_line on l n level e =
    let w = whole_view l e in
    pick_ind (λ (v : Lines). whole_lines v ≡ true) (eqb (line_value l.level n) level)
    (λ _. e)
    (λ _. whole_test_lem (changed_line on l n level)
    (record {
      level = whole_bit l.level n (eqb level 1) w.level;
      waits = pick_ind (λ (m : List ℕ). whole_map m ≡ true) on (λ _. whole_bit l.waits n true w.waits) (λ _. w.waits);
      edges = w.edges;
    }))

pub whole_pulse : (l : Lines) (n : ℕ) → whole_lines l ≡ true → whole_lines (pulse_line l n) ≡ true
unfolding pulse_line
whole_pulse l n e =
    let w = whole_view l e in
    whole_test_lem (pulse_line l n)
    (record { level = w.level; waits = whole_bit l.waits n true w.waits; edges = whole_bit l.edges n true w.edges })

pub whole_sent_line : (l : Lines) (n : ℕ) → whole_lines l ≡ true → whole_lines (sent_line l n) ≡ true
whole_sent_line l n e =
    let w = whole_view l e in
    whole_test_lem (sent_line l n)
    (record { level = w.level; waits = whole_bit l.waits n false w.waits; edges = whole_bit l.edges n false w.edges })

pub whole_raised : (l : Lines) → whole_lines l ≡ true → whole_lines (raised l) ≡ true
whole_raised l e = let w = whole_view l e in whole_test_lem (raised l) (record { level = w.level; waits = w.level; edges = whole_zero })

pub whole_dropped : (l : Lines) → whole_lines l ≡ true → whole_lines (dropped l) ≡ true
whole_dropped l e = let w = whole_view l e in whole_test_lem (dropped l) (record { level = w.level; waits = whole_zero; edges = whole_zero })

pub whole_no_lines : whole_lines no_lines ≡ true
whole_no_lines = whole_test_lem no_lines (record { level = whole_zero; waits = whole_zero; edges = whole_zero })

-- an edge asked for: 24 does not stand against it, and 22 does not
pub sound_pulse : (on : Bool) (count : ℕ) (l : Lines) (n : ℕ) → is_line n ≡ true → can_pulse on count l n ≡ true → whole_lines l ≡ true
    → sound_lines on count l ≡ true → sound_lines on count (pulse_line l n) ≡ true
sound_pulse on count l n h c w e =
    let r = and_right on (ltb 1 count && not (line_bit l.waits n)) c in
    lines_test on count _
    (pulse_kept on count l n (and_left on _ c) (ltb-true 1 count (and_left (ltb 1 count) _ r))
    (line_byte l.waits n (whole_view l w).waits (ltb-true n 256 h)) (lines_view on count l e))
