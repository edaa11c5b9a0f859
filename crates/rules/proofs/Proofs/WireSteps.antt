-- P19 and P20 of `step`, from the view and the laws of the wires.
use Rattle.std.specs.Prelude.{ℕ, ◌-◌, ◌<◌, ◌≤◌, Bool, true, false, ◌&&◌, not, ◌≡◌, refl, eqb, ltb, get_or}
use Rattle.std.proofs.Common.{true≢false, sym, ap, ap₂, subst, ◌∙◌, arith, eqb-true, eq-eqb, ltb-true}
use mathlib.Core.List.{List, ◌∷◌, Memᴰ}
use Rattle.std.proofs.lemmas.Bool.{eqb-false, not-true}
use Rattle.base.specs.Pick.{or_second, pick, and_left, and_right}
use Rattle.registers.specs.declared.Config.{Config}
use Rattle.wires.specs.Table.{row_at, is_group}
use Rattle.wires.specs.Groups as G
use Rattle.wires.specs.Groups.{level_at, mark_at, settable}
use Rattle.wires.specs.Rows.{undefined_bit, settable-bit}
use Rattle.wires.specs.Kept as K
use Rattle.wires.specs.Changes.{put_passes, put-marks, put-place}
use Rattle.wires.proofs.Changes.{put-read, put_undefined, set-read, set_level_other, set_mark_other, set_mark_lem}
use Rattle.wires.specs.Transitions.{third_transition}
use Rattle.wires.proofs.Transitions.{two_at_most}
use Rattle.wires.specs.Lines as L
use Rattle.wires.specs.Lines.{line_bit}
use Rattle.wires.specs.LinesKept.{lines_view}
use Rattle.wires.specs.LineBits.{zero_line}
use Rattle.wires.specs.Senders as A
use Rattle.wires.specs.Senders.{AllWires, with_groups, after_sent, sound_all}
use Rattle.wires.specs.AllKept.{sound-groups, sound_lines_lem, sound-all-sent, sound-all-place}
use Rattle.wires.specs.Sent.{sent_below, sent-levels, sent_lines, sent_waits, sent-sizes, sent_gone, sent-place}
use Rattle.wires.specs.ForRules as F
use Rattle.wires.specs.declared.Wires.{Wires}
use Rattle.state.specs.Status.{status}
use Rattle.state.specs.Sound.{Sound}
use Rattle.rules.specs.Rules.Wires as W₀
use Rattle.rules.specs.Rules.Reset.{platform_reset}
use Rattle.rules.specs.Rules.Channel as N
use Rattle.rules.specs.Rules.Channel.{wires, on}
use Rattle.rules.specs.Rules.Lift.{lift}
use Rattle.rules.specs.Rules.Reply.{closed}
use Rattle.rules.specs.Rules.Step.{World, Call, exchange, board, Outcome, step, with_state, performed, served}
use Rattle.rules.specs.Statements.Wires as W
use Rattle.rules.specs.Statements.Wires.Effects.{reset_part}
use Rattle.rules.specs.Statements.Wires.Rows.{at_line}
use Rattle.rules.specs.Statements.Cases as C
use Rattle.rules.specs.Statements.Cases.{Case}
use Rattle.rules.specs.Statements.Events.{lowers_pltrst}
use Rattle.rules.specs.Statements.Fields.{byte, pairs, register_at}
use Rattle.rules.specs.Statements.WireEvents.{WireEvent, puts, gets, wire_event, wires_of, groups_of, lines_of, count_of}
use Rattle.rules.specs.Statements.WireView.{sets_wire, reads_wire, sets_line, pulses_line, WireMove, still, put, sent, set, line_set_lem, pulsed, enabled, disabled, wiped, platform_wiped, lowered}
use Rattle.rules.specs.Statements.WireSteps.{wire_of, Put, Lowered, Set, waits_at, edge_at, SomeGot, Raised, by_change, by_enabling, LineRaised, by_level, by_edge, by_enabling_high, WireSteps}
use Rattle.rules.proofs.Proofs.Cases as D
use Rattle.rules.proofs.Proofs.Cases.{cases, board_long}
use Rattle.rules.proofs.Proofs.Reads.{reads}
use Rattle.rules.proofs.Proofs.Events.{no_lowering}
use Rattle.rules.proofs.Proofs.Effects.{unlowered}
use Rattle.rules.proofs.Proofs.Wires.Lowering.{lowered_bytes}
use Rattle.rules.proofs.Proofs.Wires.Turns.{sent_first, entries_as, room_as, waits_as, edge_as, place-last, mem_below}
use Rattle.rules.proofs.Proofs.WireView.{command_event_lem, wire_view, all_sound, wires_whole}
use Rattle.rules.specs.Rules.Plan.{WiresChange}

level_small : (w : World) → Sound w.state → (i : ℕ) → 2 ≤ i → i ≤ 7 → level_at (groups_of w) i < 16
level_small w s =
    let on = on wires w.state.config in
    K.sound_level on (groups_of w) (sound-groups on (count_of w) (wires_of w) (all_sound w s))

-- ---- PUT_VWIRE

put-made : (w u : World) (b : List ℕ) → Sound w.state → third_transition (groups_of w) (pairs b) ≡ false
    → wires_of u ≡ with_groups (wires_of w) (G.put_pairs (groups_of w) (pairs b)) → Put w u (pairs b)
put-made w u b s two e =
    let v = groups_of w in
    let f = wires_whole w s in
    record {
      few = two_at_most v (pairs b) two;
      bits = λ i bit d t. ap (λ (x : AllWires). G.read_wire x.groups i bit) e ∙ put-read i bit d t v (pairs b) f;
      undefined_bits = λ i bit d h t.
          ap (λ (x : AllWires). G.read_wire x.groups i bit) e ∙ put_undefined i bit d h (undefined_bit i bit (and_left (is_group i) _ d) h t) v (pairs b) f;
      other_groups = λ i h t. ap (λ (x : AllWires). level_at x.groups i) e ∙ put_passes v (pairs b) i h t;
      marks = ap (λ (x : AllWires). x.groups.pending) e ∙ put-marks v (pairs b);
      place = ap (λ (x : AllWires). x.groups.place) e ∙ put-place v (pairs b);
      lines = ap (λ (x : AllWires). x.lines) e;
    }

-- no other opcode lowers PLTRST#
not_put : (w : World) (b : List ℕ) {op : ℕ} → byte b 0 ≡ op → eqb op 0x04 ≡ false → lowers_pltrst w.state b ≡ true → ⊥
not_put w b e f l = true≢false (sym l ∙ no_lowering w.state b (ap (λ (x : ℕ). eqb x 0x04) e ∙ f))

put_of : (w : World) (b r : List ℕ) (o : Outcome) → Sound w.state → WireMove w (exchange b r) o puts → Put w o.next (pairs b)
put_of w b r o s (put b' r' x n e) =
    let q : b' ≡ b = cc in
    put-made w o.next b s (ap (λ (l : List ℕ). third_transition (groups_of w) (pairs l)) (sym q) ∙ n)
    (e ∙ ap (λ (l : List ℕ). with_groups (wires_of w) (G.put_pairs (groups_of w) (pairs l))) q)

-- an accepted one that lowers PLTRST#: the other cases do not
lowered_of : (w : World) (b r : List ℕ) {o : Outcome} → Case w (exchange b r) o → Sound w.state → o.number ≡ 0 → lowers_pltrst w.state b ≡ true
    → Lowered w o.next (pairs b)
unfolding performed lift
lowered_of w b r (C.idle n q) s z l = absurd (omega (arith, q.least))
lowered_of w b r (C.shown (C.status e)) s z l = absurd (not_put w b (reads w.state b _ e) refl l)
lowered_of w b r (C.shown (C.register a e)) s z l = absurd (not_put w b (reads w.state b _ e).opcode refl l)
lowered_of w b r (C.acted k o x e d f) s z l = absurd (true≢false (sym l ∙ unlowered k w.state b o x e d f (eq-eqb _ 0 z)))
lowered_of w b r (C.forbidden a v e f) s z l = absurd (omega arith)
lowered_of w b r (C.hindered a v e f g) s z l = absurd (omega arith)
lowered_of w b r (C.configured a v e f g) s z l = absurd (not_put w b (reads w.state b _ e).opcode refl l)
lowered_of w b r (C.lowered o x e d) s z l =
    let h = lowered_bytes w.state b d (reads w.state b _ e) in
    record {
      packet = with_state w (N.put wires (with_groups (wires_of w) (G.put_pairs (groups_of w) (pairs b))) w.state);
      put = put-made w _ b s h.few refl;
      reset = ap (reset_part platform_reset) h.wires;
    }
lowered_of w b r (C.cleared e) s z l = absurd (not_put w b (reads w.state b _ e) refl l)

-- ---- set and read

set_of : (w : World) (i bit value : ℕ) (o : Outcome) → Sound w.state → settable i bit value ≡ true
    → wires_of o.next ≡ with_groups (wires_of w) (G.set_wire (on wires w.state.config) (groups_of w) i bit value)
    → Set w o.next i bit value
set_of w i bit value o s t e =
    let on = on wires w.state.config in
    let v = groups_of w in
    let f = wires_whole w s in
    let d = (settable-bit i bit value t).defined in
    record {
      bits = λ k h. ap (λ (x : AllWires). G.read_wire x.groups i k) e ∙ set-read on v i bit value t f k h;
      other_groups = λ j h n. ap (λ (x : AllWires). level_at x.groups j) e ∙ set_level_other on v i bit value t j h n;
      mark = ap (λ (x : AllWires). mark_at x.groups i) e ∙ set_mark_lem on v i bit value t f (level_small w s i d.from d.upto);
      other_marks = λ j h n. ap (λ (x : AllWires). mark_at x.groups j) e ∙ set_mark_other on v i bit value t j h n;
      place = ap (λ (x : AllWires). x.groups.place) e;
      lines = ap (λ (x : AllWires). x.lines) e;
    }

-- what an accepted call of the board did
abbrev pub BoardDid : Config → AllWires → W₀.Board → AllWires → Type 0
BoardDid c v (W₀.set_wire index bit value) u = (settable index bit value ≡ true) × (u ≡ with_groups v (G.set_wire (on wires c) v.groups index bit value))
BoardDid c v (W₀.read_wire index bit) u = W₀.value_of v (W₀.read_wire index bit) ≡ G.read_wire v.groups index bit
BoardDid c v (W₀.set_line line level) u = u.groups ≡ v.groups
BoardDid c v (W₀.pulse_line line) u = u.groups ≡ v.groups

board_did : {c : Config} {v : AllWires} {o : W₀.Board} {x : WiresChange} → W.Settled c v o x → x.out.number ≡ 0 → BoardDid c v o x.next
board_did (W.not_boards e) n = absurd (omega arith)
board_did (W.set e) n = (e, refl)
board_did (W.no_wire_lem e) n = absurd (omega arith)
board_did (W.read e) n = rw e
board_did (W.no_line_lem e) n = absurd (omega arith)
board_did (W.edge_waits_lem e f) n = absurd (omega arith)
board_did (W.line_set_lem e f) n = refl
board_did (W.no_line_to_pulse e) n = absurd (omega arith)
board_did (W.cannot_pulse e f) n = absurd (omega arith)
board_did (W.pulsed e f) n = refl

module _ (w : World) (o : W₀.Board) (n : (step w (board wires o)).number ≡ 0) where
  pub board_law : BoardDid w.state.config (wires_of w) o (W₀.settle w.state.config (wires_of w) o).next
  unfolding served lift
  board_law = board_did (D.settled wires w.state.config (wires_of w) o) (sym (ap (λ (q : Outcome). q.number) (board_long wires w o refl)) ∙ n)

set-step : (w : World) (i bit value : ℕ) → Sound w.state → (step w (sets_wire i bit value)).number ≡ 0
    → Set w (step w (sets_wire i bit value)).next i bit value
unfolding served lift
set-step w i bit value s n =
    let o = W₀.set_wire i bit value in
    let d = board_law w o n in
    set_of w i bit value (step w (board wires o)) s d.0 (ap (λ (q : Outcome). wires_of q.next) (board_long wires w o refl) ∙ d.1)

read_step : (w : World) (i bit : ℕ) → (step w (reads_wire i bit)).number ≡ 0 → (step w (reads_wire i bit)).value ≡ wire_of w i bit
unfolding served
read_step w i bit n = let o = W₀.read_wire i bit in ap (λ (q : Outcome). q.value) (board_long wires w o refl) ∙ board_law w o n

-- ---- GET_VWIRE

edge-was : (a b : Bool) → ◌≡◌ {A = ℕ} (pick a 2 1) (pick b 2 1) → a ≡ b
edge-was true true e = refl
edge-was true false e = absurd (omega arith)
edge-was false true e = absurd (omega arith)
edge-was false false e = refl

-- with no wait there is no edge
no_edge_lem : (on : Bool) (count : ℕ) (w : AllWires) → sound_all on count w ≡ true → (k : ℕ) → waits_at w k ≡ false → edge_at w k ≡ false
no_edge_lem on count w s k = go (ltb k 256) refl
  where
    go : (t : Bool) → ltb k 256 ≡ t → pick t (at_line w.lines.waits k) (mark_at w.groups (k - 252)) ≡ false → t && at_line w.lines.edges k ≡ false
    go true e f = by (at_line w.lines.edges k) refl
      where
        by : (u : Bool) → at_line w.lines.edges k ≡ u → u ≡ false
        by true q = absurd (true≢false (sym ((lines_view on count w.lines (sound_lines_lem on count w s)).waits k (ltb-true k 256 e) q) ∙ f))
        by false q = refl
    go false e f = refl

got_of : (w : World) (c : Call) (o : Outcome) → Sound w.state → WireMove w c o gets → SomeGot w o
got_of w c o s (sent k ks e f h) =
    let v = wires_of w in
    let n = count_of w in
    let on = on wires w.state.config in
    let u = all_sound w s in
    let l = A.sent v n in
    let p = sound-all-place on n v u in
    let b = sent_below v n p in
    let after = sound-all-sent on n v n u in
    let gone : (i : ℕ) → Memᴰ i l → waits_at (after_sent v l) i ≡ false = λ i m. sym (waits_as (after_sent v l) i (mem_below b i m)) ∙ sent_gone v i b m in
    record {
      senders = l;
      got = record {
        first = sent_first v v.groups.place n p;
        some = rw e (omega arith);
        reply =
            h ∙ ap (λ (m : List ℕ). closed (0x08 ∷ m) (status o.next.state))
            (ap₂ (λ (x : ℕ) (m : List ℕ). (x - 1) ∷ m) (room_as v l) (entries_as v b));
        gone = λ i m. ap (λ (y : AllWires). waits_at y i) f ∙ gone i m;
        no_edge = λ i m. ap (λ (y : AllWires). edge_at y i) f ∙ no_edge_lem on n (after_sent v l) after i (gone i m);
        stay = λ i t m.
            ap (λ (y : AllWires). waits_at y i) f ∙ sym (waits_as (after_sent v l) i t) ∙ sent_waits v i t b m ∙ waits_as v i t;
        edges = λ i t m.
            ap (λ (y : AllWires). edge_at y i) f
            ∙ edge-was (edge_at (after_sent v l) i) (edge_at v i) (sym (edge_as (after_sent v l) i) ∙ sent-sizes v i t b m ∙ edge_as v i);
        levels = ap (λ (y : AllWires). y.groups.level) f ∙ sent-levels v l;
        line_levels = ap (λ (y : AllWires). y.lines.level) f ∙ sent_lines v l;
        place = λ before last q. ap (λ (y : AllWires). y.groups.place) f ∙ sent-place v l ∙ place-last v.groups.place b before last q;
      };
    }

-- ---- what raises a mark

platform_off : (v : Wires) (i : ℕ) → mark_at v i ≡ false → mark_at (G.platform_wires v) i ≡ false
platform_off v i off =
    let Q : Bool → Type 0 = λ b. b ≡ false in
    K.set_cases Q (G.reset_group v 6).pending 5 (i - 2) false false (λ _. refl) (K.set_cases Q v.pending 4 (i - 2) false false (λ _. refl) off)

module _ (w : World) (s : Sound w.state) (i : ℕ) (from : 2 ≤ i) (upto : i ≤ 7) (off : mark_at (groups_of w) i ≡ false) where
  -- the marks after are those of these wires
  same_off : (o : Outcome) (x : AllWires) → wires_of o.next ≡ x → mark_at x.groups i ≡ false → mark_at (groups_of o.next) i ≡ true → ⊥
  same_off o x e f t = true≢false (sym t ∙ ap (λ (y : AllWires). mark_at y.groups i) e ∙ f)

  sent_mark : mark_at (after_sent (wires_of w) (A.sent (wires_of w) (count_of w))).groups i ≡ false
  sent_mark = F.sent-marks (wires_of w) (A.sent (wires_of w) (count_of w)) i off

  set-raised : (c : Call) (o : Outcome) (j bit value : ℕ) → c ≡ sets_wire j bit value → settable j bit value ≡ true → Set w o.next j bit value
      → mark_at (groups_of o.next) i ≡ true → Raised w c i
  set-raised c o j bit value x t m h = go (eqb i j) refl
    where
      go : (z : Bool) → eqb i j ≡ z → Raised w c i
      go true q =
          let e = eqb-true i j q in
          let r = or_second (mark_at (groups_of w) j) _ (ap (mark_at (groups_of w)) (sym e) ∙ off) (sym m.mark ∙ ap (mark_at (groups_of o.next)) (sym e) ∙ h) in
          by_change bit value (x ∙ ap (λ (k : ℕ). sets_wire k bit value) (sym e)) (and_left (on wires w.state.config) _ r)
          (λ y. eqb-false _ _ (not-true _ (and_right (on wires w.state.config) _ r)) (ap (λ (k : ℕ). wire_of w k bit) (sym e) ∙ y))
      go false q = absurd (true≢false (sym h ∙ m.other_marks i from (eqb-false i j q) ∙ off))

  raised_by : (c : Call) (o : Outcome) {k : WireEvent} → WireMove w c o k → mark_at (groups_of o.next) i ≡ true → Raised w c i
  raised_by c o (still e) t = absurd (same_off o (wires_of w) e off t)
  raised_by c o (put b r x n e) t = absurd (same_off o _ e (ap (λ (l : List Bool). get_or l (i - 2) false) (put-marks (groups_of w) (pairs b)) ∙ off) t)
  raised_by c o (sent k ks e f h) t = absurd (same_off o _ f sent_mark t)
  raised_by c o (set j bit value x y e) t = set-raised c o j bit value x y (set_of w j bit value o s y e) t
  raised_by c o (line_set_lem n level x y z e) t = absurd (same_off o _ e off t)
  raised_by c o (pulsed n x y z e) t = absurd (same_off o _ e off t)
  raised_by c o (enabled b r x e f) t =
      let at = and_right (eqb (byte b 0) 0x22) _ e in
      let is = and_right (eqb (register_at b) 0x020) _ at in
      by_enabling b r x (eqb-true _ _ (and_left (eqb (byte b 0) 0x22) _ e)) (eqb-true _ _ (and_left (eqb (register_at b) 0x020) _ at))
      (eqb-true _ _ (and_right (not (on wires w.state.config)) _ is)) (not-true _ (and_left (not (on wires w.state.config)) _ is))
      (eqb-false _ _
      (not-true _
      (and_right (not (row_at (i - 2)).down) _
      (sym (K.remarked_mark true (groups_of w) (groups_of w).place i from upto) ∙ sym (ap (λ (y : AllWires). mark_at y.groups i) f) ∙ t))))
  raised_by c o (disabled e) t = absurd (same_off o _ e (K.remarked_mark false (groups_of w) 256 i from upto) t)
  raised_by c o (wiped e) t = absurd (same_off o _ e (K.remarked_mark false (groups_of w) 256 i from upto) t)
  raised_by c o (platform_wiped e) t = absurd (same_off o _ e (platform_off (groups_of w) i off) t)
  raised_by c o (lowered b r x n l e) t =
      absurd (same_off o _ e
      (platform_off (G.put_pairs (groups_of w) (pairs b)) i (ap (λ (m : List Bool). get_or m (i - 2) false) (put-marks (groups_of w) (pairs b)) ∙ off)) t)

-- ---- what makes a line wait

module _ (w : World) (s : Sound w.state) (n : ℕ) (line : n < 256) (off : at_line (lines_of w).waits n ≡ false) where
  line_off : (o : Outcome) (x : AllWires) → wires_of o.next ≡ x → line_bit x.lines.waits n ≡ false → line_bit (lines_of o.next).waits n ≡ true → ⊥
  line_off o x e f t = true≢false (sym t ∙ ap (λ (y : AllWires). line_bit y.lines.waits n) e ∙ f)

  line_raised : (c : Call) (o : Outcome) {k : WireEvent} → WireMove w c o k → line_bit (lines_of o.next).waits n ≡ true → LineRaised w c n
  line_raised c o (still e) t = absurd (line_off o (wires_of w) e off t)
  line_raised c o (put b r x z e) t = absurd (line_off o _ e off t)
  line_raised c o (sent k ks e f h) t =
      let v = wires_of w in
      let p = sound-all-place (on wires w.state.config) (count_of w) v (all_sound w s) in
      absurd (line_off o _ f (F.sent_line_off v (sent_below v (count_of w) p) n line off) t)
  line_raised c o (set j bit value x y e) t = absurd (line_off o _ e off t)
  line_raised c o (line_set_lem j level x y z e) t = go (eqb n j) refl
    where
      at : line_bit (L.set_line (on wires w.state.config) (lines_of w) j level).waits n ≡ true
      at = sym (ap (λ (v : AllWires). line_bit v.lines.waits n) e) ∙ t

      go : (b : Bool) → eqb n j ≡ b → LineRaised w c n
      go true q =
          let j-is = eqb-true n j q in
          let on = on wires w.state.config in
          let r = F.set_waited on (lines_of w) n level off (ap (λ (k : ℕ). line_bit (L.set_line on (lines_of w) k level).waits n) j-is ∙ at) in
          by_level level (x ∙ ap (λ (k : ℕ). sets_line k level) (sym j-is)) r.0 (λ y. eqb-false _ _ r.1 y)
      go false q = absurd (true≢false (sym at ∙ F.set_waits_other (on wires w.state.config) (lines_of w) j level n (eqb-false n j q) ∙ off))
  line_raised c o (pulsed j x y z e) t = go (eqb n j) refl
    where
      go : (b : Bool) → eqb n j ≡ b → LineRaised w c n
      go true q =
          let on = on wires w.state.config in
          let r = and_right on (ltb 1 (count_of w) && not (line_bit (lines_of w).waits j)) z in
          by_edge (x ∙ ap pulses_line (sym (eqb-true n j q))) (and_left on _ z) (ltb-true 1 (count_of w) (and_left (ltb 1 (count_of w)) _ r))
      go false q =
          absurd (true≢false (sym (sym (ap (λ (v : AllWires). line_bit v.lines.waits n) e) ∙ t)
          ∙ (F.pulse_other (lines_of w) j n (eqb-false n j q)).0 ∙ off))
  line_raised c o (enabled b r x e f) t =
      let at = and_right (eqb (byte b 0) 0x22) _ e in
      let is = and_right (eqb (register_at b) 0x020) _ at in
      by_enabling_high b r x (eqb-true _ _ (and_left (eqb (byte b 0) 0x22) _ e)) (eqb-true _ _ (and_left (eqb (register_at b) 0x020) _ at))
      (eqb-true _ _ (and_right (not (on wires w.state.config)) _ is)) (not-true _ (and_left (not (on wires w.state.config)) _ is))
      (eqb-true _ 1 (sym (ap (λ (v : AllWires). line_bit v.lines.waits n) f) ∙ t))
  line_raised c o (disabled e) t = absurd (line_off o _ e (zero_line n) t)
  line_raised c o (wiped e) t = absurd (line_off o _ e (zero_line n) t)
  line_raised c o (platform_wiped e) t = absurd (line_off o _ e (zero_line n) t)
  line_raised c o (lowered b r x z l e) t = absurd (line_off o _ e (zero_line n) t)

-- ---- the statements

seen_as : (w : World) (c : Call) {k : WireEvent} → wire_event w c ≡ k → WireMove w c (step w c) k
seen_as w c e = subst (WireMove w c (step w c)) e (wire_view w c)

pub wire_steps : WireSteps
wire_steps =
    record {
      put =
          λ w b r s e n l. put_of w b r (step w (exchange b r)) s
          (seen_as w (exchange b r) (command_event_lem w b r 0x04 puts e refl refl _ (eq-eqb _ 0 n) l));
      lowered = λ w b r s n l. lowered_of w b r (cases w (exchange b r)) s n l;
      set = set-step;
      read = read_step;
      get =
          λ w b r s e n. got_of w (exchange b r) (step w (exchange b r)) s
          (seen_as w (exchange b r)
          (command_event_lem w b r 0x05 gets e refl refl _ (eq-eqb _ 0 n) (no_lowering w.state b (ap (λ (op : ℕ). eqb op 0x04) e))));
      raised = λ w c i s from upto off t. raised_by w s i from upto off c (step w c) (wire_view w c) t;
      line_raised_lem = λ w c n s line off t. line_raised w s n line off c (step w c) (wire_view w c) t;
    }
