-- Channel 1's numbers are those of its rows: by its law, and by what the bytes of its commands are.
use Rattle.std.specs.Prelude.{ℕ, zero, suc, ◌+◌, ◌≤◌, ◌<◌, Bool, true, false, ◌&&◌, ◌||◌, not, List, [], ◌∷◌, ◌≡◌, refl, eqb, ltb, leb, length}
use Rattle.std.proofs.Math.Bool.{and-false}
use Rattle.std.proofs.Common.{sym, ap, ◌∙◌, arith, leb-true, leb-false, eqb-true, eq-eqb, ne_eqb, ltb-true, ltb-false, lt-ltb, le-ltb}
use Rattle.std.proofs.lemmas.Bool.{eqb-false, lt-leb}
use Rattle.base.specs.Pick.{pick, taken, passed}
use Rattle.registers.specs.Registers.{bits, on1, operating_count, write_at}
use Rattle.registers.specs.declared.Config.{Config}
use Rattle.registers.proofs.Laws.{bit-zero, on1-written, count-written}
use Rattle.wires.specs.Table.{is_line}
use Rattle.wires.specs.Groups.{defined_bit, settable}
use Rattle.wires.specs.Lines.{any_bit, line_level_ok, can_pulse}
use Rattle.wires.specs.Transitions.{third_transition}
use Rattle.wires.specs.Senders.{AllWires, sent, any_pending, sound_all}
use Rattle.wires.specs.AllKept.{sound-all-place}
use Rattle.wires.specs.Sent.{sent_none, sent-some}
use Rattle.wires.specs.ForRules.{pending_any, sizes_fit}
use Rattle.wires.specs.declared.Wires.{Wires}
use Rattle.state.specs.State.{State}
use Rattle.rules.specs.Rules.Wires.{Act, puts, gets, Board, edge_hinders}
use Rattle.rules.specs.Rules.Channel.{wires}
use Rattle.rules.specs.Rules.Exchange.{hindered}
use Rattle.rules.specs.Statements.Fields.{byte, groups, pairs}
use Rattle.rules.specs.Statements.Reads as Read
use Rattle.rules.specs.Statements.Rows.{first_of}
use Rattle.rules.specs.Statements.Wires as W
use Rattle.rules.specs.Statements.Wires.Rows.{some_line, at_line, some_pending, more_than_two, more_in_group, wire_defined, wire_of_board, board_rows}
use Rattle.rules.specs.Statements.FirstApplies.{later_rows}
use Rattle.rules.specs.Statements.Sizes.{is_enabled}
use Rattle.rules.proofs.Proofs.Fields.{one}
use Rattle.rules.proofs.Proofs.Sizes.{on_as}
use Rattle.rules.specs.Rules.Plan.{WiresChange}

-- ---- the number by the tests that led to it

abbrev number_for : Config → AllWires → Act → ℕ
number_for c w (puts n pairs) = pick (ltb (operating_count c.r020) n) 1 (pick (third_transition w.groups pairs) 1 0)
number_for c w gets = pick (not (some_pending w)) 1 0

pub pending_as : (w : AllWires) → any_pending w ≡ some_pending w
unfolding any_bit
pending_as w = pending_any w

-- GET_VWIRE: nothing is sent exactly where nothing is pending
module _ (c : Config) (w : AllWires) (sound : sound_all (on1 c.r020) (operating_count c.r020) w ≡ true) where
  abbrev count : ℕ
  count = operating_count c.r020

  place_below : w.groups.place < 259
  place_below = sound-all-place (on1 c.r020) count w sound

  none_pending : sent w count ≡ [] → not (some_pending w) ≡ true
  none_pending e = go (any_pending w) refl
    where
      go : (t : Bool) → any_pending w ≡ t → not (some_pending w) ≡ true
      go true h =
          absurd (omega (arith, sent-some w count place_below (λ k _. sizes_fit (on1 c.r020) count w (omega arith) sound k) h, ap length e))
      go false h = ap not (sym (pending_as w) ∙ h)

  some_pending_lem : {k : ℕ} {ks : List ℕ} → sent w count ≡ k ∷ ks → not (some_pending w) ≡ false
  some_pending_lem {k} {ks} e = go (any_pending w) refl
    where
      go : (t : Bool) → any_pending w ≡ t → not (some_pending w) ≡ false
      go true h = ap not (sym (pending_as w) ∙ h)
      go false h = absurd (omega (arith, ap length (sym e ∙ sent_none w count place_below h)))

  did_number : {a : Act} {x : WiresChange} → W.Did c w a x → x.out.number ≡ number_for c w a
  did_number (W.over_count e) = taken 1 _ e refl
  did_number (W.third e f) = passed 1 _ e (taken 1 0 f refl)
  did_number (W.put e f) = passed 1 _ e (passed 1 0 f refl)
  did_number (W.none_pending_lem e) = taken 1 0 (none_pending e) refl
  did_number (W.sent_off_lem e) = passed 1 0 (some_pending_lem e) refl

-- ---- the rows of its commands: those of another opcode compute away

-- the wires of the host's: bits 2:0 of groups 2, 3 and 7
module _ (w : Wires) (b : List ℕ) where
  nine : (p q r s t u x y z : Bool)
      → ((((((((p || q) || r) || false) || (((s || t) || u) || false)) || false) || false) || false) || (((x || y) || z) || false))
      ≡ ((p || (q || r)) || ((s || (t || u)) || (x || (y || z))))
  nine true q r s t u x y z = refl
  nine false true r s t u x y z = refl
  nine false false true s t u x y z = refl
  nine false false false true t u x y z = refl
  nine false false false false true u x y z = refl
  nine false false false false false true x y z = refl
  nine false false false false false false true y z = refl
  nine false false false false false false false true z = refl
  nine false false false false false false false false true = refl
  nine false false false false false false false false false = refl

  third_as : third_transition w (pairs b) ≡ (more_in_group w b 2 || (more_in_group w b 3 || more_in_group w b 7))
  unfolding third_transition
  third_as =
      nine (more_than_two w b 2 0) (more_than_two w b 2 1) (more_than_two w b 2 2) (more_than_two w b 3 0) (more_than_two w b 3 1) (more_than_two w b 3 2)
      (more_than_two w b 7 0) (more_than_two w b 7 1) (more_than_two w b 7 2)

module _ (s : State) where
  put-rows : (b : List ℕ) → byte b 0 ≡ 0x04 → number_for s.config s.wires (puts (groups b) (pairs b)) ≡ first_of (later_rows s b)
  put-rows [] h = absurd (omega arith)
  put-rows (op ∷ r) h =
      rw h (ap (λ (t : Bool). pick (ltb (operating_count s.config.r020) (groups (0x04 ∷ r))) 1 (pick t 1 0)) (third_as s.wires.groups (0x04 ∷ r)))

  get_rows : (b : List ℕ) → byte b 0 ≡ 0x05 → number_for s.config s.wires gets ≡ first_of (later_rows s b)
  get_rows [] h = absurd (omega arith)
  get_rows (op ∷ r) h = rw h refl

  rows-number : (b : List ℕ) {a : Act} → Read.Wires b a → number_for s.config s.wires a ≡ first_of (later_rows s b)
  rows-number b (Read.Wires.puts h) = put-rows b h
  rows-number b (Read.Wires.gets h) = get_rows b h

  pub act-number : sound_all (on1 s.config.r020) (operating_count s.config.r020) s.wires ≡ true → (b : List ℕ) {a : Act} {x : WiresChange}
      → Read.Wires b a → W.Did s.config s.wires a x → x.out.number ≡ first_of (later_rows s b)
  act-number sound b r d = did_number s.config s.wires sound d ∙ rows-number b r

-- ---- the wires of the table and of the board

by_bit : (Q : ℕ → Type 0) → Q 0 → Q 1 → Q 2 → Q 3 → ((bit : ℕ) → Q (suc (suc (suc (suc bit))))) → (bit : ℕ) → Q bit
by_bit Q q0 q1 q2 q3 else zero = q0
by_bit Q q0 q1 q2 q3 else (suc zero) = q1
by_bit Q q0 q1 q2 q3 else (suc (suc zero)) = q2
by_bit Q q0 q1 q2 q3 else (suc (suc (suc zero))) = q3
by_bit Q q0 q1 q2 q3 else (suc (suc (suc (suc bit)))) = else bit

by_index : (Q : ℕ → Type 0) → Q 0 → Q 1 → Q 2 → Q 3 → Q 4 → Q 5 → Q 6 → Q 7 → ((i : ℕ) → 8 ≤ i → Q i) → (i : ℕ) → Q i
by_index Q q0 q1 q2 q3 q4 q5 q6 q7 else zero = q0
by_index Q q0 q1 q2 q3 q4 q5 q6 q7 else (suc zero) = q1
by_index Q q0 q1 q2 q3 q4 q5 q6 q7 else (suc (suc zero)) = q2
by_index Q q0 q1 q2 q3 q4 q5 q6 q7 else (suc (suc (suc zero))) = q3
by_index Q q0 q1 q2 q3 q4 q5 q6 q7 else (suc (suc (suc (suc i)))) =
    by_bit (λ (k : ℕ). Q (suc (suc (suc (suc k))))) q4 q5 q6 q7 (λ k. else (suc (suc (suc (suc (suc (suc (suc (suc k)))))))) (omega arith)) i

-- a bit past the fourth is none, and an index past 7
module _ (i bit : ℕ) (h : 4 ≤ bit) where
  no_bit : defined_bit i bit ≡ false
  no_bit = simp (le-ltb bit 4 h, and-false)

  no_wire : wire_defined i bit ≡ false
  no_wire = simp (le-ltb bit 4 h, le-ltb bit 3 (omega arith), not_at 0 (omega arith), not_at 2 (omega arith), not_at 3 (omega arith), and-false)
    where
      not_at : (k : ℕ) → k < bit → eqb bit k ≡ false
      not_at k l = ne_eqb bit k (λ e. omega arith)

module _ (i bit : ℕ) (h : 8 ≤ i) where
  no_group : defined_bit i bit ≡ false
  no_group = simp (lt-leb i 7 h, and-false)

  other : (k : ℕ) → k < 8 → eqb i k ≡ false
  other k l = ne_eqb i k (λ e. omega arith)

  no_index : wire_defined i bit ≡ false
  no_index = simp (other 2 (omega arith), other 3 (omega arith), other 4 (omega arith), other 5 (omega arith), other 6 (omega arith), other 7 (omega arith))

  no_board : wire_of_board i bit ≡ false
  no_board = simp (other 4 (omega arith), other 5 (omega arith), other 6 (omega arith))

abbrev Defined : ℕ → ℕ → Type 0
Defined i bit = defined_bit i bit ≡ wire_defined i bit

past_bits : (i bit : ℕ) → Defined i (suc (suc (suc (suc bit))))
past_bits i bit = no_bit i (suc (suc (suc (suc bit)))) (omega arith) ∙ sym (no_wire i (suc (suc (suc (suc bit)))) (omega arith))

pub defined_as : (i bit : ℕ) → Defined i bit
defined_as i bit =
    by_index (λ (k : ℕ). Defined k bit) refl refl
    (by_bit (Defined 2) refl refl refl refl (past_bits 2) bit) (by_bit (Defined 3) refl refl refl refl (past_bits 3) bit)
    (by_bit (Defined 4) refl refl refl refl (past_bits 4) bit) (by_bit (Defined 5) refl refl refl refl (past_bits 5) bit)
    (by_bit (Defined 6) refl refl refl refl (past_bits 6) bit) (by_bit (Defined 7) refl refl refl refl (past_bits 7) bit)
    (λ k h. no_group k bit h ∙ sym (no_index k bit h)) i

above : (v : ℕ) → not (leb v 1) ≡ ltb 1 v
above v = go (leb v 1) refl
  where
    go : (t : Bool) → leb v 1 ≡ t → not t ≡ ltb 1 v
    go true e = sym (le-ltb 1 v (leb-true v 1 e))
    go false e = sym (lt-ltb 1 v (leb-false v 1 e))

denied_both : (a b : Bool) → not (a && b) ≡ not a || not b
denied_both true b = refl
denied_both false b = refl

-- an up group's, a down group's
module _ (bit v : ℕ) where
  abbrev Settable : ℕ → Type 0
  Settable i = not (settable i bit v) ≡ (not (wire_of_board i bit) || ltb 1 v)

  up : (i : ℕ) → not (defined_bit i bit && leb v 1) ≡ not (wire_defined i bit) || ltb 1 v
  up i =
      denied_both (defined_bit i bit) (leb v 1) ∙ ap (λ (t : Bool). not t || not (leb v 1)) (defined_as i bit)
      ∙ ap (λ (t : Bool). not (wire_defined i bit) || t) (above v)

  down : (i : ℕ) → not (defined_bit i bit && false) ≡ true
  down i = ap not (and-false (defined_bit i bit))

  settable_as : (i : ℕ) → Settable i
  settable_as =
      by_index Settable refl refl (down 2) (down 3) (up 4) (up 5) (up 6) (down 7)
      (λ k h. simp (no_group k bit h, no_board k bit h))

-- ---- an edge that stands against a write of 020h

-- by the value written, whatever the register was
pub hindered_as : (s : State) (v a : ℕ)
    → hindered s a v ≡ eqb a 0x020 && (eqb (bits 0 0 v) 1 && (eqb (bits 21 16 v) 0 && some_line s.wires.lines.edges))
unfolding any_bit
hindered_as s v a =
    one (λ (x : ℕ). hindered s x v ≡ eqb x 0x020 && (eqb (bits 0 0 v) 1 && (eqb (bits 21 16 v) 0 && some_line s.wires.lines.edges))) a 0x020
    (ap (λ (t : Bool). t && (eqb (operating_count (write_at s.config 0x020 v).r020) 1 && some_line s.wires.lines.edges))
    (on1-written s.config.r020 v ∙ ap (λ (x : ℕ). eqb x 1) (sym (bit-zero v)))
    ∙ ap (λ (n : ℕ). eqb (bits 0 0 v) 1 && (eqb n 1 && some_line s.wires.lines.edges)) (count-written s.config.r020 v)
    ∙ ap (λ (t : Bool). eqb (bits 0 0 v) 1 && (t && some_line s.wires.lines.edges)) (one_more (bits 21 16 v)))
    (λ e. ap (λ (t : Bool). t && edge_hinders (write_at s.config a v) s.wires) e
    ∙ sym (ap (λ (t : Bool). t && (eqb (bits 0 0 v) 1 && (eqb (bits 21 16 v) 0 && some_line s.wires.lines.edges))) e))
  where
    one_more : (n : ℕ) → eqb (n + 1) 1 ≡ eqb n 0
    one_more n = go (eqb n 0) refl
      where
        go : (t : Bool) → eqb n 0 ≡ t → eqb (n + 1) 1 ≡ t
        go true e = let z = eqb-true n 0 e in eq-eqb (n + 1) 1 (omega arith)
        go false e = let z = eqb-false n 0 e in ne_eqb (n + 1) 1 (λ q. z (omega arith))

-- ---- the board's calls

past_lines : (n : ℕ) → not (is_line n) ≡ ltb 255 n
past_lines n = go (ltb n 256) refl
  where
    go : (t : Bool) → ltb n 256 ≡ t → not t ≡ ltb 255 n
    go true e = sym (le-ltb 255 n (omega (arith, ltb-true n 256 e)))
    go false e = sym (lt-ltb 255 n (omega (arith, ltb-false n 256 e)))

line_as : (n level : ℕ) → not (line_level_ok n level) ≡ ltb 255 n || ltb 1 level
line_as n level =
    denied_both (is_line n) (leb level 1) ∙ ap (λ (t : Bool). t || not (leb level 1)) (past_lines n) ∙ ap (λ (t : Bool). ltb 255 n || t) (above level)

-- 24 for an edge, test by test
pulse_as : (c : Config) (w : AllWires) (n : ℕ)
    → ◌≡◌ {A = ℕ} (pick (not (can_pulse (on1 c.r020) (operating_count c.r020) w.lines n)) 24 0)
    (pick (not (is_enabled wires c)) 24 (pick (eqb (bits 21 16 c.r020.value + 1) 1) 24 (pick (at_line w.lines.waits n) 24 0)))
pulse_as c w n =
    go (on1 c.r020) (ltb 1 (operating_count c.r020)) (at_line w.lines.waits n)
    ∙ ap (λ (t : Bool). pick (not t) 24 (pick (not (ltb 1 (operating_count c.r020))) 24 (pick (at_line w.lines.waits n) 24 0))) (on_as wires c)
    ∙ ap (λ (t : Bool). pick (not (is_enabled wires c)) 24 (pick t 24 (pick (at_line w.lines.waits n) 24 0))) (single (bits 21 16 c.r020.value))
  where
    go : (a b d : Bool) → ◌≡◌ {A = ℕ} (pick (not (a && (b && not d))) 24 0) (pick (not a) 24 (pick (not b) 24 (pick d 24 0)))
    go true true true = refl
    go true true false = refl
    go true false d = refl
    go false b d = refl

    single : (m : ℕ) → not (ltb 1 (m + 1)) ≡ eqb (m + 1) 1
    single m = by (ltb 1 (m + 1)) refl
      where
        by : (t : Bool) → ltb 1 (m + 1) ≡ t → not t ≡ eqb (m + 1) 1
        by true e = sym (ne_eqb (m + 1) 1 (λ q. omega (arith, ltb-true 1 (m + 1) e)))
        by false e = sym (eq-eqb (m + 1) 1 (omega (arith, ltb-false 1 (m + 1) e)))

pub settle-number : (c : Config) (w : AllWires) {o : Board} {x : WiresChange} → W.Settled c w o x → x.out.number ≡ first_of (board_rows c w o)
settle-number c w (W.not_boards {index = i} {bit = k} {value = v} e) = taken 22 0 (sym (settable_as k v i) ∙ ap not e) refl
settle-number c w (W.set {index = i} {bit = k} {value = v} e) = passed 22 0 (sym (settable_as k v i) ∙ ap not e) refl
settle-number c w (W.no_wire_lem {index = i} {bit = k} e) = taken 22 0 (ap not (sym (defined_as i k) ∙ e)) refl
settle-number c w (W.read {index = i} {bit = k} e) = passed 22 0 (ap not (sym (defined_as i k) ∙ e)) refl
settle-number c w (W.no_line_lem {line = n} {level = v} e) = taken 22 _ (sym (line_as n v) ∙ ap not e) refl
settle-number c w (W.edge_waits_lem {line = n} {level = v} e f) = passed 22 _ (sym (line_as n v) ∙ ap not e) (taken 24 0 f refl)
settle-number c w (W.line_set_lem {line = n} {level = v} e f) = passed 22 _ (sym (line_as n v) ∙ ap not e) (passed 24 0 f refl)
settle-number c w (W.no_line_to_pulse {line = n} e) = taken 22 _ (sym (past_lines n) ∙ ap not e) refl
settle-number c w (W.cannot_pulse {line = n} e f) = passed 22 _ (sym (past_lines n) ∙ ap not e) (taken 24 0 (ap not f) refl ∙ pulse_as c w n)
settle-number c w (W.pulsed {line = n} e f) = passed 22 _ (sym (past_lines n) ∙ ap not e) (passed 24 0 (ap not f) refl ∙ pulse_as c w n)
