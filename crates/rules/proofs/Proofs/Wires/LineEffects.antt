-- P11, the interrupt lines one by one.
use Rattle.std.specs.Prelude.{ℕ, ◌%◌, Bool, true, false, ◌&&◌, not, List, ◌≡◌, refl, eqb, leb}
use Rattle.std.proofs.Common.{sym, ap, subst, ◌∙◌, arith, eqb-true, ltb-true, leb-true}
use Rattle.std.proofs.lemmas.Bool.{not-true}
use Rattle.base.specs.Pick.{pick, and_left, and_right, taken}
use Rattle.registers.specs.Registers.{on1}
use Rattle.registers.proofs.Laws.{bit-zero}
use Rattle.registers.specs.declared.Config.{Config}
use Rattle.wires.specs.Table.{is_line}
use Rattle.wires.specs.Lines as L₀
use Rattle.wires.specs.Lines.{line_level_ok, whole_lines}
use Rattle.wires.specs.LineBits.{zero_line, value_bit}
use Rattle.wires.specs.Senders.{AllWires}
use Rattle.wires.specs.AllKept.{whole_lines_lem}
use Rattle.wires.specs.ForRules.{set_level_lem, set_level_other, set_waits, set_waits_other, set-edges, pulse_level, pulse_own, pulse_other}
use Rattle.state.specs.Facts.{fit_parts}
use Rattle.state.specs.Sound.{Sound}
use Rattle.state.specs.State.{State}
use Rattle.rules.specs.Rules.Reset.{Reset, start, espi_reset, platform_reset}
use Rattle.rules.specs.Rules.Wires as W₀
use Rattle.rules.specs.Rules.Wires.{set_line, pulse_line}
use Rattle.rules.specs.Rules.Channel.{wires}
use Rattle.rules.specs.Rules.Lift.{lift}
use Rattle.rules.specs.Rules.Step.{World, Outcome, reset, exchange, board, served, step}
use Rattle.rules.specs.Rules.Plan.{WiresChange}
use Rattle.rules.specs.Statements.Fields.{byte, register_at, register_value}
use Rattle.rules.specs.Statements.Sizes.{is_enabled}
use Rattle.rules.specs.Statements.Events.{disables, lowers_pltrst, pltrst_falls}
use Rattle.rules.specs.Statements.WireEvents.{switches_on}
use Rattle.rules.specs.Statements.Effects.{exchange_effect, value_enables, switched}
use Rattle.rules.specs.Statements.Wires as L
use Rattle.rules.specs.Statements.Wires.LineEffects.{level_of, LineSet, LinePulsed, NoLine, LinesWait, LineEffects}
use Rattle.rules.proofs.Proofs.Cases.{board_long, reset-is}
use Rattle.rules.proofs.Proofs.Wires.{settles}
use Rattle.rules.proofs.Proofs.Sizes.{on_as}
use Rattle.rules.proofs.Proofs.Effects.{effects}

-- ---- the board's two calls: what an accepted one asked for

accepted_line : {c : Config} {w : AllWires} {n level : ℕ} {x : WiresChange} → L.Settled c w (set_line n level) x → x.out.number ≡ 0
    → line_level_ok n level ≡ true
accepted_line (L.no_line_lem e) z = absurd (omega arith)
accepted_line (L.edge_waits_lem e f) z = absurd (omega arith)
accepted_line (L.line_set_lem e f) z = e

accepted-edge : {c : Config} {w : AllWires} {n : ℕ} {x : WiresChange} → L.Settled c w (pulse_line n) x → x.out.number ≡ 0 → is_line n ≡ true
accepted-edge (L.no_line_to_pulse e) z = absurd (omega arith)
accepted-edge (L.cannot_pulse e f) z = absurd (omega arith)
accepted-edge (L.pulsed e f) z = e

board_number : (w : World) (o : W₀.Board) → (step w (board wires o)).number ≡ (W₀.settle w.state.config w.state.wires o).out.number
unfolding served lift
board_number w o = ap (λ (x : Outcome). x.number) (board_long wires w o refl)

module _ (w : World) (h : Sound w.state) where
  abbrev s : State
  s = w.state

  whole : whole_lines s.wires.lines ≡ true
  whole = whole_lines_lem s.wires ((fit_parts s h.is_fit).each wires)

  set-row : (n level : ℕ) → (step w (board wires (set_line n level))).number ≡ 0 → LineSet w (step w (board wires (set_line n level))).next n level
  set-row n level z =
      let ok = accepted_line (settles s.config s.wires (set_line n level)) (sym (board_number w (set_line n level)) ∙ z) in
      let line = ltb-true n 256 (and_left (is_line n) (leb level 1) ok) in
      let on = is_enabled wires s.config in
      subst (λ (v : World). LineSet w v n level) (sym (effects w (board wires (set_line n level)) z))
      (record {
        own = set_level_lem on s.wires.lines n level whole line (leb-true level 1 (and_right (is_line n) (leb level 1) ok));
        waits = set_waits on s.wires.lines n level whole line;
        levels = set_level_other on s.wires.lines n level;
        others_wait = set_waits_other on s.wires.lines n level;
        edges = λ k. ap (λ (m : List ℕ). L₀.line_bit m k) (set-edges on s.wires.lines n level);
        groups = refl;
      })

  pulse_row : (n : ℕ) → (step w (board wires (pulse_line n))).number ≡ 0 → LinePulsed w (step w (board wires (pulse_line n))).next n
  pulse_row n z =
      let line = ltb-true n 256 (accepted-edge (settles s.config s.wires (pulse_line n)) (sym (board_number w (pulse_line n)) ∙ z)) in
      let own = pulse_own s.wires.lines n whole line in
      subst (λ (v : World). LinePulsed w v n) (sym (effects w (board wires (pulse_line n)) z))
      (record {
        waits = own.0;
        edge = own.1;
        levels = λ k. ap (λ (m : List ℕ). L₀.line_value m k) (pulse_level s.wires.lines n);
        others_wait = λ k e. (pulse_other s.wires.lines n k e).0;
        others_edge = λ k e. (pulse_other s.wires.lines n k e).1;
        groups = refl;
      })

-- ---- resets

low : (k : ℕ) → L₀.line_value L₀.no_bits_value k ≡ 0
low k = value_bit L₀.no_bits_value k ∙ rw (zero_line k)

no_line : {v : World} → v.state.wires.lines ≡ L₀.no_lines → NoLine v
no_line {v} e =
    record {
      low = λ k. ap (λ (l : L₀.Lines). L₀.line_value l.level k) e ∙ low k;
      waits = λ k. ap (λ (l : L₀.Lines). L₀.line_bit l.waits k) e ∙ zero_line k;
      edges = λ k. ap (λ (l : L₀.Lines). L₀.line_bit l.edges k) e ∙ zero_line k;
    }

reset-row : (w : World) (r : Reset) → NoLine (step w (reset r)).next
reset-row w r = no_line (ap (λ (o : Outcome). o.next.state.wires.lines) (reset-is w r) ∙ lines r)
  where
    lines : (x : Reset) → (W₀.reset x w.state.wires).lines ≡ L₀.no_lines
    lines start = refl
    lines espi_reset = refl
    lines platform_reset = refl

fallen_row : (w : World) (b reply : List ℕ) → pltrst_falls w (exchange b reply) ≡ true → NoLine (step w (exchange b reply)).next
fallen_row w b reply e =
    let z = eqb-true _ 0 (and_left (eqb (step w (exchange b reply)).number 0) (lowers_pltrst w.state b) e) in
    let l = and_right (eqb (step w (exchange b reply)).number 0) (lowers_pltrst w.state b) e in
    no_line (ap (λ (v : World). v.state.wires.lines) (effects w (exchange b reply) z
    ∙ ap (λ (op : ℕ). exchange_effect w op b) (eqb-true (byte b 0) 0x04 (and_left (eqb (byte b 0) 0x04) _ l)) ∙ sym (taken _ _ l refl)))

-- ---- an edge of the enable bit

-- the wires after a write of 020h
module _ (w : World) (b reply : List ℕ) (z : (step w (exchange b reply)).number ≡ 0) (op : eqb (byte b 0) 0x22 ≡ true)
    (at : eqb (register_at b) 0x020 ≡ true) where
  written : (was is : Bool) → is_enabled wires w.state.config ≡ was → value_enables (register_value b) ≡ is
      → (step w (exchange b reply)).next.state.wires ≡ switched wires was is w.state.wires
  written was is e f =
      ap (λ (v : World). v.state.wires) (effects w (exchange b reply) z ∙ ap (λ (x : ℕ). exchange_effect w x b) (eqb-true (byte b 0) 0x22 op))
      ∙ ap (λ (t : Bool). switched wires (is_enabled wires w.state.config) (pick t (value_enables (register_value b)) (is_enabled wires w.state.config))
      w.state.wires) at
      ∙ ap (λ (t : Bool). switched wires t (value_enables (register_value b)) w.state.wires) e
      ∙ ap (λ (t : Bool). switched wires was t w.state.wires) f

lines_wait : {w v : World} {which : ℕ → Bool} {m : List ℕ}
    → v.state.wires.lines ≡ record { level = w.state.wires.lines.level; waits = m; edges = L₀.no_bits_value } → ((k : ℕ) → L₀.line_bit m k ≡ which k)
    → LinesWait w v which
lines_wait e f =
    record {
      levels = λ k. ap (λ (l : L₀.Lines). L₀.line_value l.level k) e;
      waits = λ k. ap (λ (l : L₀.Lines). L₀.line_bit l.waits k) e ∙ f k;
      edges = λ k. ap (λ (l : L₀.Lines). L₀.line_bit l.edges k) e ∙ zero_line k;
    }

value_on : (v : ℕ) → eqb (v % 2) 1 ≡ true → value_enables v ≡ true
value_on v e = ap (λ (x : ℕ). eqb x 1) (bit-zero v) ∙ e

value_off : (v : ℕ) → eqb (v % 2) 0 ≡ true → value_enables v ≡ false
value_off v e = ap (λ (x : ℕ). eqb x 1) (bit-zero v ∙ eqb-true (v % 2) 0 e)

module _ (w : World) (b reply : List ℕ) (z : (step w (exchange b reply)).number ≡ 0) where
  abbrev on : Bool
  on = on1 w.state.config.r020

  enabled-row : switches_on w.state b ≡ true → LinesWait w (step w (exchange b reply)).next (λ (k : ℕ). eqb (level_of w k) 1)
  enabled-row e =
      let rest = and_right (eqb (byte b 0) 0x22) (eqb (register_at b) 0x020 && (not on && eqb (register_value b % 2) 1)) e in
      let last = and_right (eqb (register_at b) 0x020) (not on && eqb (register_value b % 2) 1) rest in
      let was = sym (on_as wires w.state.config) ∙ not-true on (and_left (not on) _ last) in
      lines_wait (ap (λ (v : AllWires). v.lines)
      (written w b reply z (and_left (eqb (byte b 0) 0x22) _ e) (and_left (eqb (register_at b) 0x020) _ rest) false true was
      (value_on (register_value b) (and_right (not on) _ last)))) (λ k. refl)

  disabled-row : disables wires w.state b ≡ true → LinesWait w (step w (exchange b reply)).next (λ (k : ℕ). false)
  disabled-row e =
      let rest = and_right (eqb (byte b 0) 0x22) (eqb (register_at b) 0x020 && (on && eqb (register_value b % 2) 0)) e in
      let last = and_right (eqb (register_at b) 0x020) (on && eqb (register_value b % 2) 0) rest in
      let was = sym (on_as wires w.state.config) ∙ and_left on _ last in
      lines_wait (ap (λ (v : AllWires). v.lines)
      (written w b reply z (and_left (eqb (byte b 0) 0x22) _ e) (and_left (eqb (register_at b) 0x020) _ rest) true false was
      (value_off (register_value b) (and_right on _ last)))) zero_line

pub line_effects : LineEffects
line_effects = record { set = set-row; pulsed = pulse_row; reset = reset-row; fallen = fallen_row; enabled = enabled-row; disabled = disabled-row }
