-- The wires of a sound state after each change.
use Rattle.std.specs.Prelude.{ℕ, ◌<◌, Bool, true, false, ◌&&◌, List, ◌⊎◌, ◌≡◌, refl, eqb, ltb}
use Rattle.std.proofs.Common.{true≢false, inl, inr, sym, ap, subst, ◌∙◌, arith, ltb-true, ltb-false}
use Rattle.std.proofs.lemmas.Bool.{eqb-false}
use Rattle.base.specs.Pick.{pick}
use Rattle.registers.specs.Registers.{on1, operating_count, write020, write_at}
use Rattle.registers.specs.Laws.{write_r020}
use Rattle.registers.specs.declared.Config.{Config}
use Rattle.registers.specs.declared.Reg020.{Reg020}
use Rattle.wires.specs.Groups.{put_pairs, settable, set_wire}
use Rattle.wires.specs.Lines.{set_line, pulse_line, can_pulse, any_edge}
use Rattle.wires.specs.Table.{is_line}
use Rattle.wires.specs.LinesKept.{off_no_edge, single_no_edge}
use Rattle.wires.specs.Senders.{AllWires, with_groups, with_lines, fresh_all, sent, after_sent, all_platform, sound_all, whole_all}
use Rattle.wires.specs.AllKept as K
use Rattle.state.specs.State.{State}
use Rattle.rules.specs.Rules.Reset.{Reset, start, espi_reset, platform_reset}
use Rattle.rules.specs.Rules.Wires as W₀
use Rattle.rules.specs.Rules.Wires.{Act, Board}
use Rattle.rules.specs.Rules.Exchange.{config_reset, hindered}
use Rattle.rules.specs.Statements.Wires as W
use Rattle.rules.specs.Rules.Plan.{WiresChange}

pub record WiresOk (on : Bool) (count : ℕ) (w : AllWires) : Type 0 where
  pub right : sound_all on count w ≡ true
  pub fit : whole_all w ≡ true

pub fresh_ok : (on : Bool) (count : ℕ) → WiresOk on count fresh_all
fresh_ok on count = record { right = K.sound-all-fresh on count; fit = K.whole_all-fresh }

module _ {on : Bool} {count : ℕ} {w : AllWires} (h : WiresOk on count w) where
  pub put_ok : (ps : List ℕ) → WiresOk on count (with_groups w (put_pairs w.groups ps))
  put_ok ps = record { right = K.sound-all-put on count w ps h.right; fit = K.whole_all-put w ps h.fit }

  pub send_ok : (capacity : ℕ) → WiresOk on count (after_sent w (sent w capacity))
  send_ok capacity = record { right = K.sound-all-sent on count w capacity h.right; fit = K.whole_all-sent w capacity h.fit }

  pub set_ok : (index bit value : ℕ) → settable index bit value ≡ true → WiresOk on count (with_groups w (set_wire on w.groups index bit value))
  set_ok index bit value e =
      record { right = K.sound-all-set on count w index bit value e h.right; fit = K.whole_all-set on w index bit value h.fit }

  pub line_ok : (line level : ℕ) → WiresOk on count (with_lines w (set_line on w.lines line level))
  line_ok line level = record { right = K.sound-all_line on count w line level h.right; fit = K.whole_all_line on w line level h.fit }

  pub pulse_ok : (line : ℕ) → is_line line ≡ true → can_pulse on count w.lines line ≡ true → WiresOk on count (with_lines w (pulse_line w.lines line))
  pulse_ok line e f = record { right = K.sound-all_pulse on count w line e f h.fit h.right; fit = K.whole_all_pulse w line h.fit }

  pub platform_ok : WiresOk on count (all_platform w)
  platform_ok = record { right = K.sound-all_platform on count w h.right; fit = K.whole_all_platform w h.fit }

-- ---- a write of the configuration

-- a place for each edge that waits
abbrev Roomy : ℕ → AllWires → Type 0
Roomy count w = (1 < count) ⊎ (any_edge w.lines ≡ false)

sound_roomy : (on : Bool) (count : ℕ) (w : AllWires) → sound_all on count w ≡ true → Roomy count w
sound_roomy on count w e = go (ltb 1 count) refl
  where
    go : (t : Bool) → ltb 1 count ≡ t → Roomy count w
    go true q = inl (ltb-true 1 count q)
    go false q = inr (single_no_edge on count w.lines (ltb-false 1 count q) (K.sound_lines_lem on count w e))

edge_ok : (was is : Bool) (count next : ℕ) (w : AllWires) → WiresOk was count w → (is ≡ true → Roomy next w) → WiresOk is next (W₀.enable_edge was is w)
edge_ok true true count next w h r = record { right = K.sound-all-count true count next w (r refl) h.right; fit = h.fit }
edge_ok true false count next w h r = record { right = K.sound-all-disabled true count next w h.right; fit = K.whole_all-disabled w h.fit }
edge_ok false true count next w h r = record { right = K.sound-all-enabled count next w h.right; fit = K.whole_all-enabled w h.fit }
edge_ok false false count next w h r =
    let none = off_no_edge count w.lines (K.sound_lines_lem false count w h.right) in
    record { right = K.sound-all-count false count next w (inr none) h.right; fit = h.fit }

-- "The operating count may not be lowered to 1 while an edge waits (number 2), unless the write disables channel 1" (02, Q-4)
pub write_ok : (s : State) (a v : ℕ) → hindered s a v ≡ false → WiresOk (on1 s.config.r020) (operating_count s.config.r020) s.wires
    → WiresOk (on1 (write_at s.config a v).r020) (operating_count (write_at s.config a v).r020)
    (W₀.enable_edge (on1 s.config.r020) (on1 (write_at s.config a v).r020) s.wires)
write_ok s a v g h = edge_ok _ (on1 (write_at s.config a v).r020) _ _ s.wires h (λ o. room (eqb a 0x020) refl o)
  where
    old : Reg020
    old = s.config.r020

    new : Reg020
    new = (write_at s.config a v).r020

    fits : (t u e : Bool) → eqb (operating_count new) 1 ≡ u → any_edge s.wires.lines ≡ e → t ≡ true → t && (u && e) ≡ false
        → Roomy (operating_count new) s.wires
    fits false u e q f o z = absurd (true≢false (sym o))
    fits true false e q f o z = let n = eqb-false (operating_count new) 1 q in inl (omega arith)
    fits true true e q f o z = inr (f ∙ z)

    room : (t : Bool) → eqb a 0x020 ≡ t → on1 new ≡ true → Roomy (operating_count new) s.wires
    room true q o =
        fits (on1 new) (eqb (operating_count new) 1) (any_edge s.wires.lines) refl refl o
        (sym (ap (λ (t : Bool). t && W₀.edge_hinders (write_at s.config a v) s.wires) q) ∙ g)
    room false q o =
        subst (λ (r : Reg020). Roomy (operating_count r) s.wires)
        (sym (write_r020 s.config a v ∙ ap (λ (t : Bool). pick t (write020 old v) old) q))
        (sound_roomy (on1 old) (operating_count old) s.wires h.right)

-- ---- commands, calls and resets

pub acts_ok : {on : Bool} {count : ℕ} {c : Config} {w : AllWires} {a : Act} {x : WiresChange} → WiresOk on count w → W.Did c w a x → WiresOk on count x.next
acts_ok h (W.over_count e) = h
acts_ok h (W.third e f) = h
acts_ok h (W.put e f) = put_ok h _
acts_ok h (W.none_pending_lem e) = h
acts_ok {on} {count} {c} {w} h (W.sent_off_lem e) = subst (λ (l : List ℕ). WiresOk on count (after_sent w l)) e (send_ok h _)

pub settled_ok : {c : Config} {w : AllWires} {o : Board} {x : WiresChange} → WiresOk (on1 c.r020) (operating_count c.r020) w → W.Settled c w o x
    → WiresOk (on1 c.r020) (operating_count c.r020) x.next
settled_ok h (W.not_boards e) = h
settled_ok h (W.set e) = set_ok h _ _ _ e
settled_ok h (W.no_wire_lem e) = h
settled_ok h (W.read e) = h
settled_ok h (W.no_line_lem e) = h
settled_ok h (W.edge_waits_lem e f) = h
settled_ok h (W.line_set_lem e f) = line_ok h _ _
settled_ok h (W.no_line_to_pulse e) = h
settled_ok h (W.cannot_pulse e f) = h
settled_ok h (W.pulsed e f) = pulse_ok h _ e f

pub reset_ok : (r : Reset) (c : Config) (w : AllWires) → WiresOk (on1 c.r020) (operating_count c.r020) w
    → WiresOk (on1 (config_reset r c).r020) (operating_count (config_reset r c).r020) (W₀.reset r w)
reset_ok start c w h = fresh_ok _ _
reset_ok espi_reset c w h = fresh_ok _ _
reset_ok platform_reset c w h = platform_ok h
