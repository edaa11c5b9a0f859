-- Channel 1's law: the one file that unfolds its decisions.
pub mod Apart
pub mod Effects
pub mod LineEffects
pub mod SoundMeans
pub mod WholeFirstApplies
pub mod WholeRefusals
pub mod Fits
pub mod Lawful
pub mod Lowering
pub mod Shape
pub mod Sound
pub mod Rows
pub mod Status
pub mod Turns
use Rattle.std.specs.Prelude.{ℕ, Bool, true, false, ◌&&◌, not, List, [], ◌∷◌, ◌≡◌, refl, eqb, ltb}
use Rattle.std.proofs.Common.{true≢false, sym, ap, ◌∙◌, eqb-true}
use Rattle.std.proofs.lemmas.Bool.{not-false, not-true}
use Rattle.base.specs.Pick.{pick, pick_ind, and_left, and_right}
use Rattle.registers.specs.Registers.{on1, operating_count}
use Rattle.registers.specs.declared.Config.{Config}
use Rattle.wires.specs.Table.{is_line}
use Rattle.wires.specs.Groups.{put_pairs, settable, defined_bit}
use Rattle.wires.specs.Transitions.{third_transition}
use Rattle.wires.specs.Lines.{line_bit, line_level_ok, can_pulse}
use Rattle.wires.specs.Senders.{AllWires, with_groups, sent}
use Rattle.rules.specs.Rules.Out.{number}
use Rattle.rules.specs.Rules.Wires as W
use Rattle.rules.specs.Rules.Wires.{Act, puts, gets, Board, set_wire, read_wire, set_line, pulse_line}
use Rattle.rules.specs.Statements.Wires.{Did, over_count, third, put, none_pending_lem, sent_off_lem, Lowers, lowered, Settled, not_boards, set, no_wire_lem, read, no_line_lem, edge_waits_lem, line_set_lem, no_line_to_pulse, cannot_pulse, pulsed}
use Rattle.rules.specs.Rules.Plan.{WiresChange}

send_did : (c : Config) (w : AllWires) (ks : List ℕ) → sent w (operating_count c.r020) ≡ ks → Did c w gets (W.sent_out w (operating_count c.r020) ks)
send_did c w [] e = none_pending_lem e
send_did c w (k ∷ ks) e = sent_off_lem e

pub did : (c : Config) (w : AllWires) (a : Act) → Did c w a (W.acting c w a)
unfolding W.put_vwire W.get_vwire
did c w (puts n pairs) =
    pick_ind (Did c w (puts n pairs)) (ltb (operating_count c.r020) n) over_count
    (λ e. pick_ind (Did c w (puts n pairs)) (third_transition w.groups pairs) (third e) (put e))
did c w gets = send_did c w (sent w (operating_count c.r020)) refl

-- a wire is not high and low
pub not_both : (n : ℕ) → eqb n 1 && eqb n 0 ≡ false
not_both n = go (eqb n 1) refl
  where
    go : (t : Bool) → eqb n 1 ≡ t → t && eqb n 0 ≡ false
    go true e = ap (λ (m : ℕ). eqb m 0) (eqb-true n 1 e)
    go false e = refl

-- the reset follows an accepted packet alone: a refused one leaves the wires
pub lowers : {c : Config} {w : AllWires} {a : Act} {x : WiresChange} → Did c w a x → W.reset_follows w a x.next ≡ true → Lowers c w a x
lowers {w = w} (over_count e) h = absurd (true≢false (sym h ∙ not_both (W.pltrst w)))
lowers {w = w} (third e f) h = absurd (true≢false (sym h ∙ not_both (W.pltrst w)))
lowers {w = w} (put {pairs = ps} e f) h =
    lowered e f (eqb-true (W.pltrst w) 1 (and_left _ _ h)) (eqb-true (W.pltrst (with_groups w (put_pairs w.groups ps))) 0 (and_right (eqb (W.pltrst w) 1) _ h))
lowers (none_pending_lem e) h = absurd (true≢false (sym h))
lowers (sent_off_lem e) h = absurd (true≢false (sym h))

read-settled : (c : Config) (w : AllWires) (index bit : ℕ) (t : Bool) → defined_bit index bit ≡ t
    → Settled c w (read_wire index bit) (W.change w (number (pick t 0 22)))
read-settled c w index bit true e = read e
read-settled c w index bit false e = no_wire_lem e

pub settles : (c : Config) (w : AllWires) (o : Board) → Settled c w o (W.settle c w o)
unfolding W.settle W.setting W.setting_line W.pulsing_line
settles c w (set_wire index bit value) =
    pick_ind (Settled c w (set_wire index bit value)) (not (settable index bit value)) (λ e. not_boards (not-true _ e)) (λ e. set (not-false _ e))
settles c w (read_wire index bit) = read-settled c w index bit (defined_bit index bit) refl
settles c w (set_line line level) =
    pick_ind (Settled c w (set_line line level)) (not (line_level_ok line level)) (λ e. no_line_lem (not-true _ e))
    (λ e. pick_ind (Settled c w (set_line line level)) (line_bit w.lines.edges line) (edge_waits_lem (not-false _ e)) (line_set_lem (not-false _ e)))
settles c w (pulse_line line) =
    pick_ind (Settled c w (pulse_line line)) (not (is_line line)) (λ e. no_line_to_pulse (not-true _ e))
    (λ e. pick_ind (Settled c w (pulse_line line)) (not (can_pulse (on1 c.r020) (operating_count c.r020) w.lines line))
    (λ f. cannot_pulse (not-false _ e) (not-true _ f)) (λ f. pulsed (not-false _ e) (not-false _ f)))

-- a read is its number and changes nothing
pub read_is : (c : Config) (w : AllWires) (index bit : ℕ) → W.settle c w (read_wire index bit) ≡ W.change w (number (W.read_number index bit))
unfolding W.settle
read_is c w index bit = refl
