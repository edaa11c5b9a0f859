-- P4 for all of channel 1's wires: each change keeps groups and lines sound, and whole.
use Rattle.std.specs.Prelude.{ℕ, ◌+◌, ◌-◌, ◌≤◌, ◌<◌, Bool, true, false, List, [], ◌∷◌, ◌⊎◌, ◌≡◌, refl}
use Rattle.std.proofs.Common.{subst, ◌∙◌, arith, ltb-false}
use Rattle.base.specs.Pick.{pick_ind, and_left, and_right, and_true}
use Rattle.wires.specs.Below.{at_every}
use Rattle.wires.specs.Table.{is_line, is_group, is_up, senders, group_at}
use Rattle.wires.specs.Rows.{in_table}
use Rattle.wires.specs.Turn.{after}
use Rattle.wires.specs.Round.{AllBelow, none, more, after_below, turn_below}
use Rattle.wires.specs.Groups.{first_place, level_at, put_pairs, settable, set_wire, sound_wires, whole_wires}
use Rattle.wires.specs.Kept.{sound_view, sound-fresh, sound-put, sound-set, sound-unmarked, sound-placed, sound-enabled, sound-disabled, sound_platform, sound_level, whole_with, whole_put, whole_set, whole_remarked, whole_platform, whole_fresh}
use Rattle.wires.specs.Lines.{set_line, pulse_line, can_pulse, any_edge, sound_lines, whole_lines}
use Rattle.wires.specs.LinesKept.{sound_line, sound_pulse, sound-sent_line, sound-raised, sound-dropped, sound_no_lines, sound-count, whole_line, whole_pulse, whole_sent_line, whole_raised, whole_dropped, whole_no_lines}
use Rattle.wires.specs.Senders.{AllWires, with_groups, with_lines, fresh_all, sender_size, waiting, sent_from, sent, left_by, after_sent, all_enabled, all_disabled, all_platform, sound_all, whole_all}

-- ---- the two parts

pub sound-groups : (on : Bool) (count : ℕ) (w : AllWires) → sound_all on count w ≡ true → sound_wires on w.groups ≡ true
sound-groups on count w e = and_left (sound_wires on w.groups) (sound_lines on count w.lines) e

pub sound_lines_lem : (on : Bool) (count : ℕ) (w : AllWires) → sound_all on count w ≡ true → sound_lines on count w.lines ≡ true
sound_lines_lem on count w e = and_right (sound_wires on w.groups) (sound_lines on count w.lines) e

pub whole_groups : (w : AllWires) → whole_all w ≡ true → whole_wires w.groups ≡ true
whole_groups w e = and_left (whole_wires w.groups) (whole_lines w.lines) e

pub whole_lines_lem : (w : AllWires) → whole_all w ≡ true → whole_lines w.lines ≡ true
whole_lines_lem w e = and_right (whole_wires w.groups) (whole_lines w.lines) e

pub sound-all_level : (on : Bool) (count : ℕ) (w : AllWires) → sound_all on count w ≡ true → (i : ℕ) → 2 ≤ i → i ≤ 7 → level_at w.groups i < 16
sound-all_level on count w e i h l = sound_level on w.groups (sound-groups on count w e) i h l

pub sound-all-place : (on : Bool) (count : ℕ) (w : AllWires) → sound_all on count w ≡ true → w.groups.place < senders
sound-all-place on count w e = (sound_view on w.groups (sound-groups on count w e)).below

-- the sender of a number from 256 on is an up group
pub group_up : (k : ℕ) → k < senders → is_line k ≡ false → is_up (group_at k) ≡ true
group_up k h e =
    let l = ltb-false k 256 e in
    let q : 256 + (k - 256) ≡ k = omega arith in
    subst (λ (j : ℕ). is_up (group_at j) ≡ true) q (at_every 3 (λ (j : ℕ). is_up (group_at (256 + j))) refl (k - 256) (omega arith))

-- what a packet takes is a sender
pub sent_below : (w : AllWires) (p capacity : ℕ) → p < senders → AllBelow senders (sent_from w p capacity)
unfolding sent_from
sent_below w p capacity h = turn_below (sender_size w) (waiting w) senders senders capacity p h

-- ---- soundness is kept

pub sound-all-fresh : (on : Bool) (count : ℕ) → sound_all on count fresh_all ≡ true
sound-all-fresh on count = and_true (sound-fresh on) (sound_no_lines on count)

pub sound-all-put : (on : Bool) (count : ℕ) (w : AllWires) (ps : List ℕ) → sound_all on count w ≡ true
    → sound_all on count (with_groups w (put_pairs w.groups ps)) ≡ true
sound-all-put on count w ps e = and_true (sound-put on w.groups ps (sound-groups on count w e)) (sound_lines_lem on count w e)

pub sound-all-set : (on : Bool) (count : ℕ) (w : AllWires) (i bit value : ℕ) → settable i bit value ≡ true → sound_all on count w ≡ true
    → sound_all on count (with_groups w (set_wire on w.groups i bit value)) ≡ true
sound-all-set on count w i bit value t e =
    and_true (sound-set on w.groups i bit value t (sound-groups on count w e)) (sound_lines_lem on count w e)

pub sound-all_line : (on : Bool) (count : ℕ) (w : AllWires) (n level : ℕ) → sound_all on count w ≡ true
    → sound_all on count (with_lines w (set_line on w.lines n level)) ≡ true
sound-all_line on count w n level e = and_true (sound-groups on count w e) (sound_line on count w.lines n level (sound_lines_lem on count w e))

pub sound-all_pulse : (on : Bool) (count : ℕ) (w : AllWires) (n : ℕ) → is_line n ≡ true → can_pulse on count w.lines n ≡ true → whole_all w ≡ true
    → sound_all on count w ≡ true → sound_all on count (with_lines w (pulse_line w.lines n)) ≡ true
sound-all_pulse on count w n h c f e =
    and_true (sound-groups on count w e) (sound_pulse on count w.lines n h c (whole_lines_lem w f) (sound_lines_lem on count w e))

left-kept : (on : Bool) (count : ℕ) (w : AllWires) (k : ℕ) → k < senders → sound_all on count w ≡ true → sound_all on count (left_by w k) ≡ true
left-kept on count w k h e =
    pick_ind (λ (v : AllWires). sound_all on count v ≡ true) (is_line k)
    (λ _.
    and_true (sound-placed on w.groups (after senders k) (after_below senders k h) (sound-groups on count w e))
    (sound-sent_line on count w.lines k (sound_lines_lem on count w e)))
    (λ t.
    let g = in_table (group_at k) (and_left (is_group (group_at k)) _ (group_up k h t)) in
    and_true (sound-unmarked on w.groups (group_at k) (after senders k) g.from g.upto (after_below senders k h) (sound-groups on count w e))
    (sound_lines_lem on count w e))

pub sound-all-after : (on : Bool) (count : ℕ) (w : AllWires) {ks : List ℕ} → AllBelow senders ks → sound_all on count w ≡ true
    → sound_all on count (after_sent w ks) ≡ true
unfolding after_sent
sound-all-after on count w none e = e
sound-all-after on count w (more {i = k} h hs) e = sound-all-after on count (left_by w k) hs (left-kept on count w k h e)

pub sound-all-sent : (on : Bool) (count : ℕ) (w : AllWires) (capacity : ℕ) → sound_all on count w ≡ true
    → sound_all on count (after_sent w (sent w capacity)) ≡ true
sound-all-sent on count w capacity e = sound-all-after on count w (sent_below w w.groups.place capacity (sound-all-place on count w e)) e

-- from off to on, with any operating count
pub sound-all-enabled : (count next : ℕ) (w : AllWires) → sound_all false count w ≡ true → sound_all true next (all_enabled w) ≡ true
sound-all-enabled count next w e = and_true (sound-enabled w.groups (sound-groups false count w e)) (sound-raised next w.lines)

-- to off, with any operating count
pub sound-all-disabled : (on : Bool) (count next : ℕ) (w : AllWires) → sound_all on count w ≡ true → sound_all false next (all_disabled w) ≡ true
sound-all-disabled on count next w e = and_true (sound-disabled on w.groups (sound-groups on count w e)) (sound-dropped false next w.lines)

pub sound-all_platform : (on : Bool) (count : ℕ) (w : AllWires) → sound_all on count w ≡ true → sound_all on count (all_platform w) ≡ true
sound-all_platform on count w e = and_true (sound_platform on w.groups (sound-groups on count w e)) (sound_no_lines on count)

-- another operating count
pub sound-all-count : (on : Bool) (count next : ℕ) (w : AllWires) → (1 < next) ⊎ (any_edge w.lines ≡ false) → sound_all on count w ≡ true
    → sound_all on next w ≡ true
sound-all-count on count next w f e = and_true (sound-groups on count w e) (sound-count on count next w.lines f (sound_lines_lem on count w e))

-- ---- six groups and three maps stay so

pub whole_all-fresh : whole_all fresh_all ≡ true
whole_all-fresh = and_true whole_fresh whole_no_lines

pub whole_all-put : (w : AllWires) (ps : List ℕ) → whole_all w ≡ true → whole_all (with_groups w (put_pairs w.groups ps)) ≡ true
whole_all-put w ps e = and_true (whole_put w.groups ps ∙ whole_groups w e) (whole_lines_lem w e)

pub whole_all-set : (on : Bool) (w : AllWires) (i bit value : ℕ) → whole_all w ≡ true → whole_all (with_groups w (set_wire on w.groups i bit value)) ≡ true
whole_all-set on w i bit value e = and_true (whole_set on w.groups i bit value ∙ whole_groups w e) (whole_lines_lem w e)

pub whole_all_line : (on : Bool) (w : AllWires) (n level : ℕ) → whole_all w ≡ true → whole_all (with_lines w (set_line on w.lines n level)) ≡ true
whole_all_line on w n level e = and_true (whole_groups w e) (whole_line on w.lines n level (whole_lines_lem w e))

pub whole_all_pulse : (w : AllWires) (n : ℕ) → whole_all w ≡ true → whole_all (with_lines w (pulse_line w.lines n)) ≡ true
whole_all_pulse w n e = and_true (whole_groups w e) (whole_pulse w.lines n (whole_lines_lem w e))

pub whole_all-left : (w : AllWires) (k : ℕ) → whole_all w ≡ true → whole_all (left_by w k) ≡ true
whole_all-left w k e =
    pick_ind (λ (v : AllWires). whole_all v ≡ true) (is_line k)
    (λ _. and_true (whole_groups w e) (whole_sent_line w.lines k (whole_lines_lem w e)))
    (λ _. and_true (whole_with w.groups (group_at k) _ false (after senders k) ∙ whole_groups w e) (whole_lines_lem w e))

pub whole_all-after : (w : AllWires) (ks : List ℕ) → whole_all w ≡ true → whole_all (after_sent w ks) ≡ true
unfolding after_sent
whole_all-after w [] e = e
whole_all-after w (k ∷ ks) e = whole_all-after (left_by w k) ks (whole_all-left w k e)

pub whole_all-sent : (w : AllWires) (capacity : ℕ) → whole_all w ≡ true → whole_all (after_sent w (sent w capacity)) ≡ true
whole_all-sent w capacity e = whole_all-after w (sent w capacity) e

pub whole_all-enabled : (w : AllWires) → whole_all w ≡ true → whole_all (all_enabled w) ≡ true
whole_all-enabled w e = and_true (whole_remarked true w.groups w.groups.place (whole_groups w e)) (whole_raised w.lines (whole_lines_lem w e))

pub whole_all-disabled : (w : AllWires) → whole_all w ≡ true → whole_all (all_disabled w) ≡ true
whole_all-disabled w e = and_true (whole_remarked false w.groups first_place (whole_groups w e)) (whole_dropped w.lines (whole_lines_lem w e))

pub whole_all_platform : (w : AllWires) → whole_all w ≡ true → whole_all (all_platform w) ≡ true
whole_all_platform w e = and_true (whole_platform w.groups ∙ whole_groups w e) whole_no_lines
