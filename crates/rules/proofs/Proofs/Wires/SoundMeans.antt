-- The test of channel 1 says its clauses of "Sound state", both ways.
use Rattle.std.specs.Prelude.{ℕ, ◌-◌, ◌≤◌, ◌<◌, Bool, true, false, ◌&&◌, not, ◌≡◌, refl, ltb}
use Rattle.std.proofs.Common.{true≢false, sym, ap, ◌∙◌, arith, eq-eqb, ne_eqb, lt-ltb, le-leb}
use Rattle.std.proofs.lemmas.Bool.{not-true}
use Rattle.base.specs.Pick.{and_right, and_true}
use Rattle.wires.specs.Table.{is_group, row_at}
use Rattle.wires.specs.Rows.{row_right, in_table}
use Rattle.wires.specs.Nibbles.{bit_of, clean_view, clean_test_lem}
use Rattle.wires.specs.Groups.{level_at, defined_bit, only_defined}
use Rattle.wires.specs.Kept.{sound_view, sound_test}
use Rattle.wires.specs.LinesKept.{lines_view, lines_test}
use Rattle.wires.specs.Senders.{AllWires, sound_all}
use Rattle.wires.specs.AllKept.{sound-groups, sound_lines_lem}
use Rattle.wires.specs.declared.Wires.{Wires}
use Rattle.rules.specs.Statements.Wires.SoundMeans.{GroupRight, Clauses}

-- ---- a group

and_off : (a b : Bool) {c : Bool} → c ≡ false → a && (b && c) ≡ false
and_off true true e = e
and_off true false e = refl
and_off false b e = refl

module _ (w : Wires) (i : ℕ) (g : is_group i ≡ true) where
  abbrev defined : ℕ
  defined = (row_at (i - 2)).defined

  in_rows : i - 2 < 6
  in_rows = let t = in_table i g in omega arith

  defined_small : defined < 16
  defined_small = (row_right (i - 2) in_rows).defined_small

  undefined_bit : (bit : ℕ) → bit < 4 → defined_bit i bit ≡ false → bit_of defined bit ≡ 0
  undefined_bit bit h e =
      let ne : bit_of defined bit ≡ 1 → ⊥ = λ o. true≢false (sym (and_true g (and_true (lt-ltb bit 4 h) (eq-eqb _ 1 o))) ∙ e) in
      omega arith

  bit_undefined : (bit : ℕ) → bit_of defined bit ≡ 0 → defined_bit i bit ≡ false
  bit_undefined bit z =
      let ne : bit_of defined bit ≡ 1 → ⊥ = λ o. omega arith in
      and_off (is_group i) (ltb bit 4) (ne_eqb (bit_of defined bit) 1 ne)

  group_right_lem : only_defined w i ≡ true → GroupRight w i
  group_right_lem e =
      let c = clean_view defined (level_at w i) defined_small e in
      record { four = c.small; undefined = λ bit h u. c.undefined_off bit h (undefined_bit bit h u) }

  group_test : GroupRight w i → only_defined w i ≡ true
  group_test r =
      clean_test_lem defined (level_at w i) defined_small (record { small = r.four; undefined_off = λ bit h z. r.undefined bit h (bit_undefined bit z) })

is_group_lem : (i : ℕ) → 2 ≤ i → i ≤ 7 → is_group i ≡ true
is_group_lem i l u = and_true (le-leb 2 i l) (le-leb i 7 u)

-- ---- the channel

pub clauses : (on : Bool) (count : ℕ) (w : AllWires) → sound_all on count w ≡ true → Clauses on count w
clauses on count w e =
    let v = sound_view on w.groups (sound-groups on count w e) in
    let l = lines_view on count w.lines (sound_lines_lem on count w e) in
    record {
      groups = λ i g. let r = in_table i g in group_right_lem w.groups i g (v.clean i r.from r.upto);
      pending_up = λ i g m. let r = in_table i g in not-true _ (and_right (is_group i) _ (v.marks i r.from r.upto m).0);
      pending_on = λ i g m. let r = in_table i g in (v.marks i r.from r.upto m).1;
      place = v.below;
      edge_waits_lem = l.waits;
      line_on_lem = l.while_on;
      edge_room = l.room;
    }

pub wires_clause : (on : Bool) (count : ℕ) (w : AllWires) → Clauses on count w → sound_all on count w ≡ true
wires_clause on count w c =
    and_true
    (sound_test on w.groups
    (record {
      clean = λ i l u. let g = is_group_lem i l u in group_test w.groups i g (c.groups i g);
      marks = λ i l u m. let g = is_group_lem i l u in (and_true g (ap not (c.pending_up i g m)), c.pending_on i g m);
      below = c.place;
    }))
    (lines_test on count w.lines (record { waits = c.edge_waits_lem; while_on = c.line_on_lem; room = c.edge_room }))
