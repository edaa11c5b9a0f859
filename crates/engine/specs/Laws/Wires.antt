-- Channel 1.
use Rattle.std.specs.Prelude.{ℕ, ◌+◌, ◌*◌, ◌<◌, ◌≤◌, Bool, true, false, not, ◌&&◌, Result, Ok, Err, ◌≡◌, eqb, length, get_or, take, drop, Option, Some, None}
use Rattle.std.proofs.Common.{true≢false, sym, ◌∙◌, arith}
use mathlib.Core.List.{List, [], ◌∷◌}
use Rattle.std.proofs.Math.Path.{refl, ap, ap₂}
use Rattle.std.proofs.lemmas.Bool.{not-true, not-false}
use Rattle.std.proofs.Math.Dec.{ltb}
use Rattle.base.specs.Pick.{taken, passed}
use Rattle.base.specs.Bytes as Z
use Rattle.registers.specs.Registers.{operating_count, on1, write_at}
use Rattle.registers.specs.declared.Config.{Config}
use Rattle.wires.specs.Table.{is_line}
use Rattle.wires.specs.Transitions.{putting, third_put, done_put}
use Rattle.wires.specs.Groups.{settable, set_wire}
use Rattle.wires.specs.Lines as N
use Rattle.wires.specs.Lines.{Lines, line_bit, line_level_ok, can_pulse, lines_in, lines_bytes}
use Rattle.wires.specs.Senders.{AllWires, with_groups, with_lines, sent, any_pending, packet_of, after_sent, wires_status}
use Rattle.wires.specs.Layout.{wires_bytes, tidy_wires, all_in}
use Rattle.wires.specs.MapBytes.{stored-groups, stored_lines, lines_beside}
use Rattle.wires.specs.AllKept.{sound-all-place}
use Rattle.wires.specs.ForRules.{sizes_fit}
use Rattle.wires.specs.Sent.{sent_none, sent-some}
use Rattle.wires.specs.declared.Wires.{Wires}
use Rattle.wires.specs.declared.ThirdTransition.{ThirdTransition}
use Rattle.peripheral.specs.Status.{peripheral_status}
use Rattle.state.specs.Status.{status}
use Rattle.state.specs.Layout.{state_length, unpacked}
use Rattle.state.specs.Facts.{sound_wires_lem}
use Rattle.state.specs.State.{State}
use Rattle.rules.specs.Rules.Out.{fatal, accept, number, keep}
use Rattle.rules.specs.Rules.Wires as W
use Rattle.rules.specs.Rules.Wires.{change, put_vwire, sent_out, get_vwire, setting, setting_line, pulsing_line}
use Rattle.rules.specs.Rules.Channel.{wires, put}
use Rattle.rules.specs.Rules.Lift.{lift, with_status, replying}
use Rattle.rules.specs.Rules.Fits.{plain}
use Rattle.rules.specs.Rules.Exchange.{acted, hindered}
use Rattle.rules.specs.Statements.Channels as L
use Rattle.rules.specs.Statements.Channels.{Settles}
use Rattle.rules.proofs.Proofs.Lift.{put_same}
use Rattle.rules.proofs.Proofs.Channels as H
use Rattle.rules.specs.declared.Body.TheVariants as B
use Rattle.rules.specs.declared.Say.{Say}
use Rattle.rules.specs.declared.Response.TheVariants as R₁
use Rattle.rules.specs.declared.Reply.{Reply}
use Rattle.rules.specs.declared.Kept.{Kept}
use Rattle.rules.specs.declared.Out.{Out}
use Rattle.rules.specs.Rules.Plan.{WiresChange, GroupsChange}
use Rattle.engine.specs.declared.Speech.TheVariants as Y
use Rattle.engine.specs.Carried.{Loadable, carried, carried_by, groups_change, beside, Numbered, settled_to, settled_by, put_part, failing, quiet}
use Rattle.engine.specs.Laws.Tests.{denied}
use Rattle.engine.specs.Laws.Stored.{outgoing-carried, stays_carried, part-stored, unchanged, change-stored, settle_stays}
use Rattle.engine.specs.declared.Outgoing.{Outgoing}

-- ---- the groups by value, whatever the lines are

changed : {p q : Wires} {a b : Out} → p ≡ q → a ≡ b → groups_change p a ≡ groups_change q b
changed {p} {q} {a} {b} e f = ap (λ (z : Wires). groups_change z a) e ∙ ap (groups_change q) f

module _ (c : Config) (g : Wires) (l : Lines) where
  abbrev w : AllWires
  w = record { groups = g; lines = l }

  pub put-over-count : (n count : ℕ) (pairs : List ℕ) (r : GroupsChange) → count ≡ operating_count c.r020 → ltb count n ≡ true → r ≡ groups_change g fatal
      → beside l r ≡ put_vwire c w n pairs
  unfolding put_vwire
  put-over-count n count pairs r e h k = taken _ _ (ap (λ (z : ℕ). ltb z n) (sym e) ∙ h) (ap (beside l) k)

  module _ (n count : ℕ) (b part : List ℕ) (o : Result Wires ThirdTransition) (e : count ≡ operating_count c.r020) (h : ltb count n ≡ false)
      (ep : part ≡ take (n * 2) (drop 2 b)) (eo : o ≡ putting g part) where
    within : ltb (operating_count c.r020) n ≡ false
    within = ap (λ (z : ℕ). ltb z n) (sym e) ∙ h

    put_as : o ≡ putting g (take (n * 2) (drop 2 b))
    put_as = eo ∙ ap (putting g) ep

    pub put_third : (r : GroupsChange) (t : ThirdTransition) → o ≡ Err t → r ≡ groups_change g fatal → beside l r ≡ put_vwire c w n (take (n * 2) (drop 2 b))
    unfolding put_vwire
    put_third r t h k = passed _ _ within (taken _ _ (third_put g (take (n * 2) (drop 2 b)) t (sym put_as ∙ h)) (ap (beside l) k))

    pub put-done : (next : Wires) (out : Out) → o ≡ Ok next → out ≡ accept B.Nothing None
        → beside l (groups_change next out) ≡ put_vwire c w n (take (n * 2) (drop 2 b))
    unfolding put_vwire
    put-done next out h k =
        let d = done_put g (take (n * 2) (drop 2 b)) next (sym put_as ∙ h) in
        passed _ _ within (passed _ _ d.0 (ap (beside l) (changed d.1 k)))

  module _ (index bit value : ℕ) where
    pub set_refused : (ok : Bool) (out : Out) → ok ≡ settable index bit value → not ok ≡ true → out ≡ number 22
        → beside l (groups_change g out) ≡ setting c w index bit value
    unfolding setting
    set_refused ok out e h k = taken _ _ (denied e h) (ap (λ (z : Out). beside l (groups_change g z)) k)

    pub set_changed : (ok on : Bool) (next : Wires) (out : Out)
        → ok ≡ settable index bit value
        → not ok ≡ false
        → on ≡ on1 c.r020
        → next ≡ set_wire on g index bit value
        → out ≡ keep None
        → beside l (groups_change next out) ≡ setting c w index bit value
    unfolding setting
    set_changed ok on next out e h eo en k =
        passed _ _ (denied e h) (ap (beside l) (changed (en ∙ ap (λ (z : Bool). set_wire z g index bit value) eo) k))

-- ---- the groups and the lines stored, each at its own place

module _ (l : List ℕ) (byte : (k : ℕ) → get_or l k 0 < 256) (long : state_length ≤ length l) where
  pub groups-stored : (l' : List ℕ) (g : Wires) → l' ≡ Z.put 64 (wires_bytes g) l → l' ≡ put_part wires (with_groups (all_in l) g) l
  groups-stored l' g e = e ∙ stored-groups l byte long g

  -- the groups, then what becomes of the lines, which stand as before
  pub both_stored : (f : Lines → Lines) (l₁ l₂ : List ℕ) (g : Wires) → l₁ ≡ Z.put 64 (wires_bytes g) l → l₂ ≡ Z.put 78 (lines_bytes (f (lines_in l₁))) l₁
      → l₂ ≡ put_part wires (record { groups = g; lines = f (lines_in l) }) l
  both_stored f l₁ l₂ g e₁ e₂ =
      e₂
      ∙ ap₂ (λ (x : Lines) (z : List ℕ). Z.put 78 (lines_bytes (f x)) z) (ap lines_in e₁ ∙ lines_beside l byte long g) e₁
      ∙ Z.put-put 64 78 (wires_bytes g) (lines_bytes (f (lines_in l))) l (omega arith) refl

-- ---- GET_VWIRE

module _ (l : List ℕ) (h : Loadable l) where
  abbrev s : State
  s = unpacked l

  abbrev n : ℕ
  n = operating_count s.config.r020

  pub send_none : (any : Bool) (r : Outgoing) (word : ℕ) → any ≡ any_pending (all_in l) → not any ≡ true → r ≡ failing word → word ≡ status s
      → carried r l ≡ carried_by (acted wires s W.gets) l
  unfolding get_vwire lift unpacked
  send_none any r word e t k ew =
      let z = sound_wires_lem s h.good in
      let none : sent s.wires n ≡ [] = sent_none s.wires n (sound-all-place (on1 s.config.r020) n s.wires z) (not-true _ (denied e t)) in
      stays_carried s l (lift wires s (change s.wires fatal)) r h (put_same wires s) refl (k ∙ ap failing (ew ∙ ap status (sym (put_same wires s))))
      ∙ ap (λ (ks : List ℕ). carried_by (lift wires s (sent_out s.wires n ks)) l) (sym none)

  sent_list : (ks : List ℕ) → 1 ≤ length ks → change (after_sent s.wires ks) (accept (B.Groups (packet_of s.wires n)) None) ≡ sent_out s.wires n ks
  sent_list [] q = absurd (omega arith)
  sent_list (k ∷ ks) q = refl

  pub send-done : (any : Bool) → any ≡ any_pending (all_in l) → not any ≡ false
      → carried (record { number = 0; speech = Y.Packet; kept = None }) l ≡ carried_by (acted wires s W.gets) l
  unfolding get_vwire lift unpacked status carried
  send-done any e t =
      let z = sound_wires_lem s h.good in
      let w = s.wires in
      let some = sent-some w n (sound-all-place (on1 s.config.r020) n w z) (λ k _. sizes_fit (on1 s.config.r020) n w (omega arith) z k)
      (not-false _ (denied e t)) in
      let q = after_sent w (sent w n) in
      ap (λ (m : List ℕ). record {
        number = 0;
        reply = replying R₁.Accept (B.Groups (packet_of w n)) (peripheral_status s.peripheral + wires_status q);
        kept = None;
        state = m;
        from = l;
      }) (part-stored s l l (unchanged s l h) wires q)
      ∙ ap (λ (x : WiresChange). carried_by (lift wires s x) l) (sent_list (sent w n) some)

-- ---- the board's lines

says_nothing : (p : AllWires) (o : W.Board) {x : WiresChange} → Settles wires p o x → (x.out.say ≡ None) × (x.out.kept ≡ None)
says_nothing p o (L.Settles.refused n a b r v) = (refl, refl)
says_nothing p o (L.Settles.accepted q None e) = (refl, refl)
says_nothing p o (L.Settles.accepted q (Some d) e) = absurd (true≢false (sym e))

module _ (l : List ℕ) (h : Loadable l) where
  -- a call of the board that stores what it changes itself
  pub settled-carried : (o : W.Board) (l' : List ℕ) (k : ℕ) (x : WiresChange) (r : Outgoing) → r ≡ quiet k
      → x ≡ W.settle (unpacked l).config (unpacked l).wires o → settled_to k l' ≡ settled_by x l → carried r l' ≡ carried_by (lift wires (unpacked l) x) l
  unfolding lift
  settled-carried o l' k x r er ex e =
      let n = says_nothing (unpacked l).wires o (H.board_settles wires (unpacked l) o) in
      let y : x.out.say ≡ None = ap (λ (z : WiresChange). z.out.say) ex ∙ n.0 in
      let f : x.out.kept ≡ None = ap (λ (z : WiresChange). z.out.kept) ex ∙ n.1 in
      let st = settle_stays wires (unpacked l) o x ex in
      outgoing-carried (lift wires (unpacked l) x) l l' r (ap (λ (z : Option Say). plain (with_status z (status (put wires x.next (unpacked l))))) y)
      (er ∙ ap₂ (λ (a : ℕ) (b : Option Reply). record { number = a; speech = Y.Reply b; kept = None }) (ap (λ (z : Numbered). z.number) e)
      (sym (ap (λ (z : Option Say). with_status z (status (put wires x.next (unpacked l)))) y))
      ∙ ap (λ (z : Option Kept). record {
        number = x.out.number;
        speech = Y.Reply (with_status x.out.say (status (put wires x.next (unpacked l))));
        kept = z;
      }) (sym f))
      (ap (λ (z : Numbered). z.state) e ∙ change-stored wires (unpacked l) x l h st)

module _ (c : Config) (l : List ℕ) (line level : ℕ) where
  pub line_none : (ok : Bool) → ok ≡ line_level_ok line level → not ok ≡ true → settled_to 22 l ≡ settled_by (setting_line c (all_in l) line level) l
  unfolding setting_line
  line_none ok e t = ap (λ (x : WiresChange). settled_by x l) (taken (change (all_in l) (number 22)) _ (denied e t) refl)

  module _ (ok : Bool) (e : ok ≡ line_level_ok line level) (t : not ok ≡ false) where
    pub line_busy_lem : (waits : Bool) → waits ≡ line_bit (lines_in l).edges line → waits ≡ true
        → settled_to 24 l ≡ settled_by (setting_line c (all_in l) line level) l
    unfolding setting_line
    line_busy_lem waits f u =
        ap (λ (x : WiresChange). settled_by x l) (passed _ _ (denied e t) (taken (change (all_in l) (number 24)) _ (sym f ∙ u) refl))

    pub line_set : (waits on : Bool) (l' : List ℕ) → ((k : ℕ) → get_or l k 0 < 256) → state_length ≤ length l → tidy_wires l ≡ true
        → waits ≡ line_bit (lines_in l).edges line → waits ≡ false → on ≡ on1 c.r020
        → l' ≡ Z.put 78 (lines_bytes (N.set_line on (lines_in l) line level)) l → settled_to 0 l' ≡ settled_by (setting_line c (all_in l) line level) l
    unfolding setting_line
    line_set waits on l' byte long tidy f u eo el =
        let x = N.set_line (on1 c.r020) (lines_in l) line level in
        ap (settled_to 0) (el ∙ ap (λ (z : Bool). Z.put 78 (lines_bytes (N.set_line z (lines_in l) line level)) l) eo ∙ stored_lines l byte long tidy x)
        ∙ ap (λ (z : WiresChange). settled_by z l)
        (passed _ _ (denied e t) (passed _ (change (with_lines (all_in l) x) (keep None)) (sym f ∙ u) refl))

module _ (c : Config) (l : List ℕ) (line : ℕ) where
  pub pulse_none : not (is_line line) ≡ true → settled_to 22 l ≡ settled_by (pulsing_line c (all_in l) line) l
  unfolding pulsing_line
  pulse_none t = ap (λ (x : WiresChange). settled_by x l) (taken (change (all_in l) (number 22)) _ t refl)

  pub can_pulse_lem : (on waits : Bool) (count : ℕ) → on ≡ on1 c.r020 → count ≡ operating_count c.r020 → waits ≡ line_bit (lines_in l).waits line
      → (on && (ltb 1 count && not waits)) ≡ can_pulse (on1 c.r020) (operating_count c.r020) (lines_in l) line
  can_pulse_lem on waits count eo ec ew = rw (eo, ec, ew)

  module _ (can : Bool) (t : not (is_line line) ≡ false) (e : can ≡ can_pulse (on1 c.r020) (operating_count c.r020) (lines_in l) line) where
    pub pulse_busy : not can ≡ true → settled_to 24 l ≡ settled_by (pulsing_line c (all_in l) line) l
    unfolding pulsing_line
    pulse_busy u = ap (λ (x : WiresChange). settled_by x l) (passed _ _ t (taken (change (all_in l) (number 24)) _ (denied e u) refl))

    pub pulse_done : (l' : List ℕ) → ((k : ℕ) → get_or l k 0 < 256) → state_length ≤ length l → tidy_wires l ≡ true → not can ≡ false
        → l' ≡ Z.put 78 (lines_bytes (N.pulse_line (lines_in l) line)) l → settled_to 0 l' ≡ settled_by (pulsing_line c (all_in l) line) l
    unfolding pulsing_line
    pulse_done l' byte long tidy u el =
        let x = N.pulse_line (lines_in l) line in
        ap (settled_to 0) (el ∙ stored_lines l byte long tidy x)
        ∙ ap (λ (z : WiresChange). settled_by z l) (passed _ _ t (passed _ (change (with_lines (all_in l) x) (keep None)) (denied e u) refl))

-- ---- an edge that stands against a configuration

module _ (c : Config) (w : AllWires) where
  by_tests : (a b : Bool) → on1 c.r020 ≡ a → eqb (operating_count c.r020) 1 ≡ b → (a && (b && N.any_edge w.lines)) ≡ W.edge_hinders c w
  by_tests a b e f = ap₂ (λ (x y : Bool). x && (y && N.any_edge w.lines)) (sym e) (sym f)

  pub hinders_off : (on : Bool) → on ≡ on1 c.r020 → not on ≡ true → false ≡ W.edge_hinders c w
  hinders_off on e t = by_tests false _ (not-true _ (denied e t)) refl

  module _ (on : Bool) (count : ℕ) (e : on ≡ on1 c.r020) (t : not on ≡ false) (ec : count ≡ operating_count c.r020) where
    pub hinders_many : eqb count 1 ≡ false → false ≡ W.edge_hinders c w
    hinders_many q = by_tests true false (not-false _ (denied e t)) (ap (λ (z : ℕ). eqb z 1) (sym ec) ∙ q)

    pub hinders_one : (any : Bool) → eqb count 1 ≡ true → any ≡ N.any_edge w.lines → any ≡ W.edge_hinders c w
    hinders_one any q ea = ea ∙ by_tests true true (not-false _ (denied e t)) (ap (λ (z : ℕ). eqb z 1) (sym ec) ∙ q)

pub hindered-is : (l : List ℕ) (c next : Config) (a v : ℕ) (stops : Bool) → c ≡ (unpacked l).config → next ≡ write_at c a v
    → stops ≡ W.edge_hinders next (all_in l) → (eqb a 0x020 && stops) ≡ hindered (unpacked l) a v
unfolding unpacked
hindered-is l c next a v stops ec en e =
    ap (λ (b : Bool). eqb a 0x020 && b) (e ∙ ap (λ (z : Config). W.edge_hinders z (all_in l)) (en ∙ ap (λ (z : Config). write_at z a v) ec))
