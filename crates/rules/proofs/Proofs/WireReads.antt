-- What a read yields by history: each accepted call by its row of effects, each packet and setting by P19; then by induction over the run.
use Rattle.std.specs.Prelude.{ℕ, ◌-◌, ◌/◌, ◌%◌, ◌^◌, ◌≤◌, Bool, ◌&&◌, ◌||◌, ◌≡◌, ltb, get_or, set, length}
use Rattle.std.proofs.Math.Bool.{true, false}
use Rattle.std.proofs.Common.{true≢false, ⊎_elim, subst, ◌∙◌, arith, length-set, get_or-set_same, get_or-set_other}
use mathlib.Core.List.{List, [], ◌∷◌, ◌++◌}
use Rattle.std.proofs.Math.Path.{refl, sym, ap}
use Rattle.std.proofs.Math.Dec.{eqb}
use borrow.Author.Tests.{eqb-true, eqb-false, eq-eqb, ne_eqb}
use Rattle.base.specs.Pick.{pick, pick_ind, and_left, and_right, and_true, or_either}
use Rattle.wires.specs.Table.{row_at, is_group}
use Rattle.wires.specs.Groups.{level_at, is_down, defined_bit, read_wire, put_pairs, platform_wires}
use Rattle.wires.specs.Senders.{AllWires, with_groups, after_sent}
use Rattle.wires.specs.Kept.{whole_level}
use Rattle.wires.specs.Rows.{DefinedBit, defined-bit, settable-bit}
use Rattle.wires.specs.Sent.{sent-levels}
use Rattle.wires.specs.Changes.{last_named}
use Rattle.wires.specs.declared.Wires.{Wires}
use Rattle.state.specs.Facts.{fresh-sound}
use Rattle.state.specs.Sound.{Sound}
use Rattle.rules.specs.Rules.Reset.{Reset, start, espi_reset, platform_reset}
use Rattle.rules.specs.Rules.Wires as W
use Rattle.rules.specs.Rules.Channel.{peripheral, wires}
use Rattle.rules.specs.Rules.Step.{World, Call, reset, exchange, board, short, lend, Outcome, step, run, served, handed_over, all_handed}
use Rattle.rules.specs.Statements.Fields.{byte, pairs, register_at, register_value}
use Rattle.rules.specs.Statements.Sizes.{is_of, is_enabled}
use Rattle.rules.specs.Statements.Effects.{switched, enabled_after, exchange_effect, effect}
use Rattle.rules.specs.Statements.Events.{accepted, lowers_pltrst, pltrst_falls}
use Rattle.rules.specs.Statements.Requests.{without}
use Rattle.rules.specs.Statements.WireEvents.{wires_of, groups_of}
use Rattle.rules.specs.Statements.WireView.{sets_wire}
use Rattle.rules.specs.Statements.WireSteps.{wire_of, Lowered}
use Rattle.rules.specs.Statements.Wires.Effects.{senders_sent}
use Rattle.rules.specs.Statements.Wires.Rows.{wire_defined, wire_of_board}
use Rattle.rules.specs.Statements.WireReads.{wire_down, reset_level, resets_group, resets_by, along, packet_in, setting_in, packets, settings}
use Rattle.rules.specs.Statements.WireReads.{through, last_put, last_set, value_read, ReadAfter, SoundBefore, WireReads}
use Rattle.rules.proofs.Proofs.Cases.{board_long}
use Rattle.rules.proofs.Proofs.Events.{no_lowering, head_without, tail_without}
use Rattle.rules.proofs.Proofs.Effects.{effects, after_call}
use Rattle.rules.proofs.Proofs.Sound.{sound-step}
use Rattle.rules.proofs.Proofs.Reads.{one_of}
use Rattle.rules.proofs.Proofs.WireView.{wires_whole}
use Rattle.rules.proofs.Proofs.WireSteps.{wire_steps, board_law}
use Rattle.rules.proofs.Proofs.Wires.Rows.{defined_as}

-- ---- over a run

through-both : {A : Type 0} (f : A → ℕ → ℕ) (xs ys : List A) (old : ℕ) → through f (xs ++ ys) old ≡ through f ys (through f xs old)
unfolding through
through-both f [] ys old = refl
through-both f (x ∷ xs) ys old = through-both f xs ys (f x old)

-- a level that each call takes on by what it gave
module _ {A : Type 0} (g : World → Call → List A) (f : A → ℕ → ℕ) (level : World → ℕ) (p : World → Call → Bool)
    (one : (w : World) (c : Call) → Sound w.state → p w c ≡ false → level (step w c).next ≡ through f (g w c) (level w)) where
  taken-on : (cs : List Call) (w : World) → Sound w.state → all_handed cs ≡ true → without p w cs ≡ true
      → level (run w cs) ≡ through f (along g w cs) (level w)
  unfolding run along through all_handed
  taken-on [] w s h q = refl
  taken-on (c ∷ cs) w s h q =
      taken-on cs (step w c).next (sound-step w c s (and_left (handed_over c) _ h)) (and_right (handed_over c) _ h) (tail_without p w c cs q)
      ∙ ap (through f (along g (step w c).next cs)) (one w c s (head_without p w c cs q))
      ∙ sym (through-both f (g w c) (along g (step w c).next cs) (level w))

-- ---- the wires of the table

-- a defined wire of a group that goes down, or of one that does not
record Wire (down : Bool) (i bit : ℕ) : Type 0 where
  way : is_down i ≡ down
  defined : defined_bit i bit ≡ true

one_of_three : (Q : ℕ → Type 0) (i a b c : ℕ) → Q a → Q b → Q c → eqb i a || (eqb i b || eqb i c) ≡ true → Q i
one_of_three Q i a b c qa qb qc e =
    ⊎_elim (λ h. subst Q (sym (eqb-true i a h)) qa) (λ h. one_of Q i b c qb qc h) (or_either (eqb i a) (eqb i b || eqb i c) e)

down_wire : (i bit : ℕ) → wire_down i bit ≡ true → Wire true i bit
down_wire i bit e =
    record {
      way = one_of_three (λ (k : ℕ). is_down k ≡ true) i 2 3 7 refl refl refl (and_left (eqb i 2 || (eqb i 3 || eqb i 7)) (ltb bit 3) e);
      defined = defined_as i bit ∙ ap (λ (t : Bool). t || (eqb i 4 && (eqb bit 0 || (eqb bit 2 || eqb bit 3)) || (eqb i 5 || eqb i 6) && ltb bit 4)) e;
    }

up_wire : (i bit : ℕ) → wire_of_board i bit ≡ true → Wire false i bit
up_wire i bit e =
    let group = eqb i 4 || (eqb i 5 || eqb i 6) in
    record {
      way = one_of_three (λ (k : ℕ). is_down k ≡ false) i 4 5 6 refl refl refl (and_left group (wire_defined i bit) e);
      defined = defined_as i bit ∙ and_right group (wire_defined i bit) e;
    }

-- ---- a read yields the level

pub read_level : (w : World) (i bit : ℕ) → defined_bit i bit ≡ true → value_read w i bit ≡ wire_of w i bit
unfolding served
read_level w i bit e = ap (λ (q : Outcome). q.value) (board_long wires w (W.read_wire i bit) refl) ∙ ap (λ (t : Bool). pick t (wire_of w i bit) 0) e

-- ---- one call

edge_level : (was is : Bool) (v : AllWires) → (switched wires was is v).groups.level ≡ v.groups.level
edge_level true true v = refl
edge_level true false v = refl
edge_level false true v = refl
edge_level false false v = refl

-- a command of the channel that is no PUT_VWIRE
get_level : (op : ℕ) (v u : AllWires) (ks : List ℕ) → eqb op 0x04 ≡ false
    → (pick (eqb op 0x04) u (pick (eqb op 0x05) (after_sent v ks) v)).groups.level ≡ v.groups.level
get_level op v u ks e =
    ap (λ (t : Bool). (pick t u (pick (eqb op 0x05) (after_sent v ks) v)).groups.level) e
    ∙ pick_ind (λ (x : AllWires). x.groups.level ≡ v.groups.level) (eqb op 0x05) (λ _. sent-levels v ks) (λ _. refl)

module _ (w : World) where
  -- the levels are as they were
  abbrev Kept : World → Type 0
  Kept v = (groups_of v).level ≡ (groups_of w).level

  other_command : (b : List ℕ) → eqb (byte b 0) 0x04 ≡ false → Kept (exchange_effect w (byte b 0) b)
  other_command b e =
      let op = byte b 0 in
      let v = wires_of w in
      pick_ind Kept (is_of peripheral op) (λ _. refl)
      (λ _. pick_ind Kept (is_of wires op)
      (λ _. pick_ind Kept (lowers_pltrst w.state b) (λ l. absurd (true≢false (sym l ∙ no_lowering w.state b e)))
      (λ _. get_level op v (with_groups v (put_pairs v.groups (pairs b))) (senders_sent w.state.config v) e))
      (λ _. pick_ind Kept (eqb op 0x22)
      (λ _. edge_level (is_enabled wires w.state.config) (enabled_after wires w.state.config (register_at b) (register_value b)) v)
      (λ _. pick_ind Kept (eqb op 0xFF) (λ _. refl) (λ _. refl))))

  refused : (c : Call) → accepted (step w c) ≡ false → Kept (step w c).next
  refused c e = after_call Kept w c refl (λ n. absurd (true≢false (sym (eq-eqb (step w c).number 0 n) ∙ e)))

module _ (w : World) (i bit : ℕ) (from : 2 ≤ i) where
  kept_wire : (v : World) → (groups_of v).level ≡ (groups_of w).level → wire_of v i bit ≡ wire_of w i bit
  kept_wire v e = ap (λ (l : List ℕ). get_or l (i - 2) 0 / 2 ^ bit % 2) e

  same_wire : (v : World) → level_at (groups_of v) i ≡ level_at (groups_of w) i → wire_of v i bit ≡ wire_of w i bit
  same_wire v e = ap (λ (x : ℕ). x / 2 ^ bit % 2) e

  pub reset_wire : (r : Reset) → resets_group i r ≡ false → wire_of (effect w (reset r)) i bit ≡ wire_of w i bit
  reset_wire start e = absurd (true≢false e)
  reset_wire espi_reset e = absurd (true≢false e)
  reset_wire platform_reset e =
      let l = (groups_of w).level in
      same_wire (effect w (reset platform_reset))
      (get_or-set_other (set l 4 0x7) 5 (i - 2) 0x6 0 (λ q. (not_either (eqb i 6) (eqb i 7) e).1 (eq-eqb i 7 (omega arith)))
      ∙ get_or-set_other l 4 (i - 2) 0x7 0 (λ q. (not_either (eqb i 6) (eqb i 7) e).0 (eq-eqb i 6 (omega arith))))
    where
      not_either : (a b : Bool) → a || b ≡ false → (a ≡ true → ⊥) × (b ≡ true → ⊥)
      not_either true b h = absurd (true≢false h)
      not_either false true h = absurd (true≢false h)
      not_either false false h = ((λ q. true≢false (sym q)), (λ q. true≢false (sym q)))

  -- a call whose row leaves the wire
  by_row : (c : Call) → (step w c).number ≡ 0 → wire_of (effect w c) i bit ≡ wire_of w i bit → wire_of (step w c).next i bit ≡ wire_of w i bit
  by_row c n e = ap (λ (v : World). wire_of v i bit) (effects w c n) ∙ e

  by_command : (b r : List ℕ) → (step w (exchange b r)).number ≡ 0 → eqb (byte b 0) 0x04 ≡ false
      → wire_of (step w (exchange b r)).next i bit ≡ wire_of w i bit
  by_command b r n e = by_row (exchange b r) n (kept_wire (exchange_effect w (byte b 0) b) (other_command w b e))

-- a packet that lowers PLTRST# resets groups 6 and 7, and no other
module _ (w : World) (i bit : ℕ) (b r : List ℕ) (n : (step w (exchange b r)).number ≡ 0) (l : lowers_pltrst w.state b ≡ true) where
  spared : resets_by i w (exchange b r) ≡ false → resets_group i platform_reset ≡ false
  spared e = go (resets_group i platform_reset) (sym (ap (λ (t : Bool). resets_group i platform_reset && t) falls) ∙ e)
    where
      falls : pltrst_falls w (exchange b r) ≡ true
      falls = and_true (eq-eqb (step w (exchange b r)).number 0 n) l

      go : (t : Bool) → t && true ≡ false → t ≡ false
      go true h = h
      go false h = refl

  lowered_wire : {given : List ℕ} (u : Lowered w (step w (exchange b r)).next given) → 2 ≤ i → resets_by i w (exchange b r) ≡ false
      → wire_of (step w (exchange b r)).next i bit ≡ wire_of u.packet i bit
  lowered_wire u from e = ap (λ (v : AllWires). read_wire v.groups i bit) u.reset ∙ reset_wire u.packet i bit from platform_reset (spared e)

-- ---- a down wire: packets alone change it

module _ (w : World) (s : Sound w.state) (i bit : ℕ) (d : Wire true i bit) where
  abbrev from : 2 ≤ i
  from = (defined-bit i bit d.defined).from

  put-down : (b r : List ℕ) → resets_by i w (exchange b r) ≡ false → (step w (exchange b r)).number ≡ 0
      → wire_of (step w (exchange b r)).next i bit ≡ last_put i bit (packet_in (exchange b r)) (wire_of w i bit)
  unfolding through
  put-down b r f n = go (eqb (byte b 0) 0x04) (lowers_pltrst w.state b) refl refl
    where
      go : (t u : Bool) → eqb (byte b 0) 0x04 ≡ t → lowers_pltrst w.state b ≡ u
          → wire_of (step w (exchange b r)).next i bit ≡ last_put i bit (pick t (pairs b ∷ []) []) (wire_of w i bit)
      go true true e l =
          let u = wire_steps.lowered w b r s n l in
          lowered_wire w i bit b r n l u from f ∙ u.put.bits i bit d.way d.defined
      go true false e l = (wire_steps.put w b r s (eqb-true (byte b 0) 0x04 e) n l).bits i bit d.way d.defined
      go false u e l = by_command w i bit from b r n e

  -- a wire that the board sets is none
  set-down : (j k v : ℕ) → (step w (sets_wire j k v)).number ≡ 0 → wire_of (step w (sets_wire j k v)).next i bit ≡ wire_of w i bit
  set-down j k v n =
      same_wire w i bit from (step w (sets_wire j k v)).next
      ((wire_steps.set w j k v s n).other_groups i from
      (λ e. true≢false (sym (and_right (is_group i) (row_at (i - 2)).down d.way) ∙ ap (λ (x : ℕ). (row_at (x - 2)).down) e
      ∙ (settable-bit j k v (board_law w (W.set_wire j k v) n).0).up)))

  accepted-down : (c : Call) → resets_by i w c ≡ false → (step w c).number ≡ 0 → wire_of (step w c).next i bit ≡ last_put i bit (packet_in c) (wire_of w i bit)
  unfolding through
  accepted-down (reset r) e n = by_row w i bit from (reset r) n (reset_wire w i bit from r e)
  accepted-down (exchange b r) e n = put-down b r e n
  accepted-down (board peripheral o) e n = by_row w i bit from (board peripheral o) n refl
  accepted-down (board wires (W.set_wire j k v)) e n = set-down j k v n
  accepted-down (board wires (W.read_wire j k)) e n = by_row w i bit from (board wires (W.read_wire j k)) n refl
  accepted-down (board wires (W.set_line j k)) e n = by_row w i bit from (board wires (W.set_line j k)) n refl
  accepted-down (board wires (W.pulse_line j)) e n = by_row w i bit from (board wires (W.pulse_line j)) n refl
  accepted-down (short state c) e n = by_row w i bit from (short state c) n refl
  accepted-down (lend write read) e n = by_row w i bit from (lend write read) n refl

-- ---- an up wire: the board's settings alone change it

module _ (w : World) (s : Sound w.state) (i bit : ℕ) (u : Wire false i bit) where
  abbrev its : DefinedBit i bit
  its = defined-bit i bit u.defined

  put_up : (b r : List ℕ) → resets_by i w (exchange b r) ≡ false → (step w (exchange b r)).number ≡ 0
      → wire_of (step w (exchange b r)).next i bit ≡ wire_of w i bit
  put_up b r f n = go (eqb (byte b 0) 0x04) (lowers_pltrst w.state b) refl refl
    where
      go : (t v : Bool) → eqb (byte b 0) 0x04 ≡ t → lowers_pltrst w.state b ≡ v → wire_of (step w (exchange b r)).next i bit ≡ wire_of w i bit
      go true true e l =
          let q = wire_steps.lowered w b r s n l in
          lowered_wire w i bit b r n l q its.from f
          ∙ same_wire w i bit its.from q.packet (q.put.other_groups i its.from u.way)
      go true false e l =
          same_wire w i bit its.from (step w (exchange b r)).next
          ((wire_steps.put w b r s (eqb-true (byte b 0) 0x04 e) n l).other_groups i its.from u.way)
      go false v e l = by_command w i bit its.from b r n e

  module _ (j k v : ℕ) (n : (step w (sets_wire j k v)).number ≡ 0) where
    abbrev after : World
    after = (step w (sets_wire j k v)).next

    -- a wire of its group
    set_own : (t : Bool) → j ≡ i → eqb bit k ≡ t → wire_of after i bit ≡ pick t v (wire_of w i bit)
    set_own t e h =
        subst (λ (x : ℕ). wire_of after x bit ≡ pick t v (wire_of w x bit)) e
        ((wire_steps.set w j k v s n).bits bit its.small ∙ ap (λ (b : Bool). pick b v (wire_of w j bit)) h)

    set-up : wire_of after i bit ≡ last_set (setting_in i bit (sets_wire j k v)) (wire_of w i bit)
    unfolding through
    set-up = go (eqb j i) (eqb k bit) refl refl
      where
        go : (p q : Bool) → eqb j i ≡ p → eqb k bit ≡ q → wire_of after i bit ≡ last_set (pick (p && q) (v ∷ []) []) (wire_of w i bit)
        go true true e h = set_own true (eqb-true j i e) (eq-eqb bit k (sym (eqb-true k bit h)))
        go true false e h = set_own false (eqb-true j i e) (ne_eqb bit k (λ x. eqb-false k bit h (sym x)))
        go false q e h =
            same_wire w i bit its.from after ((wire_steps.set w j k v s n).other_groups i its.from (λ x. eqb-false j i e (sym x)))

  accepted-up : (c : Call) → resets_by i w c ≡ false → (step w c).number ≡ 0 → wire_of (step w c).next i bit ≡ last_set (setting_in i bit c) (wire_of w i bit)
  unfolding through
  accepted-up (reset r) e n = by_row w i bit its.from (reset r) n (reset_wire w i bit its.from r e)
  accepted-up (exchange b r) e n = put_up b r e n
  accepted-up (board peripheral o) e n = by_row w i bit its.from (board peripheral o) n refl
  accepted-up (board wires (W.set_wire j k v)) e n = set-up j k v n
  accepted-up (board wires (W.read_wire j k)) e n = by_row w i bit its.from (board wires (W.read_wire j k)) n refl
  accepted-up (board wires (W.set_line j k)) e n = by_row w i bit its.from (board wires (W.set_line j k)) n refl
  accepted-up (board wires (W.pulse_line j)) e n = by_row w i bit its.from (board wires (W.pulse_line j)) n refl
  accepted-up (short state c) e n = by_row w i bit its.from (short state c) n refl
  accepted-up (lend write read) e n = by_row w i bit its.from (lend write read) n refl

-- ---- any call, accepted or refused

any_call : {A : Type 0} (w : World) (c : Call) (i bit : ℕ) (f : A → ℕ → ℕ) (given : List A) → 2 ≤ i
    → ((step w c).number ≡ 0 → wire_of (step w c).next i bit ≡ through f given (wire_of w i bit))
    → wire_of (step w c).next i bit ≡ through f (pick (accepted (step w c)) given []) (wire_of w i bit)
unfolding through
any_call w c i bit f given from row = go (accepted (step w c)) refl
  where
    go : (t : Bool) → accepted (step w c) ≡ t → wire_of (step w c).next i bit ≡ through f (pick t given []) (wire_of w i bit)
    go true h = row (eqb-true (step w c).number 0 h)
    go false h = kept_wire w i bit from (step w c).next (refused w c h)

-- ---- the statements

module _ (w : World) (cs : List Call) (i bit old : ℕ) (s : Sound w.state) (h : all_handed cs ≡ true)
    (q : without (resets_by i) w cs ≡ true) (first : defined_bit i bit ≡ true → wire_of w i bit ≡ old) where
  down-after : Wire true i bit → value_read (run w cs) i bit ≡ last_put i bit (packets w cs) old
  down-after d =
      read_level (run w cs) i bit d.defined
      ∙ taken-on (λ v c. pick (accepted (step v c)) (packet_in c) []) (λ ps. last_named ps i bit) (λ v. wire_of v i bit) (resets_by i)
      (λ v c t e. any_call v c i bit (λ ps. last_named ps i bit) (packet_in c) (defined-bit i bit d.defined).from (accepted-down v t i bit d c e)) cs w s h q
      ∙ ap (last_put i bit (packets w cs)) (first d.defined)

  up-after : Wire false i bit → value_read (run w cs) i bit ≡ last_set (settings i bit w cs) old
  up-after u =
      read_level (run w cs) i bit u.defined
      ∙ taken-on (λ v c. pick (accepted (step v c)) (setting_in i bit c) []) (λ value o. value) (λ v. wire_of v i bit) (resets_by i)
      (λ v c t e. any_call v c i bit (λ value o. value) (setting_in i bit c) (defined-bit i bit u.defined).from (accepted-up v t i bit u c e)) cs w s h q
      ∙ ap (last_set (settings i bit w cs)) (first u.defined)

  read-after : ReadAfter w cs i bit old
  read-after = record { down = λ d. down-after (down_wire i bit d); up = λ u. up-after (up_wire i bit u) }

-- the level that a reset of the group leaves
platform_level : (v : Wires) (i bit : ℕ) → length v.level ≡ 6 → resets_group i platform_reset ≡ true → read_wire (platform_wires v) i bit ≡ reset_level i bit
platform_level v i bit n =
    let l = v.level in
    one_of (λ (k : ℕ). read_wire (platform_wires v) k bit ≡ reset_level k bit) i 6 7
    (ap (λ (x : ℕ). x / 2 ^ bit % 2) (get_or-set_other (set l 4 0x7) 5 4 0x6 0 (λ q. omega arith) ∙ get_or-set_same l 4 0x7 0 (omega arith)))
    (ap (λ (x : ℕ). x / 2 ^ bit % 2) (get_or-set_same (set l 4 0x7) 5 0x6 0 (omega (arith, length-set l 4 0x7))))

before-sound : (w : World) (c : Call) (i : ℕ) → SoundBefore w c → resets_by i w c ≡ true → handed_over c ≡ true → Sound (step w c).next.state
unfolding step
before-sound w (reset start) i s e h = fresh-sound
before-sound w (reset espi_reset) i s e h = sound-step w (reset espi_reset) (s refl) h
before-sound w (reset platform_reset) i s e h = sound-step w (reset platform_reset) (s refl) h
before-sound w (exchange b r) i s e h = sound-step w (exchange b r) (s refl) h
before-sound w (board k o) i s e h = absurd (true≢false (sym e))
before-sound w (short state c) i s e h = absurd (true≢false (sym e))
before-sound w (lend write read) i s e h = absurd (true≢false (sym e))

reset_level_lem : (w : World) (r : Reset) (i bit : ℕ) → SoundBefore w (reset r) → resets_group i r ≡ true
    → wire_of (step w (reset r)).next i bit ≡ reset_level i bit
unfolding step
reset_level_lem w start i bit s e = refl
reset_level_lem w espi_reset i bit s e = refl
reset_level_lem w platform_reset i bit s e = platform_level (groups_of w) i bit (whole_level (groups_of w) (wires_whole w (s refl))) e

-- whatever the packet put there
lowered_level : (w : World) (b r : List ℕ) (i bit : ℕ) → Sound w.state → handed_over (exchange b r) ≡ true → resets_by i w (exchange b r) ≡ true
    → wire_of (step w (exchange b r)).next i bit ≡ reset_level i bit
lowered_level w b r i bit s h e =
    let v = (step w (exchange b r)).next in
    let falls = and_right (resets_group i platform_reset) (pltrst_falls w (exchange b r)) e in
    let u = wire_steps.lowered w b r s (eqb-true _ 0 (and_left (accepted (step w (exchange b r))) _ falls))
    (and_right (accepted (step w (exchange b r))) (lowers_pltrst w.state b) falls) in
    let l = (groups_of u.packet).level in
    let whole = whole_level (groups_of v) (wires_whole v (sound-step w (exchange b r) s h)) in
    ap (λ (x : AllWires). read_wire x.groups i bit) u.reset
    ∙ platform_level (groups_of u.packet) i bit
    (sym (length-set (set l 4 0x7) 5 0x6 ∙ length-set l 4 0x7) ∙ ap (λ (x : AllWires). length x.groups.level) (sym u.reset) ∙ whole)
    (and_left (resets_group i platform_reset) (pltrst_falls w (exchange b r)) e)

since_level : (w : World) (c : Call) (i bit : ℕ) → SoundBefore w c → handed_over c ≡ true → resets_by i w c ≡ true
    → wire_of (step w c).next i bit ≡ reset_level i bit
since_level w (reset r) i bit s h e = reset_level_lem w r i bit s e
since_level w (exchange b r) i bit s h e = lowered_level w b r i bit (s refl) h e
since_level w (board k o) i bit s h e = absurd (true≢false (sym e))
since_level w (short state c) i bit s h e = absurd (true≢false (sym e))
since_level w (lend write read) i bit s h e = absurd (true≢false (sym e))

since : (w : World) (c : Call) (cs : List Call) (i bit : ℕ) → SoundBefore w c → resets_by i w c ≡ true → all_handed (c ∷ cs) ≡ true
    → without (resets_by i) (step w c).next cs ≡ true → ReadAfter (step w c).next cs i bit (reset_level i bit)
unfolding all_handed
since w c cs i bit s e h q =
    let first = and_left (handed_over c) (all_handed cs) h in
    read-after (step w c).next cs i bit (reset_level i bit) (before-sound w c i s e first) (and_right (handed_over c) (all_handed cs) h) q
    (λ d. since_level w c i bit s first e)

pub wire_reads : WireReads
wire_reads = record { since = since; between = λ w cs i bit s h q. read-after w cs i bit (value_read w i bit) s h q (λ d. sym (read_level w i bit d)) }
