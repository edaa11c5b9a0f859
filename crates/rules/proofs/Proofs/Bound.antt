-- P21: the wires are a machine whose packets go round, so its bound is theirs: at all 259 senders, and at the three groups where no line waits.
use Rattle.std.specs.Prelude.{ℕ, zero, suc, ◌+◌, ◌-◌, ◌*◌, ◌%◌, ◌<◌, ◌≤◌, Bool, true, false, ◌&&◌, not, ◌≡◌, eqb, ltb, length, take, drop}
use Rattle.std.proofs.Common.{true≢false, sym, ap₂, subst, ◌∙◌, arith, ltb-true, ltb-false, lt-ltb, le-ltb}
use mathlib.Core.List.{List, [], ◌∷◌, ◌++◌, append_assoc, Memᴰ}
use Rattle.std.proofs.Math.Path.{refl, ap}
use Rattle.std.proofs.Math.Seq.{drop-append-add}
use Rattle.std.proofs.lemmas.Bool.{not-true}
use Rattle.base.specs.Pick.{pick, pick_ind, and_left, and_right}
use Rattle.base.specs.Bytes.{bit}
use Rattle.wires.specs.Table.{senders, is_line, group_at, sender_of}
use Rattle.wires.specs.Turn.{after, place_after}
use Rattle.wires.specs.Groups.{mark_at}
use Rattle.wires.specs.Lines.{line_bit, any_bit}
use Rattle.wires.specs.LineBits.{none_bit}
use Rattle.wires.specs.Senders as A
use Rattle.wires.specs.Senders.{AllWires, sender_size, waiting, sent_from, sound_all}
use Rattle.wires.specs.Rows.{in_table, up_group, by_group}
use Rattle.wires.specs.Round as R
use Rattle.wires.specs.Round.{Machine, packet, weights, Moves, stays, sends, AllMove, over, on as calls, AllHold, none_more, hold, SentWithin, here, steps, ahead, those, those-all, those-last, sent-after, sent-within, after_below}
use Rattle.wires.specs.Sent as S
use Rattle.wires.specs.Sent.{entry_length, entries-some}
use Rattle.wires.specs.Changes.{put-place}
use Rattle.wires.specs.AllKept.{sound-all-place}
use Rattle.wires.specs.ForRules as F
use Rattle.state.specs.State.{State}
use Rattle.state.specs.Sound.{Sound}
use Rattle.rules.specs.Rules.Wires as W₀
use Rattle.rules.specs.Rules.Channel.{peripheral, wires, on}
use Rattle.rules.specs.Rules.Reply.{closed}
use Rattle.rules.specs.Rules.Step.{World, Call, reset, exchange, board, short, lend, Outcome, step, run, handed_over, all_handed}
use Rattle.rules.specs.Statements.Fields.{byte, pairs, register_at, register_value}
use Rattle.rules.specs.Statements.Events.{accepted, enables_at, ends, unended}
use Rattle.rules.specs.Statements.Requests.{without}
use Rattle.rules.specs.Statements.WireEvents as Ev
use Rattle.rules.specs.Statements.WireEvents.{WireEvent, idle, puts, gets, sets, raises, pulses, enables, switches_on, accepted_wire, wire_event_of, wire_event, wires_of, groups_of, lines_of, count_of, one_if_gets, gets_in}
use Rattle.rules.specs.Statements.WireView.{WireMove, still, put, sent, set, line_set_lem, pulsed, enabled, disabled, wiped, platform_wiped, lowered}
use Rattle.rules.specs.Statements.WireSteps.{entries_at}
use Rattle.rules.specs.Statements.Bound.{Carries, SentBy, share_in, shares_in, turns_on, gets_below, line_waits, SentInTurn, SentByTheLast, GroupSent, SentByTheThird, Bound}
use Rattle.rules.proofs.Proofs.Sound.{sound-step}
use Rattle.rules.proofs.Proofs.Events.{head_unended, tail_unended, head_without, tail_without}
use Rattle.rules.proofs.Proofs.Reply.{closed_as}
use Rattle.rules.proofs.Proofs.WireView.{wire_view, all_sound, wires_sound}
use Rattle.rules.proofs.Proofs.Wires.Turns.{waits_as, entry_as, next_as}

-- ---- the entries of a reply

take-front : (a b : List ℕ) → take (length a) (a ++ b) ≡ a
take-front [] b = refl
take-front (x ∷ a) b = ap (λ (l : List ℕ). x ∷ l) (take-front a b)

carried_in : (v : AllWires) (ks : List ℕ) (g : ℕ) (behind : List ℕ) → 1 ≤ length ks → Memᴰ g ks
    → Carries (0x08 ∷ (A.entries v ks - 1) ∷ (A.pair_bytes v ks ++ behind)) (A.entries_of v g)
carried_in v ks g behind some m =
    let p = F.entry_at v ks g m in
    let e = A.entries_of v g in
    let q : 2 + p.at * 2 ≡ suc (suc (length p.front + 0)) = omega (arith, p.long) in
    record {
      at = p.at;
      counted = omega (arith, entry_length v g, p.within, entries-some v ks);
      bytes =
          ap (λ (n : ℕ). take (length e) (drop n (0x08 ∷ (A.entries v ks - 1) ∷ (A.pair_bytes v ks ++ behind)))) q
          ∙ ap (λ (x : List ℕ). take (length e) (drop (length p.front + 0) (x ++ behind))) p.whole
          ∙ ap (λ (x : List ℕ). take (length e) (drop (length p.front + 0) x)) (append_assoc p.front (e ++ p.rest) behind)
          ∙ ap (take (length e)) (drop-append-add p.front ((e ++ p.rest) ++ behind) 0)
          ∙ ap (take (length e)) (append_assoc e p.rest behind)
          ∙ take-front e (p.rest ++ behind);
    }

carried : (v : AllWires) (ks : List ℕ) (g t : ℕ) → 1 ≤ length ks → Memᴰ g ks
    → Carries (closed (0x08 ∷ (A.entries v ks - 1) ∷ A.pair_bytes v ks) t) (A.entries_of v g)
carried v ks g t some m =
    subst (λ (r : List ℕ). Carries r (A.entries_of v g)) (sym (closed_as (0x08 ∷ (A.entries v ks - 1) ∷ A.pair_bytes v ks) t)) (carried_in v ks g _ some m)

-- ---- events

abbrev is_end : WireEvent → Bool
is_end idle = false
is_end puts = false
is_end gets = false
is_end sets = false
is_end raises = false
is_end pulses = false
is_end enables = false
is_end Ev.ends = true

-- only an ending event of channel 1 has that name
unended_wire : (s : State) (c : Call) → is_end (accepted_wire s c) ≡ false
unended_wire s (reset r) = refl
unended_wire s (exchange b r) =
    let Q : WireEvent → Type 0 = λ e. is_end e ≡ false in
    pick_ind Q (eqb (byte b 0) 0x04) (λ _. refl) (λ _. pick_ind Q (eqb (byte b 0) 0x05) (λ _. refl) (λ _. pick_ind Q (switches_on s b) (λ _. refl) (λ _. refl)))
unended_wire s (board peripheral o) = refl
unended_wire s (board wires (W₀.set_wire index bit value)) = refl
unended_wire s (board wires (W₀.read_wire index bit)) = refl
unended_wire s (board wires (W₀.set_line line level)) = refl
unended_wire s (board wires (W₀.pulse_line line)) = refl
unended_wire s (short state c) = refl
unended_wire s (lend write read) = refl

no_end : (w : World) (c : Call) → ends wires w c ≡ false → is_end (wire_event w c) ≡ false
unfolding wire_event_of
no_end w c e =
    ap (λ (t : Bool). is_end (pick t Ev.ends (pick (accepted (step w c)) (accepted_wire w.state c) idle))) e
    ∙ pick_ind (λ (k : WireEvent). is_end k ≡ false) (accepted (step w c)) (λ _. unended_wire w.state c) (λ _. refl)

switched_off : (s : State) (b : List ℕ) → switches_on s b ≡ true → on wires s.config ≡ false
switched_off s b e =
    not-true _ (and_left (not (on wires s.config)) (eqb (register_value b % 2) 1)
    (and_right (enables_at wires (register_at b)) _ (and_right (eqb (byte b 0) 0x22) _ e)))

-- ---- the wires are such a machine

abbrev is_gets : WireEvent → Bool
is_gets k = eqb (one_if_gets k) 1

abbrev machine : Machine World Call
machine =
    record {
      next = λ w c. (step w c).next;
      packs = λ w c. is_gets (wire_event w c);
      size = λ w. sender_size (wires_of w);
      waits = λ w. waiting (wires_of w);
      capacity = count_of;
      place = λ w. (groups_of w).place;
    }

packet-sent : (w : World) → packet machine senders w ≡ A.sent (wires_of w) (count_of w)
unfolding sent_from
packet-sent w = refl

is_gets_lem : (k : WireEvent) → bit (is_gets k) ≡ one_if_gets k
is_gets_lem idle = refl
is_gets_lem puts = refl
is_gets_lem gets = refl
is_gets_lem sets = refl
is_gets_lem raises = refl
is_gets_lem pulses = refl
is_gets_lem enables = refl
is_gets_lem Ev.ends = refl

gets_event : (k : WireEvent) → is_gets k ≡ true → k ≡ gets
gets_event idle e = absurd (true≢false (sym e))
gets_event puts e = absurd (true≢false (sym e))
gets_event gets e = refl
gets_event sets e = absurd (true≢false (sym e))
gets_event raises e = absurd (true≢false (sym e))
gets_event pulses e = absurd (true≢false (sym e))
gets_event enables e = absurd (true≢false (sym e))
gets_event Ev.ends e = absurd (true≢false (sym e))

-- what a run's calls weigh
abbrev one : World → Call → ℕ
one = R.one machine senders

abbrev part : World → Call → ℕ
part = R.part machine senders

gets_packets : (cs : List Call) (w : World) → gets_in w cs ≡ weights machine senders one w cs
unfolding gets_in weights
gets_packets [] w = refl
gets_packets (c ∷ cs) w = ap₂ (λ (a b : ℕ). a + b) (sym (is_gets_lem (wire_event w c))) (gets_packets cs (step w c).next)

shares_weights : (cs : List Call) (w : World) → shares_in w cs ≡ weights machine senders part w cs
unfolding shares_in weights
shares_weights [] w = refl
shares_weights (c ∷ cs) w = ap (λ (b : ℕ). share_in w c + b) (shares_weights cs (step w c).next)

-- ---- what each call does while a sender waits; those that wait are among those that may

module _ (may : ℕ → Bool) (w : World) (sound : Sound w.state) (can : (i : ℕ) → i < senders → waiting (wires_of w) i ≡ true → may i ≡ true)
    (g : ℕ) (below : g < senders) (c : Call) (marked : waiting (wires_of w) g ≡ true)
  where
    abbrev v : AllWires
    v = wires_of w

    moves : {k : WireEvent} → wire_event w c ≡ k → WireMove w c (step w c) k → is_end k ≡ false → Moves machine senders may g w c
    moves q (still e) n = stays (ap is_gets q) (ap (λ (x : AllWires). x.groups.place) e) (ap (λ (x : AllWires). waiting x g) e ∙ marked)
    moves q (put b r x t e) n =
        stays (ap is_gets q) (ap (λ (x : AllWires). x.groups.place) e ∙ put-place (groups_of w) (pairs b))
        (ap (λ (x : AllWires). waiting x g) e ∙ F.put_keeps v g marked (pairs b))
    moves q (sent k ks e f h) n =
        let s = all_sound w sound in
        let p = packet-sent w in
        let place = sound-all-place (on wires w.state.config) (count_of w) v s in
        sends (ap is_gets q)
        (record {
          small = λ i _. S.size_two v i;
          fits = λ i _. F.sizes_fit (on wires w.state.config) (count_of w) v (omega arith) s i;
          can = can;
        })
        (ap (λ (x : AllWires). x.groups.place) f ∙ S.sent-place v (A.sent v (count_of w)) ∙ ap (place_after senders (groups_of w).place) (sym p))
        (λ m. ap (λ (x : AllWires). waiting x g) f
        ∙ S.sent_waits v g below (S.sent_below v (count_of w) place) (λ x. m (subst (Memᴰ g) (sym p) x)) ∙ marked)
    moves q (set i bit value x y e) n =
        stays (ap is_gets q) (ap (λ (x : AllWires). x.groups.place) e)
        (ap (λ (x : AllWires). waiting x g) e ∙ F.set_keeps v g marked (on wires w.state.config) i bit value)
    moves q (line_set_lem j level x y z e) n =
        stays (ap is_gets q) (ap (λ (x : AllWires). x.groups.place) e)
        (ap (λ (x : AllWires). waiting x g) e ∙ F.line_keeps v g marked (on wires w.state.config) j level)
    moves q (pulsed j x y z e) n =
        stays (ap is_gets q) (ap (λ (x : AllWires). x.groups.place) e) (ap (λ (x : AllWires). waiting x g) e ∙ F.pulse_keeps v g marked j)
    moves q (enabled b r x e f) n =
        absurd (true≢false (sym marked
        ∙ F.off_waiting (count_of w) v (subst (λ (t : Bool). sound_all t (count_of w) v ≡ true) (switched_off w.state b e) (all_sound w sound)) g below))
    moves q (disabled e) n = absurd (true≢false n)
    moves q (wiped e) n = absurd (true≢false n)
    moves q (platform_wiped e) n = absurd (true≢false n)
    moves q (lowered b r x t l e) n = absurd (true≢false n)

-- along a run in which p does not hold, and where it does not those that wait are among those that may
module _ (may : ℕ → Bool) (p : World → Call → Bool)
    (can : (w : World) (c : Call) → p w c ≡ false → (i : ℕ) → i < senders → waiting (wires_of w) i ≡ true → may i ≡ true)
  where
    all_move : (cs : List Call) (w : World) (g : ℕ) → g < senders → Sound w.state → all_handed cs ≡ true → unended wires w cs ≡ true
        → without p w cs ≡ true → AllMove machine senders may g w cs
    unfolding all_handed
    all_move [] w g b s h q z = over
    all_move (c ∷ cs) w g b s h q z =
        calls (λ m. moves may w s (can w c (head_without p w c cs z)) g b c m refl (wire_view w c) (no_end w c (head_unended wires w c cs q)))
        (all_move cs (step w c).next g b (sound-step w c s (and_left (handed_over c) (all_handed cs) h)) (and_right (handed_over c) (all_handed cs) h)
        (tail_unended wires w c cs q) (tail_without p w c cs z))

-- ---- so its bound is that of the machine

-- what an accepted GET_VWIRE carries
carries_it : (w : World) (o : Outcome) (c : Call) (g : ℕ) → g < senders → WireMove w c o gets → Memᴰ g (packet machine senders w)
    → Carries o.reply (entries_at (wires_of w) g)
carries_it w o c g b (sent k ks e f h) m =
    subst (Carries o.reply) (entry_as (wires_of w) g b)
    (subst (λ (r : List ℕ). Carries r (A.entries_of (wires_of w) g)) (sym h)
    (carried (wires_of w) (A.sent (wires_of w) (count_of w)) g _ (rw e (omega arith)) (subst (Memᴰ g) (packet-sent w) m)))

module _ (weigh : World → Call → ℕ) (measure : World → List Call → ℕ)
    (alike : (cs : List Call) (w : World) → measure w cs ≡ weights machine senders weigh w cs) where
  measure_none : (w : World) → measure w [] ≡ 0
  unfolding weights
  measure_none w = alike [] w

  measure_more : (w : World) (c : Call) (cs : List Call) → measure w (c ∷ cs) ≡ weigh w c + measure (step w c).next cs
  unfolding weights
  measure_more w c cs = alike (c ∷ cs) w ∙ ap (λ (n : ℕ). weigh w c + n) (sym (alike cs (step w c).next))

  later : {g n : ℕ} {w : World} {c : Call} {cs : List Call} (m : ℕ) → weigh w c + m ≤ n → SentBy measure g m (step w c).next cs → SentBy measure g n w (c ∷ cs)
  unfolding run
  later {w = w} {c = c} m l t =
      record {
        before = c ∷ t.before;
        call = t.call;
        after = t.after;
        split = ap (λ (ds : List Call). c ∷ ds) t.split;
        is_get = t.is_get;
        soon = omega (arith, t.soon, measure_more w c t.before);
        carries = t.carries;
      }

  sent_by : {g n : ℕ} {w : World} {cs : List Call} → g < senders → SentWithin machine senders weigh g n w cs → SentBy measure g n w cs
  unfolding run
  sent_by {g} b (here {s = w} {c = c} {cs = cs} p m) =
      let e = gets_event (wire_event w c) p in
      record {
        before = [];
        call = c;
        after = cs;
        split = refl;
        is_get = e;
        soon = omega (arith, measure_none w);
        carries = carries_it w (step w c) c g b (subst (WireMove w c (step w c)) e (wire_view w c)) m;
      }
  sent_by b (R.later {s = w} {c = c} i h t) = later i h (sent_by b t)

-- ---- each accepted GET_VWIRE has a count of c or more

holds : (c : ℕ) (cs : List Call) (w : World) → without (gets_below c) w cs ≡ true → AllHold machine senders c w cs
holds c [] w z = none_more
holds c (x ∷ cs) w z =
    hold (λ e. ltb-false (count_of w) c (sym (ap (λ (t : Bool). t && ltb (count_of w) c) e) ∙ head_without (gets_below c) w x cs z))
    (holds c cs (step w x).next (tail_without (gets_below c) w x cs z))

-- ---- all senders

abbrev never : World → Call → Bool
never w c = false

without-never : (cs : List Call) (w : World) → without never w cs ≡ true
unfolding without
without-never [] w = refl
without-never (c ∷ cs) w = without-never cs (step w c).next

every_move : (cs : List Call) (w : World) (g : ℕ) → g < senders → Sound w.state → all_handed cs ≡ true → unended wires w cs ≡ true
    → AllMove machine senders (λ _. true) g w cs
every_move cs w g b s h q = all_move (λ _. true) never (λ w c e i l t. refl) cs w g b s h q (without-never cs w)

place_of : (w : World) → Sound w.state → (groups_of w).place < 259
place_of w s = sound-all-place (on wires w.state.config) (count_of w) (wires_of w) (all_sound w s)

-- every one of the d senders before it may wait
ahead-every : (d p : ℕ) → ahead (λ _. true) 259 d p ≡ d
unfolding ahead
ahead-every zero p = refl
ahead-every (suc d) p = omega (arith, ahead-every d (after 259 p))

turns-steps : (d p : ℕ) → p < 259 → steps 259 d p ≡ turns_on d p
unfolding steps turns_on
turns-steps zero p h = refl
turns-steps (suc d) p h = turns-steps d (after 259 p) (after_below 259 p h) ∙ ap (turns_on d) (next_as p h)

steps_below : (d p : ℕ) → p < 259 → steps 259 d p < 259
unfolding steps
steps_below zero p h = h
steps_below (suc d) p h = steps_below d (after 259 p) (after_below 259 p h)

pub sent_in_turn : SentInTurn
sent_in_turn w s k d hd t m cs h q n =
    let p = (groups_of w).place in
    let hp = place_of w s in
    let at : steps 259 d p ≡ k = turns-steps d p hp ∙ t in
    let below : k < 259 = subst (λ (x : ℕ). x < 259) at (steps_below d p hp) in
    let a = ahead-every d p in
    let l : ahead (λ _. true) 259 d p < weights machine senders part w cs = omega (arith, shares_weights cs w) in
    subst (λ (x : ℕ). SentBy shares_in k (suc x) w cs) a
    (sent_by part shares_in shares_weights below
    (sent-after machine senders (λ _. true) k cs w d hd hp at (waits_as (wires_of w) k below ∙ m) (every_move cs w k below s h q) l))

pub sent_by_the_last : SentByTheLast
sent_by_the_last w s k below m c b l cs h q z n =
    let e = those-all 259 in
    sent_by one gets_in gets_packets below
    (sent-within machine senders (λ _. true) k c b cs w (place_of w s) below refl (waits_as (wires_of w) k below ∙ m) (every_move cs w k below s h q)
    (holds c cs w z) (omega arith) (omega (arith, gets_packets cs w)))

-- ---- the groups alone

no_line : (w : World) (c : Call) → line_waits w c ≡ false → (i : ℕ) → i < senders → waiting (wires_of w) i ≡ true → not (is_line i) ≡ true
unfolding any_bit
no_line w c e i h t = go (is_line i) refl
  where
    go : (b : Bool) → is_line i ≡ b → not b ≡ true
    go true q =
        absurd (true≢false (sym (sym (ap (λ (x : Bool). pick x (line_bit (lines_of w).waits i) (mark_at (groups_of w) (group_at i))) q) ∙ t)
        ∙ none_bit (lines_of w).waits e i (ltb-true i 256 q)))
    go false q = refl

three : those 259 (λ (i : ℕ). not (is_line i)) ≤ 3
three = those-last 256 3 (λ (i : ℕ). not (is_line i)) (λ i h. ap not (lt-ltb i 256 h))

pub group_sent : GroupSent
group_sent w s g is m c b l cs h q z y n =
    let v = wires_sound w s in
    let t = in_table g is in
    let up = (v.marks g t.from t.upto m).0 in
    let u = up_group g up in
    let k = sender_of g in
    let at : k ≡ g + 252 = by_group (λ (j : ℕ). sender_of j ≡ j + 252) g up refl refl refl in
    let below : k < 259 = u.below in
    let line : is_line k ≡ false = le-ltb k 256 u.above in
    let waits : waiting (wires_of w) k ≡ true = ap (λ (x : Bool). pick x (line_bit (lines_of w).waits k) (mark_at (groups_of w) (group_at k))) line
    ∙ ap (mark_at (groups_of w)) u.back ∙ m in
    subst (λ (i : ℕ). SentBy gets_in i b w cs) at
    (sent_by one gets_in gets_packets below
    (sent-within machine senders (λ (i : ℕ). not (is_line i)) k c b cs w (place_of w s) below (ap not line) waits
    (all_move (λ (i : ℕ). not (is_line i)) line_waits no_line cs w k below s h q y) (holds c cs w z) (omega (arith, three)) (omega (arith, gets_packets cs w))))

-- an operating count is one at least
counted : (cs : List Call) (w : World) → without (gets_below 1) w cs ≡ true
unfolding without
counted [] w = refl
counted (c ∷ cs) w = go (is_gets (wire_event w c)) (ltb (count_of w) 1) refl (counted cs (step w c).next)
  where
    go : (a b : Bool) → ltb (count_of w) 1 ≡ b → without (gets_below 1) (step w c).next cs ≡ true
        → not (a && b) && without (gets_below 1) (step w c).next cs ≡ true
    go a true e r = absurd (omega (arith, ltb-true (count_of w) 1 e))
    go true false e r = r
    go false false e r = r

pub sent_by_the_third : SentByTheThird
sent_by_the_third w s g is m cs h q y n = group_sent w s g is m 1 3 (omega arith) cs h q (counted cs w) y n

pub bound : Bound
bound = record { in_turn = sent_in_turn; by_the_last_lem = sent_by_the_last; group = group_sent; by_the_third = sent_by_the_third }
