-- The wires' view: one sweep over the case law, reading channel 1's law; whatever another channel does leaves the wires.
use Rattle.std.specs.Prelude.{ℕ, ◌%◌, ◌≤◌, Bool, true, false, ◌&&◌, ◌||◌, not, List, ◌≡◌}
use Rattle.std.proofs.Common.{true≢false, sym, subst, ◌∙◌, arith, ne_eqb}
use Rattle.std.proofs.Math.Path.{refl, ap, ap₂}
use Rattle.std.proofs.Math.Dec.{eqb}
use Rattle.base.specs.Pick.{pick}
use Rattle.registers.specs.Registers.{write_at}
use Rattle.wires.specs.Groups.{whole_wires}
use Rattle.wires.specs.Kept as K
use Rattle.wires.specs.Senders.{AllWires, after_sent, all_enabled, all_disabled, all_platform, sound_all, whole_all}
use Rattle.wires.specs.AllKept.{sound-groups, whole_groups}
use Rattle.state.specs.Sound.{Sound}
use Rattle.state.specs.State.{State}
use Rattle.rules.specs.Rules.Reset.{Reset, start, espi_reset, platform_reset}
use Rattle.rules.specs.Rules.Wires as W₀
use Rattle.rules.specs.Rules.Channel as N
use Rattle.rules.specs.Rules.Channel.{Channel, peripheral, wires, Command, Board, Change, next_of, part, on, act_of, same}
use Rattle.rules.specs.Rules.Lift.{lift, show, accept_then}
use Rattle.rules.specs.Rules.Exchange.{reconfigured, was_reset, then_reset}
use Rattle.rules.specs.Rules.Reply.{reply_bytes}
use Rattle.rules.specs.Rules.Step.{World, Call, reset, exchange, board, lend, Outcome, only, with_state, performed, served}
use Rattle.rules.specs.Statements.Wires as W
use Rattle.rules.specs.Statements.Plans.{Did, Settled, Admits, command_of, Shows, status as gets_status, register}
use Rattle.rules.specs.Statements.Cases as C
use Rattle.rules.specs.Statements.Cases.{Case}
use Rattle.rules.specs.Statements.Events.{accepted, lowers_pltrst, ending, enables_at}
use Rattle.rules.specs.Statements.Fields.{byte, is_channel1, register_at, register_value}
use Rattle.rules.specs.Statements.Reads as R
use Rattle.rules.specs.Statements.WireEvents.{WireEvent, idle, puts, gets, enables, ends, switches_on, command_wire, board_wire, accepted_wire, wire_event_of, wires_of, groups_of, count_of}
use Rattle.rules.specs.Statements.WireView.{WireMove, still, put, sent, set, line_set_lem, pulsed, enabled, disabled, wiped, platform_wiped, lowered, WireView}
use Rattle.rules.proofs.Proofs.Cases.{cases}
use Rattle.rules.proofs.Proofs.SoundParts.{parts}
use Rattle.rules.proofs.Proofs.Reads.{reads}
use Rattle.rules.proofs.Proofs.Events.{rising_edge, no_lowering, no_ending, write-ending, lowering-ends}
use Rattle.rules.proofs.Proofs.Lift.{same_turned, own_or_other, part_stays}
use Rattle.rules.proofs.Proofs.Effects.{command_own}
use Rattle.rules.proofs.Proofs.Whose.{own_opcode, never-set}
use Rattle.rules.proofs.Proofs.Wires.Lowering as W₂
use Rattle.rules.specs.Rules.Plan.{WiresChange}
use Rattle.rules.specs.declared.Body.{Body}

-- ---- events

module _ (s : State) (c : Call) (o : Outcome) where
  refused_wire : accepted o ≡ false → wire_event_of s c o ≡ idle
  unfolding wire_event_of
  refused_wire e = ap (λ (t : Bool). pick (t && ending wires s c) ends (pick t (accepted_wire s c) idle)) e

  ended_wire : accepted o ≡ true → ending wires s c ≡ true → wire_event_of s c o ≡ ends
  unfolding wire_event_of
  ended_wire e f = ap (λ (t : Bool). pick (t && ending wires s c) ends (pick t (accepted_wire s c) idle)) e
      ∙ ap (λ (t : Bool). pick t ends (accepted_wire s c)) f

  accepted_wire_lem : accepted o ≡ true → ending wires s c ≡ false → wire_event_of s c o ≡ accepted_wire s c
  unfolding wire_event_of
  accepted_wire_lem e f =
      ap (λ (t : Bool). pick (t && ending wires s c) ends (pick t (accepted_wire s c) idle)) e ∙ ap (λ (t : Bool). pick t ends (accepted_wire s c)) f

  quiet_wire : ending wires s c ≡ false → accepted_wire s c ≡ idle → wire_event_of s c o ≡ idle
  quiet_wire f g = go (accepted o) refl
    where
      go : (t : Bool) → accepted o ≡ t → wire_event_of s c o ≡ idle
      go true e = accepted_wire_lem e f ∙ g
      go false e = refused_wire e

-- an exchange that is no SET_CONFIGURATION
module _ (s : State) (b r : List ℕ) (write : eqb (byte b 0) 0x22 ≡ false) where
  by_byte : command_wire s b ≡ pick (eqb (byte b 0) 0x04) puts (pick (eqb (byte b 0) 0x05) gets idle)
  by_byte =
      ap (λ (t : Bool). pick (eqb (byte b 0) 0x04) puts (pick (eqb (byte b 0) 0x05) gets (pick t enables idle)))
      (ap (λ (t : Bool). t && (enables_at wires (register_at b) && (not (on wires s.config) && eqb (register_value b % 2) 1))) write)

  quiet-exchange : (o : Outcome) → is_channel1 (byte b 0) ≡ false → wire_event_of s (exchange b r) o ≡ idle
  quiet-exchange o e = go (eqb (byte b 0) 0x04) (eqb (byte b 0) 0x05) refl e by_byte
    where
      go : (t u : Bool) → eqb (byte b 0) 0x04 ≡ t → (t || u) ≡ false → command_wire s b ≡ pick t puts (pick u gets idle)
          → wire_event_of s (exchange b r) o ≡ idle
      go true u f h i = absurd (true≢false h)
      go false true f h i = absurd (true≢false h)
      go false false f h i = quiet_wire s (exchange b r) o (no_ending wires s b write (no_lowering s b f)) i

not_22 : (b : List ℕ) (op : ℕ) → byte b 0 ≡ op → eqb op 0x22 ≡ false → eqb (byte b 0) 0x22 ≡ false
not_22 b op e f = ap (λ (x : ℕ). eqb x 0x22) e ∙ f

-- the move of an event that is known
as_is : {w : World} {c : Call} {o : Outcome} {e : WireEvent} → wire_event_of w.state c o ≡ e → WireMove w c o e → WireMove w c o (wire_event_of w.state c o)
as_is {w} {c} {o} q m = subst (WireMove w c o) (sym q) m

-- ---- another channel's change

board_other : (k : Channel) → same wires k ≡ false → (o : Board k) → board_wire k o ≡ idle
board_other peripheral n o = refl
board_other wires n o = absurd (true≢false n)

module _ (w : World) where
  lift_wires : (k : Channel) → same wires k ≡ false → (b : List ℕ) (x : Change k) → wires_of (performed w b (lift k w.state x)).next ≡ wires_of w
  unfolding performed lift
  lift_wires k n b x = part_stays k wires (next_of k x) w.state (same_turned wires k n)

  settled_wires : (k : Channel) → same wires k ≡ false → (o : Board k) (x : Change k) → wires_of (served k w o (lift k w.state x)).next ≡ wires_of w
  unfolding served lift
  settled_wires k n o x = part_stays k wires (next_of k x) w.state (same_turned wires k n)

  abbrev Seen : Call → Outcome → Type 0
  Seen c o = WireMove w c o (wire_event_of w.state c o)

  pub command_event_lem : (b r : List ℕ) (op : ℕ) (e : WireEvent) → byte b 0 ≡ op → eqb op 0x22 ≡ false
      → pick (eqb op 0x04) puts (pick (eqb op 0x05) gets idle) ≡ e
      → (o : Outcome) → accepted o ≡ true → lowers_pltrst w.state b ≡ false → wire_event_of w.state (exchange b r) o ≡ e
  command_event_lem b r op e h n f o q l =
      let k = not_22 b op h n in
      accepted_wire_lem w.state (exchange b r) o q (no_ending wires w.state b k l) ∙ by_byte w.state b r k
      ∙ ap (λ (x : ℕ). pick (eqb x 0x04) puts (pick (eqb x 0x05) gets idle)) h ∙ f

  -- ---- above all channels

  quiet-seen : (b r : List ℕ) (o : Outcome) (op : ℕ) → byte b 0 ≡ op → eqb op 0x22 ≡ false → is_channel1 op ≡ false → wires_of o.next ≡ wires_of w
      → Seen (exchange b r) o
  quiet-seen b r o op e f g h = as_is (quiet-exchange w.state b r (not_22 b op e f) o (ap is_channel1 e ∙ g)) (still h)

  silent-seen : (c : Call) (n : ℕ) → 10 ≤ n → Seen c (only n w)
  silent-seen c n l = as_is (refused_wire w.state c (only n w) (ne_eqb n 0 (λ q. omega (arith, q, l)))) (still refl)

  abbrev was : Bool
  was = on wires w.state.config

  enabling : (b : List ℕ) (a v : ℕ) → R.Writes b a v → switches_on w.state b ≡ not was && on wires (write_at w.state.config a v)
  enabling b a v h =
      ap (λ (op : ℕ). eqb op 0x22 && (enables_at wires (register_at b) && (not was && eqb (register_value b % 2) 1))) h.opcode
      ∙ ap₂ (λ (x y : ℕ). enables_at wires x && (not was && eqb (y % 2) 1)) (sym h.address) (sym h.value)
      ∙ sym (rising_edge wires w.state.config a v)

  module _ (b r : List ℕ) (a v : ℕ) (h : R.Writes b a v) where
    abbrev is : Bool
    is = on wires (write_at w.state.config a v)

    abbrev Set : Outcome
    Set = performed w b (accept_then w.state (reconfigured w.state (write_at w.state.config a v)))

    set-event : wire_event_of w.state (exchange b r) Set ≡ pick (was && not is) ends (pick (not was && is) enables idle)
    unfolding wire_event_of performed
    set-event =
        ap₂ (λ (t : Bool) (e : WireEvent). pick t ends e) (write-ending wires w.state b a v h)
        (ap (λ (op : ℕ). pick (eqb op 0x04) puts (pick (eqb op 0x05) gets (pick (switches_on w.state b) enables idle))) h.opcode
        ∙ ap (λ (t : Bool). pick t enables idle) (enabling b a v h))

    set_wires : wires_of Set.next ≡ pick (was && not is) (all_disabled (wires_of w)) (pick (not was && is) (all_enabled (wires_of w)) (wires_of w))
    unfolding performed
    set_wires = refl

    set-seen : Seen (exchange b r) Set
    set-seen = go (was && not is) (not was && is) refl set-event set_wires
      where
        go : (t u : Bool) → not was && is ≡ u → wire_event_of w.state (exchange b r) Set ≡ pick t ends (pick u enables idle)
            → wires_of Set.next ≡ pick t (all_disabled (wires_of w)) (pick u (all_enabled (wires_of w)) (wires_of w)) → Seen (exchange b r) Set
        go true u e f g = as_is f (disabled g)
        go false true e f g = as_is f (enabled b r refl (enabling b a v h ∙ e) g)
        go false false e f g = as_is f (still g)

  wiped-seen : (r : Reset) → Seen (reset r) (only 0 (with_state w (was_reset r w.state)))
  unfolding wire_event_of
  wiped-seen start = wiped refl
  wiped-seen espi_reset = wiped refl
  wiped-seen platform_reset = platform_wiped refl

  shown_seen : (b r : List ℕ) {body : Body} → Shows w.state b body → Seen (exchange b r) (performed w b (show body w.state))
  unfolding performed
  shown_seen b r (gets_status e) = quiet-seen b r _ 0x25 (reads w.state b _ e) refl refl refl
  shown_seen b r (register a e) = quiet-seen b r _ 0x21 (reads w.state b _ e).opcode refl refl refl

  -- ---- channel 1

  acted-seen : (b r : List ℕ) {a : W₀.Act} {x : WiresChange} → W.Did w.state.config (wires_of w) a x → R.Wires b a
      → W₀.reset_follows (wires_of w) a x.next ≡ false → Seen (exchange b r) (performed w b (lift wires w.state x))
  unfolding performed lift reply_bytes
  acted-seen b r (W.over_count e) h l = as_is (refused_wire w.state (exchange b r) _ refl) (still refl)
  acted-seen b r (W.third e f) h l = as_is (refused_wire w.state (exchange b r) _ refl) (still refl)
  acted-seen b r (W.put e f) (R.Wires.puts h) l =
      as_is (command_event_lem b r 0x04 puts h refl refl _ refl (W₂.unlowered w.state b (W.put e f) (R.Wires.puts h) l refl)) (put b r refl f refl)
  acted-seen b r (W.none_pending_lem e) h l = as_is (refused_wire w.state (exchange b r) _ refl) (still refl)
  acted-seen b r (W.sent_off_lem {k = k} {ks = ks} e) (R.Wires.gets h) l =
      as_is (command_event_lem b r 0x05 gets h refl refl _ refl (no_lowering w.state b (ap (λ (op : ℕ). eqb op 0x04) h)))
      (sent k ks e (ap (after_sent (wires_of w)) (sym e)) refl)

  lowered_seen : (b r : List ℕ) (v : AllWires) → W₂.Lowered w.state b v → Seen (exchange b r) (performed w b (then_reset (N.put wires v w.state)))
  unfolding performed
  lowered_seen b r v l =
      as_is (ended_wire w.state (exchange b r) _ refl (lowering-ends wires w.state b l.lowers))
      (lowered b r refl l.few l.lowers (ap all_platform l.wires))

  settled-seen : {o : W₀.Board} {x : WiresChange} → W.Settled w.state.config (wires_of w) o x
      → Seen (board wires o) (served wires w o (lift wires w.state x))
  unfolding served lift wire_event_of
  settled-seen (W.not_boards e) = still refl
  settled-seen (W.set {index = i} {bit = bit} {value = value} e) = set i bit value refl e refl
  settled-seen (W.no_wire_lem e) = still refl
  settled-seen (W.read e) = still refl
  settled-seen (W.no_line_lem e) = still refl
  settled-seen (W.edge_waits_lem e f) = still refl
  settled-seen (W.line_set_lem {line = n} {level = level} e f) = line_set_lem n level refl e f refl
  settled-seen (W.no_line_to_pulse e) = still refl
  settled-seen (W.cannot_pulse e f) = still refl
  settled-seen (W.pulsed {line = n} e f) = pulsed n refl e f refl

  -- ---- every channel

  any-acted : (b r : List ℕ) (k : Channel) (o : Command k) (x : Change k) → Admits w.state b (command_of k o)
      → Did k w.state.config (part k w.state) (act_of k w.state.config o b) x
      → N.reset_follows k (part k w.state) (act_of k w.state.config o b) (next_of k x) ≡ false → Seen (exchange b r) (performed w b (lift k w.state x))
  any-acted b r =
      own_or_other wires
      (λ (k : Channel). (o : Command k) (x : Change k) → Admits w.state b (command_of k o)
      → Did k w.state.config (part k w.state) (act_of k w.state.config o b) x
      → N.reset_follows k (part k w.state) (act_of k w.state.config o b) (next_of k x) ≡ false → Seen (exchange b r) (performed w b (lift k w.state x)))
      (λ o x e d f. acted-seen b r d (reads w.state b _ e) f) others
    where
      others : (k : Channel) → same wires k ≡ false → (o : Command k) (x : Change k) → Admits w.state b (command_of k o)
          → Did k w.state.config (part k w.state) (act_of k w.state.config o b) x
          → N.reset_follows k (part k w.state) (act_of k w.state.config o b) (next_of k x) ≡ false
          → Seen (exchange b r) (performed w b (lift k w.state x))
      others k n o x e d f =
          let c = command_own k w.state b o e in
          as_is (quiet-exchange w.state b r (never-set k (byte b 0) c) _ (own_opcode wires k (byte b 0) c ∙ n)) (still (lift_wires k n b x))

  any_settled : (k : Channel) (o : Board k) (x : Change k) → Settled k w.state.config (part k w.state) o x
      → Seen (board k o) (served k w o (lift k w.state x))
  any_settled =
      own_or_other wires
      (λ (k : Channel). (o : Board k) (x : Change k) → Settled k w.state.config (part k w.state) o x → Seen (board k o)
      (served k w o (lift k w.state x)))
      (λ o x d. settled-seen d)
      (λ k n o x d. as_is (quiet_wire w.state (board k o) _ refl (board_other k n o)) (still (settled_wires k n o x)))

  seen_case : {c : Call} {o : Outcome} → Case w c o → Seen c o
  unfolding performed
  seen_case {c} (C.idle n q) = silent-seen c n q.least
  seen_case (C.shown {b = b} {r = r} q) = shown_seen b r q
  seen_case (C.acted {b = b} {r = r} k o x e d f) = any-acted b r k o x e d f
  seen_case (C.settles k o x e d) = any_settled k o x d
  seen_case (C.forbidden {b = b} {r = r} a v e f) = as_is (refused_wire w.state (exchange b r) _ refl) (still refl)
  seen_case (C.hindered {b = b} {r = r} a v e f g) = as_is (refused_wire w.state (exchange b r) _ refl) (still refl)
  seen_case (C.configured {b = b} {r = r} a v e f g) = set-seen b r a v (reads w.state b _ e)
  seen_case (C.lowered {b = b} {r = r} o x e d) = lowered_seen b r x.next (W₂.lowered_bytes w.state b d (reads w.state b _ e))
  seen_case (C.cleared {b = b} {r = r} e) = quiet-seen b r _ 0xFF (reads w.state b _ e) refl refl refl
  seen_case (C.wiped {r = r}) = wiped-seen r
  seen_case (C.lent {write = write} {read = read}) = as_is (quiet_wire w.state (lend write read) _ refl refl) (still refl)

pub wire_view : WireView
wire_view w c = seen_case w (cases w c)

-- ---- what a sound state says of its wires

abbrev pub AllSound : World → Type 0
AllSound w = sound_all (on wires w.state.config) (count_of w) (wires_of w) ≡ true

pub all_sound : (w : World) → Sound w.state → AllSound w
all_sound w s = ((parts s).each wires).right

pub all_whole : (w : World) → Sound w.state → whole_all (wires_of w) ≡ true
all_whole w s = ((parts s).each wires).fit

pub wires_sound : (w : World) → Sound w.state → K.Sound (on wires w.state.config) (groups_of w)
wires_sound w s = K.sound_view (on wires w.state.config) (groups_of w) (sound-groups (on wires w.state.config) (count_of w) (wires_of w) (all_sound w s))

pub wires_whole : (w : World) → Sound w.state → whole_wires (groups_of w) ≡ true
wires_whole w s = whole_groups (wires_of w) (all_whole w s)
