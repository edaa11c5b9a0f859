-- The view: one sweep over the case law, reading channel 0's law; whatever another channel does leaves channel 0's part.
use Rattle.std.specs.Prelude.{ℕ, ◌/◌, ◌%◌, ◌^◌, ◌≤◌, Bool, ◌&&◌, not, ◌≡◌, eqb, Option, Some, None}
use Rattle.std.proofs.Math.Bool.{true, false}
use mathlib.Core.List.{List, []}
use Rattle.std.proofs.Math.Path.{refl, ap, ap₂}
use Rattle.std.proofs.Common.{sym, ◌∙◌, subst, arith, ne_eqb}
use Rattle.std.proofs.Math.ListN.{take}
use Rattle.std.proofs.Math.Seq.{take-length}
use Rattle.base.specs.Pick.{pick}
use Rattle.base.specs.Bytes.{over, bit}
use Rattle.registers.specs.Registers.{write_at}
use Rattle.registers.specs.declared.Config.{Config}
use Rattle.peripheral.specs.Queues as F
use Rattle.peripheral.specs.Status.{np_free, pc_avail}
use Rattle.peripheral.specs.declared.Np.{Np}
use Rattle.peripheral.specs.declared.Peripheral.{Peripheral}
use Rattle.peripheral.specs.Facts.{no_request}
use Rattle.state.specs.Status.{status}
use Rattle.state.specs.State.{State}
use Rattle.rules.specs.Rules.Reset.{Reset, start, espi_reset, platform_reset}
use Rattle.rules.specs.Rules.Out.{fatal, number, says}
use Rattle.rules.specs.Rules.Peripheral as P₀
use Rattle.rules.specs.Rules.Channel.{Channel, peripheral, wires, Part, Command, Board, Change, next_of, out_of, part, put, on, act_of, reset_follows, given, same}
use Rattle.rules.specs.Rules.Lift.{lift, with_status, show, non_fatal, accept_then, quietly}
use Rattle.rules.specs.Rules.Exchange.{reconfigured, reset008h, was_reset, then_reset}
use Rattle.rules.specs.Rules.Reply.{reply_bytes, kept_bytes}
use Rattle.rules.specs.Rules.Step.{World, Call, reset, exchange, board, lend, Outcome, step, only, with_state, performed, served}
use Rattle.rules.specs.Statements.Peripheral as P
use Rattle.rules.specs.Statements.Cases as C
use Rattle.rules.specs.Statements.Cases.{Did, Settled, Admits, command_of, Case}
use Rattle.rules.specs.Statements.Channels.{Settles}
use Rattle.rules.specs.Statements.Events.{accepted, lowers_pltrst}
use Rattle.rules.specs.Statements.Fields.{byte, is_posted}
use Rattle.rules.specs.Statements.Reads as R
use Rattle.rules.specs.Statements.Reads.{Writes}
use Rattle.rules.specs.Statements.Requests.{Event, idle, asks, gets, ends, command_event, event_of, event, held}
use Rattle.rules.specs.Statements.View.{Shown, Move, same as stays, asked, told, sent, lent, dropped, View}
use Rattle.rules.proofs.Proofs.Cases.{cases}
use Rattle.rules.proofs.Proofs.Channels as N
use Rattle.rules.proofs.Proofs.Fields.{by_posted}
use Rattle.rules.proofs.Proofs.Peripheral.Effects.{no_bytes}
use Rattle.rules.proofs.Proofs.Reads.{reads}
use Rattle.rules.proofs.Proofs.Reply.{status-bits, status_in_lem}
use Rattle.rules.proofs.Proofs.Events.{write-ending, lowering-ends}
use Rattle.rules.proofs.Proofs.Requests.{refused_event, accepted-event, exchange-event, asked-event, got-event}
use Rattle.rules.proofs.Proofs.Lift.{own_or_other, same_turned, part_stays}
use Rattle.rules.proofs.Proofs.Effects.{unlowered}
use Rattle.rules.proofs.Proofs.Wires.Lowering.{lowered_bytes}
use Rattle.rules.proofs.Proofs.Others.{settles_other, Plain, plain, command_other, board_other}
use Rattle.rules.specs.declared.Say.{Say}
use Rattle.rules.specs.declared.Kept.{Kept}
use Rattle.rules.specs.declared.Response.TheVariants.{Accept, NonFatal}
use Rattle.rules.specs.declared.Body.{Body}
use Rattle.rules.specs.declared.Body.TheVariants as B
use Rattle.rules.specs.Rules.Plan.{Plan, PeripheralChange}

-- ---- the status that a reply shows

record Bits (s : State) : Type 0 where
  np : status s / 2 ^ 1 % 2 ≡ bit (np_free s.peripheral.request)
  pc : status s / 2 ^ 4 % 2 ≡ bit (pc_avail s.peripheral.request)

bits : (s : State) → Bits s
unfolding status
bits s = let h = status-bits s in record { np = omega (arith, h); pc = omega (arith, h) }

quiet : {n : Np} → Shown n []
quiet = record { np = λ h. absurd (omega arith); pc = λ h. absurd (omega arith) }

-- a reply, where there is one, that shows the status of a state
shown : (s : State) (say : Option Say) (w : World) → Shown s.peripheral.request (reply_bytes (with_status say (status s)) w.state.wires w.read)
unfolding reply_bytes
shown s None w = quiet
shown s (Some y) w =
    record { np = λ _. rw (status_in_lem _ s) (bits s).np; pc = λ _. rw (status_in_lem _ s) (bits s).pc }

-- ---- commands that make no event of channel 0

plain-event : (s : State) (b r : List ℕ) (o : Outcome) → (accepted o ≡ true → Plain s b) → event_of s (exchange b r) o ≡ idle
plain-event s b r o p = go (accepted o) refl
  where
    go : (t : Bool) → accepted o ≡ t → event_of s (exchange b r) o ≡ idle
    go true e = exchange-event s b r o e (p e).write (p e).high ∙ (p e).event
    go false e = refused_event s (exchange b r) o e

posted_plain : (s : State) (b : List ℕ) → is_posted (byte b 0) ≡ true → Plain s b
posted_plain s b h =
    by_posted (λ (op : ℕ). byte b 0 ≡ op → Plain s b) (λ e. plain s b 0x00 e refl refl refl) (λ e. plain s b 0x4C e refl refl refl)
    (λ e. plain s b 0x4D e refl refl refl) (λ e. plain s b 0x4F e refl refl refl) (byte b 0) h refl

module _ (w : World) where
  abbrev Seen : Call → Outcome → Type 0
  Seen c o = Move w c o (event_of w.state c o)

  seen : {c : Call} {o : Outcome} (e : Event) → event_of w.state c o ≡ e → Move w c o e → Seen c o
  seen {c} {o} e h m = subst (Move w c o) (sym h) m

  -- ---- channel 0's commands

  module _ (b r : List ℕ) where
    abbrev On : PeripheralChange → Type 0
    On x = Seen (exchange b r) (performed w b (lift peripheral w.state x))

    -- its reply shows the request that it leaves
    leaves : (x : PeripheralChange) → Shown x.next.request (performed w b (lift peripheral w.state x)).reply
    unfolding performed lift
    leaves x = shown (put peripheral x.next w.state) x.out.say w

    fatal-seen : On (P₀.change w.state.peripheral fatal)
    unfolding performed lift
    fatal-seen = seen idle (refused_event w.state (exchange b r) _ refl) (stays refl refl refl (leaves (P₀.change w.state.peripheral fatal)))

    acted-seen : {a : P₀.Act} {x : PeripheralChange} → R.Peripheral w.state.config b a → P.Did w.state.config w.state.peripheral a x → On x
    unfolding performed lift reply_bytes
    acted-seen f (P.write_held e) = fatal-seen
    acted-seen f (P.write_large e g) = fatal-seen
    acted-seen {a} {x} (R.posts h n) (P.posted e g) = seen idle (plain-event _ b r _ (λ _. posted_plain w.state b h)) (stays refl refl refl (leaves x))
    acted-seen f (P.request_held e) = fatal-seen
    acted-seen f (P.request_large e g) = fatal-seen
    acted-seen {a} {x} (R.asks h) (P.asked e g) = seen asks (asked-event _ b r _ refl h) (asked b r refl (no_request (held w) e) refl refl refl refl (leaves x))
    acted-seen f (P.none_ready e) = fatal-seen
    acted-seen {a} {x} (R.Peripheral.gets h) (P.handed_over e) = seen gets (got-event _ b r _ refl h) (sent _ _ e refl refl refl refl (leaves x))

  -- ---- the board's calls on channel 0

  abbrev By : P₀.Board → PeripheralChange → Type 0
  By o x = Seen (board peripheral o) (served peripheral w o (lift peripheral w.state x))

  number-seen : (o : P₀.Board) (n : ℕ) → eqb n 0 ≡ false → By o (P₀.change w.state.peripheral (number n))
  unfolding served lift over
  number-seen o n e = seen idle (refused_event w.state (board peripheral o) _ e) (stays refl refl refl quiet)

  settled-seen : {o : P₀.Board} {x : PeripheralChange} → P.Settled w.state.peripheral o x → By o x
  unfolding served lift over event_of
  settled-seen (P.look_done e) = stays refl refl refl quiet
  settled-seen {o} (P.no_look e) = number-seen o 23 refl
  settled-seen {o} (P.no_such e) = number-seen o 20 refl
  settled-seen {o} (P.miscounted e f g) = number-seen o 21 refl
  settled-seen (P.succeeds {serial} {success} {bytes = d} {q} e f g h) =
      told q serial success d refl e f (rw g h) (rw g) refl (ap (λ (x : List ℕ). over x w.read) (ap (λ (m : ℕ). take m d) (sym h) ∙ take-length d)) refl
  settled-seen (P.fails {serial} {success} {bytes = d} {q} e f g h) =
      told q serial success d refl e f (rw g h) (rw g) refl (ap (λ (x : List ℕ). over x w.read) (sym (no_bytes d h))) refl
  settled-seen {o} (P.no_take e) = number-seen o 23 refl
  settled-seen (P.took e) = stays refl refl refl quiet

  -- ---- another channel's

  module _ (k : Channel) (other : same peripheral k ≡ false) where
    kept-part : (x : Change k) → (put k (next_of k x) w.state).peripheral ≡ w.state.peripheral
    kept-part x = part_stays k peripheral (next_of k x) w.state (same_turned peripheral k other)

    acted-beside : (b r : List ℕ) (x : Change k) → (eqb (out_of k x).number 0 ≡ true → Plain w.state b)
        → Seen (exchange b r) (performed w b (lift k w.state x))
    unfolding performed lift
    acted-beside b r x p =
        seen idle (plain-event w.state b r _ p)
        (stays (ap (λ (q : Peripheral). q.request) (kept-part x)) (ap (λ (q : Peripheral). q.serial) (kept-part x)) refl
        (subst (λ (q : Peripheral). Shown q.request
        (reply_bytes (with_status (out_of k x).say (status (put k (next_of k x) w.state))) w.state.wires w.read)) (kept-part x)
        (shown (put k (next_of k x) w.state) (out_of k x).say w)))

    board_event_lem : (o : Board k) (x : Outcome) → event_of w.state (board k o) x ≡ idle
    board_event_lem o x = go (accepted x) refl
      where
        go : (t : Bool) → accepted x ≡ t → event_of w.state (board k o) x ≡ idle
        go true e = accepted-event w.state (board k o) x e ∙ board_other k other o
        go false e = refused_event w.state (board k o) x e

    settled-beside : (o : Board k) (x : Change k) → Settles k (part k w.state) o x → Seen (board k o) (served k w o (lift k w.state x))
    unfolding served lift over
    settled-beside o x d =
        seen idle (board_event_lem o _)
        (stays (ap (λ (q : Peripheral). q.request) (kept-part x)) (ap (λ (q : Peripheral). q.serial) (kept-part x))
        (ap (λ (kept : Option Kept). over (kept_bytes kept (given k o)) w.read) (settles_other k other (part k w.state) o x d)) quiet)

  -- ---- above all channels

  abbrev Plans : List ℕ → List ℕ → Plan → Type 0
  Plans b r p = Seen (exchange b r) (performed w b p)

  shown_seen : (b r : List ℕ) (body : Body) → Plain w.state b → Plans b r (show body w.state)
  unfolding performed
  shown_seen b r body p = seen idle (plain-event w.state b r _ (λ _. p)) (stays refl refl refl (shown w.state (says Accept body) w))

  forbidden_seen : (b r : List ℕ) → Plans b r (non_fatal w.state)
  unfolding performed
  forbidden_seen b r =
      seen idle (refused_event w.state (exchange b r) _ refl) (stays refl refl refl (shown w.state (says NonFatal B.Nothing) w))

  cleared-seen : (b r : List ℕ) → Plain w.state b → Plans b r (quietly (reset008h w.state))
  unfolding performed reply_bytes
  cleared-seen b r p = seen idle (plain-event w.state b r _ (λ _. p)) (stays refl refl refl quiet)

  -- "A write takes effect after its own reply, whose .. status" is the old one
  written-seen : (b r : List ℕ) (c : Config) (t : Bool) → on peripheral w.state.config && not (on peripheral c) ≡ t
      → Move w (exchange b r) (performed w b (accept_then w.state (reconfigured w.state c))) (pick t ends idle)
  unfolding performed
  written-seen b r c true e =
      dropped (ap (λ (t : Bool). pick t (F.dropped w.state.peripheral) w.state.peripheral) e) refl
      (shown w.state (says Accept B.Nothing) w)
  written-seen b r c false e =
      let kept : (reconfigured w.state c).peripheral ≡ w.state.peripheral = ap
      (λ (t : Bool). pick t (F.dropped w.state.peripheral) w.state.peripheral) e in
      stays (ap (λ (q : Peripheral). q.request) kept) (ap (λ (q : Peripheral). q.serial) kept) refl (shown w.state (says Accept B.Nothing) w)

  set-seen : (b r : List ℕ) (a v : ℕ) → Writes b a v → Plans b r (accept_then w.state (reconfigured w.state (write_at w.state.config a v)))
  unfolding performed
  set-seen b r a v h =
      seen _
      (accepted-event w.state (exchange b r) _ refl
      ∙ ap₂ (λ (t : Bool) (e : Event). pick t ends e) (write-ending peripheral w.state b a v h) (rw h.opcode))
      (written-seen b r _ _ refl)

  -- "the platform reset follows after that reply, which shows the status before it": the request that was held
  lowered_seen : (b r : List ℕ) (v : Part wires) → lowers_pltrst w.state b ≡ true → Plans b r (then_reset (put wires v w.state))
  unfolding performed
  lowered_seen b r v l =
      seen ends
      (accepted-event w.state (exchange b r) _ refl ∙ ap (λ (t : Bool). pick t ends (command_event b)) (lowering-ends peripheral w.state b l))
      (dropped refl refl (shown (put wires v w.state) (says Accept B.Nothing) w))

  reset-seen : (r : Reset) → Seen (reset r) (only 0 (with_state w (was_reset r w.state)))
  unfolding event_of
  reset-seen start = dropped refl refl quiet
  reset-seen espi_reset = dropped refl refl quiet
  reset-seen platform_reset = dropped refl refl quiet

  lent_seen : (write read : List ℕ) → Seen (lend write read) (only 0 (record { state = w.state; write = write; read = read }))
  unfolding event_of
  lent_seen write read = lent write read refl refl refl refl refl

  idle-seen : (c : Call) (n : ℕ) → 10 ≤ n → Seen c (only n w)
  idle-seen c n h = seen idle (refused_event w.state c (only n w) (ne_eqb n 0 (λ e. omega arith))) (stays refl refl refl quiet)

  shows_plain : {b : List ℕ} {body : Body} → C.Shows w.state b body → Plain w.state b
  shows_plain {b} (C.status e) = plain w.state b 0x25 (reads w.state b _ e) refl refl refl
  shows_plain {b} (C.register a e) = plain w.state b 0x21 (reads w.state b _ e).opcode refl refl refl

  -- ---- all cases

  case_seen : {c : Call} {o : Outcome} → Case w c o → Seen c o
  case_seen {c} (C.idle n h) = idle-seen c n h.least
  case_seen (C.shown {b} {r} {body} h) = shown_seen b r body (shows_plain h)
  case_seen (C.acted {b} {r} k o x e d f) =
      own_or_other peripheral
      (λ (k : Channel). (o : Command k) (x : Change k) → Admits w.state b (command_of k o)
      → Did k w.state.config (part k w.state) (act_of k w.state.config o b) x
      → reset_follows k (part k w.state) (act_of k w.state.config o b) (next_of k x) ≡ false → Seen (exchange b r) (performed w b (lift k w.state x)))
      (λ o x e d f. acted-seen b r (reads w.state b _ e) d)
      (λ k n o x e d f. acted-beside k n b r x (λ z. command_other k n w.state b o e (unlowered k w.state b o x e d f z)))
      k o x e d f
  case_seen (C.settles k o x e d) =
      own_or_other peripheral
      (λ (k : Channel). (o : Board k) (x : Change k) → Settled k w.state.config (part k w.state) o x
      → Seen (board k o) (served k w o (lift k w.state x)))
      (λ o x d. settled-seen d) (λ k n o x d. settled-beside k n o x (N.settled k w.state.config (part k w.state) o x d)) k o x d
  case_seen (C.forbidden {b} {r} a v e f) = forbidden_seen b r
  case_seen (C.hindered {b} {r} a v e f g) = forbidden_seen b r
  case_seen (C.configured {b} {r} a v e f g) = set-seen b r a v (reads w.state b _ e)
  case_seen (C.lowered {b} {r} o x e d) = lowered_seen b r x.next (lowered_bytes w.state b d (reads w.state b _ e)).lowers
  case_seen (C.cleared {b} {r} e) = cleared-seen b r (plain w.state b 0xFF (reads w.state b _ e) refl refl refl)
  case_seen (C.wiped {r}) = reset-seen r
  case_seen (C.lent {write} {read}) = lent_seen write read

pub view : View
view w c = case_seen w (cases w c)

pub view_as : (w : World) (c : Call) {e : Event} → event w c ≡ e → Move w c (step w c) e
view_as w c h = subst (Move w c (step w c)) h (view w c)
