-- Proof of P13: one sweep over the case law for the held write and the write store, then by induction over the run.
use Rattle.std.specs.Prelude.{ℕ, ◌≤◌, Bool, ◌&&◌, List, [], ◌∷◌, ◌≡◌, take, drop, Option, Some, None}
use Rattle.std.proofs.Math.Bool.{true, false, not}
use Rattle.std.proofs.Common.{true≢false, sym, ◌∙◌, arith, take_at, le-ltb}
use Rattle.std.proofs.Math.Path.{refl, ap}
use Rattle.std.proofs.Math.ListN.{length}
use Rattle.base.specs.Pick.{pick}
use Rattle.base.specs.Bytes.{over, over_none}
use Rattle.registers.specs.Registers.{write_at}
use Rattle.peripheral.specs.Status.{pc_free}
use Rattle.peripheral.specs.declared.Posted.{Posted}
use Rattle.peripheral.specs.declared.Peripheral.{Peripheral}
use Rattle.peripheral.specs.Queues as F
use Rattle.rules.specs.Rules.Plan.{PeripheralChange}
use Rattle.rules.specs.Rules.Reset.{Reset, start, espi_reset, platform_reset}
use Rattle.rules.specs.Rules.Peripheral as P₀
use Rattle.rules.specs.Rules.Channel.{Channel, peripheral, Command, Act, Board, Change, next_of, part, put, on, act_of, same}
use Rattle.rules.specs.Rules.Lift.{lift, accept_then, settled as planned}
use Rattle.rules.specs.Rules.Exchange.{reconfigured, was_reset}
use Rattle.rules.specs.Rules.Reply.{kept_bytes}
use Rattle.rules.specs.Rules.Step.{World, Call, reset, exchange, board, lend, Outcome, step, run, only, with_state, performed, served, write_length, take_length}
use Rattle.rules.specs.Statements.Peripheral as P
use Rattle.rules.specs.Statements.Cases as C
use Rattle.rules.specs.Statements.Cases.{Did, Settled, Admits, command_of, Case}
use Rattle.rules.specs.Statements.Fields.{byte, is_posted, access_length, written_data}
use Rattle.rules.specs.Statements.Reads as R
use Rattle.rules.specs.Statements.Reads.{Writes}
use Rattle.rules.specs.Statements.Channels.{Acts}
use Rattle.rules.specs.Statements.Events as E
use Rattle.rules.specs.Statements.Events.{accepted, ends_with, unended}
use Rattle.rules.specs.Statements.Requests.{since, without, same_store, store_handed_on, write_handed_on}
use Rattle.rules.specs.Statements.Sizes.{is_of}
use Rattle.rules.specs.Statements.Effects.{command_effect}
use Rattle.rules.specs.Statements.PostedWrites.{is_post, is_take, posts, takes, takes_with, held_write, AcceptedPost, posting, Untaken, taken_at, Taken, PostedWrites}
use Rattle.rules.proofs.Proofs.Cases.{cases, board_long}
use Rattle.rules.proofs.Proofs.Channels as N
use Rattle.rules.proofs.Proofs.Peripheral as L
use Rattle.rules.proofs.Proofs.Peripheral.Effects.{data_length}
use Rattle.rules.proofs.Proofs.Reads.{reads}
use Rattle.rules.proofs.Proofs.Fields.{asked_not_posted}
use Rattle.rules.proofs.Proofs.Effects.{effects, command_own, one_channel}
use Rattle.rules.proofs.Proofs.Wires.Lowering.{lowered_bytes}
use Rattle.rules.proofs.Proofs.Events.{write-ending, lowering-ends, head_unended, tail_unended, head_without, tail_without}
use Rattle.rules.proofs.Proofs.Lift.{own_or_other, same_turned, part_stays}
use Rattle.rules.proofs.Proofs.Others.{acts_other}
use Rattle.rules.specs.declared.Kept.{Kept}

-- ---- what a call does to the held write and the write store

data WriteMove (w : World) (c : Call) (o : Outcome) : Type 0 where
  stays : held_write o.next ≡ held_write w → o.next.write ≡ w.write → WriteMove w c o
  lent : (write read : List ℕ) → c ≡ lend write read → held_write o.next ≡ held_write w → o.next.write ≡ write → WriteMove w c o
  posted : held_write w ≡ None → accepted o && is_post c ≡ true → WriteMove w c o
  taken : held_write o.next ≡ None → o.next.write ≡ w.write → accepted o && is_take c ≡ true → WriteMove w c o
  ended : held_write o.next ≡ None → o.next.write ≡ w.write → ends_with peripheral w.state c o ≡ true → WriteMove w c o

no_write : (x : Option Posted) → pc_free x ≡ true → x ≡ None
no_write None e = refl
no_write (Some p) e = absurd (true≢false (sym e))

module _ (w : World) where
  -- channel 0's commands and calls
  acted-write : (b r : List ℕ) {a : P₀.Act} {x : PeripheralChange} → R.Peripheral w.state.config b a → P.Did w.state.config w.state.peripheral a x
      → WriteMove w (exchange b r) (performed w b (lift peripheral w.state x))
  unfolding performed lift over
  acted-write b r f (P.write_held e) = stays refl refl
  acted-write b r f (P.write_large e g) = stays refl refl
  acted-write b r (R.posts h n) (P.posted e g) = posted (no_write (held_write w) e) h
  acted-write b r f (P.request_held e) = stays refl refl
  acted-write b r f (P.request_large e g) = stays refl refl
  acted-write b r f (P.asked e g) = stays refl refl
  acted-write b r f (P.none_ready e) = stays refl refl
  acted-write b r f (P.handed_over e) = stays refl refl

  settled-write : {o : P₀.Board} {x : PeripheralChange} → P.Settled w.state.peripheral o x
      → WriteMove w (board peripheral o) (served peripheral w o (lift peripheral w.state x))
  unfolding served lift
  settled-write (P.look_done e) = stays refl refl
  settled-write (P.no_look e) = stays refl refl
  settled-write (P.no_such e) = stays refl refl
  settled-write (P.miscounted e f g) = stays refl refl
  settled-write (P.succeeds e f g h) = stays refl refl
  settled-write (P.fails e f g h) = stays refl refl
  settled-write (P.no_take e) = stays refl refl
  settled-write (P.took e) = taken refl refl refl

  -- another channel's
  module _ (k : Channel) (other : same peripheral k ≡ false) where
    kept-write : (x : Change k) → (put k (next_of k x) w.state).peripheral.write ≡ held_write w
    kept-write x = ap (λ (p : Peripheral). p.write) (part_stays k peripheral (next_of k x) w.state (same_turned peripheral k other))

    acted-beside : (b r : List ℕ) (a : Act k) (x : Change k) → Acts k (part k w.state) a x → WriteMove w (exchange b r) (performed w b (lift k w.state x))
    unfolding performed lift
    acted-beside b r a x d =
        stays (kept-write x) (ap (λ (kept : Option Kept). over (kept_bytes kept b) w.write) (acts_other k other (part k w.state) a x d) ∙ over_none w.write)

    settled-beside : (o : Board k) (x : Change k) → WriteMove w (board k o) (served k w o (lift k w.state x))
    unfolding served lift
    settled-beside o x = stays (kept-write x) refl

  -- a write of a register
  set-write : (b r : List ℕ) (a v : ℕ) → Writes b a v
      → WriteMove w (exchange b r) (performed w b (accept_then w.state (reconfigured w.state (write_at w.state.config a v))))
  unfolding performed over
  set-write b r a v h = by (on peripheral w.state.config && not (on peripheral (write_at w.state.config a v))) refl
    where
      by : (t : Bool) → on peripheral w.state.config && not (on peripheral (write_at w.state.config a v)) ≡ t
          → WriteMove w (exchange b r) (performed w b (accept_then w.state (reconfigured w.state (write_at w.state.config a v))))
      by true e =
          ended (ap (λ (t : Bool). (pick t (F.dropped w.state.peripheral) w.state.peripheral).write) e) refl
          (write-ending peripheral w.state b a v h ∙ e)
      by false e = stays (ap (λ (t : Bool). (pick t (F.dropped w.state.peripheral) w.state.peripheral).write) e) refl

  reset-write : (r : Reset) → WriteMove w (reset r) (only 0 (with_state w (was_reset r w.state)))
  reset-write start = ended refl refl refl
  reset-write espi_reset = ended refl refl refl
  reset-write platform_reset = ended refl refl refl

  case_write : {c : Call} {o : Outcome} → Case w c o → WriteMove w c o
  unfolding performed over
  case_write (C.idle n h) = stays refl refl
  case_write (C.shown h) = stays refl refl
  case_write (C.acted {b} {r} k o x e d f) =
      own_or_other peripheral
      (λ (k : Channel). (o : Command k) (x : Change k) → Admits w.state b (command_of k o)
      → Did k w.state.config (part k w.state) (act_of k w.state.config o b) x → WriteMove w (exchange b r) (performed w b (lift k w.state x)))
      (λ o x e d. acted-write b r (reads w.state b _ e) d)
      (λ k n o x e d. acted-beside k n b r _ x (N.acts k w.state.config (part k w.state) _ x d)) k o x e d
  case_write (C.settles k o x e d) =
      own_or_other peripheral
      (λ (k : Channel). (o : Board k) (x : Change k) → Settled k w.state.config (part k w.state) o x
      → WriteMove w (board k o) (served k w o (lift k w.state x)))
      (λ o x d. settled-write d) (λ k n o x d. settled-beside k n o x) k o x d
  case_write (C.forbidden a v e f) = stays refl refl
  case_write (C.hindered a v e f g) = stays refl refl
  case_write (C.configured {b} {r} a v e f g) = set-write b r a v (reads w.state b _ e)
  case_write (C.lowered {b} {r} o x e d) =
      ended refl refl (lowering-ends peripheral w.state b (lowered_bytes w.state b d (reads w.state b _ e)).lowers)
  case_write (C.cleared e) = stays refl refl
  case_write (C.wiped {r}) = reset-write r
  case_write (C.lent {write} {read}) = lent write read refl refl refl

write_view : (w : World) (c : Call) → WriteMove w c (step w c)
write_view w c = case_write w (cases w c)

-- ---- one call

held_by : (p : Posted) (w : World) (c : Call) → held_write w ≡ Some p → E.ends peripheral w c ≡ false → takes w c ≡ false → WriteMove w c (step w c)
    → held_write (step w c).next ≡ Some p
held_by p w c h e f (stays a b) = a ∙ h
held_by p w c h e f (lent write read g a b) = a ∙ h
held_by p w c h e f (posted a b) = absurd (true≢false (cc))
held_by p w c h e f (taken a b g) = absurd (true≢false (sym g ∙ f))
held_by p w c h e f (ended a b g) = absurd (true≢false (sym g ∙ e))

empty_by : (w : World) (c : Call) → held_write w ≡ None → posts w c ≡ false → WriteMove w c (step w c) → held_write (step w c).next ≡ None
empty_by w c h e (stays a b) = a ∙ h
empty_by w c h e (lent write read g a b) = a ∙ h
empty_by w c h e (posted a b) = absurd (true≢false (sym b ∙ e))
empty_by w c h e (taken a b g) = a
empty_by w c h e (ended a b g) = a

store_by : (w : World) (c : Call) → posts w c ≡ false → same_store (λ v. v.write) w c → WriteMove w c (step w c) → (step w c).next.write ≡ w.write
store_by w c e s (stays a b) = b
store_by w c e s (lent write read g a b) = b ∙ (rw g at s)
store_by w c e s (posted a b) = absurd (true≢false (sym b ∙ e))
store_by w c e s (taken a b g) = b
store_by w c e s (ended a b g) = b

-- ---- a run

held-run : (p : Posted) (w : World) (xs : List Call) → held_write w ≡ Some p → unended peripheral w xs ≡ true → without takes w xs ≡ true
    → held_write (run w xs) ≡ Some p
unfolding run
held-run p w [] h e f = h
held-run p w (c ∷ cs) h e f =
    held-run p (step w c).next cs (held_by p w c h (head_unended peripheral w c cs e) (head_without takes w c cs f) (write_view w c))
    (tail_unended peripheral w c cs e) (tail_without takes w c cs f)

empty_run : (w : World) (xs : List Call) → held_write w ≡ None → without posts w xs ≡ true → held_write (run w xs) ≡ None
unfolding run
empty_run w [] h e = h
empty_run w (c ∷ cs) h e = empty_run (step w c).next cs (empty_by w c h (head_without posts w c cs e) (write_view w c)) (tail_without posts w c cs e)

store_run : (w : World) (xs : List Call) → without posts w xs ≡ true → write_handed_on w xs → (run w xs).write ≡ w.write
unfolding run store_handed_on
store_run w [] e h = refl
store_run w (c ∷ cs) e h =
    store_run (step w c).next cs (tail_without posts w c cs e) h.1 ∙ store_by w c (head_without posts w c cs e) h.0 (write_view w c)

-- ---- the take

module _ (w : World) (report : List ℕ) (long : 256 ≤ length w.write) (room : 10 ≤ length report) where
  -- its change, by channel 0's law
  take-is : step w (takes_with report) ≡ served peripheral w (P₀.take_write report) (planned peripheral w.state (P₀.take_write report))
  take-is = board_long peripheral w (P₀.take_write report) (rw (le-ltb (length w.write) write_length long, le-ltb (length report) take_length room))

  settled-take : P.Settled w.state.peripheral (P₀.take_write report) (P₀.settle w.state.config w.state.peripheral (P₀.take_write report))
  settled-take = L.settles w.state.config w.state.peripheral (P₀.take_write report)

  take_none : held_write w ≡ None → (step w (takes_with report)).number ≡ 23
  unfolding served lift
  take_none h = ap (λ (o : Outcome). o.number) take-is ∙ by settled-take
    where
      by : {x : PeripheralChange} → P.Settled w.state.peripheral (P₀.take_write report) x → x.out.number ≡ 23
      by (P.no_take e) = refl
      by (P.took e) = absurd (true≢false (cc))

  record Takes (p : Posted) : Type 0 where
    number : (step w (takes_with report)).number ≡ 0
    yields : (step w (takes_with report)).report ≡ P₀.posted_report p
    frees : held_write (step w (takes_with report)).next ≡ None

  take-held : (p : Posted) → held_write w ≡ Some p → Takes p
  unfolding served lift
  take-held p h =
      record {
        number = ap (λ (o : Outcome). o.number) take-is ∙ (by settled-take).0;
        yields = ap (λ (o : Outcome). o.report) take-is ∙ ap P₀.take_report h;
        frees = ap (λ (o : Outcome). held_write o.next) take-is ∙ (by settled-take).1;
      }
    where
      by : {x : PeripheralChange} → P.Settled w.state.peripheral (P₀.take_write report) x → (x.out.number ≡ 0) × (x.next.write ≡ None)
      by (P.no_take e) = absurd (true≢false (cc))
      by (P.took e) = (refl, refl)

-- ---- the write itself

module _ (w : World) (b r : List ℕ) where
  channel_0 : is_posted (byte b 0) ≡ true → is_of peripheral (byte b 0) ≡ true
  channel_0 h = rw h

  data_read : {a : P₀.Act} → R.Peripheral w.state.config b a → is_posted (byte b 0) ≡ true → length (written_data b) ≡ access_length b
  data_read (R.posts h n) p = data_length b n
  data_read (R.asks h) p = absurd (true≢false (sym p ∙ asked_not_posted (byte b 0) h))
  data_read (R.Peripheral.gets h) p = absurd (true≢false (sym p ∙ ap is_posted h))

  -- an accepted one has all its data
  data_whole : {o : Outcome} → Case w (exchange b r) o → is_posted (byte b 0) ≡ true → o.number ≡ 0 → length (written_data b) ≡ access_length b
  unfolding performed
  data_whole (C.idle n q) p z = absurd (omega (arith, q.least))
  data_whole (C.shown (C.status e)) p z = absurd (true≢false (sym p ∙ ap is_posted (reads w.state b _ e)))
  data_whole (C.shown (C.register a e)) p z = absurd (true≢false (sym p ∙ ap is_posted (reads w.state b _ e).opcode))
  data_whole (C.acted k o x e d f) p z =
      own_or_other peripheral (λ (k : Channel). (o : Command k) → Admits w.state b (command_of k o) → length (written_data b) ≡ access_length b)
      (λ o e. data_read (reads w.state b _ e) p)
      (λ k n o e. absurd (true≢false (sym (one_channel peripheral k (byte b 0) (channel_0 p) (command_own k w.state b o e)) ∙ n))) k o e
  data_whole (C.forbidden a v e f) p z = absurd (omega arith)
  data_whole (C.hindered a v e f g) p z = absurd (omega arith)
  data_whole (C.configured a v e f g) p z = absurd (true≢false (sym p ∙ ap is_posted (reads w.state b _ e).opcode))
  data_whole (C.lowered o x e d) p z =
      absurd (true≢false (sym p ∙ ap is_posted (lowered_bytes w.state b d (reads w.state b _ e)).opcode))
  data_whole (C.cleared e) p z = absurd (true≢false (sym p ∙ ap is_posted (reads w.state b _ e)))

module _ (w : World) (b r : List ℕ) (h : AcceptedPost w b r) where
  abbrev w' : World
  w' = (step w (exchange b r)).next

  row : w' ≡ command_effect peripheral w b
  row = effects w (exchange b r) h.number ∙ rw h.posted

  whole : length (written_data b) ≡ access_length b
  whole = data_whole w b r (cases w (exchange b r)) h.posted h.number

  first_held : held_write w' ≡ Some (posting w b)
  first_held = ap held_write row ∙ rw h.posted

  first_bytes : take (access_length b) w'.write ≡ written_data b
  first_bytes =
      ap (λ (v : World). take (access_length b) v.write) row
      ∙ rw h.posted (take_at (written_data b) (drop (access_length b) w.write) (access_length b) whole)

  taken_once : (xs : List Call) → Untaken w b r xs → (report : List ℕ) → 256 ≤ length (since w (exchange b r) xs).write → 10 ≤ length report
      → Taken w b r xs report
  taken_once xs u report long room =
      let t = take-held (since w (exchange b r) xs) report long room (posting w b) (held-run (posting w b) w' xs first_held u.unended u.untaken) in
      record {
        number = t.number;
        yields = t.yields;
        once = λ ys report' n l k. take_none (run (taken_at w b r xs report) ys) report' l k (empty_run (taken_at w b r xs report) ys t.frees n);
      }

pub posted_writes : PostedWrites
posted_writes w b r h xs =
    record {
      whole = whole w b r h;
      bytes = λ e s. ap (take (access_length b)) (store_run (step w (exchange b r)).next xs e s) ∙ first_bytes w b r h;
      held = λ u. held-run (posting w b) (step w (exchange b r)).next xs (first_held w b r h) u.unended u.untaken;
      taken = taken_once w b r h xs;
    }
