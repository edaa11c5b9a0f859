-- The lifting proved: one law a call, those of the board in the channels' folders, then runs by induction.
use Rattle.std.specs.Prelude.{ℕ, ◌≤◌, true, ◌≡◌, ltb, length}
use Rattle.std.proofs.Common.{true≢false, ap, ◌∙◌, le-ltb}
use mathlib.Core.List.{List, [], ◌∷◌}
use Rattle.std.proofs.Math.Path.{refl, sym}
use Rattle.base.specs.Pick.{and_left, and_right}
use Rattle.base.specs.Bytes.{over, over_none, take-over}
use Rattle.state.specs.Fresh.{fresh_state}
use Rattle.state.specs.Sound.{Sound}
use Rattle.state.specs.Layout.{state_length, unpacked}
use Rattle.rules.specs.Rules.Reset as R
use Rattle.rules.specs.Rules.Reset.{Reset}
use Rattle.rules.specs.Rules.Channel.{Channel, peripheral, wires, Board}
use Rattle.rules.specs.Rules.Exchange as E
use Rattle.rules.specs.Rules.Reply.{reply_bytes, kept_bytes}
use Rattle.rules.specs.Rules.Step as S
use Rattle.rules.specs.Rules.Step.{World, Call, Outcome, step, run, handed_over, all_handed, of_engine}
use Rattle.rules.specs.Rules.Calls as X
use Rattle.rules.specs.Rules.Calls.{Exchanged}
use Rattle.state.specs.Facts.{fresh-sound}
use Rattle.rules.proofs.Proofs.Sound.{exchange-sound, reset-sound}
use Rattle.rules.proofs.Proofs.Refusals.{exchange_turned}
use Rattle.rules.proofs.Proofs.WholeRefusals.{planned_small}
use Rattle.promises.specs.ByteRuns.{ByteWorld, after_state, after_exchange, board_bytes, reset_bytes, lent, byte_step_value, byte_run}
use Rattle.promises.specs.Statements.Lifted.{Holding, world_of, lent_reply, lent_report, Meets, Agrees, RunHolds, Starts, Lifted}
use Rattle.promises.proofs.Proofs.Meets.{three, meets, held_after, world-after, board, good, long, pass, short, Ten, ten}
use Rattle.promises.proofs.Proofs.Peripheral.Lifted as P
use Rattle.promises.proofs.Proofs.Wires.Lifted as W

start_lifts : (v : ByteWorld) → state_length ≤ length v.state → Agrees v (S.reset R.start)
unfolding byte_step_value step X.start_call over
start_lifts v long = rw (le-ltb _ _ long) (board v.state long v.write v.read [] [] 0 fresh_state refl fresh-sound)

-- ---- one call

module _ (v : ByteWorld) (h : Holding v) where
  abbrev st : List ℕ
  st = v.state

  exchange_lifts : (command reply : List ℕ) → S.are_bytes command ≡ true → Agrees v (S.exchange command reply)
  unfolding byte_step_value step X.exchange_call X.exchange_planned S.performed
  exchange_lifts command reply b =
      let p = E.exchange (unpacked st) command in
      let r = reply_bytes p.reply (unpacked st).wires v.read in
      let sound : Sound p.next = exchange-sound (good v h) command b in
      let w = over (kept_bytes p.kept command) v.write in
      rw (long v h, pass v h)
      (three (λ (x : Exchanged) (o : Outcome). Meets reply [] (after_exchange v x) o)
      (short v h reply [])
      (meets refl (planned_small p.number (unpacked st) p (exchange_turned (unpacked st) command)) refl
      (take-over r reply (length r) refl) (sym (over_none []))
      (world-after st w v.read p.next sound) (held_after st w v.read p.next h.long sound))
      (ltb (length reply) S.reply_length) (ltb (length v.write) S.write_length) (ltb (length v.read) S.read_length))

  -- ---- resets and the board's calls

  reset_lifts : (r : Reset) → Meets [] [] (after_state v (X.reset_call r st)) (S.only 0 (S.with_state (world_of v) (E.was_reset r (unpacked st))))
  unfolding X.reset_call over
  reset_lifts r = rw (long v h, pass v h) (board st h.long v.write v.read [] [] 0 (E.was_reset r (unpacked st)) refl (reset-sound (good v h) r))

  lend_lifts : (write read : List ℕ) → Agrees v (S.lend write read)
  unfolding byte_step_value step over
  lend_lifts write read = meets refl refl refl refl refl refl (record { long = h.long; passes = h.passes })

  board_lifts : (k : Channel) (o : Board k) → Agrees v (S.board k o)
  board_lifts peripheral = P.peripheral_lifts v h
  board_lifts wires = W.wires_lifts v h

  -- ---- a state slice that is too short: every call is 10 then

  module _ (state : List ℕ) (few : ltb (length state) state_length ≡ true) where
    short-reset : (r : Reset) → Ten v (S.reset r) (after_state (lent v state) (reset_bytes r state))
    unfolding X.start_call X.reset_call X.espi_reset_call X.platform_reset_call
    short-reset R.start = rw few (ten v)
    short-reset R.espi_reset = rw few (ten v)
    short-reset R.platform_reset = rw few (ten v)

    short_board : (k : Channel) (o : Board k) → Ten v (S.board k o) (board_bytes k (lent v state) o)
    short_board peripheral = P.short_peripheral_lem v state few
    short_board wires = W.short_wires v state few

    short_call : (c : Call) → of_engine c ≡ true → Ten v c (byte_step_value (lent v state) c)
    unfolding byte_step_value X.exchange_call
    short_call (S.reset r) e = short-reset r
    short_call (S.exchange command reply) e = rw few (ten v)
    short_call (S.board k o) e = short_board k o
    short_call (S.short s c) e = absurd (true≢false (sym e))
    short_call (S.lend write read) e = absurd (true≢false (sym e))

  short_lifts : (state : List ℕ) (c : Call) → of_engine c ≡ true → ltb (length state) state_length ≡ true → Agrees v (S.short state c)
  unfolding byte_step_value step
  short_lifts state c e f =
      let t = short_call state f c e in
      meets t.is_ten refl (t.reply_same ∙ sym (over_none (lent_reply c))) refl (t.report_same ∙ sym (over_none (lent_report c)))
      (rw (t.write_same, t.read_same)) (record { long = h.long; passes = h.passes })

  pub call_lifts : (c : Call) → handed_over c ≡ true → Agrees v c
  unfolding byte_step_value step X.espi_reset_call X.platform_reset_call
  call_lifts (S.reset R.start) b = start_lifts v h.long
  call_lifts (S.reset R.espi_reset) b = reset_lifts R.espi_reset
  call_lifts (S.reset R.platform_reset) b = reset_lifts R.platform_reset
  call_lifts (S.exchange command reply) b = exchange_lifts command reply b
  call_lifts (S.board k o) b = board_lifts k o
  call_lifts (S.short state c) b = short_lifts state c (and_left (of_engine c) _ b) (and_right (of_engine c) _ b)
  call_lifts (S.lend write read) b = lend_lifts write read

-- ---- runs

pub run_lifts : (v : ByteWorld) → Holding v → (cs : List Call) → all_handed cs ≡ true → RunHolds v cs
unfolding byte_run run all_handed
run_lifts v h [] b = record { world = refl; holding = h }
run_lifts v h (c ∷ cs) b =
    let a = call_lifts v h c (and_left (handed_over c) _ b) in
    let r = run_lifts (byte_step_value v c).next a.holding cs (and_right (handed_over c) _ b) in
    record { world = r.world ∙ ap (λ (w : World). run w cs) a.world; holding = r.holding }

starts : (v : ByteWorld) → state_length ≤ length v.state → Starts v
unfolding step
starts v long = let a = start_lifts v long in record { agrees = a; fresh = ap (λ (w : World). w.state) a.world }

pub lifted : Lifted
lifted = record { call = call_lifts; calls = run_lifts; starts = starts }
