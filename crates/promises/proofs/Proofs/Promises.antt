-- The promises over bytes, each from its statement over `step` through the bridge.
use Rattle.std.specs.Prelude.{ℕ, ◌+◌, ◌^◌, ◌≤◌, ◌<◌, Bool, not, ◌≡◌}
use Rattle.std.proofs.Math.Bool.{true, false}
use Rattle.std.proofs.Common.{true≢false, sym, ◌∙◌, subst, arith, le-ltb, lt-ltb}
use mathlib.Core.List.{List, [], ◌∷◌, ◌++◌, map}
use Rattle.std.proofs.Math.Path.{refl, ap, ap₂}
use Rattle.std.proofs.Math.ListN.{length, drop, length-take}
use Rattle.std.proofs.lemmas.Bool.{not-true}
use Rattle.base.specs.Pick.{pick, pick_ind, and_left, and_right, and_true}
use Rattle.base.specs.Bytes.{over}
use Rattle.state.specs.Status.{status}
use Rattle.state.specs.State.{State}
use Rattle.state.specs.Packing.{holds-sound}
use Rattle.rules.specs.Rules.Peripheral as B
use Rattle.rules.specs.Rules.Channel.{Channel, peripheral, wires}
use Rattle.rules.specs.Rules.Calls.{word}
use Rattle.rules.specs.Rules.Reply.{closed}
use Rattle.rules.specs.Rules.Step as S
use Rattle.rules.specs.Rules.Reset.{platform_reset}
use Rattle.rules.specs.Rules.Step.{World, Call, Outcome, reset, exchange, board, step, run, handed_over, all_handed, are_bytes, short_stores}
use Rattle.rules.specs.Statements.Requests as R
use Rattle.rules.specs.Statements.Requests.{is_tell, is_ask, shows_bit, raises, event, got, got_by, answers_with, held, serial_of}
use Rattle.rules.specs.Statements.Words as Y
use Rattle.rules.specs.Statements.Words.{Exactly, Ending, get_pc}
use Rattle.rules.specs.Statements.Events.{pltrst_falls}
use Rattle.rules.specs.Statements.Demand3 as D
use Rattle.rules.specs.Statements.Apart as A
use Rattle.rules.specs.Statements.Apart.{Seen, seen, seeing, remains, is_call_of, Alike, SameButWires, SameButPeripheral}
use Rattle.rules.proofs.Proofs.Words.{byte_words}
use Rattle.rules.proofs.Proofs.Demand3.{demand3}
use Rattle.rules.proofs.Proofs.Answers.{serials_told}
use Rattle.rules.specs.Statements.Bound as Bd
use Rattle.rules.proofs.Proofs.Bound.{bound}
use Rattle.rules.proofs.Proofs.Apart as A'
use Rattle.rules.proofs.Proofs.Refusals.{past_over}
use Rattle.promises.specs.ByteRuns.{ByteWorld, ByteOutcome, byte_step_value, byte_run}
use Rattle.promises.specs.Statements.Lifted.{Holding, world_of, value_of, reply_in, lent_reply, lent_report, Meets}
use Rattle.promises.proofs.Proofs.Lifted.{call_lifts}
use Rattle.promises.specs.Statements.Words.{state_in, serial_in, byte_since, byte_without, byte_answers, byte_got, byte_got_by, byte_ends, ByteSeen, byte_seen, byte_remains, byte_seeing}
use Rattle.promises.specs.Statements.Promises as P
use Rattle.promises.specs.Statements.Promises.{Accepts, InBytes, Over, Delivers, Asked, Waits, Answered, ToldIn, AskedIn, RunsAlike, answered_at}
use Rattle.promises.proofs.Proofs.Bridge.{Stands, stands, head_handed, tail_handed, state_at, call_at, next_at, run_at, falls_at, pltrst-at, ends_at, event-at}
use Rattle.promises.proofs.Proofs.Bridge.{wire_at, got_by_lem, without_at, unhindered_at, unended-at, got-at, asked-at, gets_at, shares_at, below_at, lines_at, handed-on}

pub bridged : P.Bridged
bridged v h cs b =
    let s = run_at (stands h) cs b in
    record {
      world = s.world;
      holding = s.holding;
      call = call_at s;
      events = event-at s;
      wire_events = wire_at s;
      ends = ends_at s;
      unended = unended-at (stands h) cs b;
      without = without_at (stands h) cs b;
      got = got-at (stands h) cs b;
    }

pub bytes-kept : P.BytesKept
bytes-kept v h c b = (call_lifts v h c b).holding

-- ---- the events in words and bytes

module _ (v : ByteWorld) (h : Holding v) (c : Call) (b : handed_over c ≡ true) where
  both : {A : Type 0} {x y z : A} {Such : Type 0} → x ≡ y → Exactly (y ≡ z) (Y.Accepted (world_of v) c × Such) → Exactly (x ≡ z) (Accepts v c Such)
  both e p =
      let n = (call_at (stands h) c b).number in
      (λ k. let a = p.0 (sym e ∙ k) in (n ∙ a.0, a.1), λ a. e ∙ p.1 (sym n ∙ a.0, a.1))

  -- the levels of PLTRST# as they are read off words
  ends_as : (k : Channel) {m n x y : ℕ} → m ≡ x → n ≡ y → Exactly (byte_ends k v c ≡ true) (Accepts v c (Ending k (state_in v).config x y c))
      → Exactly (byte_ends k v c ≡ true) (Accepts v c (Ending k (state_in v).config m n c))
  ends_as k {m} {n} {x} {y} e f p =
      subst (λ (z : ℕ). Exactly (byte_ends k v c ≡ true) (Accepts v c (Ending k (state_in v).config z n c))) (sym e)
      (subst (λ (z : ℕ). Exactly (byte_ends k v c ≡ true) (Accepts v c (Ending k (state_in v).config x z c))) (sym f) p)

  in_bytes : InBytes v c
  in_bytes =
      let w = world_of v in
      let s = stands h in
      let e = event-at s c b in
      let x = ends_at s peripheral c b in
      let p = byte_words.end w c in
      record {
        get = both e (byte_words.get w c);
        ask = both e (byte_words.ask w c);
        tell = both e (byte_words.tell w c);
        end = (λ k. x ∙ p.0 (sym e ∙ k), λ k. e ∙ p.1 (sym x ∙ k));
        ends = λ k. ends_as k (pltrst-at s) (pltrst-at (next_at s c b)) (both (ends_at s k c b) (byte_words.ends k w c));
      }

pub events_in_bytes : P.EventsInBytes
events_in_bytes = in_bytes

pub request_in_bytes : P.RequestInBytes
request_in_bytes v h b r a e =
    let s = stands h in
    let k = byte_words.held (world_of v) b r (sym (event-at s (exchange b r) a) ∙ e) in
    record { request = k.request; waits = ap held (next_at s (exchange b r) a).world ∙ k.waits; asks = k.asks }

-- ---- demand 3, from an answer on

over-at : {x : ByteOutcome} {o : Outcome} → reply_in x ≡ o.reply → Stands x.next o.next → D.Over o → Over x
over-at {x} {o} e s k =
    record {
      drops = subst (shows_bit 4 0) (sym e) k.drops;
      stays_down = λ es c b h u.
          subst (shows_bit 4 0) (sym (call_at (run_at s es b) c h).said) (k.stays_down es c (sym (without_at s es b is_tell) ∙ u));
      frees = subst (shows_bit 1 1) (sym e) k.frees;
      stays_free = λ es c b h u n.
          subst (shows_bit 1 1) (sym (call_at (run_at s es b) c h).said)
          (k.stays_free es c (sym (without_at s es b is_ask) ∙ u) (ap is_ask (sym (event-at (run_at s es b) c h)) ∙ n));
      free = ap held s.world ∙ k.free;
    }

bytes : (check : ℕ) → check < 256 → are_bytes (0x01 ∷ check ∷ []) ≡ true
unfolding are_bytes
bytes check small = and_true (lt-ltb check 256 small) refl

module _ {v : ByteWorld} {w : World} (s : Stands v w) (cs : List Call) (b : all_handed cs ≡ true) where
  abbrev place : Stands (byte_run v cs) (run w cs)
  place = run_at s cs b

  count : length (byte_got v cs) ≡ length (got w cs)
  count = ap length (got-at s cs b)

  count_with : (c : Call) → handed_over c ≡ true → length (byte_got v cs) + length (byte_got_by (byte_run v cs) c)
      ≡ length (got w cs) + length (got_by (run w cs) c)
  count_with c h = rw (got-at s cs b, got_by_lem place c h)

  deliver_at : (N : ℕ) (body : ℕ → List ℕ) → D.Delivers N body w cs → Delivers N body v cs
  deliver_at N body d =
      record {
        in_order_lem = λ c h k l.
            let m = call_at place c h in
            let e : state_in (byte_step_value (byte_run v cs) c).next ≡ (step (run w cs) c).next.state = state_at (next_at place c h) in
            m.said ∙ d.in_order_lem c (sym (event-at place c h) ∙ k) (subst (λ (n : ℕ). n < N) count l)
            ∙ rw (count, e);
        accepts = λ check reply small l r x y f.
            (call_at place (exchange (0x01 ∷ check ∷ []) reply) (bytes check small)).number
            ∙ d.accepts check reply (subst (λ (n : ℕ). n < N) count l)
            (long reply r x y)
            (subst (λ (t : State). D.crc_fine t (0x01 ∷ check ∷ []) ≡ true) (state_at place) f);
        stands = λ c h l.
            subst (shows_bit 4 1) (sym (call_at place c h).said) (d.stands c (subst (λ (n : ℕ). n < N) (count_with c h) l));
        held = λ c h l.
            subst (shows_bit 1 0) (sym (call_at place c h).said) (d.held c (subst (λ (n : ℕ). n < N) (count_with c h) l));
        last = λ c h k l.
            over-at (call_at place c h).said (next_at place c h)
            (d.last c (sym (event-at place c h) ∙ k) (ap (λ (n : ℕ). n + 1) (sym count) ∙ l));
      }
    where
      long : (reply : List ℕ) → S.reply_length ≤ length reply → S.write_length ≤ length (byte_run v cs).write → S.read_length ≤ length (byte_run v cs).read
          → short_stores reply (run w cs) ≡ false
      long reply r x y =
          subst (λ (t : World). short_stores reply t ≡ false) place.world
          (rw (le-ltb _ _ r, le-ltb _ _ x, le-ltb _ _ y))

-- ---- demand 3, from the acceptance to the answer

module _ {v : ByteWorld} {b r : List ℕ} {xs : List Call} (a : Asked v b r xs) where
  asking : Stands v (world_of v)
  asking = stands a.holding

  handed : are_bytes b ≡ true
  handed = head_handed (exchange b r) xs a.handed

  then : Stands (byte_step_value v (exchange b r)).next (step (world_of v) (exchange b r)).next
  then = next_at asking (exchange b r) handed

  later : all_handed xs ≡ true
  later = tail_handed (exchange b r) xs a.handed

  now : Stands (byte_since v (exchange b r) xs) (R.since (world_of v) (exchange b r) xs)
  now = run_at then xs later

  asked_state : D.Asked (world_of v) b r xs
  asked_state =
      record {
        accepted = sym (event-at asking (exchange b r) handed) ∙ a.accepted;
        unended = sym (unended-at then xs later peripheral) ∙ a.unended;
        unanswered = sym (without_at then xs later is_tell) ∙ a.unanswered;
      }

  waits : (c : Call) → handed_over c ≡ true → Waits v b r xs c
  waits c h =
      let k = demand3.before (world_of v) b r xs asked_state c in
      let m = call_at asking (exchange b r) handed in
      let e = (call_at now c h).said in
      record {
        defers = m.said ∙ k.defers ∙ ap (λ (t : State). closed (0x01 ∷ []) (status t)) (sym (state_at then));
        defer_np = subst (shows_bit 1 0) (sym m.said) k.defer_np;
        defer_pc = subst (shows_bit 4 0) (sym m.said) k.defer_pc;
        no_get_lem = λ g. k.no_get_lem (sym (event-at now c h) ∙ g);
        down = subst (shows_bit 4 0) (sym e) k.down;
        taken = subst (shows_bit 1 0) (sym e) k.taken;
      }

pub before : P.BeforeAnswer
before v b r xs a = waits a

-- ---- a board call's word is its number alone

peripheral_value : (w : World) (o : B.Board) → (step w (board peripheral o)).value ≡ 0
unfolding step S.served
peripheral_value w o = pick_ind (λ (x : Outcome). x.value ≡ 0) (S.short_for peripheral o w) (λ _. refl) (λ _. refl)

word_alone : {x n value : ℕ} (m : ℕ) → x ≡ word n value → n ≡ m → value ≡ 0 → x ≡ m
word_alone m e f g = omega (arith, e, f, g)

pub request_held_lem : P.RequestHeld
request_held_lem v b r xs a =
    let k = demand3.held (world_of v) b r xs (handed a) (asked_state a) in
    record {
      request = ap held (now a).world ∙ k.request;
      serial = ap serial_of (now a).world ∙ k.serial ∙ ap serial_of (sym (then a).world);
      looks = λ report long.
          word_alone 0 (call_at (now a) (board peripheral (B.look report)) refl).word (k.looks report long)
          (peripheral_value (R.since (world_of v) (exchange b r) xs) (B.look report));
      yields = λ report long.
          (call_at (now a) (board peripheral (B.look report)) refl).report
          ∙ ap (λ (l : List ℕ). over l report) (k.yields report long)
          ∙ ap (λ (w : World). over (D.look_bytes_value b (serial_of w)) report) (sym (then a).world);
    }

-- ---- a request, its answer, and the calls since

module _ {v : ByteWorld} {b r : List ℕ} {xs : List Call} {serial success : ℕ} {d : List ℕ} {ys : List Call} (a : Answered v b r xs serial success d ys) where
  after : Stands (answered_at v b r xs serial success d) (D.answered_at (world_of v) b r xs serial success d)
  after = next_at (now a.asked) (answers_with serial success d) refl

  answered_state : D.Answered (world_of v) b r xs serial success d ys
  answered_state =
      record {
        sound = holds-sound v.state a.asked.holding.long a.asked.holding.passes;
        handed = a.asked.handed;
        asked = asked_state a.asked;
        answered = sym (event-at (now a.asked) (answers_with serial success d) refl) ∙ a.answered;
        unended = sym (unended-at after ys a.handed_since peripheral) ∙ a.unended_since;
        handed_on = handed-on after ys a.handed_since a.handed_on;
        handed_since = a.handed_since;
      }

pub read-answered : P.ReadAnswered
read-answered v b r xs serial success d ys a is size =
    let k = demand3.read (world_of v) b r xs serial success d ys (answered_state a) is size in
    let e = got-at (after a) ys a.handed_since in
    record {
      few = k.few;
      pieces = deliver_at (after a) ys a.handed_since _ _ k.pieces;
      whole = λ n. ap D.joined_data e ∙ k.whole (ap length (sym e) ∙ n);
    }

pub failure_answered : P.FailureAnswered
failure_answered v b r xs serial success d ys a bad =
    deliver_at (after a) ys a.handed_since _ _ (demand3.failure (world_of v) b r xs serial success d ys (answered_state a) bad)

pub io_write-answered : P.IoWriteAnswered
io_write-answered v b r xs serial success d ys a io ok =
    deliver_at (after a) ys a.handed_since _ _ (demand3.io_write_lem (world_of v) b r xs serial success d ys (answered_state a) io ok)

-- ---- after an ending event

handed_parts : (xs ys : List Call) → all_handed (xs ++ ys) ≡ true → (all_handed xs ≡ true) × (all_handed ys ≡ true)
unfolding all_handed
handed_parts [] ys b = (refl, b)
handed_parts (x ∷ xs) ys b =
    let t = handed_parts xs ys (and_right (handed_over x) _ b) in
    (and_true (and_left (handed_over x) _ b) t.0, t.1)

split-handed : (xs ys : List Call) {cs : List Call} → cs ≡ xs ++ ys → all_handed cs ≡ true → (all_handed xs ≡ true) × (all_handed ys ≡ true)
split-handed xs ys e b = handed_parts xs ys (subst (λ (l : List Call). all_handed l ≡ true) e b)

told_at : {v : ByteWorld} {w : World} → Stands v w → (n : ℕ) {cs : List Call} → all_handed cs ≡ true → D.ToldIn n w cs → ToldIn n v cs
told_at s n b t =
    let h = split-handed t.ys (answers_with n t.success t.bytes ∷ t.zs) t.split b in
    record {
      ys = t.ys;
      success = t.success;
      bytes = t.bytes;
      zs = t.zs;
      split = t.split;
      accepted = event-at (run_at s t.ys h.0) (answers_with n t.success t.bytes) refl ∙ t.accepted;
    }

asked_in : {v : ByteWorld} {w : World} → Stands v w → {cs : List Call} → all_handed cs ≡ true → D.AskedIn w cs → AskedIn v cs
asked_in {v} {w} s b t =
    let h = split-handed t.xs (t.q ∷ t.rest) t.split b in
    let p = run_at s t.xs h.0 in
    let hq = head_handed t.q t.rest h.1 in
    let n = next_at p t.q hq in
    record {
      xs = t.xs;
      q = t.q;
      rest = t.rest;
      split = t.split;
      accepted = event-at p t.q hq ∙ t.accepted;
      answered =
          subst (λ (x : State). ToldIn x.peripheral.serial (byte_step_value (byte_run v t.xs) t.q).next t.rest) (sym (state_at n))
          (told_at n _ (tail_handed t.q t.rest h.1) t.answered);
    }

pub ended : P.EventEnds
ended v h e cs c b hc k =
    let he = head_handed e cs b in
    let s = next_at (stands h) e he in
    let hb = tail_handed e cs b in
    let p = run_at s cs hb in
    let d = demand3.ended (world_of v) e (sym (ends_at (stands h) peripheral e he) ∙ k) cs c in
    record {
      get_pc = λ g. asked_in s hb (d.get_pc (sym (event-at p c hc) ∙ g));
      pc_avail = λ g. asked_in s hb (d.pc_avail (ap (raises 4) (sym (call_at p c hc).said) ∙ g));
    }

-- a call in a run without such
without_from : (p : ByteWorld → Call → Bool) (v : ByteWorld) (xs : List Call) (c : Call) (ys : List Call) → byte_without p v (xs ++ c ∷ ys) ≡ true
    → (p (byte_run v xs) c ≡ false) × (byte_without p (byte_step_value (byte_run v xs) c).next ys ≡ true)
unfolding byte_without byte_run
without_from p v [] c ys e = (not-true _ (and_left (not (p v c)) _ e), and_right (not (p v c)) _ e)
without_from p v (x ∷ xs) c ys e = without_from p (byte_step_value v x).next xs c ys (and_right (not (p v x)) _ e)

unanswered : (v : ByteWorld) (cs : List Call) → byte_without byte_answers v cs ≡ true → AskedIn v cs → ⊥
unanswered v cs u t =
    let x = (without_from byte_answers v t.xs t.q t.rest (subst (λ (l : List Call). byte_without byte_answers v l ≡ true) t.split u)).1 in
    let n = (byte_step_value (byte_run v t.xs) t.q).next in
    let a = t.answered in
    let y = (without_from byte_answers n a.ys _ a.zs (subst (λ (l : List Call). byte_without byte_answers n l ≡ true) a.split x)).0 in
    true≢false (ap is_tell (sym a.accepted) ∙ y)

pub get_pc_refused : P.GetPcRefused
get_pc_refused v h e cs b k u check reply small z =
    let c = exchange (0x01 ∷ check ∷ []) reply in
    let hc = bytes check small in
    let p = run_at (next_at (stands h) e (head_handed e cs b)) cs (tail_handed e cs b) in
    unanswered (byte_step_value v e).next cs u ((ended v h e cs c b hc k).get_pc ((in_bytes (byte_since v e cs) p.holding c hc).get.1 (z, get_pc refl)))

-- ---- late answers

pub for_held : P.AnswerForHeld
for_held v h serial success d k = serials_told.for_held_lem (world_of v) serial success d (sym (event-at (stands h) (answers_with serial success d) refl) ∙ k)

pub first : P.FirstAnswer
first v h q xs b k u n success d t =
    let hq = head_handed q xs b in
    let s = next_at (stands h) q hq in
    let hb = tail_handed q xs b in
    without_at s xs hb is_tell
    ∙ serials_told.first (world_of v) q (sym (event-at (stands h) q hq) ∙ k) xs (sym (unended-at s xs hb peripheral) ∙ u)
    (subst (λ (m : ℕ). m < 2 ^ 32) (asked-at s xs hb) n) success d
    (ap (λ (w : World). event (R.since (world_of v) q xs) (answers_with (serial_of w) success d)) (sym s.world)
    ∙ sym (event-at (run_at s xs hb) (answers_with (serial_in (byte_step_value v q).next) success d) refl) ∙ t)

-- an answer that names the serial in the state bytes of u, where v holds what is there now
answer_word : {v u : ByteWorld} {w x : World} → Stands v w → Stands u x → (success : ℕ) (d : List ℕ)
    → (step w (answers_with (serial_of x) success d)).number ≡ 20
    → (byte_step_value v (answers_with (serial_in u) success d)).word ≡ 20
answer_word {v} {u} {w} s t success d e =
    subst (λ (z : State). (byte_step_value v (answers_with z.peripheral.serial success d)).word ≡ 20) (sym (state_at t))
    (word_alone 20 (call_at s (answers_with _ success d) refl).word e (peripheral_value w _))

read_at : {v : ByteWorld} {w : World} → Stands v w → S.read_length ≤ length v.read → S.read_length ≤ length w.read
read_at s l = subst (λ (t : World). S.read_length ≤ length t.read) s.world l

pub late : P.LateAnswer
late v h q cs b k ns lo hi success d l =
    let hq = head_handed q cs b in
    let s = next_at (stands h) q hq in
    let hb = tail_handed q cs b in
    let n = asked-at s cs hb in
    let p = run_at s cs hb in
    answer_word p s success d
    (serials_told.late (world_of v) q (sym (event-at (stands h) q hq) ∙ k) cs ns
    (subst (λ (m : ℕ). 0 < m) n lo) (subst (λ (m : ℕ). m < 2 ^ 32) n hi) success d (read_at p l))

pub dropped : P.DroppedAnswer
dropped v h q xs e cs b k ke ns hi success d l =
    let hq = head_handed q (xs ++ e ∷ cs) b in
    let s = next_at (stands h) q hq in
    let hb = tail_handed q (xs ++ e ∷ cs) b in
    let t = handed_parts xs (e ∷ cs) hb in
    let p = run_at s (xs ++ e ∷ cs) hb in
    answer_word p s success d
    (serials_told.dropped (world_of v) q (sym (event-at (stands h) q hq) ∙ k) xs e cs
    (sym (ends_at (run_at s xs t.0) peripheral e (head_handed e cs t.1)) ∙ ke) ns
    (subst (λ (m : ℕ). m < 2 ^ 32) (asked-at s (xs ++ e ∷ cs) hb) hi) success d (read_at p l))

-- ---- wires

-- what carries a sender over states does so over bytes, a measure being the same of both
sent-at : {v : ByteWorld} {w : World} (s : Stands v w) (f : ByteWorld → List Call → ℕ) (g : World → List Call → ℕ)
    → ((ds : List Call) → all_handed ds ≡ true → f v ds ≡ g w ds) → (k limit : ℕ) (cs : List Call) → all_handed cs ≡ true → Bd.SentBy g k limit w cs
    → P.SentBy f k limit v cs
sent-at s f g e k limit cs b t =
    let x = split-handed t.before (t.call ∷ t.after) t.split b in
    let p = run_at s t.before x.0 in
    let hc = head_handed t.call t.after x.1 in
    record {
      before = t.before;
      call = t.call;
      after = t.after;
      split = t.split;
      is_get = wire_at p t.call hc ∙ t.is_get;
      soon = subst (λ (n : ℕ). n < limit) (sym (e t.before x.0)) t.soon;
      carries = rw ((call_at p t.call hc).said, state_at p) t.carries;
    }

pub in_turn_lem : P.SentInTurn
in_turn_lem v h k d l t m cs b go n =
    let s = stands h in
    sent-at s _ _ (λ ds c. shares_at s ds c) k _ cs b
    (bound.in_turn (world_of v) (holds-sound v.state h.long h.passes) k d l t m cs b (sym (unended-at s cs b wires) ∙ go)
    (subst (λ (j : ℕ). d < j) (shares_at s cs b) n))

pub by_the_last : P.SentByTheLast
by_the_last v h k l m c B e cs b go low n =
    let s = stands h in
    sent-at s _ _ (λ ds d. gets_at s ds d) k _ cs b
    (bound.by_the_last_lem (world_of v) (holds-sound v.state h.long h.passes) k l m c B e cs b (sym (unended-at s cs b wires) ∙ go)
    (sym (below_at s cs b c) ∙ low) (subst (λ (j : ℕ). B ≤ j) (gets_at s cs b) n))

pub group_sent : P.GroupSent
group_sent v h g is m c B e cs b go low quiet n =
    let s = stands h in
    sent-at s _ _ (λ ds d. gets_at s ds d) _ _ cs b
    (bound.group (world_of v) (holds-sound v.state h.long h.passes) g is m c B e cs b (sym (unended-at s cs b wires) ∙ go)
    (sym (below_at s cs b c) ∙ low) (sym (lines_at s cs b) ∙ quiet) (subst (λ (j : ℕ). B ≤ j) (gets_at s cs b) n))

pub third : P.SentByTheThird
third v h g is m cs b go quiet n =
    let s = stands h in
    sent-at s _ _ (λ ds d. gets_at s ds d) _ _ cs b
    (bound.by_the_third (world_of v) (holds-sound v.state h.long h.passes) g is m cs b (sym (unended-at s cs b wires) ∙ go)
    (sym (lines_at s cs b) ∙ quiet) (subst (λ (k : ℕ). 3 ≤ k) (gets_at s cs b) n))

-- ---- no channel tells on another

-- what a call over bytes shows is what the call on states shows, laid over what was lent
abbrev dress : Call → Seen → ByteSeen
dress c t =
    record { word = word t.number t.value; reply = t.reply; past = drop t.value (lent_reply c); report = over t.report (lent_report c) }

unfoldable dressed : List Call → List Seen → List ByteSeen
dressed [] ts = []
dressed (c ∷ cs) [] = []
dressed (c ∷ cs) (t ∷ ts) = dress c t ∷ dressed cs ts

-- the reset in the place of a packet, or the call itself
abbrev kept : (b f : Bool) → Call → List Call
kept b f c = pick b (pick f (reset platform_reset ∷ []) []) (c ∷ [])

module _ (c : Call) (os : List Call) (ts : List Seen) (on : Call → ByteSeen) (of : Call → Seen) {xs : List ByteSeen}
    (e : on c ≡ dress c (of c)) (g : on (reset platform_reset) ≡ dress (reset platform_reset) (of (reset platform_reset))) (f : xs ≡ dressed os ts) where
  one_more : (b t : Bool) → map on (kept b t c) ++ xs ≡ dressed (kept b t c ++ os) (map of (kept b t c) ++ ts)
  unfolding dressed
  one_more true true = rw (g, f)
  one_more true false = f
  one_more false t = rw (e, f)

module _ (x : Channel) where
  seen_at : (c : Call) {o : ByteOutcome} {p : Outcome} → Meets (lent_reply c) (lent_report c) o p → byte_seen x o ≡ dress c (seen x p)
  unfolding seen
  seen_at c {o} {p} m =
      let short : length p.reply ≤ p.value = rw (← m.said, length-take, m.value) (omega arith) in
      let past : drop (value_of o.word) o.reply ≡ drop p.value (lent_reply c) =
      rw (m.value, m.reply) (past_over p.reply (lent_reply c) p.value short) in
      rw (past, m.said, m.word, m.report)

  seeing-at : {v : ByteWorld} {w : World} → Stands v w → (cs : List Call) → all_handed cs ≡ true → byte_seeing x v cs ≡ dressed (remains x w cs) (seeing x w cs)
  unfolding byte_seeing remains seeing dressed
  seeing-at {v} {w} s [] b = refl
  seeing-at {v} {w} s (c ∷ cs) b =
      let h = head_handed c cs b in
      let R = reset platform_reset in
      ap (λ (t : Bool). map (λ (d : Call). byte_seen x (byte_step_value v d)) (kept (is_call_of x c) t c)
      ++ byte_seeing x (byte_step_value v c).next cs) (falls_at s c h)
      ∙ one_more c (remains x (step w c).next cs) (seeing x (step w c).next cs) (λ (d : Call). byte_seen x (byte_step_value v d))
      (λ (d : Call). seen x (step w d))
      (seen_at c (call_at s c h)) (seen_at R (call_at s R refl)) (seeing-at {v = (byte_step_value v c).next} {w = (step w c).next} (next_at s c h) cs
      (tail_handed c cs b)) (is_call_of x c) (pltrst_falls w c)

  remains-at : {v : ByteWorld} {w : World} → Stands v w → (cs : List Call) → all_handed cs ≡ true → byte_remains x v cs ≡ remains x w cs
  unfolding byte_remains remains
  remains-at {v} {w} s [] b = refl
  remains-at {v} {w} s (c ∷ cs) b =
      let h = head_handed c cs b in
      ap₂ (λ (t : Bool) (l : List Call). kept (is_call_of x c) t c ++ l) (falls_at s c h)
      (remains-at {v = (byte_step_value v c).next} {w = (step w c).next} (next_at s c h) cs (tail_handed c cs b))

  -- runs of states that are alike, over bytes
  module _ (Same : World → World → Type 0) where
    alike_at : (v u : ByteWorld) → Holding v → Holding u → (cs ds : List Call) → all_handed cs ≡ true → all_handed ds ≡ true
        → remains x (world_of v) cs ≡ remains x (world_of u) ds → A.RunsAlike x Same (world_of v) (world_of u) cs ds → RunsAlike x Same v u cs ds
    alike_at v u hv hu cs ds b d e k =
        let s = run_at (stands hv) cs b in
        let t = run_at (stands hu) ds d in
        record {
          calls =
              seeing-at (stands hv) cs b ∙ ap (λ (l : List Call). dressed l (seeing x (world_of v) cs)) e
              ∙ ap (dressed (remains x (world_of u) ds)) k.calls ∙ sym (seeing-at (stands hu) ds d);
          after = subst (Same (world_of (byte_run v cs))) (sym t.world) (subst (λ (w : World). Same w (run (world_of u) ds)) (sym s.world) k.after);
        }

left_at : (x : Channel) (v u : ByteWorld) → Holding v → Holding u → (cs ds : List Call) → all_handed cs ≡ true → all_handed ds ≡ true
    → byte_remains x v cs ≡ byte_remains x u ds → remains x (world_of v) cs ≡ remains x (world_of u) ds
left_at x v u hv hu cs ds b d e = sym (remains-at x (stands hv) cs b) ∙ e ∙ remains-at x (stands hu) ds d

pub none_tells : P.NoneTells
none_tells x v u hv hu same cs ds b d e =
    let r = left_at x v u hv hu cs ds b d e.left in
    alike_at x (Alike x) v u hv hu cs ds b d r
    (A'.none_tells x (world_of v) (world_of u) cs ds same (λ i. sym (unhindered_at (stands hv) cs b) ∙ e.first i)
    (λ i. sym (unhindered_at (stands hu) ds d) ∙ e.second i) r)

pub wires_apart : P.WiresApart
wires_apart v u hv hu same cs ds b d e =
    let r = left_at wires v u hv hu cs ds b d e.left in
    alike_at wires SameButWires v u hv hu cs ds b d r
    (A'.wires_apart (world_of v) (world_of u) cs ds same (sym (unhindered_at (stands hv) cs b) ∙ e.first refl)
    (sym (unhindered_at (stands hu) ds d) ∙ e.second refl) r)

pub peripheral_apart : P.PeripheralApart
peripheral_apart v u hv hu same cs ds b d e =
    alike_at peripheral SameButPeripheral v u hv hu cs ds b d (A'.remains-others cs (world_of v) ∙ e ∙ sym (A'.remains-others ds (world_of u)))
    (A'.peripheral_apart (world_of v) (world_of u) cs ds same e)

pub promises : P.Promises
promises =
    record {
      bridge = bridged;
      sound = bytes-kept;
      events = events_in_bytes;
      request = request_in_bytes;
      before = before;
      held = request_held_lem;
      read = read-answered;
      failure = failure_answered;
      io_write_lem = io_write-answered;
      ended = ended;
      refused = get_pc_refused;
      for_held_lem = for_held;
      late = late;
      dropped = dropped;
      first = first;
      in_turn = in_turn_lem;
      last = by_the_last;
      group = group_sent;
      third = third;
      none_tells_lem = none_tells;
      wires_apart_lem = wires_apart;
      peripheral_apart_lem = peripheral_apart;
    }
