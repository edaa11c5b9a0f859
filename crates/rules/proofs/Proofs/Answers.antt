-- Serials over runs (P14): what is given, to whom an answer goes, and a late answer told apart.
use Rattle.std.specs.Prelude.{ℕ, ◌+◌, ◌%◌, ◌^◌, ◌≤◌, ◌<◌, Bool, true, false, ◌&&◌, not, List, [], ◌∷◌, ◌++◌, ◌≡◌, refl, eqb, length}
use Rattle.std.proofs.Common.{true≢false, sym, ap, ◌∙◌, mod-lt, arith, eqb-true, le-ltb}
use Rattle.std.proofs.lemmas.Bool.{eqb-false, not-true}
use Rattle.base.specs.Pick.{pick, pick_ind, and_left, and_right, and_true}
use Rattle.base.specs.Bytes.{bit}
use Rattle.peripheral.specs.Upward.{handed, next_of, after_success}
use Rattle.peripheral.specs.declared.Kind.{Kind}
use Rattle.peripheral.specs.declared.Kind.TheVariants as R
use Rattle.peripheral.specs.declared.Np.{Np}
use Rattle.peripheral.specs.declared.Np.TheVariants.{Free, Waiting, Ready, Failed}
use Rattle.peripheral.specs.declared.Peripheral.{Peripheral}
use Rattle.peripheral.specs.declared.Request.{Request}
use Rattle.rules.specs.Rules.Plan.{PeripheralChange}
use Rattle.rules.specs.Rules.Peripheral.{succeeded, answer}
use Rattle.rules.specs.Rules.Channel.{peripheral}
use Rattle.rules.specs.Rules.Lift.{lift}
use Rattle.rules.specs.Rules.Step.{World, Call, reset, exchange, board, short, lend, Outcome, step, run, served, read_length}
use Rattle.rules.specs.Statements.Peripheral as P
use Rattle.rules.specs.Statements.Peripheral.{unanswered}
use Rattle.rules.specs.Statements.Events as E
use Rattle.rules.specs.Statements.Events.{accepted, unended}
use Rattle.rules.specs.Statements.Requests.{Event, idle, asks, tells, gets, ends, lends, event, is_start, is_ask, is_end, is_tell, answers_with, without, answers, requests, held, serial_of}
use Rattle.rules.specs.Statements.View.{Move, same, asked, told, sent, lent, dropped, answered_as}
use Rattle.rules.specs.Statements.Answers.{SerialGiven, ForHeld, AnswerForHeld, asked_times, no_start_value, LateAnswer, DroppedAnswer, FirstAnswer, Serials}
use Rattle.rules.proofs.Proofs.Peripheral as L
use Rattle.rules.proofs.Proofs.Cases.{reset-is, board_long}
use Rattle.rules.proofs.Proofs.Events.{head_unended, tail_unended, head_without, tail_without}
use Rattle.rules.proofs.Proofs.Requests.{end_is, ended-event, same_answer}
use Rattle.rules.proofs.Proofs.View.{view, view_as}
use Rattle.rules.proofs.Proofs.AfterEnd.{dropped_free, end_free}
use Rattle.rules.proofs.Proofs.Owed.{free_run}

-- ---- what is given

-- a start is an ending event and nothing else
start_ends : (w : World) (c : Call) → is_start c ≡ true → event w c ≡ ends
start_ends w (reset r) e = ended-event w (reset r) (ap (λ (o : Outcome). accepted o && true) (reset-is w r))
start_ends w (exchange b r) e = absurd (true≢false (sym e))
start_ends w (board k o) e = absurd (true≢false (sym e))
start_ends w (short state c) e = absurd (true≢false (sym e))
start_ends w (lend write read) e = absurd (true≢false (sym e))

-- a call of another kind is no start
no_start : (w : World) (c : Call) (k : Event) → event w c ≡ k → is_end k ≡ false → is_start c ≡ false
no_start w c k e f = go (is_start c) refl
  where
    go : (t : Bool) → is_start c ≡ t → t ≡ false
    go true s = let d : k ≡ ends = sym e ∙ start_ends w c s in sym (ap is_end d) ∙ f
    go false s = refl

serial_by : (w : World) (c : Call) (k : Event) → event w c ≡ k → Move w c (step w c) k
    → serial_of (step w c).next ≡ pick (is_ask k) ((serial_of w + 1) % 2 ^ 32) (pick (is_start c) 0 (serial_of w))
serial_by w c k e (same a b d v) = rw (no_start w c idle e refl) b
serial_by w c k e (asked b r f a m y d z v) = y
serial_by w c k e (told p m t d f a b i n v r z) = rw (no_start w c tells e refl) v
serial_by w c k e (sent p ps u a b d r v) = rw (no_start w c gets e refl) b
serial_by w c k e (lent write read f a b d v) = rw (no_start w c lends e refl) b
serial_by w c k e (dropped a d v) = ap (λ (p : Peripheral). p.serial) a

pub serial_given : SerialGiven
serial_given w c = serial_by w c (event w c) refl (view w c)

-- ---- to whom an answer goes

held_by : {w : World} {serial success : ℕ} {d : List ℕ} {o : Outcome} → Move w (answers_with serial success d) o tells → ForHeld w serial
held_by {w} {serial} {success} {d} (told p m t e f a b i n v r z) =
    record { request = p; waits = a; named = (same_answer f).serial ∙ b }

pub answer_for_held : AnswerForHeld
answer_for_held w serial success d e = held_by (view_as w (answers_with serial success d) e)

-- ---- a late answer

-- an answer with a long enough store that names no held unanswered request's serial
none_named : {p : Peripheral} {serial success : ℕ} {d : List ℕ} {x : PeripheralChange} → ((q : Request) → p.request ≡ Waiting q → serial ≡ p.serial → ⊥)
    → P.Settled p (answer serial success d) x → x.out.number ≡ 20
none_named never (P.no_such e) = refl
none_named never (P.miscounted e f g) = absurd (never _ e f)
none_named never (P.succeeds e f g h) = absurd (never _ e f)
none_named never (P.fails e f g h) = absurd (never _ e f)

refused_20 : (w : World) (serial success : ℕ) (d : List ℕ) → read_length ≤ length w.read → ((q : Request) → held w ≡ Waiting q → serial ≡ serial_of w → ⊥)
    → (step w (answers_with serial success d)).number ≡ 20
unfolding served lift
refused_20 w serial success d l never =
    ap (λ (o : Outcome). o.number) (board_long peripheral w (answer serial success d) (le-ltb _ _ l))
    ∙ none_named never (L.settles w.state.config w.state.peripheral (answer serial success d))

-- one call that is no start
counted : (w : World) (c : Call) → is_start c ≡ false → serial_of w < 2 ^ 32 → serial_of (step w c).next ≡ (serial_of w + pick (requests w c) 1 0) % 2 ^ 32
counted w c s h = serial_given w c ∙ by (requests w c)
  where
    by : (t : Bool) → pick t ((serial_of w + 1) % 2 ^ 32) (pick (is_start c) 0 (serial_of w)) ≡ (serial_of w + pick t 1 0) % 2 ^ 32
    by true = refl
    by false = rw s (omega arith)

serials : (cs : List Call) (w : World) → serial_of w < 2 ^ 32 → no_start_value cs ≡ true → serial_of (run w cs) ≡ (serial_of w + asked_times w cs) % 2 ^ 32
unfolding run asked_times no_start_value
serials [] w h q = omega arith
serials (c ∷ cs) w h q =
    let e = counted w c (not-true _ (and_left (not (is_start c)) _ q)) h in
    let l : serial_of (step w c).next < 2 ^ 32 = rw e (mod-lt _ (omega arith)) in
    serials cs (step w c).next l (and_right (not (is_start c)) _ q) ∙ omega (arith, e)

-- a request's serial
given_below : (w : World) (q : Call) → event w q ≡ asks → serial_of (step w q).next < 2 ^ 32
given_below w q k = rw (serial_given w q, k) (mod-lt _ (omega arith))

pub late_answer : LateAnswer
late_answer w q k cs s some few success d l =
    refused_20 (run (step w q).next cs) (serial_of (step w q).next) success d l
    (λ p h e. absurd (omega (arith, serials cs (step w q).next (given_below w q k) s, given_below w q k)))

-- ---- a dropped request's answer

run-append : (xs : List Call) (w : World) (ys : List Call) → run w (xs ++ ys) ≡ run (run w xs) ys
unfolding run
run-append [] w ys = refl
run-append (c ∷ xs) w ys = run-append xs (step w c).next ys

asked-append : (xs : List Call) (w : World) (ys : List Call) → asked_times w (xs ++ ys) ≡ asked_times w xs + asked_times (run w xs) ys
unfolding run asked_times
asked-append [] w ys = omega arith
asked-append (c ∷ xs) w ys = rw (asked-append xs (step w c).next ys) (omega arith)

none_asked : (cs : List Call) (w : World) → asked_times w cs ≡ 0 → without requests w cs ≡ true
unfolding asked_times without
none_asked [] w e = refl
none_asked (c ∷ cs) w e =
    and_true (by (requests w c) (omega arith)) (none_asked cs (step w c).next (omega arith))
  where
    by : (t : Bool) → bit t ≡ 0 → not t ≡ true
    by true h = absurd (omega arith)
    by false h = refl

freed : (w : World) (e : Call) (cs : List Call) → E.ends peripheral w e ≡ true → asked_times w (e ∷ cs) ≡ 0 → held (run w (e ∷ cs)) ≡ Free
unfolding run asked_times
freed w e cs d z = free_run cs (step w e).next (end_free (view_as w e (ended-event w e d))) (none_asked cs (step w e).next (omega arith))

pub dropped-answer : DroppedAnswer
dropped-answer w q k xs e cs d s few success bytes l = by (eqb n 0) refl
  where
    n : ℕ
    n = asked_times (step w q).next (xs ++ e ∷ cs)

    by : (t : Bool) → eqb n 0 ≡ t → (step (run (step w q).next (xs ++ e ∷ cs)) (answers_with (serial_of (step w q).next) success bytes)).number ≡ 20
    by true z =
        let free : held (run (step w q).next (xs ++ e ∷ cs)) ≡ Free =
        ap held (run-append xs (step w q).next (e ∷ cs))
        ∙ freed (run (step w q).next xs) e cs d (omega (arith, asked-append xs (step w q).next (e ∷ cs), eqb-true n 0 z)) in
        refused_20 (run (step w q).next (xs ++ e ∷ cs)) (serial_of (step w q).next) success bytes l (λ p h m. absurd (true≢false (cc)))
    by false z = late_answer w q k (xs ++ e ∷ cs) s (omega (arith, eqb-false n 0 z)) few success bytes l

-- ---- the first answer

unended_unstarted : (xs : List Call) (w : World) → unended peripheral w xs ≡ true → no_start_value xs ≡ true
unfolding without no_start_value
unended_unstarted [] w e = refl
unended_unstarted (c ∷ xs) w e =
    and_true (ap not (no_start w c (event w c) refl (end_is w c ∙ head_unended peripheral w c xs e)))
    (unended_unstarted xs (step w c).next (tail_unended peripheral w c xs e))

-- answered or free: not to be answered again without another request

handed-done : (n : Np) → unanswered n ≡ false → unanswered (handed n) ≡ false
unfolding handed
handed-done Free e = refl
handed-done (Waiting q) e = e
handed-done (Ready q s) e = by q.kind
  where
    by : (k : Kind) → unanswered (after_success k q s) ≡ false
    by R.MemoryRead = pick_ind (λ (n : Np). unanswered n ≡ false) (eqb (s + next_of q s) q.length) (λ _. refl) (λ _. refl)
    by R.IoRead = pick_ind (λ (n : Np). unanswered n ≡ false) (eqb (s + next_of q s) q.length) (λ _. refl) (λ _. refl)
    by R.IoWrite = refl
handed-done (Failed q) e = refl

answered-done : (q : Request) (t : Bool) → unanswered (answered_as q t) ≡ false
answered-done q true = refl
answered-done q false = refl

done-step : (w : World) (c : Call) (k : Event) → unanswered (held w) ≡ false → is_ask k ≡ false → Move w c (step w c) k
    → unanswered (held (step w c).next) ≡ false
done-step w c k h f (same a b d v) = ap unanswered a ∙ h
done-step w c k h f (asked b r g a m n d z v) = absurd (true≢false f)
done-step w c k h f (told p m t d g a b i n v r z) = ap unanswered n ∙ answered-done p (succeeded t)
done-step w c k h f (sent p ps u a b d r v) = ap unanswered a ∙ handed-done (held w) h
done-step w c k h f (lent write read g a b d v) = ap unanswered a ∙ h
done-step w c k h f (dropped a d v) = ap unanswered (dropped_free a)

done-run : (cs : List Call) (w : World) → unanswered (held w) ≡ false → without requests w cs ≡ true → unanswered (held (run w cs)) ≡ false
unfolding run
done-run [] w h e = h
done-run (c ∷ cs) w h e =
    done-run cs (step w c).next (done-step w c (event w c) h (head_without requests w c cs e) (view w c)) (tail_without requests w c cs e)

told_done : {w : World} {c : Call} {o : Outcome} → Move w c o tells → unanswered (held o.next) ≡ false
told_done (told p m t d g a b i n v r z) = ap unanswered n ∙ answered-done p (succeeded t)

untold : (cs : List Call) (w : World) → without requests w cs ≡ true → unanswered (held (run w cs)) ≡ true → without answers w cs ≡ true
unfolding run without
untold [] w e h = refl
untold (c ∷ cs) w e h = and_true (by (event w c) refl) (untold cs (step w c).next (tail_without requests w c cs e) h)
  where
    by : (k : Event) → event w c ≡ k → not (is_tell k) ≡ true
    by idle f = refl
    by asks f = refl
    by tells f =
        absurd (true≢false (sym h ∙ done-run cs (step w c).next (told_done (view_as w c f)) (tail_without requests w c cs e)))
    by gets f = refl
    by ends f = refl
    by lends f = refl

pub first_answer : FirstAnswer
first_answer w q k xs u few success d t =
    let f = answer_for_held (run (step w q).next xs) (serial_of (step w q).next) success d t in
    let below = given_below w q k in
    let e = serials xs (step w q).next below (unended_unstarted xs (step w q).next u) in
    let none : asked_times (step w q).next xs ≡ 0 = omega (arith, f.named) in
    untold xs (step w q).next (none_asked xs (step w q).next none) (ap unanswered f.waits)

pub serials_told : Serials
serials_told = record { given = serial_given; for_held_lem = answer_for_held; late = late_answer; dropped = dropped-answer; first = first_answer }
