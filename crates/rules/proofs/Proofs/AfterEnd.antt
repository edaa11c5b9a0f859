-- After an ending event no completion is ready before a request accepted since has been answered under its own serial (P16).
use Rattle.std.specs.Prelude.{ℕ, Bool, true, false, List, [], ◌∷◌, ◌⊎◌, ◌≡◌, refl, ltb, length}
use Rattle.std.proofs.Common.{true≢false, sym, ◌∙◌, arith, eqb-true, ltb-true}
use Rattle.std.proofs.Math.Logic.{inl, inr}
use Rattle.std.proofs.Math.Path.{ap}
use Rattle.base.specs.Pick.{and_left, and_right}
use Rattle.base.specs.Bytes.{bit}
use Rattle.peripheral.specs.Status.{pc_avail, some}
use Rattle.peripheral.specs.Upward.{upward}
use Rattle.peripheral.specs.declared.Np.{Np}
use Rattle.peripheral.specs.declared.Np.TheVariants.{Free, Waiting}
use Rattle.peripheral.specs.declared.Peripheral.{Peripheral}
use Rattle.peripheral.specs.declared.Request.{Request}
use Rattle.peripheral.specs.Queues as F
use Rattle.rules.specs.Rules.Step.{World, Call, Outcome, step, run}
use Rattle.rules.specs.Statements.Requests.{Event, gets, ends, event, since, answers_with, held, serial_of, raises}
use Rattle.rules.specs.Statements.View.{Shown, Move, same, asked, told, sent, lent, dropped}
use Rattle.rules.specs.Statements.Demand3.{ToldIn, AskedIn, EventEnds}
use Rattle.rules.proofs.Proofs.Requests.{ended-event}
use Rattle.rules.proofs.Proofs.View.{view, view_as}

-- ---- the event itself: nothing is held after it

pub dropped_free : {p : Peripheral} {serial : ℕ} → p ≡ F.idle serial → p.request ≡ Free
dropped_free e = ap (λ (p : Peripheral). p.request) e

pub end_free : {w : World} {c : Call} {o : Outcome} → Move w c o ends → held o.next ≡ Free
end_free (dropped a d x) = dropped_free a

-- ---- what a run's tail has, the run has

told_later : {n : ℕ} {w : World} {c : Call} {cs : List Call} → ToldIn n (step w c).next cs → ToldIn n w (c ∷ cs)
unfolding run
told_later {n} {w} {c} {cs} t =
    record { ys = c ∷ t.ys; success = t.success; bytes = t.bytes; zs = t.zs; split = ap (λ (l : List Call). c ∷ l) t.split; accepted = t.accepted }

asked_later : {w : World} {c : Call} {cs : List Call} → AskedIn (step w c).next cs → AskedIn w (c ∷ cs)
unfolding run
asked_later {w} {c} {cs} t =
    record { xs = c ∷ t.xs; q = t.q; rest = t.rest; split = ap (λ (l : List Call). c ∷ l) t.split; accepted = t.accepted; answered = t.answered }

-- ---- a run at whose end a completion is ready

-- from nothing held, and from a request not yet answered
record Story (w : World) (cs : List Call) : Type 0 where
  from_free : held w ≡ Free → AskedIn w cs
  from_waiting : (q : Request) → held w ≡ Waiting q → ToldIn (serial_of w) w cs ⊎ AskedIn w cs

module _ (w : World) (c : Call) (cs : List Call) (s : Story (step w c).next cs) where
  free_story : (k : Event) → event w c ≡ k → held w ≡ Free → Move w c (step w c) k → AskedIn w (c ∷ cs)
  unfolding run upward
  free_story k e h (same a b d x) = asked_later (s.from_free (a ∙ h))
  free_story k e h (asked b r f a n m d y x) = go (s.from_waiting _ n)
    where
      go : ToldIn (serial_of (step w c).next) (step w c).next cs ⊎ AskedIn (step w c).next cs → AskedIn w (c ∷ cs)
      go (inl t) = record { xs = []; q = c; rest = cs; split = refl; accepted = e; answered = t }
      go (inr t) = asked_later t
  free_story k e h (told q n t d f a b l m x r y) = absurd (true≢false (cc))
  free_story k e h (sent p ps u a b d r x) = absurd (true≢false (cc))
  free_story k e h (lent write read f a b d x) = asked_later (s.from_free (a ∙ h))
  free_story k e h (dropped a d x) = asked_later (s.from_free (dropped_free a))

  still : (n : ℕ) → serial_of (step w c).next ≡ n → ToldIn (serial_of (step w c).next) (step w c).next cs ⊎ AskedIn (step w c).next cs
      → ToldIn n w (c ∷ cs) ⊎ AskedIn w (c ∷ cs)
  still n e (inl t) = inl (told_later (rw e at t))
  still n e (inr t) = inr (asked_later t)

  waiting_story : (k : Event) → event w c ≡ k → (q : Request) → held w ≡ Waiting q → Move w c (step w c) k
      → ToldIn (serial_of w) w (c ∷ cs) ⊎ AskedIn w (c ∷ cs)
  unfolding run upward
  waiting_story k e q h (same a b d x) = still _ b (s.from_waiting q (a ∙ h))
  waiting_story k e q h (asked b r f a n m d y x) = absurd (true≢false (cc))
  waiting_story k e q h (told q' n t d f a b l m x r y) =
      let named : c ≡ answers_with (serial_of w) t d = f ∙ ap (λ (m : ℕ). answers_with m t d) b in
      inl (record { ys = []; success = t; bytes = d; zs = cs; split = ap (λ (x : Call). x ∷ cs) named; accepted = ap (event w) (sym named) ∙ e })
  waiting_story k e q h (sent p ps u a b d r x) = absurd (true≢false (cc))
  waiting_story k e q h (lent write read f a b d x) = still _ b (s.from_waiting q (a ∙ h))
  waiting_story k e q h (dropped a d x) = inr (asked_later (s.from_free (dropped_free a)))

not_ready : (n : Np) → pc_avail n ≡ true → n ≡ Free → ⊥
unfolding upward
not_ready n e h = absurd (true≢false (sym e ∙ ap pc_avail h))

not_ready_waiting : (n : Np) (q : Request) → pc_avail n ≡ true → n ≡ Waiting q → ⊥
unfolding upward
not_ready_waiting n q e h = absurd (true≢false (sym e ∙ ap pc_avail h))

story : (cs : List Call) (w : World) → pc_avail (held (run w cs)) ≡ true → Story w cs
unfolding run
story [] w e =
    record { from_free = λ h. absurd (not_ready (held w) e h); from_waiting = λ q h. absurd (not_ready_waiting (held w) q e h) }
story (c ∷ cs) w e =
    let s = story cs (step w c).next e in
    record { from_free = λ h. free_story w c cs s (event w c) refl h (view w c); from_waiting = λ q h. waiting_story w c cs s (event w c) refl q h (view w c) }

-- ---- the statement

get_ready : {w : World} {c : Call} {o : Outcome} → Move w c o gets → pc_avail (held w) ≡ true
get_ready (sent p ps u a b d r x) = ap some u

bit-one : (t : Bool) → bit t ≡ 1 → t ≡ true
bit-one true e = refl
bit-one false e = absurd (omega arith)

shown_raised : (n : Np) (a : List ℕ) → Shown n a → raises 4 a ≡ true → pc_avail n ≡ true
shown_raised n a x e =
    bit-one (pc_avail n)
    (sym (x.pc (ltb-true 0 (length a) (and_left (ltb 0 (length a)) _ e))) ∙ eqb-true _ 1 (and_right (ltb 0 (length a)) _ e))

not_silent : (a : List ℕ) → a ≡ [] → raises 4 a ≡ true → ⊥
not_silent a f e = absurd (true≢false (sym e ∙ ap (raises 4) f))

raised_ready : {w : World} {c : Call} {o : Outcome} (k : Event) → raises 4 o.reply ≡ true → Move w c o k → pc_avail (held w) ≡ true
raised_ready {w} {c} {o} k e (same a b d x) = shown_raised (held w) o.reply x e
raised_ready {w} {c} {o} k e (asked b r f a n m d y x) = absurd (not_ready_waiting (held o.next) _ (shown_raised (held o.next) o.reply x e) n)
raised_ready {w} {c} {o} k e (told q n t d f a b l m x r y) = absurd (not_silent o.reply y e)
raised_ready {w} {c} {o} k e (sent p ps u a b d r x) = ap some u
raised_ready {w} {c} {o} k e (lent write read f a b d x) = absurd (not_silent o.reply x e)
raised_ready {w} {c} {o} k e (dropped a d x) = shown_raised (held w) o.reply x e

pub ended : EventEnds
ended w e k cs c =
    let free : held (step w e).next ≡ Free = end_free (view_as w e (ended-event w e k)) in
    let at = since w e cs in
    record {
      get_pc = λ g. (story cs (step w e).next (get_ready (view_as at c g))).from_free free;
      pc_avail = λ g. (story cs (step w e).next (raised_ready (event at c) g (view at c))).from_free free;
    }
