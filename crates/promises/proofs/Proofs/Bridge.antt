-- Byte runs and runs of `step` side by side: each word of Words is that of the state's run.
use Rattle.std.specs.Prelude.{ℕ, Bool, true, List, [], ◌∷◌, ◌≡◌, refl}
use Rattle.std.proofs.Common.{ap, ◌∙◌, subst}
use Rattle.base.specs.Pick.{and_left, and_right}
use Rattle.rules.specs.Rules.Channel.{Channel}
use Rattle.rules.specs.Rules.Step.{World, Call, step, run, handed_over, all_handed}
use Rattle.rules.specs.Statements.Events.{pltrst_falls, ends, unended}
use Rattle.rules.specs.Statements.Requests.{Event, event_of, event, without, got, got_by, same_store, store_handed_on, read_handed_on}
use Rattle.rules.specs.Statements.Answers.{asked_times}
use Rattle.rules.specs.Statements.Words.{pltrst_read}
use Rattle.rules.specs.Statements.WireView.{reads_wire}
use Rattle.rules.specs.Statements.Bound.{share_in, shares_in, gets_below, line_waits}
use Rattle.rules.specs.Statements.Apart.{edge_refuses}
use Rattle.rules.specs.Statements.WireEvents.{wire_event_of, wire_event, gets_in}
use Rattle.promises.specs.ByteRuns.{ByteWorld, byte_step_value, byte_run}
use Rattle.promises.specs.Statements.Lifted.{Holding, world_of, lent_reply, lent_report, Meets}
use Rattle.promises.proofs.Proofs.Lifted.{call_lifts, run_lifts}
use Rattle.promises.specs.Statements.Words.{state_in, byte_ends, byte_falls, byte_pltrst, byte_unended, byte_event, byte_wire_event, byte_without, byte_got_by, byte_got}
use Rattle.promises.specs.Statements.Words.{byte_asked_times, byte_handed_on, byte_gets_in, byte_share_in, byte_shares_in, byte_gets_below, byte_line_waits, byte_edge_refuses}

-- the bytes v hold the world w
pub record Stands (v : ByteWorld) (w : World) : Type 0 where
  pub holding : Holding v
  pub world : world_of v ≡ w

pub stands : {v : ByteWorld} → Holding v → Stands v (world_of v)
stands h = record { holding = h; world = refl }

pub head_handed : (c : Call) (cs : List Call) → all_handed (c ∷ cs) ≡ true → handed_over c ≡ true
unfolding all_handed
head_handed c cs b = and_left (handed_over c) _ b

pub tail_handed : (c : Call) (cs : List Call) → all_handed (c ∷ cs) ≡ true → all_handed cs ≡ true
unfolding all_handed
tail_handed c cs b = and_right (handed_over c) _ b

-- ---- one call

module _ {v : ByteWorld} {w : World} (s : Stands v w) where
  pub state_at : state_in v ≡ w.state
  state_at = ap (λ (t : World). t.state) s.world

  pub call_at : (c : Call) → handed_over c ≡ true → Meets (lent_reply c) (lent_report c) (byte_step_value v c) (step w c)
  call_at c b = subst (λ (t : World). Meets (lent_reply c) (lent_report c) (byte_step_value v c) (step t c)) s.world (call_lifts v s.holding c b)

  pub next_at : (c : Call) → handed_over c ≡ true → Stands (byte_step_value v c).next (step w c).next
  next_at c b = let m = call_at c b in record { holding = m.holding; world = m.world }

  pub run_at : (cs : List Call) → all_handed cs ≡ true → Stands (byte_run v cs) (run w cs)
  run_at cs b =
      let r = run_lifts v s.holding cs b in
      record { holding = r.holding; world = r.world ∙ ap (λ (t : World). run t cs) s.world }

  pub falls_at : (c : Call) → handed_over c ≡ true → byte_falls v c ≡ pltrst_falls w c
  falls_at c b = rw ((call_at c b).number, state_at)

  pub refuses_at : (c : Call) → handed_over c ≡ true → byte_edge_refuses v c ≡ edge_refuses w c
  refuses_at c b = rw ((call_at c b).number, state_at)

  pub pltrst-at : byte_pltrst v ≡ pltrst_read w
  pltrst-at = (call_at (reads_wire 3 1) refl).value

  pub ends_at : (k : Channel) (c : Call) → handed_over c ≡ true → byte_ends k v c ≡ ends k w c
  ends_at k c b = rw ((call_at c b).number, state_at)

  pub event-at : (c : Call) → handed_over c ≡ true → byte_event v c ≡ event w c
  unfolding byte_event event_of
  event-at c b = rw ((call_at c b).number, state_at)

  pub wire_at : (c : Call) → handed_over c ≡ true → byte_wire_event v c ≡ wire_event w c
  unfolding byte_wire_event wire_event_of
  wire_at c b = rw ((call_at c b).number, state_at)

  pub got_by_lem : (c : Call) → handed_over c ≡ true → byte_got_by v c ≡ got_by w c
  got_by_lem c b = rw (event-at c b, (call_at c b).said)

-- ---- runs

-- one induction: f of a byte run is g of the state's, if it is so of no call and of one call more
module _ {A : Type 0} (f : ByteWorld → List Call → A) (g : World → List Call → A) (none : (v : ByteWorld) (w : World) → f v [] ≡ g w [])
    (more : (v : ByteWorld) (w : World) (s : Stands v w) (c : Call) (cs : List Call) → handed_over c ≡ true
    → f (byte_step_value v c).next cs ≡ g (step w c).next cs → f v (c ∷ cs) ≡ g w (c ∷ cs)) where
  along : {v : ByteWorld} {w : World} → Stands v w → (cs : List Call) → all_handed cs ≡ true → f v cs ≡ g w cs
  along {v} {w} s [] b = none v w
  along {v} {w} s (c ∷ cs) b = let h = head_handed c cs b in more v w s c cs h
      (along {v = (byte_step_value v c).next} {w = (step w c).next} (next_at s c h) cs (tail_handed c cs b))

module _ {v : ByteWorld} {w : World} (s : Stands v w) (cs : List Call) (b : all_handed cs ≡ true) where
  pub without_at : (p : Event → Bool) → byte_without (λ v c. p (byte_event v c)) v cs ≡ without (λ w c. p (event w c)) w cs
  unfolding byte_without without
  without_at p = along (byte_without (λ v c. p (byte_event v c))) (without (λ w c. p (event w c))) (λ v w. refl)
      (λ v w s c cs h e. rw (event-at s c h, e)) s cs b

  pub unhindered_at : byte_without byte_edge_refuses v cs ≡ without edge_refuses w cs
  unfolding byte_without without
  unhindered_at = along (byte_without byte_edge_refuses) (without edge_refuses) (λ v w. refl) (λ v w s c cs h e. rw (refuses_at s c h, e)) s cs b

  pub unended-at : (k : Channel) → byte_unended k v cs ≡ unended k w cs
  unfolding byte_without unended
  unended-at k = along (byte_unended k) (unended k) (λ v w. refl) (λ v w s c cs h e. rw (ends_at s k c h, e)) s cs b

  pub got-at : byte_got v cs ≡ got w cs
  unfolding byte_got got
  got-at = along byte_got got (λ v w. refl) (λ v w s c cs h e. rw (got_by_lem s c h, e)) s cs b

  pub asked-at : byte_asked_times v cs ≡ asked_times w cs
  unfolding byte_asked_times asked_times
  asked-at = along byte_asked_times asked_times (λ v w. refl) (λ v w s c cs h e. rw (event-at s c h, e)) s cs b

  pub gets_at : byte_gets_in v cs ≡ gets_in w cs
  unfolding byte_gets_in gets_in
  gets_at = along byte_gets_in gets_in (λ v w. refl) (λ v w s c cs h e. rw (wire_at s c h, e)) s cs b

module _ {v : ByteWorld} {w : World} (s : Stands v w) where
  share-at : (c : Call) → handed_over c ≡ true → byte_share_in v c ≡ share_in w c
  share-at c b = rw (wire_at s c b, state_at s)

  low_at : (n : ℕ) (c : Call) → handed_over c ≡ true → byte_gets_below n v c ≡ gets_below n w c
  low_at n c b = rw (wire_at s c b, state_at s)

  line_at : (c : Call) → byte_line_waits v c ≡ line_waits w c
  line_at c = rw (state_at s)

module _ {v : ByteWorld} {w : World} (s : Stands v w) (cs : List Call) (b : all_handed cs ≡ true) where
  pub shares_at : byte_shares_in v cs ≡ shares_in w cs
  unfolding byte_shares_in shares_in
  shares_at = along byte_shares_in shares_in (λ v w. refl) (λ v w s c cs h e. rw (share-at s c h, e)) s cs b

  pub below_at : (n : ℕ) → byte_without (byte_gets_below n) v cs ≡ without (gets_below n) w cs
  unfolding byte_without without
  below_at n = along (byte_without (byte_gets_below n)) (without (gets_below n)) (λ v w. refl) (λ v w s c cs h e. rw (low_at s n c h, e)) s cs b

  pub lines_at : byte_without byte_line_waits v cs ≡ without line_waits w cs
  unfolding byte_without without
  lines_at = along (byte_without byte_line_waits) (without line_waits) (λ v w. refl) (λ v w s c cs h e. rw (line_at s c, e)) s cs b

pub handed-on : {v : ByteWorld} {w : World} → Stands v w → (cs : List Call) → all_handed cs ≡ true → byte_handed_on v cs → read_handed_on w cs
unfolding byte_handed_on store_handed_on
handed-on {v} {w} s [] b k = tt
handed-on {v} {w} s (c ∷ cs) b k =
    let h = head_handed c cs b in (
      subst (λ (t : World). same_store (λ (x : World). x.read) t c) s.world k.0,
      handed-on {v = (byte_step_value v c).next} {w = (step w c).next}
          (next_at s c h) cs (tail_handed c cs b) k.1,
    )
