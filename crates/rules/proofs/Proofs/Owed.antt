-- Completions owed, over any run: each accepted GET_PC hands over the next, one is accepted while any is owed, and replies show it.
use Prim.Native.Nat.{ℕ, zero, suc, ◌+◌, ◌-◌, ◌≤◌, ◌<◌}
use Rattle.std.specs.Prelude.{Bool, true, false, ◌&&◌, ◌||◌, not, ◌≡◌, length, take}
use Rattle.std.proofs.Common.{true≢false, sym, ap, ◌∙◌, arith, add-zero, zero-add, length-append, take_at}
use mathlib.Core.List.{List, [], ◌∷◌, ◌++◌, append_assoc}
use Rattle.std.proofs.Math.Path.{refl, subst}
use Rattle.base.specs.Bytes.{low2, bit}
use Rattle.crc.specs.Crc.{crc}
use Rattle.registers.specs.Registers.{crc_checked}
use Rattle.registers.specs.declared.Config.{Config}
use Rattle.command.specs.Decode.{admit}
use Rattle.command.specs.declared.Command.TheVariants as C
use Rattle.command.specs.declared.PeripheralCommand.TheVariants.{GetPc}
use Rattle.peripheral.specs.Status.{np_free, pc_avail, some}
use Rattle.peripheral.specs.Upward.{upward, handed}
use Rattle.peripheral.specs.declared.Completion.{Completion}
use Rattle.peripheral.specs.declared.Np.{Np}
use Rattle.peripheral.specs.declared.Np.TheVariants.{Free, Waiting, Ready, Failed}
use Rattle.peripheral.specs.declared.Peripheral.{Peripheral}
use Rattle.state.specs.Status.{status}
use Rattle.state.specs.State.{State}
use Rattle.state.specs.Facts.{sound_off}
use Rattle.state.specs.Sound.{Sound}
use Rattle.rules.specs.Rules.Plan.{PeripheralChange}
use Rattle.rules.specs.Rules.Peripheral as P₀
use Rattle.rules.specs.Rules.Channel.{peripheral, on}
use Rattle.rules.specs.Rules.Lift.{lift}
use Rattle.rules.specs.Rules.Reply.{closed, header_bytes, data_bytes}
use Rattle.rules.specs.Rules.Step.{World, Call, exchange, Outcome, step, run, performed, short_stores, all_handed}
use Rattle.rules.specs.Statements.Cases.{Admits}
use Rattle.rules.specs.Statements.Peripheral.{Did, none_ready, handed_over}
use Rattle.rules.specs.Statements.Fields.{crc_right}
use Rattle.rules.specs.Statements.Events.{unended}
use Rattle.rules.specs.Statements.Requests.{Event, gets, event, is_end, is_tell, is_ask, without, answers, requests, got, got_by, completion_in, held, shows_bit, same_store, store_handed_on, read_handed_on}
use Rattle.rules.specs.Statements.View.{Shown, Move, same, asked, told, sent, lent, dropped}
use Rattle.rules.specs.Statements.Demand3.{crc_fine, Over, Delivers, joined_data, data_in}
use Rattle.rules.proofs.Proofs.Plans.{did, plan_admitted}
use Rattle.rules.proofs.Proofs.Cases.{exchange_long}
use Rattle.rules.proofs.Proofs.Sound.{sound-run}
use Rattle.rules.proofs.Proofs.Events.{head_unended, tail_unended, head_without, tail_without}
use Rattle.rules.proofs.Proofs.Requests.{end_is}
use Rattle.rules.proofs.Proofs.View.{view, view_as}
use Rattle.rules.proofs.Proofs.AfterEnd.{dropped_free}

-- ---- a GET_PC is accepted while a completion is ready

-- "no queue is held while channel 0 is off"
held_on : (s : State) → Sound s → np_free s.peripheral.request ≡ false → on peripheral s.config ≡ true
held_on s d h = go (on peripheral s.config) refl
  where
    go : (t : Bool) → on peripheral s.config ≡ t → t ≡ true
    go true e = refl
    go false e = absurd (true≢false (sym (ap np_free (sound_off s d.is_sound e).request) ∙ h))

ready_taken : (n : Np) (k : Completion) (ks : List Completion) → upward n ≡ k ∷ ks → np_free n ≡ false
unfolding upward
ready_taken Free k ks e = absurd (true≢false (cc))
ready_taken (Waiting q) k ks e = refl
ready_taken (Ready q s) k ks e = refl
ready_taken (Failed q) k ks e = refl

get_admitted : (s : State) (check : ℕ) → on peripheral s.config ≡ true → crc_fine s (0x01 ∷ check ∷ []) ≡ true
    → Admits s (0x01 ∷ check ∷ []) (C.Peripheral GetPc)
unfolding admit
get_admitted s check on fine = rw (on, unchecked (crc_checked s.config.r008) (crc_right (0x01 ∷ check ∷ [])) fine)
  where
    unchecked : (c g : Bool) → not c || g ≡ true → c && not g ≡ false
    unchecked true true e = refl
    unchecked true false e = sym e
    unchecked false g e = refl

ready_number : {c : Config} {p : Peripheral} {x : PeripheralChange} (k : Completion) (ks : List Completion) → upward p.request ≡ k ∷ ks → Did c p P₀.gets x
    → x.out.number ≡ 0
ready_number k ks u (none_ready e) = absurd (true≢false (cc))
ready_number k ks u (handed_over e) = refl

get_accepted : (w : World) (check : ℕ) (reply : List ℕ) (k : Completion) (ks : List Completion) → Sound w.state → upward (held w) ≡ k ∷ ks
    → short_stores reply w ≡ false → crc_fine w.state (0x01 ∷ check ∷ []) ≡ true → (step w (exchange (0x01 ∷ check ∷ []) reply)).number ≡ 0
unfolding performed lift
get_accepted w check reply k ks d u long fine =
    let b : List ℕ = 0x01 ∷ check ∷ [] in
    let known = get_admitted w.state check (held_on w.state d (ready_taken (held w) k ks u)) fine in
    ap (λ (o : Outcome). o.number)
    (exchange_long w b reply long ∙ ap (performed w b) (plan_admitted peripheral w.state b GetPc known))
    ∙ ready_number k ks u (did peripheral w.state.config w.state.peripheral P₀.gets)

-- ---- completions owed

-- n completions are owed, the k-th of a sequence and those after it
abbrev pub Owes : (ℕ → Completion) → (k n : ℕ) → Np → Type 0
Owes comp k zero h = h ≡ Free
Owes comp k (suc n) h = (upward h ≡ comp k ∷ []) × Owes comp (suc k) n (handed h)

-- the body of a completion whose data the read store has
abbrev pub body_of : Completion → List ℕ → List ℕ
body_of k rd = header_bytes k ++ data_bytes k rd

-- what a call does while a completion is owed, where it is no ending event and hands on the read store rd
data Goes (comp : ℕ → Completion) (rd : List ℕ) (k n : ℕ) (w : World) (c : Call) : Type 0 where
  stays : got_by w c ≡ [] → Owes comp k (suc n) (held (step w c).next) → (step w c).next.read ≡ rd → Goes comp rd k n w c
  moves : (st : ℕ) → got_by w c ≡ closed (0x08 ∷ body_of (comp k) rd) st ∷ [] → Owes comp (suc k) n (held (step w c).next) → (step w c).next.read ≡ rd
      → Goes comp rd k n w c

module _ (comp : ℕ → Completion) (rd : List ℕ) (k n : ℕ) (w : World) (i : w.read ≡ rd) where
  goes : (c : Call) (x : Event) → event w c ≡ x → Owes comp k (suc n) (held w) → is_end x ≡ false → same_store (λ v. v.read) w c → Move w c (step w c) x
      → Goes comp rd k n w c
  unfolding upward
  goes c x e o q s (same a b d v) = stays (rw e) (rw a o) (d ∙ i)
  goes c x e o q s (asked b r f a m y d z v) = absurd (true≢false (cc o.0))
  goes c x e o q s (told p m t d f a b l y v r z) = absurd (true≢false (cc o.0))
  goes c x e o q s (sent p ps u a b d r v) =
      let here : p ≡ comp k = cc o.0 in
      moves (status (step w c).next.state) (rw (e, r, here, i)) (rw a o.1) (d ∙ i)
  goes c x e o q s (lent write read f a b d v) = stays (rw e) (rw a o) (d ∙ rw f at s ∙ i)
  goes c x e o q s (dropped a d v) = absurd (true≢false (cc))

-- ---- the data of a reply

data_of : (d s : List ℕ) → length s ≡ 3 → take (suc (suc (suc (suc (length (d ++ s))))) - 7) (d ++ s) ≡ d
data_of d s e = take_at d s (suc (suc (suc (suc (length (d ++ s))))) - 7) (omega (arith, length-append d s))

data_in_lem : (k : Completion) (rd : List ℕ) (st : ℕ) → data_in (closed (0x08 ∷ body_of k rd) st) ≡ data_bytes k rd
unfolding closed
data_in_lem k rd st =
    let check = crc (0x08 ∷ body_of k rd ++ low2 st) ∷ [] in
    ap (λ (l : List ℕ). take (suc (suc (suc (suc (length l)))) - 7) l) (append_assoc (data_bytes k rd) (low2 st) check)
    ∙ data_of (data_bytes k rd) (low2 st ++ check) refl

unfoldable pub datas : (ℕ → Completion) → List ℕ → (k n : ℕ) → List ℕ
datas comp rd k zero = []
datas comp rd k (suc n) = data_bytes (comp k) rd ++ datas comp rd (suc k) n

-- ---- runs while completions are owed

record Left (comp : ℕ → Completion) (rd : List ℕ) (k n : ℕ) (w : World) (cs : List Call) : Type 0 where
  owes : (j : ℕ) → length (got w cs) + suc j ≡ n → Owes comp (k + length (got w cs)) (suc j) (held (run w cs))
  read : (j : ℕ) → length (got w cs) + suc j ≡ n → (run w cs).read ≡ rd
  joins : length (got w cs) ≤ n → joined_data (got w cs) ≡ datas comp rd k (length (got w cs))

same_left : {j n : ℕ} → 0 + suc j ≡ suc n → j ≡ n
same_left h = omega arith

nothing_got : (l : List (List ℕ)) → length l ≤ 0 → [] ≡ l
nothing_got [] h = refl
nothing_got (x ∷ l) h = absurd (omega arith)

module _ (comp : ℕ → Completion) (rd : List ℕ) where
  left_stays : (k n : ℕ) (w : World) (c : Call) (cs : List Call) → got_by w c ≡ [] → Left comp rd k n (step w c).next cs → Left comp rd k n w (c ∷ cs)
  unfolding got run
  left_stays k n w c cs e l = record { owes = rw e l.owes; read = rw e l.read; joins = rw e l.joins }

  left_moves : (k n : ℕ) (w : World) (c : Call) (cs : List Call) (st : ℕ) → got_by w c ≡ closed (0x08 ∷ body_of (comp k) rd) st ∷ []
      → Left comp rd (suc k) n (step w c).next cs → Left comp rd k (suc n) w (c ∷ cs)
  unfolding got run joined_data datas
  left_moves k n w c cs st e l =
      record {
        owes = rw e (λ j h. subst (λ (m : ℕ). Owes comp m (suc j) (held (run (step w c).next cs))) (omega arith) (l.owes j (omega arith)));
        read = rw e (λ j h. l.read j (omega arith));
        joins = rw e (λ h. rw (data_in_lem (comp k) rd st, l.joins (omega arith)));
      }

  left : (cs : List Call) (k n : ℕ) (w : World) → Owes comp k n (held w) → w.read ≡ rd → unended peripheral w cs ≡ true → read_handed_on w cs
      → Left comp rd k n w cs
  unfolding got run joined_data datas store_handed_on
  left [] k zero w o i q s = record { owes = λ j h. absurd (omega arith); read = λ j h. i; joins = λ h. refl }
  left [] k (suc n) w o i q s = record { owes = λ j h. rw (add-zero k, same_left h) o; read = λ j h. i; joins = λ h. refl }
  left (c ∷ cs) k zero w o i q s =
      record { owes = λ j h. absurd (omega arith); read = λ j h. absurd (omega arith); joins = λ h. rw (← nothing_got (got w (c ∷ cs)) h) }
  left (c ∷ cs) k (suc n) w o i q s =
      go (goes comp rd k n w i c (event w c) refl o (end_is w c ∙ head_unended peripheral w c cs q) s.0 (view w c))
      (λ k n x r. left cs k n (step w c).next x r (tail_unended peripheral w c cs q) s.1)
    where
      go : Goes comp rd k n w c → ((k n : ℕ) → Owes comp k n (held (step w c).next) → (step w c).next.read ≡ rd → Left comp rd k n (step w c).next cs)
          → Left comp rd k (suc n) w (c ∷ cs)
      go (stays e x r) ih = left_stays k (suc n) w c cs e (ih k (suc n) x r)
      go (moves st e x r) ih = left_moves k n w c cs st e (ih (suc k) n x r)

-- ---- what replies show

pub shown_silent : (at value : ℕ) {a : List ℕ} → a ≡ [] → shows_bit at value a
shown_silent at value e = subst (shows_bit at value) (sym e) (λ h. absurd (omega arith))

pub pc_shown : {n : Np} {a : List ℕ} (t : Bool) → pc_avail n ≡ t → Shown n a → shows_bit 4 (bit t) a
pc_shown {n} {a} t e x = subst (λ (u : Bool). shows_bit 4 (bit u) a) e x.pc

pub np_shown : {n : Np} {a : List ℕ} (t : Bool) → np_free n ≡ t → Shown n a → shows_bit 1 (bit t) a
np_shown {n} {a} t e x = subst (λ (u : Bool). shows_bit 1 (bit u) a) e x.np

-- PC_AVAIL at 1, NP_FREE at 0
abbrev Busy : List ℕ → Type 0
Busy a = shows_bit 4 1 a × shows_bit 1 0 a

busy : {n : Np} {a : List ℕ} {k : Completion} {ks : List Completion} → upward n ≡ k ∷ ks → Shown n a → Busy a
busy {n} {a} {k} {ks} u x = (pc_shown true (ap some u) x, np_shown false (ready_taken n k ks u) x)

-- before the last completion, every reply
stood : (comp : ℕ → Completion) (k n : ℕ) (w : World) (c : Call) (x : Event) → Owes comp k (suc n) (held w)
    → length (completion_in x (step w c).reply) < suc n
    → Move w c (step w c) x → Busy (step w c).reply
unfolding upward
stood comp k n w c x o l (same a b d v) = busy o.0 v
stood comp k n w c x o l (asked b r f a m y d z v) = absurd (true≢false (cc o.0))
stood comp k n w c x o l (told p m t d f a b i y v r z) = (shown_silent 4 1 z, shown_silent 1 0 z)
stood comp k zero w c x o l (sent p ps u a b d r v) = absurd (omega arith)
stood comp k (suc n) w c x o l (sent p ps u a b d r v) = busy o.1.0 v
stood comp k n w c x o l (lent write read f a b d v) = (shown_silent 4 1 v, shown_silent 1 0 v)
stood comp k n w c x o l (dropped a d v) = busy o.0 v

-- ---- once all are handed over

down_step : (w : World) (c : Call) (k : Event) → pc_avail (held w) ≡ false → is_tell k ≡ false → Move w c (step w c) k → pc_avail (held (step w c).next) ≡ false
unfolding upward
down_step w c k h q (same a b d v) = ap pc_avail a ∙ h
down_step w c k h q (asked b r f a m y d z v) = ap pc_avail m
down_step w c k h q (told p m t d f a b i y v r z) = absurd (true≢false (cc))
down_step w c k h q (sent p ps u a b d r v) = absurd (true≢false (sym (ap some u) ∙ h))
down_step w c k h q (lent write read f a b d v) = ap pc_avail a ∙ h
down_step w c k h q (dropped a d v) = ap pc_avail (dropped_free a)

down_run : (es : List Call) (w : World) → pc_avail (held w) ≡ false → without answers w es ≡ true → pc_avail (held (run w es)) ≡ false
unfolding run
down_run [] w h q = h
down_run (c ∷ es) w h q =
    down_run es (step w c).next (down_step w c (event w c) h (head_without answers w c es q) (view w c)) (tail_without answers w c es q)

down_shown : (w : World) (c : Call) (k : Event) → pc_avail (held w) ≡ false → Move w c (step w c) k → shows_bit 4 0 (step w c).reply
unfolding upward
down_shown w c k h (same a b d v) = pc_shown false h v
down_shown w c k h (asked b r f a m y d z v) = pc_shown false (ap pc_avail m) v
down_shown w c k h (told p m t d f a b i y v r z) = shown_silent 4 0 z
down_shown w c k h (sent p ps u a b d r v) = absurd (true≢false (sym (ap some u) ∙ h))
down_shown w c k h (lent write read f a b d v) = shown_silent 4 0 v
down_shown w c k h (dropped a d v) = pc_shown false h v

pub down_now : (w : World) (c : Call) → pc_avail (held w) ≡ false → shows_bit 4 0 (step w c).reply
down_now w c h = down_shown w c (event w c) h (view w c)

free_step : (w : World) (c : Call) (k : Event) → held w ≡ Free → is_ask k ≡ false → Move w c (step w c) k → held (step w c).next ≡ Free
unfolding upward
free_step w c k h q (same a b d v) = a ∙ h
free_step w c k h q (asked b r f a m y d z v) = absurd (true≢false (cc))
free_step w c k h q (told p m t d f a b i y v r z) = absurd (true≢false (cc))
free_step w c k h q (sent p ps u a b d r v) = absurd (true≢false (cc))
free_step w c k h q (lent write read f a b d v) = a ∙ h
free_step w c k h q (dropped a d v) = dropped_free a

pub free_run : (es : List Call) (w : World) → held w ≡ Free → without requests w es ≡ true → held (run w es) ≡ Free
unfolding run
free_run [] w h q = h
free_run (c ∷ es) w h q =
    free_run es (step w c).next (free_step w c (event w c) h (head_without requests w c es q) (view w c)) (tail_without requests w c es q)

free_shown : (w : World) (c : Call) (k : Event) → held w ≡ Free → is_ask k ≡ false → Move w c (step w c) k → shows_bit 1 1 (step w c).reply
unfolding upward
free_shown w c k h q (same a b d v) = np_shown true (ap np_free h) v
free_shown w c k h q (asked b r f a m y d z v) = absurd (true≢false (cc))
free_shown w c k h q (told p m t d f a b i y v r z) = shown_silent 1 1 z
free_shown w c k h q (sent p ps u a b d r v) = absurd (true≢false (cc))
free_shown w c k h q (lent write read f a b d v) = shown_silent 1 1 v
free_shown w c k h q (dropped a d v) = np_shown true (ap np_free h) v

free_now : (w : World) (c : Call) → held w ≡ Free → requests w c ≡ false → shows_bit 1 1 (step w c).reply
free_now w c h q = free_shown w c (event w c) h q (view w c)

ended_by : (comp : ℕ → Completion) (k : ℕ) (w : World) (c : Call) → Owes comp k 1 (held w) → Move w c (step w c) gets → Over (step w c)
unfolding upward
ended_by comp k w c o (sent p ps u a b d r v) =
    let free : held (step w c).next ≡ Free = a ∙ o.1 in
    record {
      drops = pc_shown false (ap pc_avail o.1) v;
      stays_down = λ es x q. down_now (run (step w c).next es) x (down_run es (step w c).next (ap pc_avail free) q);
      frees = np_shown true (ap np_free o.1) v;
      stays_free = λ es x q n. free_now (run (step w c).next es) x (free_run es (step w c).next free q) n;
      free = free;
    }

-- the data handed over, joined
pub joined_owed : (comp : ℕ → Completion) (N : ℕ) (w : World) → Owes comp 0 N (held w) → (cs : List Call) → unended peripheral w cs ≡ true → read_handed_on w cs
    → length (got w cs) ≡ N → joined_data (got w cs) ≡ datas comp w.read 0 N
joined_owed comp N w o cs q s e = rw (← e) ((left comp w.read cs 0 N w o refl q s).joins (omega arith))

-- ---- what a world that owes N completions delivers, over any run

module _ (comp : ℕ → Completion) (N : ℕ) (body : ℕ → List ℕ) (w : World) (d : Sound w.state) (o : Owes comp 0 N (held w))
    (is : (j : ℕ) → j < N → body_of (comp j) w.read ≡ body j) (cs : List Call) (q : unended peripheral w cs ≡ true) (s : read_handed_on w cs)
    (h : all_handed cs ≡ true) where
  -- with j completions handed over
  owed : (n : ℕ) → length (got w cs) + suc n ≡ N → Owes comp (length (got w cs)) (suc n) (held (run w cs))
  owed n e = subst (λ (k : ℕ). Owes comp k (suc n) (held (run w cs))) (zero-add (length (got w cs))) ((left comp w.read cs 0 N w o refl q s).owes n e)

  read_at : (n : ℕ) → length (got w cs) + suc n ≡ N → (run w cs).read ≡ w.read
  read_at n e = (left comp w.read cs 0 N w o refl q s).read n e

  in_order : (c : Call) → length (got w cs) < N → Move (run w cs) c (step (run w cs) c) gets
      → (step (run w cs) c).reply ≡ closed (0x08 ∷ body (length (got w cs))) (status (step (run w cs) c).next.state)
  in_order c l (sent p ps u a b e r v) =
      let n = N - suc (length (got w cs)) in
      let here : p ≡ comp (length (got w cs)) = cc (owed n (omega arith)).0 in
      r ∙ ap (λ (x : List ℕ). closed (0x08 ∷ x) (status (step (run w cs) c).next.state)) (rw (here, read_at n (omega arith)) (is (length (got w cs)) l))

  pub deliver : Delivers N body w cs
  deliver =
      record {
        in_order_lem = λ c e l. in_order c l (view_as (run w cs) c e);
        accepts = λ check reply l long fine.
            get_accepted (run w cs) check reply _ _ (sound-run w cs d h) (owed (N - suc (length (got w cs))) (omega arith)).0 long fine;
        stands = λ c l. (busy_at c l).0;
        held = λ c l. (busy_at c l).1;
        last = λ c e l. ended_by comp _ (run w cs) c (owed 0 (omega arith)) (view_as (run w cs) c e);
      }
    where
      busy_at : (c : Call) → length (got w cs) + length (got_by (run w cs) c) < N → Busy (step (run w cs) c).reply
      busy_at c l =
          let n = N - suc (length (got w cs)) in
          stood comp _ n (run w cs) c (event (run w cs) c) (owed n (omega arith)) (omega arith) (view (run w cs) c)
