-- From the acceptance of a request to its answer (P15 (a) and (e), P17): no GET_PC is accepted, replies show it, a look yields it.
use Rattle.std.specs.Prelude.{ℕ, ◌+◌, ◌*◌, ◌/◌, ◌%◌, ◌≤◌, ◌<◌, Bool, true, false, List, [], ◌∷◌, ◌++◌, ◌≡◌, refl, ltb, length, get_or, take, drop}
use Rattle.std.proofs.Common.{true≢false, sym, ap, ap₂, ◌∙◌, subst, arith, length-take, get_or-take, get_or-drop, le-ltb, ltb-true, ltb-false}
use Rattle.std.proofs.Math.ListN.{get_or-eq_default}
use Rattle.base.specs.Bytes.{low2, low4, low8, joined4}
use Rattle.peripheral.specs.Status.{np_free, pc_avail}
use Rattle.peripheral.specs.Upward.{upward}
use Rattle.peripheral.specs.declared.Np.{Np}
use Rattle.peripheral.specs.declared.Np.TheVariants.{Waiting}
use Rattle.peripheral.specs.declared.Peripheral.{Peripheral}
use Rattle.peripheral.specs.declared.Request.{Request}
use Rattle.peripheral.specs.Layout.{kind_number}
use Rattle.state.specs.Status.{status}
use Rattle.rules.specs.Rules.Plan.{PeripheralChange}
use Rattle.rules.specs.Rules.Peripheral.{look, request_report, look_report, bytes_of}
use Rattle.rules.specs.Rules.Channel.{peripheral}
use Rattle.rules.specs.Rules.Lift.{lift}
use Rattle.rules.specs.Rules.Reply.{closed}
use Rattle.rules.specs.Rules.Step.{World, Call, exchange, board, Outcome, step, run, served, look_length, are_bytes}
use Rattle.rules.specs.Statements.Peripheral as P
use Rattle.rules.specs.Statements.Fields.{byte, is_non_posted, access_address, access_length, request_kind, io_bytes}
use Rattle.rules.specs.Statements.Reads.{request_in}
use Rattle.rules.specs.Statements.Events.{unended}
use Rattle.rules.specs.Statements.Requests.{Event, asks, gets, event, is_end, is_tell, since, without, answers, held, serial_of, shows_bit}
use Rattle.rules.specs.Statements.View.{Move, same, asked, told, sent, lent, dropped}
use Rattle.rules.specs.Statements.Demand3.{four_bytes_value, Asked, BeforeAnswer, RequestHeld}
use Rattle.rules.proofs.Proofs.Cases.{board_long}
use Rattle.rules.proofs.Proofs.Peripheral as L
use Rattle.rules.proofs.Proofs.Fields.{by_asked}
use Rattle.rules.proofs.Proofs.Reads.{io1, io2, io4}
use Rattle.rules.proofs.Proofs.SoundBytes.{bytes_below}
use Rattle.rules.proofs.Proofs.Events.{head_unended, tail_unended, head_without, tail_without}
use Rattle.rules.proofs.Proofs.Requests.{end_is, asked_opcode}
use Rattle.rules.proofs.Proofs.View.{view, view_as}
use Rattle.rules.proofs.Proofs.Owed.{np_shown, pc_shown, shown_silent, down_now}

-- ---- the request as it was accepted, until it is answered

pub asked_as : {w : World} {b r : List ℕ} {o : Outcome} → Move w (exchange b r) o asks → held o.next ≡ Waiting (request_in w.state.config b)
asked_as {w} {b} {r} {o} (asked b' r' f a m y d z v) =
    let e : b ≡ b' = cc in
    subst (λ (x : List ℕ). held o.next ≡ Waiting (request_in w.state.config x)) (sym e) m

waits_step : (q : Request) (w : World) (c : Call) (k : Event) → held w ≡ Waiting q → is_end k ≡ false → is_tell k ≡ false → Move w c (step w c) k
    → (held (step w c).next ≡ Waiting q) × (serial_of (step w c).next ≡ serial_of w)
unfolding upward
waits_step q w c k h x y (same a b d v) = (a ∙ h, b)
waits_step q w c k h x y (asked b r f a m n d z v) = absurd (true≢false (cc))
waits_step q w c k h x y (told p m t d f a b i n v r z) = absurd (true≢false (cc))
waits_step q w c k h x y (sent p ps u a b d r v) = absurd (true≢false (cc))
waits_step q w c k h x y (lent write read f a b d v) = (a ∙ h, b)
waits_step q w c k h x y (dropped a d v) = absurd (true≢false (cc))

waits : (q : Request) (xs : List Call) (w : World) → held w ≡ Waiting q → unended peripheral w xs ≡ true → without answers w xs ≡ true
    → (held (run w xs) ≡ Waiting q) × (serial_of (run w xs) ≡ serial_of w)
unfolding run
waits q [] w h x y = (h, refl)
waits q (c ∷ xs) w h x y =
    let one = waits_step q w c (event w c) h (end_is w c ∙ head_unended peripheral w c xs x) (head_without answers w c xs y) (view w c) in
    let rest = waits q xs (step w c).next one.0 (tail_unended peripheral w c xs x) (tail_without answers w c xs y) in
    (rest.0, rest.1 ∙ one.1)

module _ (w : World) (b r : List ℕ) (xs : List Call) (a : Asked w b r xs) where
  pub kept : (held (since w (exchange b r) xs) ≡ Waiting (request_in w.state.config b))
      × (serial_of (since w (exchange b r) xs) ≡ serial_of (step w (exchange b r)).next)
  kept =
      waits (request_in w.state.config b) xs (step w (exchange b r)).next (asked_as (view_as w (exchange b r) a.accepted)) a.unended a.unanswered

-- ---- before the answer

taken_shown : (q : Request) (w : World) (c : Call) (k : Event) → held w ≡ Waiting q → Move w c (step w c) k → shows_bit 1 0 (step w c).reply
unfolding upward
taken_shown q w c k h (same a b d v) = np_shown false (ap np_free h) v
taken_shown q w c k h (asked b r f a m n d z v) = absurd (true≢false (cc))
taken_shown q w c k h (told p m t d f a b i n v r z) = shown_silent 1 0 z
taken_shown q w c k h (sent p ps u a b d r v) = absurd (true≢false (cc))
taken_shown q w c k h (lent write read f a b d v) = shown_silent 1 0 v
taken_shown q w c k h (dropped a d v) = np_shown false (ap np_free h) v

no_get : (q : Request) (w : World) (c : Call) → held w ≡ Waiting q → Move w c (step w c) gets → ⊥
unfolding upward
no_get q w c h (sent p ps u a b d r v) = absurd (true≢false (cc))

record Defers (o : Outcome) : Type 0 where
  reply : o.reply ≡ closed (0x01 ∷ []) (status o.next.state)
  np : shows_bit 1 0 o.reply
  pc : shows_bit 4 0 o.reply

deferred : {w : World} {c : Call} {o : Outcome} → Move w c o asks → Defers o
unfolding upward
deferred (asked b r f a m n d z v) = record { reply = z; np = np_shown false (ap np_free m) v; pc = pc_shown false (ap pc_avail m) v }

pub before : BeforeAnswer
unfolding upward
before w b r xs a c =
    let d = deferred (view_as w (exchange b r) a.accepted) in
    let h : held (since w (exchange b r) xs) ≡ Waiting (request_in w.state.config b) = (kept w b r xs a).0 in
    record {
      defers = d.reply;
      defer_np = d.np;
      defer_pc = d.pc;
      no_get_lem = λ e. no_get _ (since w (exchange b r) xs) c h (view_as (since w (exchange b r) xs) c e);
      down = down_now (since w (exchange b r) xs) c (ap pc_avail h);
      taken = taken_shown _ (since w (exchange b r) xs) c (event (since w (exchange b r) xs) c) h (view (since w (exchange b r) xs) c);
    }

-- ---- the look

below : (b : List ℕ) (n i : ℕ) → are_bytes b ≡ true → get_or (take n (drop 3 b)) i 0 < 256
below b n i e = go (ltb i n) refl
  where
    go : (t : Bool) → ltb i n ≡ t → get_or (take n (drop 3 b)) i 0 < 256
    go true f = rw (get_or-take n (drop 3 b) i 0 (ltb-true i n f), get_or-drop 3 b i 0) (bytes_below b e (3 + i))
    go false f = rw (get_or-eq_default (take n (drop 3 b)) 0 {n = i} (rw (length-take n (drop 3 b)) (omega (arith, ltb-false i n f)))) (omega arith)

joined_low : (x y z t : ℕ) → x < 256 → y < 256 → z < 256 → t < 256 → low4 (joined4 x y z t) ≡ x ∷ y ∷ z ∷ t ∷ []
joined_low x y z t a b c d =
    let v = joined4 x y z t in
    let one : v / 256 ≡ y + z * 256 + t * 65536 = omega arith in
    let two : v / 65536 ≡ z + t * 256 = omega arith in
    let three : v / 16777216 ≡ t = omega arith in
    let e₀ : v % 256 ≡ x = omega arith in
    let e₁ : v / 256 % 256 ≡ y = rw one (omega arith) in
    let e₂ : v / 65536 % 256 ≡ z = rw two (omega arith) in
    let e₃ : v / 16777216 % 256 ≡ t = rw three (omega arith) in
    cc

-- n bytes of data
data_low : (b : List ℕ) (n v : ℕ) → are_bytes b ≡ true → bytes_of n b ≡ v
    → low4 v ≡ (let d = take n (drop 3 b) in get_or d 0 0 ∷ get_or d 1 0 ∷ get_or d 2 0 ∷ get_or d 3 0 ∷ [])
data_low b n v e h = ap low4 (sym h) ∙ joined_low _ _ _ _ (below b n 0 e) (below b n 1 e) (below b n 2 e) (below b n 3 e)

four_bytes : (b : List ℕ) → is_non_posted (byte b 0) ≡ true → are_bytes b ≡ true → low4 (io_bytes b) ≡ four_bytes_value b
four_bytes [] h = λ _. refl
four_bytes (op ∷ r) h =
    by_asked (λ (x : ℕ). are_bytes (x ∷ r) ≡ true → low4 (io_bytes (x ∷ r)) ≡ four_bytes_value (x ∷ r)) (λ _. refl) (λ _. refl) (λ _. refl) (λ _. refl)
    (λ e. data_low (0x44 ∷ r) 1 _ e (io1 (0x44 ∷ r))) (λ e. data_low (0x45 ∷ r) 2 _ e (io2 (0x45 ∷ r))) (λ e. data_low (0x47 ∷ r) 4 _ e (io4 (0x47 ∷ r)))
    (λ _. refl) (λ _. refl) (λ _. refl) op h

looks_number : {p : Peripheral} {report : List ℕ} {x : PeripheralChange} (q : Request) → p.request ≡ Waiting q → P.Settled p (look report) x
    → x.out.number ≡ 0
looks_number q h (P.look_done e) = refl
looks_number q h (P.no_look e) = absurd (true≢false (sym (ap P.unanswered h) ∙ e))

looked-at : (q : Request) (w : World) (report : List ℕ) → held w ≡ Waiting q → look_length ≤ length report
    → ((step w (board peripheral (look report))).number ≡ 0) × ((step w (board peripheral (look report))).report ≡ request_report q (serial_of w))
unfolding served lift
looked-at q w report h l =
    let o = board_long peripheral w (look report) (le-ltb _ _ l) in (
      ap (λ (x : Outcome). x.number) o ∙ looks_number q h (L.settles w.state.config w.state.peripheral (look report)),
      ap (λ (x : Outcome). x.report) o ∙ ap (λ (n : Np). look_report n (serial_of w)) h,
    )

pub request_held_lem : RequestHeld
request_held_lem w b r xs e a =
    let k = kept w b r xs a in
    record {
      request = k.0;
      serial = k.1;
      looks = λ report l. (looked-at _ (since w (exchange b r) xs) report k.0 l).0;
      yields = λ report l. (looked-at _ (since w (exchange b r) xs) report k.0 l).1
          ∙ ap₂ (λ (n : ℕ) (x : List ℕ). kind_number (request_kind (byte b 0)) ∷ (low8 (access_address b) ++ (low2 (access_length b) ++ (low4 n ++ x)))) k.1
          (four_bytes b (asked_opcode w b r a.accepted) e);
    }
