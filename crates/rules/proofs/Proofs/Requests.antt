-- Events of channel 0 by what a call is: the number first, then its bytes.
use Rattle.std.specs.Prelude.{ℕ, Bool, true, false, ◌&&◌, List, [], ◌≡◌, refl, eqb}
use Rattle.std.proofs.Common.{true≢false, sym, ap, ◌∙◌, subst, eqb-true}
use Rattle.base.specs.Pick.{pick}
use Rattle.state.specs.State.{State}
use Rattle.rules.specs.Rules.Peripheral as P
use Rattle.rules.specs.Rules.Channel.{peripheral, wires}
use Rattle.rules.specs.Rules.Step.{World, Call, reset, exchange, board, short, lend, Outcome, step}
use Rattle.rules.specs.Statements.Fields.{byte, is_non_posted}
use Rattle.rules.specs.Statements.Events as E
use Rattle.rules.specs.Statements.Events.{accepted, lowers_pltrst, ending}
use Rattle.rules.specs.Statements.Requests.{Event, idle, asks, tells, gets, ends, lends, command_event, accepted_event, event_of, event, is_end, answers_with}
use Rattle.rules.specs.Statements.Words.{GetPc, get_pc, NonPosted, non_posted, Answer, answer}
use Rattle.rules.proofs.Proofs.Fields.{outside}
use Rattle.rules.proofs.Proofs.Events.{no_lowering, no_ending}

-- ---- by the number

pub refused_event : (s : State) (c : Call) (o : Outcome) → accepted o ≡ false → event_of s c o ≡ idle
unfolding event_of
refused_event s c o e = ap (λ (t : Bool). pick (t && ending peripheral s c) ends (pick t (accepted_event c) idle)) e

pub accepted-event : (s : State) (c : Call) (o : Outcome) → accepted o ≡ true → event_of s c o ≡ pick (ending peripheral s c) ends (accepted_event c)
unfolding event_of
accepted-event s c o e = ap (λ (t : Bool). pick (t && ending peripheral s c) ends (pick t (accepted_event c) idle)) e

-- ---- an exchange by its first byte

pub exchange-event : (s : State) (b r : List ℕ) (o : Outcome) → accepted o ≡ true → eqb (byte b 0) 0x22 ≡ false → lowers_pltrst s b ≡ false
    → event_of s (exchange b r) o ≡ command_event b
exchange-event s b r o e f g = accepted-event s (exchange b r) o e ∙ ap (λ (t : Bool). pick t ends (command_event b)) (no_ending peripheral s b f g)

pub asked-event : (s : State) (b r : List ℕ) (o : Outcome) → accepted o ≡ true → is_non_posted (byte b 0) ≡ true → event_of s (exchange b r) o ≡ asks
asked-event s b r o e h =
    exchange-event s b r o e (outside is_non_posted (byte b 0) 0x22 refl h) (no_lowering s b (outside is_non_posted (byte b 0) 0x04 refl h))
    ∙ ap (λ (t : Bool). pick t asks (pick (eqb (byte b 0) 0x01) gets idle)) h

pub got-event : (s : State) (b r : List ℕ) (o : Outcome) → accepted o ≡ true → byte b 0 ≡ 0x01 → event_of s (exchange b r) o ≡ gets
got-event s b r o e h =
    exchange-event s b r o e (ap (λ (x : ℕ). eqb x 0x22) h) (no_lowering s b (ap (λ (x : ℕ). eqb x 0x04) h)) ∙ rw h

-- ---- by what the accepted call is

pub data Is (c : Call) : Event → Type 0 where
  other : Is c idle
  ask : NonPosted c → Is c asks
  get : GetPc c → Is c gets
  tell : Answer c → Is c tells
  lent : Is c lends

accepted-is : (c : Call) → Is c (accepted_event c)
accepted-is (reset r) = other
accepted-is (exchange b r) = by (is_non_posted (byte b 0)) (eqb (byte b 0) 0x01) refl refl
  where
    by : (t u : Bool) → is_non_posted (byte b 0) ≡ t → eqb (byte b 0) 0x01 ≡ u → Is (exchange b r) (pick t asks (pick u gets idle))
    by true u e f = ask (non_posted e)
    by false true e f = get (get_pc (eqb-true (byte b 0) 0x01 f))
    by false false e f = other
accepted-is (board peripheral (P.look report)) = other
accepted-is (board peripheral (P.answer serial success d)) = tell answer
accepted-is (board peripheral (P.take_write report)) = other
accepted-is (board wires o) = other
accepted-is (short state c) = other
accepted-is (lend write read) = lent

-- an event that is neither idle nor an end is an accepted call's
pub event-was : (w : World) (c : Call) (x : Event) → event w c ≡ x → (idle ≡ x → ⊥) → (ends ≡ x → ⊥) → ((step w c).number ≡ 0) × Is c x
event-was w c x h n m = go (accepted (step w c)) refl
  where
    not_ended : (t : Bool) → pick t ends (accepted_event c) ≡ x → accepted_event c ≡ x
    not_ended true e = absurd (m e)
    not_ended false e = e

    go : (t : Bool) → accepted (step w c) ≡ t → ((step w c).number ≡ 0) × Is c x
    go true e = (
      eqb-true (step w c).number 0 e,
      subst (Is c) (not_ended (ending peripheral w.state c) (sym (accepted-event w.state c (step w c) e) ∙ h)) (accepted-is c),
    )
    go false e = absurd (n (sym (refused_event w.state c (step w c) e) ∙ h))

pub asked_opcode : (w : World) (b r : List ℕ) → event w (exchange b r) ≡ asks → is_non_posted (byte b 0) ≡ true
asked_opcode w b r h = opcode (event-was w (exchange b r) asks h (λ e. true≢false (cc)) (λ e. true≢false (cc))).1
  where
    opcode : Is (exchange b r) asks → is_non_posted (byte b 0) ≡ true
    opcode (ask (non_posted e)) = e

-- ---- ending events

unended : {c : Call} (x : Event) → Is c x → is_end x ≡ false
unended x other = refl
unended x (ask n) = refl
unended x (get g) = refl
unended x (tell a) = refl
unended x lent = refl

-- `ends` exactly where the call ends channel 0
pub end_is : (w : World) (c : Call) → is_end (event w c) ≡ E.ends peripheral w c
unfolding event_of
end_is w c = go (E.ends peripheral w c) (accepted (step w c))
  where
    go : (t a : Bool) → is_end (pick t ends (pick a (accepted_event c) idle)) ≡ t
    go true a = refl
    go false true = unended _ (accepted-is c)
    go false false = refl

pub ended-event : (w : World) (c : Call) → E.ends peripheral w c ≡ true → event w c ≡ ends
unfolding event_of
ended-event w c h = ap (λ (t : Bool). pick t ends (pick (accepted (step w c)) (accepted_event c) idle)) h

-- ---- an answer is told by what it says

abbrev board_call : Call → P.Board
board_call (reset r) = P.look []
board_call (exchange b r) = P.look []
board_call (board peripheral o) = o
board_call (board wires o) = P.look []
board_call (short state c) = P.look []
board_call (lend write read) = P.look []

pub record SameAnswer (m t : ℕ) (d : List ℕ) (n u : ℕ) (e : List ℕ) : Type 0 where
  pub serial : m ≡ n
  pub success : t ≡ u
  pub bytes : d ≡ e

pub same_answer : {m t n u : ℕ} {d e : List ℕ} → answers_with m t d ≡ answers_with n u e → SameAnswer m t d n u e
same_answer {m} {t} {n} {u} {d} {e} h =
    let g : P.answer m t d ≡ P.answer n u e = ap board_call h in
    record { serial = cc; success = cc; bytes = cc }
