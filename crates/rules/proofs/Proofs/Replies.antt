-- Replies and their shape, whatever the channel: what the opcode says of a reply, and a reply with a body and a status.
use Rattle.std.specs.Prelude.{ℕ, zero, suc, ◌+◌, ◌≤◌, Bool, true, false, List, [], ◌∷◌, ◌≡◌, refl, eqb, length}
use Rattle.std.proofs.Common.{sym, ap, subst, arith, length-append}
use Rattle.std.proofs.lemmas.Bool.{eqb-false}
use Rattle.state.specs.Status.{status}
use Rattle.state.specs.State.{State}
use Rattle.rules.specs.Rules.Reply.{reply_bytes}
use Rattle.rules.specs.Statements.Shape.{reply_of, accept_code, body_length, AcceptedReply, Shape}
use Rattle.rules.specs.Rules.Plan.{Plan}

abbrev pub is_none : {A : Type 0} → List A → Bool
is_none [] = true
is_none (x ∷ xs) = false

abbrev pub head_or : {A : Type 0} → A → List A → A
head_or y [] = y
head_or y (x ∷ xs) = x

-- what an opcode says of the reply; at a numeral it computes
pub record Traits : Type 0 where
  pub resets : Bool
  pub code : ℕ
  pub body : ℕ

abbrev pub traits : ℕ → Traits
traits op = record { resets = eqb op 0xFF; code = accept_code op; body = body_length op [] }

abbrev pub Bare : ℕ → ℕ → Type 0
Bare op code = traits op ≡ record { resets = false; code = code; body = 0 }

-- a plan's reply has its shape, an accepted one showing the status of this state, the read store being this
abbrev pub ShapeOf : State → List ℕ → ℕ → State → Plan → Type 0
ShapeOf s reads op shown p = Shape p.number op s shown (reply_bytes p.reply s.wires reads)

pub accepted_as : {op : ℕ} {t u : State} {reply : List ℕ} → t ≡ u → AcceptedReply op t reply → AcceptedReply op u reply
accepted_as {op} {t} {u} {reply} e h = subst (λ (z : State). AcceptedReply op z reply) e h

-- of an error and of silence it is not asked which
pub shown_as : (n op : ℕ) (s t u : State) (reply : List ℕ) → (n ≡ 0 → t ≡ u) → Shape n op s t reply → Shape n op s u reply
shown_as zero op s t u reply e h = accepted_as (e refl) h
shown_as (suc zero) op s t u reply e h = h
shown_as (suc (suc zero)) op s t u reply e h = h
shown_as (suc (suc (suc n))) op s t u reply e h = h

length-closed : (code : ℕ) (body : List ℕ) (word : ℕ) → length (reply_of code body word) ≡ length body + 4
length-closed code body word = simp length-append (omega arith)

-- accepted with this body, by a command that is no RESET
pub with_body : (op : ℕ) (shown : State) (body : List ℕ) → eqb op 0xFF ≡ false → length body ≡ body_length op body → length body ≤ 259
    → AcceptedReply op shown (reply_of (accept_code op) body (status shown))
with_body op shown body e k h =
    record {
      reset = λ q. absurd (eqb-false op 0xFF e q);
      replied = λ _. record { body = body; bytes = refl; of_kind = k; small = rw (length-closed (accept_code op) body (status shown)) (omega arith) };
    }

-- with no body
pub bare : (op code : ℕ) (shown : State) → Bare op code → AcceptedReply op shown (reply_of code [] (status shown))
bare op code shown h =
    subst (λ (c : ℕ). AcceptedReply op shown (reply_of c [] (status shown))) (ap (λ (t : Traits). t.code) h)
    (with_body op shown [] (ap (λ (t : Traits). t.resets) h) (sym (ap (λ (t : Traits). t.body) h)) (omega arith))

pub at : (op k : ℕ) {shown : State} {reply : List ℕ} → op ≡ k → AcceptedReply k shown reply → AcceptedReply op shown reply
at op k {shown} {reply} e h = subst (λ (z : ℕ). AcceptedReply z shown reply) (sym e) h
