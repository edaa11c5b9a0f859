-- A plan fits the lent slices: its reply and its data, by the case law and each channel's.
use Rattle.std.specs.Prelude.{ℕ, ◌≤◌, true, List, ◌∷◌, ◌≡◌, length, drop, Option, Some, None}
use Rattle.std.proofs.Math.Path.{subst}
use Rattle.std.proofs.Common.{arith, length-take}
use Rattle.wires.specs.Sent.{packet-length}
use Rattle.wires.specs.Senders.{AllWires}
use Rattle.state.specs.Sound.{sound}
use Rattle.state.specs.Facts.{sound-config, sound_request_lem, sound_wires_lem}
use Rattle.state.specs.State.{State}
use Rattle.rules.specs.Rules.Out.{response_byte}
use Rattle.rules.specs.Rules.Peripheral as P₀
use Rattle.rules.specs.Rules.Channel.{Channel, peripheral, wires, Command, Change, out_of, part, act_of}
use Rattle.rules.specs.Rules.Lift.{lift, with_status}
use Rattle.rules.specs.Rules.Exchange.{exchange}
use Rattle.rules.specs.Rules.Reply.{body_bytes, reply_bytes}
use Rattle.rules.specs.Rules.Fits.{BodyFits, ReplyFits, SayFits, OutFits, KeptFits, PlanFits}
use Rattle.rules.specs.Statements.Plans as N
use Rattle.rules.specs.Statements.Plans.{Did, Planned}
use Rattle.rules.proofs.Proofs.Peripheral as P
use Rattle.rules.proofs.Proofs.Peripheral.Fits as P₁
use Rattle.rules.proofs.Proofs.Wires.Fits as W
use Rattle.rules.proofs.Proofs.Plans.{plans}
use Rattle.rules.proofs.Proofs.Reads as D
use Rattle.rules.proofs.Proofs.Reply.{closed-length}
use Rattle.rules.specs.declared.Body.{Body}
use Rattle.rules.specs.declared.Body.TheVariants as B
use Rattle.rules.specs.declared.Say.{Say}
use Rattle.rules.specs.declared.Reply.{Reply}
use Rattle.rules.specs.Rules.Plan.{Plan, PeripheralChange}

-- ---- the reply's length

body_length_lem : (b : Body) (w : AllWires) (reads : List ℕ) → BodyFits b w → length (body_bytes b w reads) ≤ 259
body_length_lem B.Nothing w reads f = omega arith
body_length_lem (B.Word v) w reads f = omega arith
body_length_lem (B.Piece c) w reads f = omega (arith, length-take c.length (drop c.from reads), f.most)
body_length_lem (B.Groups p) w reads f = omega (arith, packet-length w p, f.most)

-- "reply at least 263 bytes"
pub reply_length_lem : (r : Option Reply) (w : AllWires) (reads : List ℕ) → ReplyFits r w → length (reply_bytes r w reads) ≤ 263
unfolding reply_bytes
reply_length_lem None w reads f = omega arith
reply_length_lem (Some r) w reads f =
    omega (arith, closed-length (response_byte r.response ∷ body_bytes r.body w reads) r.status, body_length_lem r.body w reads f)

-- ---- an exchange's plan

with_status_lem : (say : Option Say) (word : ℕ) (w : AllWires) → SayFits say w → ReplyFits (with_status say word) w
with_status_lem None word w f = f
with_status_lem (Some y) word w f = f

lift-fits : (k : Channel) (s : State) (x : Change k) (m : ℕ) → OutFits m s.wires (out_of k x) → PlanFits m s.wires (lift k s x)
unfolding lift
lift-fits k s x m f = record { reply = with_status_lem (out_of k x).say _ s.wires f.0; kept = f.1 }

module _ (s : State) (h : sound s ≡ true) where
  acts_fit : (b : List ℕ) (k : Channel) (o : Command k) (x : Change k) → N.Admits s b (N.command_of k o)
      → Did k s.config (part k s) (act_of k s.config o b) x → OutFits (length b) s.wires (out_of k x)
  acts_fit b peripheral o x e d =
      P₁.acts_fit (length b) s.wires (sound-config s h) (sound_request_lem s h) d (P₁.data_there (D.reads s b (N.command_of peripheral o) e))
  acts_fit b wires o x e d = W.fits (length b) (sound_wires_lem s h) d

  planned-fits : {b : List ℕ} {p : Plan} → Planned s b p → PlanFits (length b) s.wires p
  planned-fits {b} (N.turned n q) = record { reply = tt; kept = tt }
  planned-fits {b} (N.shows (N.status e)) = record { reply = tt; kept = tt }
  planned-fits {b} (N.shows (N.register a e)) = record { reply = tt; kept = tt }
  planned-fits {b} (N.acts k o x e d f) = lift-fits k s x (length b) (acts_fit b k o x e d)
  planned-fits {b} (N.forbids a v e f) = record { reply = tt; kept = tt }
  planned-fits {b} (N.hinders a v e f g) = record { reply = tt; kept = tt }
  planned-fits {b} (N.configures a v e f g) = record { reply = tt; kept = tt }
  planned-fits {b} (N.lowers o x e d) = record { reply = tt; kept = tt }
  planned-fits {b} (N.clears e) = record { reply = tt; kept = tt }

  pub exchange-fits : (b : List ℕ) → PlanFits (length b) s.wires (exchange s b)
  exchange-fits b = planned-fits (plans s b)

  -- ---- the board's answer: its data goes to the read store

  pub answer-fits : (serial success : ℕ) (d : List ℕ)
      → KeptFits (lift peripheral s (P₀.answer_to s.peripheral serial (P₀.succeeded success) (length d))).kept (length d) 4096
  unfolding lift
  answer-fits serial success d =
      subst (λ (x : PeripheralChange). KeptFits x.out.kept (length d) 4096) (P.answer-is s.config s.peripheral serial success d)
      (P₁.settled-fits (sound_request_lem s h) (P.settles s.config s.peripheral (P₀.answer serial success d)))
