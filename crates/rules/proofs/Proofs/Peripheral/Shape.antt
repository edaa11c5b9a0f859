-- Replies of channel 0: a completion's body is its header and as many bytes as that says.
use Rattle.std.specs.Prelude.{ℕ, ◌+◌, ◌*◌, ◌/◌, ◌%◌, ◌≤◌, true, List, ◌++◌, ◌≡◌, length}
use Rattle.std.proofs.Math.Path.{refl}
use Rattle.std.proofs.Common.{sym, ap, ◌∙◌, arith, length-take, length-drop}
use Rattle.registers.specs.declared.Config.{Config}
use Rattle.peripheral.specs.declared.Completion.{Completion}
use Rattle.peripheral.specs.Sound.{sound_request}
use Rattle.state.specs.Status.{status}
use Rattle.state.specs.State.{State}
use Rattle.rules.specs.Rules.Plan.{PeripheralChange}
use Rattle.rules.specs.Rules.Peripheral as P₀
use Rattle.rules.specs.Rules.Channel.{peripheral, put}
use Rattle.rules.specs.Rules.Lift.{lift}
use Rattle.rules.specs.Rules.Reply.{reply_bytes, closed, header_bytes, data_bytes}
use Rattle.rules.specs.Rules.Step.{read_length}
use Rattle.rules.specs.Statements.Fields.{byte}
use Rattle.rules.specs.Statements.Peripheral as P
use Rattle.rules.specs.Statements.Reads as F
use Rattle.rules.specs.Statements.Shape.{reply_of, AcceptedReply}
use Rattle.rules.specs.Rules.Fits.{PieceFits}
use Rattle.rules.proofs.Proofs.Fields.{by_posted, by_asked}
use Rattle.rules.proofs.Proofs.Peripheral.Fits.{piece-fits}
use Rattle.rules.proofs.Proofs.Replies.{Bare, ShapeOf, with_body, bare, at}

module _ (s : State) (reads : List ℕ) (enough : read_length ≤ length reads) where
  -- what the opcode is of a command of this kind
  abbrev pub ActOpcode : P₀.Act → ℕ → Type 0
  ActOpcode (P₀.posts address length from) op = Bare op 0x08
  ActOpcode (P₀.asks q) op = Bare op 0x01
  ActOpcode P₀.gets op = op ≡ 0x01

  pub act_opcode : {c : Config} {b : List ℕ} {a : P₀.Act} → F.Peripheral c b a → ActOpcode a (byte b 0)
  act_opcode {c} {b} (F.posts e l) = by_posted (λ (op : ℕ). Bare op 0x08) refl refl refl refl (byte b 0) e
  act_opcode {c} {b} (F.asks e) = by_asked (λ (op : ℕ). Bare op 0x01) refl refl refl refl refl refl refl refl refl refl (byte b 0) e
  act_opcode {c} {b} (F.Peripheral.gets e) = e

  completion_length : (c : Completion) → PieceFits c → length (header_bytes c ++ data_bytes c reads) ≡ 3 + c.length
  completion_length c h = simp (length-take, length-drop) (omega arith)

  header-length : (c : Completion) → PieceFits c → (c.tag % 16 * 16 + c.length / 256 % 16) % 16 * 256 + c.length % 256 ≡ c.length
  header-length c h = omega arith

  completion_shape : (after : State) (c : Completion) → PieceFits c
      → AcceptedReply 0x01 after (reply_of 0x08 (header_bytes c ++ data_bytes c reads) (status after))
  completion_shape after c h =
      with_body 0x01 after (header_bytes c ++ data_bytes c reads) refl (completion_length c h ∙ ap (λ (n : ℕ). 3 + n) (sym (header-length c h)))
      (rw (completion_length c h) (omega arith))

  pub acts_shape : (op : ℕ) → sound_request s.peripheral.request ≡ true → {a : P₀.Act} {x : PeripheralChange}
      → P.Did s.config s.peripheral a x → ActOpcode a op → ShapeOf s reads op (put peripheral x.next s) (lift peripheral s x)
  unfolding lift reply_bytes closed
  acts_shape op np (P.write_held e) h = refl
  acts_shape op np (P.write_large e f) h = refl
  acts_shape op np (P.posted e f) h = bare op 0x08 _ h
  acts_shape op np (P.request_held e) h = refl
  acts_shape op np (P.request_large e f) h = refl
  acts_shape op np (P.asked e f) h = bare op 0x01 _ h
  acts_shape op np (P.none_ready e) h = refl
  acts_shape op np (P.handed_over {k} {ks} e) h =
      at op 0x01 h (completion_shape _ k (piece-fits s.peripheral.request k ks np e))
