-- Replies of channel 1: a packet is its count and as many pairs.
use Rattle.std.specs.Prelude.{ℕ, ◌≤◌, List, ◌∷◌, ◌≡◌, length}
use Rattle.std.proofs.Math.Path.{refl}
use Rattle.std.proofs.Common.{ap, arith}
use Rattle.wires.specs.Senders.{sent, packet_of, packet_bytes}
use Rattle.wires.specs.Sent.{entries_most, entries-some, pairs-length}
use Rattle.state.specs.Status.{status}
use Rattle.state.specs.State.{State}
use Rattle.rules.specs.Rules.Wires as W₀
use Rattle.rules.specs.Rules.Channel.{wires, put}
use Rattle.rules.specs.Rules.Lift.{lift}
use Rattle.rules.specs.Rules.Reply.{reply_bytes, closed}
use Rattle.rules.specs.Statements.Fields.{byte}
use Rattle.rules.specs.Statements.Wires as W
use Rattle.rules.specs.Statements.Reads as F
use Rattle.rules.specs.Statements.Shape.{reply_of, AcceptedReply}
use Rattle.rules.proofs.Proofs.Replies.{ShapeOf, with_body, bare, at}
use Rattle.rules.specs.Rules.Plan.{WiresChange}

module _ (s : State) (reads : List ℕ) where
  abbrev pub WireOpcode : W₀.Act → ℕ → Type 0
  WireOpcode (W₀.puts count pairs) op = op ≡ 0x04
  WireOpcode W₀.gets op = op ≡ 0x05

  pub wire_opcode : {b : List ℕ} {a : W₀.Act} → F.Wires b a → WireOpcode a (byte b 0)
  wire_opcode (F.puts e) = e
  wire_opcode (F.Wires.gets e) = e

  packet_shape : (after : State) (count k : ℕ) (ks : List ℕ) → count ≤ 64 → sent s.wires count ≡ k ∷ ks
      → AcceptedReply 0x05 after (reply_of 0x08 (packet_bytes s.wires (packet_of s.wires count)) (status after))
  packet_shape after count k ks c e =
      let w = s.wires in
      let n = ap length e in
      let l = entries_most w w.groups.place count in
      let m = entries-some w (sent w count) in
      let p = pairs-length w (sent w count) in
      with_body 0x05 after (packet_bytes w (packet_of w count)) refl (omega (arith, n, l, m, p)) (omega (arith, l, p))

  pub acts_shape : (op : ℕ) {a : W₀.Act} {x : WiresChange} → W.Did s.config s.wires a x → WireOpcode a op
      → ShapeOf s reads op (put wires x.next s) (lift wires s x)
  unfolding lift reply_bytes closed
  acts_shape op (W.over_count e) h = refl
  acts_shape op (W.third e f) h = refl
  acts_shape op (W.put e f) h = at op 0x04 h (bare 0x04 0x08 _ refl)
  acts_shape op (W.none_pending_lem e) h = refl
  acts_shape op (W.sent_off_lem {k} {ks} e) h = at op 0x05 h (packet_shape _ _ k ks (omega arith) e)
