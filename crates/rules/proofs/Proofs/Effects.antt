-- Proof of P11: every case of a call is its row. A channel's rows are proved in its own file.
use Rattle.std.specs.Prelude.{ℕ, zero, suc, ◌%◌, Bool, true, false, ◌&&◌, ◌≡◌, eqb}
use Rattle.std.proofs.Common.{true≢false, ◌∙◌, subst, arith, eqb-true, eq-eqb}
use mathlib.Core.List.{List, []}
use Rattle.std.proofs.Math.Path.{refl, sym, ap}
use Rattle.base.specs.Pick.{pick, taken, passed}
use Rattle.base.specs.Bytes.{over, over_none}
use Rattle.registers.specs.Registers.{write_at}
use Rattle.registers.specs.Laws.{by_address, write_other}
use Rattle.registers.proofs.Laws.{bit-zero}
use Rattle.registers.specs.declared.Config.{Config}
use Rattle.wires.specs.Groups.{put_pairs}
use Rattle.wires.specs.Senders.{with_groups}
use Rattle.command.specs.declared.Command.TheVariants as C
use Rattle.state.specs.State.{State}
use Rattle.rules.specs.Rules.Reset.{Reset, start, espi_reset, platform_reset}
use Rattle.rules.specs.Rules.Channel.{Channel, peripheral, wires, Part, Command, Board, Change, next_of, out_of, act_of, reset_follows, given, enable_edge, part, put, on, channel_number, same}
use Rattle.rules.specs.Rules.Lift.{lift}
use Rattle.rules.specs.Rules.Exchange.{reconfigured, was_reset}
use Rattle.rules.specs.Rules.Reply.{kept_bytes}
use Rattle.rules.specs.Rules.Step.{World, Call, Outcome, step, with_state, performed, served}
use Rattle.rules.specs.Statements.Cases.{Did, Settled, command_of, Admits, status, register, Case, idle, shown, acted, settles, forbidden, hindered, configured, lowered, cleared, wiped, lent}
use Rattle.rules.specs.Statements.Fields.{byte, pairs}
use Rattle.rules.specs.Statements.Sizes.{is_of, is_enabled}
use Rattle.rules.specs.Statements.Events.{accepted, enables_at, lowers_pltrst, lowering}
use Rattle.rules.specs.Statements.Effects.{command_part, command_write, board_part, board_read, switched, command_effect, board_effect, reset_effect, written_registers, value_enables, enabled_after, written_part, written_state, wires_effect, exchange_effect, effect, Effects, traffic_of, Frames, PartsKept}
use Rattle.rules.specs.Statements.Refusals.{Refusal}
use Rattle.rules.proofs.Proofs.Cases.{cases}
use Rattle.rules.proofs.Proofs.Refusals.{refusals_change_nothing}
use Rattle.rules.proofs.Proofs.Reads.{reads, one_of}
use Rattle.rules.proofs.Proofs.Lift.{put-config, part_stays, each_as}
use Rattle.rules.proofs.Proofs.Fields.{outside}
use Rattle.rules.proofs.Proofs.Events.{enable_written, no_lowering}
use Rattle.rules.proofs.Proofs.Sizes.{on_as}
use Rattle.rules.proofs.Proofs.Becomes.{Becomes}
use Rattle.rules.proofs.Proofs.Peripheral.Effects as P
use Rattle.rules.proofs.Proofs.Wires as W₀
use Rattle.rules.proofs.Proofs.Wires.Effects as W
use Rattle.rules.proofs.Proofs.Wires.Lowering as W₂
use Rattle.rules.proofs.Proofs.Wires.Lowering.{Lowered, lowered_bytes}

-- ---- the channels' rows

command_row : (k : Channel) (s : State) (b : List ℕ) (o : Command k) (x : Change k) → Admits s b (command_of k o)
    → Did k s.config (part k s) (act_of k s.config o b) x → Becomes k (command_part k s.config (part k s) b) (command_write k b) b x
command_row peripheral s b o x e d = P.command_row s.config s.peripheral b d (reads s b (C.Peripheral o) e)
command_row wires s b o x e d = W.command_row d (reads s b (C.Wires o) e)

board_row : (k : Channel) (c : Config) (p : Part k) (o : Board k) (x : Change k) → Settled k c p o x
    → Becomes k (board_part k c p o) (board_read k o) (given k o) x
board_row peripheral c p o x d = P.board_row d
board_row wires c p o x d = W.board_row d

edge_row : (k : Channel) (was is : Bool) (p : Part k) → enable_edge k was is p ≡ switched k was is p
edge_row peripheral = P.edge_row
edge_row wires = W.edge_row

-- a command is of the channel that its opcode names
pub command_own : (k : Channel) (s : State) (b : List ℕ) (o : Command k) → Admits s b (command_of k o) → is_of k (byte b 0) ≡ true
command_own peripheral s b o e = P.command_own (reads s b (C.Peripheral o) e)
command_own wires s b o e = W.command_own (reads s b (C.Wires o) e)

-- an accepted command that no reset follows does not lower PLTRST#
pub unlowered : (k : Channel) (s : State) (b : List ℕ) (o : Command k) (x : Change k) → Admits s b (command_of k o)
    → Did k s.config (part k s) (act_of k s.config o b) x → reset_follows k (part k s) (act_of k s.config o b) (next_of k x) ≡ false
    → eqb (out_of k x).number 0 ≡ true → lowers_pltrst s b ≡ false
unlowered peripheral s b o x e d f n = no_lowering s b (outside (is_of peripheral) (byte b 0) 0x04 refl (command_own peripheral s b o e))
unlowered wires s b o x e d f n = W₂.unlowered s b d (reads s b (C.Wires o) e) f n

-- and one that the reset follows does
pub lowers_is : (k : Channel) (s : State) (b : List ℕ) (o : Command k) (x : Change k) → Admits s b (command_of k o)
    → Did k s.config (part k s) (act_of k s.config o b) x → reset_follows k (part k s) (act_of k s.config o b) (next_of k x) ≡ true
    → lowers_pltrst s b ≡ true
lowers_is peripheral s b o x e d f = absurd (true≢false (sym f))
lowers_is wires s b o x e d f = (lowered_bytes s b (W₀.lowers d f) (reads s b (C.Wires o) e)).lowers

wires_row : (w : World) (op : ℕ) (b : List ℕ) → is_of wires op ≡ true → exchange_effect w op b ≡ wires_effect w b
wires_row w op b h = one_of (λ (x : ℕ). exchange_effect w x b ≡ wires_effect w b) op 0x04 0x05 refl refl h

row_of : (k : Channel) (w : World) (op : ℕ) (b : List ℕ) → is_of k op ≡ true → lowers_pltrst w.state b ≡ false → exchange_effect w op b ≡ command_effect k w b
row_of peripheral w op b h l = rw h
row_of wires w op b h l = wires_row w op b h ∙ sym (passed _ (command_effect wires w b) l refl)

-- ---- configuration

enables : (v : ℕ) → eqb (v % 2) 1 ≡ value_enables v
enables v = ap (λ (x : ℕ). eqb x 1) (sym (bit-zero v))

on-written : (k : Channel) (c : Config) (a v : ℕ) → on k (write_at c a v) ≡ enabled_after k c a v
on-written k c a v =
    enable_written k c a v
    ∙ ap (λ (t : Bool). pick (enables_at k a) t (on k c)) (enables v)
    ∙ ap (λ (t : Bool). pick (enables_at k a) (value_enables v) t) (on_as k c)

-- what a new configuration makes of the parts
abbrev edges : (old new : Config) (k : Channel) → Part k → Part k
edges old new k = enable_edge k (on k old) (on k new)

edge-written : (k : Channel) (c : Config) (a v : ℕ) (p : Part k) → edges c (write_at c a v) k p ≡ written_part c a v k p
edge-written k c a v p =
    edge_row k (on k c) (on k (write_at c a v)) p
    ∙ ap (λ (t : Bool). switched k t (on k (write_at c a v)) p) (on_as k c)
    ∙ ap (λ (t : Bool). switched k (is_enabled k c) t p) (on-written k c a v)

registers-written : (c : Config) (v a : ℕ) → write_at c a v ≡ written_registers c a v
registers-written c v =
    by_address (λ (a : ℕ). write_at c a v ≡ written_registers c a v) refl refl refl (λ a e f g. write_other c a v e f g ∙ rw (e, f, g))

written_row : (s : State) (v a : ℕ) → reconfigured s (write_at s.config a v) ≡ written_state s a v
written_row s v a =
    each_as (edges s.config (write_at s.config a v)) (written_part s.config a v) _ _ s (registers-written s.config v a)
    (λ k. edge-written k s.config a v (part k s))

reset-row : (w : World) (r : Reset) → with_state w (was_reset r w.state) ≡ reset_effect w r
reset-row w start = refl
reset-row w espi_reset = refl
reset-row w platform_reset = refl

-- ---- every case

module _ (w : World) where
  abbrev s : State
  s = w.state

  -- nothing kept
  plainly : (t : State) → ◌≡◌ {A = World} (record { state = t; write = over [] w.write; read = w.read }) (with_state w t)
  plainly t = rw over_none

  command_case : (k : Channel) (b : List ℕ) (o : Command k) (x : Change k) → Admits s b (command_of k o)
      → Becomes k (command_part k s.config (part k s) b) (command_write k b) b x → (eqb (out_of k x).number 0 ≡ true → lowers_pltrst s b ≡ false)
      → (performed w b (lift k s x)).number ≡ 0 → (performed w b (lift k s x)).next ≡ exchange_effect w (byte b 0) b
  unfolding performed lift
  command_case k b o x e row high z =
      ap (λ (p : Part k). record { state = put k p s; write = over (kept_bytes (out_of k x).kept b) w.write; read = w.read }) (row z).0
      ∙ ap (λ (l : List ℕ). record { state = put k (command_part k s.config (part k s) b) s; write = l; read = w.read }) ((row z).1 w.write)
      ∙ sym (row_of k w (byte b 0) b (command_own k s b o e) (high (eq-eqb _ 0 z)))

  -- the packet's wires, and then the reset
  lowered_case : (b : List ℕ) (v : Part wires) → Lowered s b v → with_state w (was_reset platform_reset (put wires v s)) ≡ exchange_effect w (byte b 0) b
  lowered_case b v l =
      let row : command_part wires s.config s.wires b ≡ with_groups s.wires (put_pairs s.wires.groups (pairs b)) = rw l.opcode in
      ap (λ (z : Part wires). with_state w (was_reset platform_reset (put wires z s))) (l.wires ∙ sym row)
      ∙ reset-row (command_effect wires w b) platform_reset
      ∙ taken (reset_effect (command_effect wires w b) platform_reset) (command_effect wires w b) l.lowers refl
      ∙ sym (wires_row w (byte b 0) b (ap (is_of wires) l.opcode))

  board_case : (k : Channel) (o : Board k) (x : Change k) → Becomes k (board_part k s.config (part k s) o) (board_read k o) (given k o) x
      → (served k w o (lift k s x)).number ≡ 0 → (served k w o (lift k s x)).next ≡ board_effect k w o
  unfolding served lift
  board_case k o x row z =
      ap (λ (p : Part k). record { state = put k p s; write = w.write; read = over (kept_bytes (out_of k x).kept (given k o)) w.read }) (row z).0
      ∙ ap (λ (l : List ℕ). record { state = put k (board_part k s.config (part k s) o) s; write = w.write; read = l }) ((row z).1 w.read)

  -- the row at an opcode
  at : (b : List ℕ) {op : ℕ} → byte b 0 ≡ op → exchange_effect w op b ≡ exchange_effect w (byte b 0) b
  at b e = ap (λ (op : ℕ). exchange_effect w op b) (sym e)

  becomes : {c : Call} {o : Outcome} → Case w c o → o.number ≡ 0 → o.next ≡ effect w c
  unfolding performed
  becomes (idle n q) z = absurd (omega (arith, q.least))
  becomes (shown {b} (status e)) z = plainly s ∙ at b (reads s b C.GetStatus e)
  becomes (shown {b} (register a e)) z = plainly s ∙ at b (reads s b (C.GetConfiguration a) e).opcode
  becomes (acted {b} k o x e d f) z = command_case k b o x e (command_row k s b o x e d) (unlowered k s b o x e d f) z
  becomes (settles k o x h d) z = board_case k o x (board_row k s.config (part k s) o x d) z
  becomes (forbidden a v e f) z = absurd (omega arith)
  becomes (hindered a v e f g) z = absurd (omega arith)
  becomes (configured {b} a v e f g) z =
      let r = reads s b (C.SetConfiguration a v) e in
      plainly _ ∙ ap (with_state w) (written_row s v a ∙ rw (r.address, r.value)) ∙ at b r.opcode
  becomes (lowered {b} o x e d) z = plainly _ ∙ lowered_case b x.next (lowered_bytes s b d (reads s b (C.Wires o) e))
  becomes (cleared {b} e) z = plainly _ ∙ at b (reads s b C.Reset e)
  becomes (wiped {r}) z = reset-row w r
  becomes lent z = refl

pub effects : Effects
effects w c = becomes w (cases w c)

-- what holds of the world as it was, and of the row's, holds of the world after
pub after_call : (Q : World → Type 0) (w : World) (c : Call) → Q w → ((step w c).number ≡ 0 → Q (effect w c)) → Q (step w c).next
after_call Q w c same row = go (step w c).number refl (refusals_change_nothing w c)
  where
    go : (n : ℕ) → (step w c).number ≡ n → Refusal n w c (step w c) → Q (step w c).next
    go zero e h = subst Q (sym (effects w c e)) (row e)
    go (suc zero) e h = subst Q (sym h.world) same
    go (suc (suc zero)) e h = subst Q (sym h.world) same
    go (suc (suc (suc n))) e h = subst Q (sym h.world) same

-- ---- the parts

-- no opcode is of two channels: the number of the one that it is of
abbrev whose : ℕ → ℕ
whose op = pick (is_of peripheral op) 0 1

whose-is : (k : Channel) (op : ℕ) → is_of k op ≡ true → whose op ≡ channel_number k
whose-is peripheral op e = rw e
whose-is wires op e = one_of (λ (x : ℕ). whose x ≡ 1) op 0x04 0x05 refl refl e

pub one_channel : (k j : Channel) (op : ℕ) → is_of k op ≡ true → is_of j op ≡ true → same k j ≡ true
one_channel k j op e f = eq-eqb (channel_number k) (channel_number j) (sym (whose-is k op e) ∙ whose-is j op f)

-- opcodes that are of no channel
pub record Above (k : Channel) : Type 0 where
  pub at21 : is_of k 0x21 ≡ false
  pub at22 : is_of k 0x22 ≡ false
  pub at_ff : is_of k 0xFF ≡ false

pub above : (k : Channel) → Above k
above peripheral = record { at21 = refl; at22 = refl; at_ff = refl }
above wires = record { at21 = refl; at22 = refl; at_ff = refl }

module _ (w : World) (k : Channel) where
  stays : (v : World) → v.state ≡ w.state → Frames k w v
  stays v e = record { config = ap (λ (t : State). t.config) e; others = λ j n. ap (part j) e }

  -- the channel itself, its part put back
  frame : (j : Channel) (q : Part j) (v : World) → same k j ≡ true → v.state ≡ put j q w.state → Frames k w v
  frame j q v h e =
      record {
        config = ap (λ (t : State). t.config) e ∙ put-config j q w.state;
        others = λ i n. ap (part i) e ∙ part_stays j i q w.state (subst (λ (m : ℕ). eqb m (channel_number i) ≡ false) (eqb-true _ _ h) n);
      }

  pub not_ours : (b : List ℕ) {op : ℕ} → byte b 0 ≡ op → is_of k op ≡ false → is_of k (byte b 0) ≡ true → ⊥
  not_ours b e f h = true≢false (sym h ∙ ap (is_of k) e ∙ f)

  framed : {c : Call} {o : Outcome} → Case w c o → traffic_of k c ≡ true → accepted o && lowering w.state c ≡ false → Frames k w o.next
  unfolding performed served lift
  framed (idle n q) h l = stays _ refl
  framed (shown q) h l = stays _ refl
  framed (acted {b} j o x e d f) h l = frame j (next_of j x) _ (one_channel k j (byte b 0) h (command_own j w.state b o e)) refl
  framed (settles j o x n d) h l = frame j (next_of j x) _ h refl
  framed (forbidden a v e f) h l = stays _ refl
  framed (hindered a v e f g) h l = stays _ refl
  framed (configured {b} a v e f g) h l = absurd (not_ours b (reads w.state b (C.SetConfiguration a v) e).opcode (above k).at22 h)
  framed (lowered {b} o x e d) h l =
      absurd (true≢false (sym (lowered_bytes w.state b d (reads w.state b (C.Wires o) e)).lowers ∙ l))
  framed (cleared {b} e) h l = absurd (not_ours b (reads w.state b C.Reset e) (above k).at_ff h)
  framed wiped h l = absurd (true≢false (sym h))
  framed lent h l = absurd (true≢false (sym h))

pub parts_kept : PartsKept
parts_kept w c k h l = framed w k (cases w c) h l
