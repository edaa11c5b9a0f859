-- Proof of P10, from the table of effects, the case law and the laws of masked writes.
use Rattle.std.specs.Prelude.{ℕ, zero, suc, ◌+◌, ◌-◌, ◌*◌, ◌%◌, ◌^◌, ◌<◌, Bool, true, false, ◌&&◌, ◌||◌, List, [], ◌≢◌, ◌≡◌, refl, eqb}
use Rattle.std.proofs.Common.{true≢false, sym, ap, ◌∙◌, subst, arith, eqb-true, ne_eqb}
use Rattle.std.proofs.Math.Nat.{zero-div}
use Rattle.std.proofs.lemmas.Bool.{eqb-false}
use Rattle.base.specs.Pick.{pick, or_second, and_left, and_right}
use Rattle.registers.specs.Registers.{field, masked, readied}
use Rattle.registers.specs.Laws.{field-kept, field-written, by_address}
use Rattle.registers.proofs.Laws.{written010, written020, bit-zero}
use Rattle.registers.specs.declared.Config.{Config}
use Rattle.command.specs.declared.Command.TheVariants as C
use Rattle.state.specs.Status.{status}
use Rattle.state.specs.State.{State}
use Rattle.rules.specs.Rules.Peripheral as P
use Rattle.rules.specs.Rules.Wires as W
use Rattle.rules.specs.Rules.Channel.{Channel, peripheral, wires, Part, Board, part}
use Rattle.rules.specs.Rules.Reply.{reply_bytes, closed}
use Rattle.rules.specs.Rules.Step.{World, Call, reset, exchange, board, short, lend, Outcome, step, performed}
use Rattle.rules.specs.Statements.Plans as N
use Rattle.rules.specs.Statements.Cases.{Case, idle, shown, acted, settles, forbidden, hindered, configured, lowered, cleared, wiped, lent}
use Rattle.rules.specs.Statements.Fields.{byte, register_at, register_value}
use Rattle.rules.specs.Statements.Sizes.{is_enabled}
use Rattle.rules.specs.Statements.Events.{enables_at}
use Rattle.rules.specs.Statements.Shape.{reply_of}
use Rattle.rules.specs.Statements.Effects.{switched, value_enables, written_part, written_state, board_effect, exchange_effect, effect}
use Rattle.rules.specs.Statements.ConfigWrites.{bit_of, writable_bits, value_at, BitsWritten, turns, Configured, board_only_reads, only_reads, register_bytes, ConfigWrites}
use Rattle.rules.proofs.Proofs.Peripheral.Effects as P₁
use Rattle.rules.proofs.Proofs.Wires.Effects as W₁
use Rattle.rules.proofs.Proofs.Fields.{one}
use Rattle.rules.proofs.Proofs.Reads as R
use Rattle.rules.proofs.Proofs.Reads.{one_of}
use Rattle.rules.proofs.Proofs.Cases.{cases}
use Rattle.rules.proofs.Proofs.Lift.{part-each}
use Rattle.rules.proofs.Proofs.Effects.{effects, after_call, command_own, above, not_ours}

-- ---- a mask and its complement, bit by bit: one computed test

abbrev all_below : ℕ → (ℕ → Bool) → Bool
all_below zero p = true
all_below (suc n) p = p n && all_below n p

below : (n : ℕ) (p : ℕ → Bool) → all_below n p ≡ true → (k : ℕ) → k < n → p k ≡ true
below zero p h k l = absurd (omega arith)
below (suc n) p h k l =
    one (λ (x : ℕ). p x ≡ true) k n (and_left (p n) (all_below n p) h)
    λ e. below n p (and_right (p n) (all_below n p) h) k (omega (arith, eqb-false k n e))

-- bit k of the mask, and the other of its complement
abbrev split : ℕ → ℕ → Bool
split mask k = eqb (field mask k 1 + field (2 ^ 32 - 1 - mask) k 1) 1

module _ (mask : ℕ) (h : all_below 32 (split mask) ≡ true) (k : ℕ) (l : k < 32) where
  both : field mask k 1 + field (2 ^ 32 - 1 - mask) k 1 ≡ 1
  both = eqb-true (field mask k 1 + field (2 ^ 32 - 1 - mask) k 1) 1 (below 32 (split mask) h k l)

  bit-written : (old value : ℕ) → field mask k 1 ≡ 1 → field (masked old value mask) k 1 ≡ field value k 1
  bit-written old value e = field-written old value mask k 1 e (omega (arith, both))

  bit_kept : (old value : ℕ) → field mask k 1 ≡ 0 → field (masked old value mask) k 1 ≡ field old k 1
  bit_kept old value e = field-kept old value mask k 1 e (omega (arith, both))

-- the ready bit's own write leaves every other bit
module _ (k : ℕ) (l : k < 32) (ne : eqb k 1 ≡ false) where
  ready_mask : field 2 k 1 ≡ 0
  ready_mask = eqb-true (field 2 k 1) 0 (or_second (eqb k 1) (eqb (field 2 k 1) 0) ne (below 32 (λ (x : ℕ). eqb x 1 || eqb (field 2 x 1) 0) refl k l))

  readied-bit : (m : ℕ) → field (readied m) k 1 ≡ field m k 1
  readied-bit m = bit_kept 2 refl k l m (2 * (m % 2)) ready_mask

-- ---- the register written

-- 010h and 020h: a mask without bit 1, and the ready bit
with_ready_lem : (mask old v k : ℕ) → all_below 32 (split mask) ≡ true → field mask 1 1 ≡ 0 → k < 32 → field mask k 1 ≡ 1
    → field (readied (masked old v mask)) k 1 ≡ field v k 1
with_ready_lem mask old v k h z l e = go (eqb k 1) refl
  where
    go : (t : Bool) → eqb k 1 ≡ t → field (readied (masked old v mask)) k 1 ≡ field v k 1
    go true q = absurd (omega (arith, sym e ∙ ap (λ (x : ℕ). field mask x 1) (eqb-true k 1 q) ∙ z))
    go false q = readied-bit k l q (masked old v mask) ∙ bit-written mask h k l old v e

no_bits : (k : ℕ) → bit_of k 0 ≡ 1 → ⊥
no_bits k e = omega (arith, ap (λ (x : ℕ). x % 2) (zero-div (2 ^ k)))

module _ (s : State) (v : ℕ) where
  abbrev c : Config
  c = s.config

  abbrev after : ℕ → State
  after a = written_state s a v

  bits_at : (a : ℕ) → BitsWritten a v (value_at c a) (value_at (after a).config a)
  bits_at =
      by_address (λ (a : ℕ). BitsWritten a v (value_at c a) (value_at (after a).config a))
      (record {
        written = λ k l e. bit-written 0xDCF0F000 refl k l c.r008.value v e;
        ready = λ e. absurd (true≢false (sym e));
        kept = λ k l e n. bit_kept 0xDCF0F000 refl k l c.r008.value v e;
      })
      (record {
        written = λ k l e. with_ready_lem 0x00007705 c.r010.value v k refl refl l e;
        ready = λ _. (written010 c.r010 v).ready ∙ sym (bit-zero v);
        kept = λ k l e n. readied-bit k l n (masked c.r010.value v 0x00007705) ∙ bit_kept 0x00007705 refl k l c.r010.value v e;
      })
      (record {
        written = λ k l e. with_ready_lem 0x003F0001 c.r020.value v k refl refl l e;
        ready = λ _. (written020 c.r020 v).ready ∙ sym (bit-zero v);
        kept = λ k l e n. readied-bit k l n (masked c.r020.value v 0x003F0001) ∙ bit_kept 0x003F0001 refl k l c.r020.value v e;
      })
      (λ a e8 e10 e20. let same : (after a).config ≡ c = rw (e8, e10, e20) in
      let none : writable_bits a ≡ 0 = rw (e8, e10, e20) in
      record {
        written = λ k l e. absurd (no_bits k (ap (bit_of k) (sym none) ∙ e));
        ready = λ e. absurd (true≢false (sym e ∙ rw (e10, e20)));
        kept = λ k l e n. ap (λ (d : Config). bit_of k (value_at d a)) same;
      })

  others-at : (x a : ℕ) → x ≢ a → value_at (after a).config x ≡ value_at c x
  others-at x =
      by_address (λ (a : ℕ). x ≢ a → value_at (after a).config x ≡ value_at c x)
      (λ n. rw (ne_eqb x 0x008 n)) (λ n. rw (ne_eqb x 0x010 n)) (λ n. rw (ne_eqb x 0x020 n)) (λ a e8 e10 e20 _. rw (e8, e10, e20))

  -- ---- the parts

  no_turn : (k : Channel) (was is : Bool) (p : Part k) → turns k was is ≡ false → switched k was is p ≡ p
  no_turn peripheral = P₁.no_turn
  no_turn wires = W₁.no_turn

  -- 0 to 0 and 1 to 1
  switched-same : (k : Channel) (t : Bool) (p : Part k) → switched k t t p ≡ p
  switched-same peripheral = P₁.switched-same
  switched-same wires = W₁.switched-same

  -- a write of this address does not turn this channel
  abbrev Unturned : ℕ → Channel → Type 0
  Unturned a k = (enables_at k a && turns k (is_enabled k c) (value_enables v)) ≡ false

  pub parts_at : (k : Channel) (a : ℕ) → Unturned a k → part k (after a) ≡ part k s
  parts_at k a h = part-each (written_part c a v) _ s k ∙ go (enables_at k a) h
    where
      go : (t : Bool) → (t && turns k (is_enabled k c) (value_enables v)) ≡ false
          → switched k (is_enabled k c) (pick t (value_enables v) (is_enabled k c)) (part k s) ≡ part k s
      go true e = no_turn k (is_enabled k c) (value_enables v) (part k s) e
      go false e = switched-same k (is_enabled k c) (part k s)

-- ---- the statements

writes : (w : World) (b reply : List ℕ) → byte b 0 ≡ 0x22 → (step w (exchange b reply)).number ≡ 0 → Configured w b (step w (exchange b reply)).next
writes w b reply e n =
    let a = register_at b in
    let v = register_value b in
    subst (Configured w b) (sym (effects w (exchange b reply) n ∙ ap (λ (op : ℕ). exchange_effect w op b) e))
    (record {
      bits = bits_at w.state v a;
      others = λ x. others-at w.state v x a;
      parts = λ k. parts_at w.state v k a;
      stores = (refl, refl);
    })

-- a command's bytes; no other call has any
abbrev command_bytes : Call → List ℕ
command_bytes (reset r) = []
command_bytes (exchange command reply) = command
command_bytes (board k o) = []
command_bytes (short state c) = []
command_bytes (lend write read) = []

abbrev Shown : World → List ℕ → Outcome → Type 0
Shown w b o = byte b 0 ≡ 0x21 → o.number ≡ 0 → o.reply ≡ reply_of 0x08 (register_bytes (value_at w.state.config (register_at b))) (status w.state)

read_case : (w : World) {c : Call} {o : Outcome} → Case w c o → Shown w (command_bytes c) o
unfolding performed reply_bytes closed
read_case w (idle n q) h z = absurd (omega (arith, q.least))
read_case w (shown {b} (N.status e)) h z = absurd (omega (arith, R.reads w.state b C.GetStatus e))
read_case w (shown {b} (N.register a e)) h z =
    ap (λ (x : ℕ). reply_of 0x08 (register_bytes (value_at w.state.config x)) (status w.state)) (R.reads w.state b (C.GetConfiguration a) e).address
read_case w (acted {b} k o x e d f) h z = absurd (not_ours w k b h (above k).at21 (command_own k w.state b o e))
read_case w (settles k o x n d) h z = absurd (omega arith)
read_case w (forbidden a v e f) h z = absurd (omega arith)
read_case w (hindered a v e f g) h z = absurd (omega arith)
read_case w (configured {b} a v e f g) h z = absurd (omega (arith, (R.reads w.state b (C.SetConfiguration a v) e).opcode))
read_case w (lowered {b} o x e d) h z = absurd (not_ours w wires b h (above wires).at21 (command_own wires w.state b o e))
read_case w (cleared {b} e) h z = absurd (omega (arith, R.reads w.state b C.Reset e))
read_case w wiped h z = absurd (omega arith)
read_case w lent h z = absurd (omega arith)

reads : (w : World) (b reply : List ℕ) → byte b 0 ≡ 0x21 → (step w (exchange b reply)).number ≡ 0
    → (step w (exchange b reply)).reply ≡ reply_of 0x08 (register_bytes (value_at w.state.config (register_at b))) (status w.state)
reads w b reply = read_case w (cases w (exchange b reply))

-- ---- the calls that change nothing

board_row : (w : World) (k : Channel) (o : Board k) → board_only_reads k o ≡ true → board_effect k w o ≡ w
board_row w peripheral (P.look report) h = refl
board_row w peripheral (P.answer serial success bytes) h = absurd (true≢false (sym h))
board_row w peripheral (P.take_write report) h = absurd (true≢false (sym h))
board_row w wires (W.set_wire index bit value) h = absurd (true≢false (sym h))
board_row w wires (W.read_wire index bit) h = refl
board_row w wires (W.set_line line level) h = absurd (true≢false (sym h))
board_row w wires (W.pulse_line line) h = absurd (true≢false (sym h))

same_row : (w : World) (c : Call) → only_reads c ≡ true → effect w c ≡ w
same_row w (reset r) h = absurd (true≢false (sym h))
same_row w (exchange b reply) h = one_of (λ (op : ℕ). exchange_effect w op b ≡ w) (byte b 0) 0x21 0x25 refl refl h
same_row w (board k o) h = board_row w k o h
same_row w (short state c) h = refl
same_row w (lend write read) h = absurd (true≢false (sym h))

pub config_writes : ConfigWrites
config_writes = record { writes = writes; reads = reads; changes_nothing = λ w c h. after_call (λ (v : World). v ≡ w) w c refl (λ _. same_row w c h) }
