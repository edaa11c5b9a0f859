-- The packet that lowers PLTRST#, by its bytes.
use Rattle.std.specs.Prelude.{ℕ, ◌+◌, ◌-◌, ◌*◌, Bool, true, false, ◌&&◌, List, ◌≡◌, refl, eqb, get_or, None}
use Rattle.std.proofs.Common.{true≢false, ap, sym, ◌∙◌, eq-eqb}
use Rattle.base.specs.Bytes.{bit}
use Rattle.base.specs.Pick.{pick, and_true}
use Rattle.wires.specs.Below.{any}
use Rattle.wires.specs.Table.{is_line, senders, group_at}
use Rattle.wires.specs.Groups.{put_pairs}
use Rattle.wires.specs.Changes.{put-marks}
use Rattle.wires.specs.Transitions.{third_transition}
use Rattle.wires.specs.Lines.{line_bit}
use Rattle.wires.specs.Senders.{AllWires, with_groups, any_pending}
use Rattle.registers.specs.declared.Config.{Config}
use Rattle.peripheral.specs.Status.{peripheral_status}
use Rattle.state.specs.Status.{status}
use Rattle.state.specs.State.{State}
use Rattle.rules.specs.Rules.Out.{accept}
use Rattle.rules.specs.Rules.Wires as W₀
use Rattle.rules.specs.Rules.Channel.{wires, put}
use Rattle.rules.specs.Statements.Wires as W
use Rattle.rules.specs.Statements.Events.{lowers_pltrst}
use Rattle.rules.specs.Statements.Fields.{byte, pairs}
use Rattle.rules.specs.Statements.Reads as R
use Rattle.rules.proofs.Proofs.Events.{no_lowering}
use Rattle.rules.specs.declared.Body.TheVariants as B
use Rattle.rules.specs.Rules.Plan.{WiresChange}

pub record Lowered (s : State) (b : List ℕ) (v : AllWires) : Type 0 where
  pub opcode : byte b 0 ≡ 0x04
  pub lowers : lowers_pltrst s b ≡ true
  pub few : third_transition s.wires.groups (pairs b) ≡ false
  pub wires : v ≡ with_groups s.wires (put_pairs s.wires.groups (pairs b))

-- the pairs of a packet move no bit of the status
pub status-put : (s : State) (ps : List ℕ) → status (put wires (with_groups s.wires (put_pairs s.wires.groups ps)) s) ≡ status s
unfolding status any_pending
status-put s ps =
    ap (λ (m : List Bool). peripheral_status s.peripheral
    + (4 + bit (any senders (λ (k : ℕ). pick (is_line k) (line_bit s.wires.lines.waits k) (get_or m (group_at k - 2) false))) * 64))
    (put-marks s.wires.groups ps)

-- it is put and accepted, as any other
pub lowers_did : {c : Config} {w : AllWires} {a : W₀.Act} {x : WiresChange} → W.Lowers c w a x → W.Did c w a x
lowers_did (W.lowered e f high low) = W.put e f

pub lowers_accepts : {c : Config} {w : AllWires} {a : W₀.Act} {x : WiresChange} → W.Lowers c w a x → x.out ≡ accept B.Nothing None
lowers_accepts (W.lowered e f high low) = refl

module _ (s : State) (b : List ℕ) where
  pub lowered_bytes : {a : W₀.Act} {x : WiresChange} → W.Lowers s.config s.wires a x → R.Wires b a → Lowered s b x.next
  lowered_bytes (W.lowered e f high low) (R.Wires.puts h) =
      record { opcode = h; lowers = and_true (eq-eqb _ 0x04 h) (and_true (eq-eqb _ 1 high) (eq-eqb _ 0 low)); few = f; wires = refl }

  -- an accepted command that no reset follows
  pub unlowered : {a : W₀.Act} {x : WiresChange} → W.Did s.config s.wires a x → R.Wires b a → W₀.reset_follows s.wires a x.next ≡ false
      → eqb x.out.number 0 ≡ true → lowers_pltrst s b ≡ false
  unlowered (W.over_count e) r f n = absurd (true≢false (sym n))
  unlowered (W.third e g) r f n = absurd (true≢false (sym n))
  unlowered (W.put e g) (R.Wires.puts h) f n =
      ap (λ (op : ℕ). eqb op 0x04 && (eqb (W₀.pltrst s.wires) 1 && eqb (W₀.pltrst (with_groups s.wires (put_pairs s.wires.groups (pairs b)))) 0)) h ∙ f
  unlowered (W.none_pending_lem e) r f n = absurd (true≢false (sym n))
  unlowered (W.sent_off_lem e) (R.Wires.gets h) f n = no_lowering s b (ap (λ (op : ℕ). eqb op 0x04) h)
