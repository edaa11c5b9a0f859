-- Channel 1's rows of the table of effects, from its law.
use Rattle.std.specs.Prelude.{ℕ, Bool, true, false, List, [], ◌≡◌, refl}
use Rattle.std.proofs.Common.{true≢false, sym, ap, arith}
use Rattle.base.specs.Bytes.{over_none}
use Rattle.registers.proofs.Laws.{bit-zero}
use Rattle.registers.specs.declared.Config.{Config}
use Rattle.wires.specs.Senders.{AllWires, after_sent}
use Rattle.rules.specs.Rules.Wires as W
use Rattle.rules.specs.Rules.Channel.{wires}
use Rattle.rules.specs.Statements.Fields.{byte, is_channel1}
use Rattle.rules.specs.Statements.Reads as S
use Rattle.rules.specs.Statements.Wires as L
use Rattle.rules.specs.Statements.Wires.Effects.{command_part, board_part, switched}
use Rattle.rules.specs.Statements.ConfigWrites.{turns}
use Rattle.rules.proofs.Proofs.Becomes.{Becomes}
use Rattle.rules.specs.Rules.Plan.{WiresChange}

-- ---- commands; no store is written

pub command_row : {c : Config} {v : AllWires} {b : List ℕ} {a : W.Act} {x : WiresChange} → L.Did c v a x → S.Wires b a
    → Becomes wires (command_part c v b) (λ l. l) b x
command_row (L.over_count e) r z = absurd (omega arith)
command_row (L.third e f) r z = absurd (omega arith)
command_row (L.put e f) (S.Wires.puts h) z = (rw h, over_none)
command_row (L.none_pending_lem e) r z = absurd (omega arith)
command_row {v = v} (L.sent_off_lem e) (S.Wires.gets h) z = (rw h (ap (after_sent v) (sym e)), over_none)

pub command_own : {b : List ℕ} {a : W.Act} → S.Wires b a → is_channel1 (byte b 0) ≡ true
command_own (S.Wires.puts h) = rw h
command_own (S.Wires.gets h) = rw h

-- ---- the board's calls

pub board_row : {c : Config} {v : AllWires} {o : W.Board} {x : WiresChange} → L.Settled c v o x → Becomes wires (board_part c v o) (λ l. l) [] x
board_row (L.not_boards e) z = absurd (omega arith)
board_row {c} (L.set e) z = (rw (bit-zero c.r020.value), over_none)
board_row (L.no_wire_lem e) z = absurd (omega arith)
board_row (L.read e) z = (refl, over_none)
board_row (L.no_line_lem e) z = absurd (omega arith)
board_row (L.edge_waits_lem e f) z = absurd (omega arith)
board_row {c} (L.line_set_lem e f) z = (rw (bit-zero c.r020.value), over_none)
board_row (L.no_line_to_pulse e) z = absurd (omega arith)
board_row (L.cannot_pulse e f) z = absurd (omega arith)
board_row (L.pulsed e f) z = (refl, over_none)

-- ---- an edge of the enable bit

pub edge_row : (was is : Bool) (v : AllWires) → W.enable_edge was is v ≡ switched was is v
edge_row true true v = refl
edge_row true false v = refl
edge_row false true v = refl
edge_row false false v = refl

pub no_turn : (was is : Bool) (v : AllWires) → turns wires was is ≡ false → switched was is v ≡ v
no_turn true true v e = refl
no_turn true false v e = absurd (true≢false e)
no_turn false true v e = absurd (true≢false e)
no_turn false false v e = refl

pub switched-same : (t : Bool) (v : AllWires) → switched t t v ≡ v
switched-same true v = refl
switched-same false v = refl
