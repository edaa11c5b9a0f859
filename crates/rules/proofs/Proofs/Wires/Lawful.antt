-- Channel 1 is lawful, and keeps no data.
use Rattle.std.specs.Prelude.{◌≤◌, refl}
use Rattle.std.proofs.Common.{zero-le, arith}
use Rattle.registers.specs.declared.Config.{Config}
use Rattle.wires.specs.Senders.{AllWires}
use Rattle.rules.specs.Rules.Wires as W₀
use Rattle.rules.specs.Rules.Channel.{wires}
use Rattle.rules.specs.Statements.Wires as W
use Rattle.rules.specs.Statements.Channels as L
use Rattle.rules.specs.Statements.Channels.{Acts, Settles}
use Rattle.rules.specs.Statements.Refusals.{kept_count}
use Rattle.rules.specs.Rules.Plan.{WiresChange}

pub acts : {c : Config} {p : AllWires} {a : W₀.Act} {x : WiresChange} → W.Did c p a x → Acts wires p a x
acts (W.over_count e) = L.Acts.refused
acts (W.third e f) = L.Acts.refused
acts (W.put e f) = L.Acts.accepted _ _ _ refl refl
acts (W.none_pending_lem e) = L.Acts.refused
acts (W.sent_off_lem e) = L.Acts.accepted _ _ _ refl refl

pub settles : {c : Config} {p : AllWires} {o : W₀.Board} {x : WiresChange} → W.Settled c p o x → Settles wires p o x
settles (W.not_boards e) = L.Settles.refused 22 (omega arith) (omega arith) refl refl
settles (W.set e) = L.Settles.accepted _ _ refl
settles (W.no_wire_lem e) = L.Settles.refused 22 (omega arith) (omega arith) refl (rw e)
settles (W.read e) = L.Settles.accepted _ _ refl
settles (W.no_line_lem e) = L.Settles.refused 22 (omega arith) (omega arith) refl refl
settles (W.edge_waits_lem e f) = L.Settles.refused 24 (omega arith) (omega arith) refl refl
settles (W.line_set_lem e f) = L.Settles.accepted _ _ refl
settles (W.no_line_to_pulse e) = L.Settles.refused 22 (omega arith) (omega arith) refl refl
settles (W.cannot_pulse e f) = L.Settles.refused 24 (omega arith) (omega arith) refl refl
settles (W.pulsed e f) = L.Settles.accepted _ _ refl

pub acts_keep : {c : Config} {p : AllWires} {a : W₀.Act} {x : WiresChange} → W.Did c p a x → kept_count x.out.kept ≤ 0
acts_keep (W.over_count e) = zero-le
acts_keep (W.third e f) = zero-le
acts_keep (W.put e f) = zero-le
acts_keep (W.none_pending_lem e) = zero-le
acts_keep (W.sent_off_lem e) = zero-le

pub settled-keep : {c : Config} {p : AllWires} {o : W₀.Board} {x : WiresChange} → W.Settled c p o x → kept_count x.out.kept ≤ 0
settled-keep (W.not_boards e) = zero-le
settled-keep (W.set e) = zero-le
settled-keep (W.no_wire_lem e) = zero-le
settled-keep (W.read e) = zero-le
settled-keep (W.no_line_lem e) = zero-le
settled-keep (W.edge_waits_lem e f) = zero-le
settled-keep (W.line_set_lem e f) = zero-le
settled-keep (W.no_line_to_pulse e) = zero-le
settled-keep (W.cannot_pulse e f) = zero-le
settled-keep (W.pulsed e f) = zero-le
