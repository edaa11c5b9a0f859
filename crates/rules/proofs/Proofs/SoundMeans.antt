-- The Bool test `sound` says the clauses of "Sound state" (01, Wires, last paragraph), both ways.
use Rattle.std.specs.Prelude.{true, ◌≡◌}
use Rattle.registers.specs.Registers.{operating_count}
use Rattle.registers.specs.declared.Config.{Config}
use Rattle.state.specs.State.{State}
use Rattle.state.specs.Channel.{sound_part, fits_part}
use Rattle.state.specs.Facts.{sound_parts, sound-made, fit_parts}
use Rattle.state.specs.Sound.{sound, fits}
use Rattle.rules.specs.Statements.SoundMeans.{PartClauses, Clauses}
use Rattle.rules.proofs.Proofs.SoundRegisters.{registers_reached, reached_registers}
use Rattle.rules.specs.Rules.Channel.{Channel, peripheral, wires, Part, part, on}
use Rattle.rules.proofs.Proofs.Peripheral.SoundMeans as P
use Rattle.rules.proofs.Proofs.Wires.SoundMeans as W

part_clauses : (k : Channel) (c : Config) (q : Part k) → sound_part k c q ≡ true → fits_part k q ≡ true → PartClauses k c q
part_clauses peripheral c q e f = P.clauses (on peripheral c) q e f
part_clauses wires c q e f = W.clauses (on wires c) (operating_count c.r020) q e

clauses_part : (k : Channel) (c : Config) (q : Part k) → PartClauses k c q → sound_part k c q ≡ true
clauses_part peripheral c = P.peripheral_clause (on peripheral c)
clauses_part wires c = W.wires_clause (on wires c) (operating_count c.r020)

pub sound_clauses : (s : State) → sound s ≡ true → fits s ≡ true → Clauses s
sound_clauses s e f =
    let p = sound_parts s e in
    let t = fit_parts s f in
    record {
      registers = registers_reached s.config t.config p.config;
      of_channel_lem = λ k. part_clauses k s.config (part k s) (p.each k) (t.each k);
    }

pub clauses_sound : (s : State) → Clauses s → sound s ≡ true
clauses_sound s c =
    sound-made s
    (record {
      config = reached_registers s.config c.registers;
      each = λ k. clauses_part k s.config (part k s) (c.of_channel_lem k);
    })
