-- A channel is on where its register's bit 0 says so.
use Rattle.std.specs.Prelude.{ℕ, ◌≡◌, eqb}
use Rattle.std.proofs.Common.{sym, ap}
use Rattle.registers.proofs.Laws.{bit-zero}
use Rattle.registers.specs.declared.Config.{Config}
use Rattle.rules.specs.Rules.Channel.{Channel, peripheral, wires, on}
use Rattle.rules.specs.Statements.Sizes.{is_enabled}

pub on_as : (k : Channel) (c : Config) → on k c ≡ is_enabled k c
on_as peripheral c = ap (λ (x : ℕ). eqb x 1) (sym (bit-zero c.r010.value))
on_as wires c = ap (λ (x : ℕ). eqb x 1) (sym (bit-zero c.r020.value))
