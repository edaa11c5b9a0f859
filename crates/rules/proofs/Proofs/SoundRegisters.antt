-- A register's value passes the test of reachable values exactly where it is the reset value written with a value that is not forbidden.
use Rattle.std.specs.Prelude.{ℕ, true, ◌≡◌}
use Rattle.std.proofs.Common.{sym, ap, subst}
use Rattle.registers.specs.Registers.{fresh008, fresh010, fresh020, reachable, reachable008, reachable010, reachable020}
use Rattle.registers.specs.Laws.{Fitting, own008, own010, own020, fresh_008, fresh_010, fresh_020, reachable_r008, reachable_r010, reachable_r020, reachable-all}
use Rattle.registers.proofs.Laws.{reachable-write008, reachable-write010, reachable-write020}
use Rattle.registers.specs.declared.Reg008.{Reg008}
use Rattle.registers.specs.declared.Reg010.{Reg010}
use Rattle.registers.specs.declared.Reg020.{Reg020}
use Rattle.registers.specs.declared.Config.{Config}
use Rattle.rules.specs.Statements.SoundMeans.{Reached}

pub registers_reached : (c : Config) → Fitting c → reachable c ≡ true → Reached c
registers_reached c f h =
    let o8 = own008 c.r008.value (reachable_r008 c h) in
    let o10 = own010 c.r010.value (reachable_r010 c h) in
    let o20 = own020 c.r020.value (reachable_r020 c h) in
    record {
      r008 = (c.r008.value, f.fit008, o8.0, ap (λ (v : ℕ). record { value = v }) o8.1);
      r010 = (c.r010.value, f.fit010, o10.0, ap (λ (v : ℕ). record { value = v }) o10.1);
      r020 = (c.r020.value, f.fit020, ap (λ (v : ℕ). record { value = v }) o20);
    }

pub reached_registers : (c : Config) → Reached c → reachable c ≡ true
reached_registers c r =
    reachable-all c
    (subst (λ (t : Reg008). reachable008 t.value ≡ true) (sym r.r008.3) (reachable-write008 fresh008 r.r008.0 fresh_008 r.r008.2))
    (subst (λ (t : Reg010). reachable010 t.value ≡ true) (sym r.r010.3) (reachable-write010 fresh010 r.r010.0 fresh_010 r.r010.2))
    (subst (λ (t : Reg020). reachable020 t.value ≡ true) (sym r.r020.2) (reachable-write020 fresh020 r.r020.0 fresh_020))
