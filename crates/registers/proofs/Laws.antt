-- What callers use of the registers, in place of the definitions' texts: reads after writes, values that stay below 2 ^ 32 and reachable.
-- The laws of the fields and of the sizes are passed on.
-- ---- a write by its address
use Rattle.std.specs.Prelude.{ℕ, true, false, ◌≡◌, refl}
use Rattle.std.proofs.Common.{sym, eq-eqb}
use Rattle.registers.specs.declared.Reg008.{Reg008}
use Rattle.registers.specs.declared.Reg010.{Reg010}
use Rattle.registers.specs.declared.Reg020.{Reg020}
use Rattle.registers.specs.declared.Config.{Config}
use Rattle.registers.specs.Registers.{reset008, reset010, reset020, writable008, writable010, writable020, forbidden008, forbidden010, write008, write010, write020, forbidden_at, write_at, reachable008, reachable010, reachable020, reachable}
use Rattle.registers.proofs.Masks.{own_again, ready_again}
pub use Rattle.registers.proofs.Fields.{bit-zero, written008, written010, written020, crc-written, on0-written, payload_written, read-written, on1-written, count-written}
use Rattle.registers.specs.Sizes.{own008, own010, own020}
pub use Rattle.registers.proofs.Sizes.{count_range}
use Rattle.registers.specs.Laws.{by_address, made, reachable-all, reachable_r008, reachable_r010, reachable_r020, write_other}

-- ---- reachable values stay so

pub reachable-write008 : (r : Reg008) (v : ℕ) → reachable008 r.value ≡ true → forbidden008 v ≡ false → reachable008 (write008 r v).value ≡ true
unfolding reachable008
reachable-write008 r v h f =
    let w = written008 r v in
    made _ _ (forbidden008 (write008 r v).value) (own_again writable008 refl reset008 r.value v (sym (own008 r.value h).1))
    (rw (w.io_mode, w.frequency) f)

pub reachable-write010 : (r : Reg010) (v : ℕ) → reachable010 r.value ≡ true → forbidden010 v ≡ false → reachable010 (write010 r v).value ≡ true
unfolding reachable010
reachable-write010 r v h f =
    let w = written010 r v in
    made _ _ (forbidden010 (write010 r v).value)
    (ready_again writable010 refl refl refl refl refl refl refl reset010 r.value v (sym (own010 r.value h).1)) (rw (w.read_code, w.payload_code_lem) f)

pub reachable-write020 : (r : Reg020) (v : ℕ) → reachable020 r.value ≡ true → reachable020 (write020 r v).value ≡ true
unfolding reachable020
reachable-write020 r v h = eq-eqb _ _ (ready_again writable020 refl refl refl refl refl refl refl reset020 r.value v (sym (own020 r.value h)))

pub reachable-write : (c : Config) (a v : ℕ) → reachable c ≡ true → forbidden_at a v ≡ false → reachable (write_at c a v) ≡ true
reachable-write c a v h =
    let h8 = reachable_r008 c h in
    let h10 = reachable_r010 c h in
    let h20 = reachable_r020 c h in
    by_address (λ (x : ℕ). forbidden_at x v ≡ false → reachable (write_at c x v) ≡ true)
    (λ f. reachable-all (write_at c 0x008 v) (reachable-write008 c.r008 v h8 f) h10 h20)
    (λ f. reachable-all (write_at c 0x010 v) h8 (reachable-write010 c.r010 v h10 f) h20)
    (λ f. reachable-all (write_at c 0x020 v) h8 h10 (reachable-write020 c.r020 v h20))
    (λ x e f g k. rw (write_other c x v e f g) h) a
