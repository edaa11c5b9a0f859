-- The fields of a masked write, and of each register that is written (01, Registers and status).
use Rattle.std.specs.Prelude.{ℕ, ◌-◌, ◌*◌, ◌/◌, ◌%◌, ◌^◌, ◌<◌, ◌≡◌, refl}
use Rattle.std.proofs.Common.{◌∙◌, lt_of_le_of_lt}
use Rattle.std.proofs.Math.Nat.{mod-mod}
use Rattle.std.specs.Int.Bits.{bit_and, bit_or, and_zero_r, or_zero_r}
use Rattle.std.proofs.lemmas.Nat.{or_lt, and_le_l, or_shr, and_shr, or_mod, and_mod, and_mask}
use Rattle.registers.specs.declared.Reg008.{Reg008}
use Rattle.registers.specs.declared.Reg010.{Reg010}
use Rattle.registers.specs.declared.Reg020.{Reg020}
use Rattle.registers.specs.Registers.{field, bits, masked, readied, writable020, write008, write010, write020}

-- ---- fields of a masked write; the premises are refl at numerals

field-masked : (old val mask k n : ℕ)
    → field (masked old val mask) k n
    ≡ bit_or (bit_and (field old k n) (field (2 ^ 32 - 1 - mask) k n)) (bit_and (field val k n) (field mask k n))
field-masked old val mask k n = simp (or_shr, and_shr, or_mod, and_mod)

-- a field that the mask leaves out stays
pub field-kept : (old val mask k n : ℕ) → field mask k n ≡ 0 → field (2 ^ 32 - 1 - mask) k n ≡ 2 ^ n - 1
    → field (masked old val mask) k n ≡ field old k n
field-kept old val mask k n z o =
    field-masked old val mask k n ∙ rw (z, o, and_zero_r, or_zero_r, and_mask) (mod-mod (old / 2 ^ k) (2 ^ n))

-- a field that the mask covers is the value's
pub field-written : (old val mask k n : ℕ) → field mask k n ≡ 2 ^ n - 1 → field (2 ^ 32 - 1 - mask) k n ≡ 0
    → field (masked old val mask) k n ≡ field val k n
field-written old val mask k n o z =
    field-masked old val mask k n ∙ rw (z, o, and_zero_r, and_mask) (mod-mod (val / 2 ^ k) (2 ^ n))

pub masked-fits : (old val mask : ℕ) → old < 2 ^ 32 → val < 2 ^ 32 → masked old val mask < 2 ^ 32
masked-fits old val mask ho hv =
    or_lt 32 (bit_and old (2 ^ 32 - 1 - mask)) (bit_and val mask)
    (lt_of_le_of_lt (and_le_l old (2 ^ 32 - 1 - mask)) ho)
    (lt_of_le_of_lt (and_le_l val mask) hv)

-- ---- a register that is written: each of its fields

-- through the ready bit's own write, which touches bit 1 alone
module _ (old val mask k n : ℕ) (z : field 2 k n ≡ 0) (o : field (2 ^ 32 - 1 - 2) k n ≡ 2 ^ n - 1) where
  pub readied-kept : field mask k n ≡ 0 → field (2 ^ 32 - 1 - mask) k n ≡ 2 ^ n - 1 → field (readied (masked old val mask)) k n ≡ field old k n
  readied-kept f g = field-kept (masked old val mask) (2 * (masked old val mask % 2)) 2 k n z o ∙ field-kept old val mask k n f g

  pub readied-written : field mask k n ≡ 2 ^ n - 1 → field (2 ^ 32 - 1 - mask) k n ≡ 0 → field (readied (masked old val mask)) k n ≡ field val k n
  readied-written f g = field-kept (masked old val mask) (2 * (masked old val mask % 2)) 2 k n z o ∙ field-written old val mask k n f g

pub record Written008 (r : Reg008) (v : ℕ) : Type 0 where
  pub crc : bits 31 31 (write008 r v).value ≡ bits 31 31 v
  pub modifier : bits 30 30 (write008 r v).value ≡ bits 30 30 v
  pub kept29 : bits 29 29 (write008 r v).value ≡ bits 29 29 r.value
  pub alert_mode : bits 28 28 (write008 r v).value ≡ bits 28 28 v
  pub io_mode : bits 27 26 (write008 r v).value ≡ bits 27 26 v
  pub kept25 : bits 25 24 (write008 r v).value ≡ bits 25 24 r.value
  pub drive : bits 23 23 (write008 r v).value ≡ bits 23 23 v
  pub frequency : bits 22 20 (write008 r v).value ≡ bits 22 20 v
  pub kept19 : bits 19 16 (write008 r v).value ≡ bits 19 16 r.value
  pub waits : bits 15 12 (write008 r v).value ≡ bits 15 12 v
  pub kept11 : bits 11 0 (write008 r v).value ≡ bits 11 0 r.value

pub record Written010 (r : Reg010) (v : ℕ) : Type 0 where
  pub kept31 : bits 31 15 (write010 r v).value ≡ bits 31 15 r.value
  pub read_code : bits 14 12 (write010 r v).value ≡ bits 14 12 v
  pub kept11 : bits 11 11 (write010 r v).value ≡ bits 11 11 r.value
  pub payload_code_lem : bits 10 8 (write010 r v).value ≡ bits 10 8 v
  pub kept7 : bits 7 3 (write010 r v).value ≡ bits 7 3 r.value
  pub bus_master : bits 2 2 (write010 r v).value ≡ bits 2 2 v
  pub ready : bits 1 1 (write010 r v).value ≡ v % 2
  pub enable : (write010 r v).value % 2 ≡ v % 2

pub record Written020 (r : Reg020) (v : ℕ) : Type 0 where
  pub kept31 : bits 31 22 (write020 r v).value ≡ bits 31 22 r.value
  pub count : bits 21 16 (write020 r v).value ≡ bits 21 16 v
  pub kept15 : bits 15 2 (write020 r v).value ≡ bits 15 2 r.value
  pub ready : bits 1 1 (write020 r v).value ≡ v % 2
  pub enable : (write020 r v).value % 2 ≡ v % 2

-- 13:8, the count that is advertised, no write reaches (RO in 004, 6.2.1.5)
pub supported_written : (r : Reg020) (v : ℕ) → bits 13 8 (write020 r v).value ≡ bits 13 8 r.value
supported_written r v = readied-kept r.value v writable020 8 6 refl refl refl refl
