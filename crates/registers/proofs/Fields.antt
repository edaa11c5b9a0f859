-- The fields of a masked write, and of each register that is written (01, Registers and status).
-- ---- fields of a masked write; the premises are refl at numerals
use Rattle.std.specs.Prelude.{ℕ, ◌+◌, ◌-◌, ◌*◌, ◌/◌, ◌%◌, ◌^◌, ◌≡◌, refl, eqb}
use Rattle.std.proofs.Common.{◌∙◌, ap, sym, div-one, arith}
use Rattle.registers.specs.declared.Reg008.{Reg008}
use Rattle.registers.specs.declared.Reg010.{Reg010}
use Rattle.registers.specs.declared.Reg020.{Reg020}
use Rattle.registers.specs.Registers.{field, bits, masked, readied, writable008, writable010, writable020, write008, write010, write020, size_of, crc_checked, on0, on1, payload_size, read_size, operating_count}
use Rattle.registers.specs.Fields.{Written008, Written010, Written020, field-kept, field-written, readied-kept, readied-written}

-- bit 0, as the enable bits are read
pub bit-zero : (v : ℕ) → bits 0 0 v ≡ v % 2
bit-zero v = ap (λ (x : ℕ). x % 2) (div-one v)

-- ---- a register that is written: each of its fields

-- enable is the value's, and ready equals it
module _ (old val mask : ℕ) (o : field mask 0 1 ≡ 1) (z : field (2 ^ 32 - 1 - mask) 0 1 ≡ 0) where
  enabled : readied (masked old val mask) % 2 ≡ val % 2
  enabled = sym (bit-zero (readied (masked old val mask))) ∙ readied-written old val mask 0 1 refl refl o z ∙ bit-zero val

  ready : bits 1 1 (readied (masked old val mask)) ≡ val % 2
  ready =
      field-written (masked old val mask) (2 * (masked old val mask % 2)) 2 1 1 refl refl
      ∙ doubled (masked old val mask)
      ∙ sym (bit-zero (masked old val mask)) ∙ field-written old val mask 0 1 o z ∙ bit-zero val
    where
      doubled : (w : ℕ) → 2 * (w % 2) / 2 ^ 1 % 2 ^ 1 ≡ w % 2
      doubled w = omega arith

pub written008 : (r : Reg008) (v : ℕ) → Written008 r v
written008 r v =
    record {
      crc = field-written r.value v writable008 31 1 refl refl;
      modifier = field-written r.value v writable008 30 1 refl refl;
      kept29 = field-kept r.value v writable008 29 1 refl refl;
      alert_mode = field-written r.value v writable008 28 1 refl refl;
      io_mode = field-written r.value v writable008 26 2 refl refl;
      kept25 = field-kept r.value v writable008 24 2 refl refl;
      drive = field-written r.value v writable008 23 1 refl refl;
      frequency = field-written r.value v writable008 20 3 refl refl;
      kept19 = field-kept r.value v writable008 16 4 refl refl;
      waits = field-written r.value v writable008 12 4 refl refl;
      kept11 = field-kept r.value v writable008 0 12 refl refl;
    }

pub written010 : (r : Reg010) (v : ℕ) → Written010 r v
written010 r v =
    record {
      kept31 = readied-kept r.value v writable010 15 17 refl refl refl refl;
      read_code = readied-written r.value v writable010 12 3 refl refl refl refl;
      kept11 = readied-kept r.value v writable010 11 1 refl refl refl refl;
      payload_code_lem = readied-written r.value v writable010 8 3 refl refl refl refl;
      kept7 = readied-kept r.value v writable010 3 5 refl refl refl refl;
      bus_master = readied-written r.value v writable010 2 1 refl refl refl refl;
      ready = ready r.value v writable010 refl refl;
      enable = enabled r.value v writable010 refl refl;
    }

pub written020 : (r : Reg020) (v : ℕ) → Written020 r v
written020 r v =
    record {
      kept31 = readied-kept r.value v writable020 22 10 refl refl refl refl;
      count = readied-written r.value v writable020 16 6 refl refl refl refl;
      kept15 = readied-kept r.value v writable020 2 14 refl refl refl refl;
      ready = ready r.value v writable020 refl refl;
      enable = enabled r.value v writable020 refl refl;
    }

-- what is read off a written register
pub crc-written : (r : Reg008) (v : ℕ) → crc_checked (write008 r v) ≡ eqb (bits 31 31 v) 1
crc-written r v = ap (λ (x : ℕ). eqb x 1) (written008 r v).crc

pub on0-written : (r : Reg010) (v : ℕ) → on0 (write010 r v) ≡ eqb (v % 2) 1
on0-written r v = ap (λ (x : ℕ). eqb x 1) (written010 r v).enable

pub payload_written : (r : Reg010) (v : ℕ) → payload_size (write010 r v) ≡ size_of (bits 10 8 v)
payload_written r v = ap size_of (written010 r v).payload_code_lem

pub read-written : (r : Reg010) (v : ℕ) → read_size (write010 r v) ≡ size_of (bits 14 12 v)
read-written r v = ap size_of (written010 r v).read_code

pub on1-written : (r : Reg020) (v : ℕ) → on1 (write020 r v) ≡ eqb (v % 2) 1
on1-written r v = ap (λ (x : ℕ). eqb x 1) (written020 r v).enable

pub count-written : (r : Reg020) (v : ℕ) → operating_count (write020 r v) ≡ bits 21 16 v + 1
count-written r v = ap (λ (x : ℕ). x + 1) (written020 r v).count
