-- The sizes and counts that reachable registers say (01, Registers and status).
-- ---- a reachable value is not forbidden, and its own write to the reset value leaves it
use Rattle.std.specs.Prelude.{◌+◌, ◌≤◌, true, ◌≡◌}
use Rattle.std.proofs.Common.{◌∙◌, ap, arith}
use Rattle.registers.specs.declared.Reg020.{Reg020}
use Rattle.registers.specs.Registers.{bits, operating_count, fresh020, reachable020}
use Rattle.registers.specs.Fields.{supported_written}
use Rattle.registers.specs.Sizes.{own020}

-- ---- sizes and counts

-- "the operating wire count": 1 to 64, which 13:8 advertise, so that it is "never .. more than the value advertised" (004, 6.2.1.5)
pub count_range : (r : Reg020) → reachable020 r.value ≡ true
    → (1 ≤ operating_count r) × (operating_count r ≤ bits 13 8 r.value + 1) × (bits 13 8 r.value + 1 ≡ 64)
count_range r h =
    let v = r.value in
    let a : bits 13 8 v ≡ 63 = ap (bits 13 8) (own020 v h) ∙ supported_written fresh020 v in
    (omega arith, omega (arith, a), omega (arith, a))
