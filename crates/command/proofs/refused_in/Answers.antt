use Prim.Native.Nat.{ℕ, ◌+◌, ◌*◌, ◌%◌}
use mathlib.Core.Bool.{true, false}
use mathlib.Core.Path.{◌≡◌, refl, ap, ◌∙◌}
use native.Mathlib.Omega.{arith}
use lib.ListN.{get_or}
use Rattle.command.specs.Rows.{row_of}
use Rattle.command.specs.Needs.{group_count}
use Rattle.command.specs.Laws.{no_single, middle, quad, short_below, short_above}
use Rattle.command.proofs.Refused.{at_row, plain-verdict, short-verdict, counted-verdict, headed-verdict, reset-verdict}
use Rattle.command.specs.declared.Access.TheVariants.{IoRead, IoWrite, MemoryRead, MemoryWrite}
use Rattle.command.specs.declared.Opcode.TheVariants as O
use Rattle.command.specs.declared.Channel.TheVariants.{Peripheral, Wires, Independent}
use Rattle.command.proofs.refused_in.Goals as goal
use Rattle.std.specs.Prelude.{None}

-- opcode, address, data of a write and CRC
sized : (address : ℕ) {n m : ℕ} → n ≡ m → 2 + address + n ≡ 1 + address + m + 1
sized address e = omega arith

pub returns-in-33 : goal.returns-in-33
returns-in-33 c =
    plain-verdict _ _ _ c.requires O.GetConfiguration Independent 2 0 4 refl
    (ap row_of c.in-33.is) c.fixed-in-33.ensures

pub returns-in-0 : goal.returns-in-0
returns-in-0 c = headed-verdict _ _ _ c.requires O.PutPc 0x01 0x03 true
    (ap row_of c.in-0.is) c.headed.ensures

pub returns-in-1 : goal.returns-in-1
returns-in-1 c = plain-verdict _ _ _ c.requires O.GetPc Peripheral 0 0 2 refl
    (ap row_of c.in-1.is) c.fixed.ensures

pub returns-in-2 : goal.returns-in-2
returns-in-2 c = headed-verdict _ _ _ c.requires O.PutNp 0x00 0x02 false
    (ap row_of c.in-2.is) c.headed-in-2.ensures

pub returns-in-4 : goal.returns-in-4
returns-in-4 c = counted-verdict _ _ _ c.requires _
    (ap (λ (n : ℕ). 3 + 2 * n) (c.group_count.ensures.0 ∙ ap group_count c.byte_at.ensures))
    (ap row_of c.in-4.is) c.fixed-in-4.ensures

pub returns-in-5 : goal.returns-in-5
returns-in-5 c = plain-verdict _ _ _ c.requires O.GetVwire Wires 0 0 2 refl
    (ap row_of c.in-5.is) c.fixed-in-5.ensures

pub returns-in-34 : goal.returns-in-34
returns-in-34 c = plain-verdict _ _ _ c.requires O.SetConfiguration Independent 2 4 8 refl
    (ap row_of c.in-34.is) c.fixed-in-34.ensures

pub returns-in-37 : goal.returns-in-37
returns-in-37 c = plain-verdict _ _ _ c.requires O.GetStatus Independent 0 0 2 refl
    (ap row_of c.in-37.is) c.fixed-in-37.ensures

pub returns-in-255 : goal.returns-in-255
returns-in-255 c = reset-verdict _ _ _ c.requires (ap row_of c.in-255.is) c.refused_reset.ensures

pub returns-in-64-to-67 : goal.returns-in-64-to-67
returns-in-64-to-67 c = let op = get_or c.args.b.now 0 0 in
    short-verdict _ _ _ c.requires IoRead 2 false (op % 4) _ refl
    (middle op (omega arith) (omega arith) ∙ simp (quad 0x10 op (omega arith) (omega arith))) c.short.ensures

pub returns-in-68-to-71 : goal.returns-in-68-to-71
returns-in-68-to-71 c = let op = get_or c.args.b.now 0 0 in
    short-verdict _ _ _ c.requires IoWrite 2 true (op % 4) _ (sized 2 (c.from.ensures ∙ c.size_of_code.ensures))
    (middle op (omega arith) (omega arith) ∙ simp (quad 0x11 op (omega arith) (omega arith))) c.short-in-68-to-71.ensures

pub returns-in-72-to-75 : goal.returns-in-72-to-75
returns-in-72-to-75 c = let op = get_or c.args.b.now 0 0 in
    short-verdict _ _ _ c.requires MemoryRead 4 false (op % 4) _ refl
    (middle op (omega arith) (omega arith) ∙ simp (quad 0x12 op (omega arith) (omega arith))) c.short-in-72-to-75.ensures

pub returns-in-76-to-79 : goal.returns-in-76-to-79
returns-in-76-to-79 c = let op = get_or c.args.b.now 0 0 in
    short-verdict _ _ _ c.requires MemoryWrite 4 true (op % 4) _ (sized 4 (c.from-in-76-to-79.ensures ∙ c.size_of_code-in-76-to-79.ensures))
    (middle op (omega arith) (omega arith) ∙ simp (quad 0x13 op (omega arith) (omega arith))) c.short-in-76-to-79.ensures

pub returns-in_default : goal.returns-in_default
returns-in_default c = at_row _ _ _ c.requires None (no_single _ c.in_default.in_default-own.rest ∙ short_below _ c.in_default.if-op-lt64-own.true)

pub returns-in_default-2 : goal.returns-in_default-2
returns-in_default-2 c = at_row _ _ _ c.requires None (no_single _ c.in_default.in_default-own.rest ∙ short_above _ c.in_default.if-op-lt80-own.false)
