-- A row an opcode: whose the command is, and how its bytes stand (01, Commands; 004, table 2).
use Rattle.std.specs.Prelude.{ℕ, ◌/◌, ◌%◌, Bool, true, false, eqb}
use Rattle.base.specs.Pick.{pick}
use Rattle.command.specs.declared.Access.{Access}
use Rattle.command.specs.declared.Access.TheVariants.{IoRead, IoWrite, MemoryRead, MemoryWrite}
use Rattle.command.specs.declared.Opcode.{Opcode}
use Rattle.command.specs.declared.Opcode.TheVariants as O
use Rattle.command.specs.declared.Channel.{Channel}
use Rattle.command.specs.declared.Channel.TheVariants.{Peripheral, Wires, Independent}
use Rattle.command.specs.declared.Cycle.{Cycle}
use Rattle.command.specs.declared.Data.{Data}
use Rattle.command.specs.declared.Data.TheVariants.{Fixed, Length, Pairs, Ones}
use Rattle.std.specs.Prelude.{Option, Some, None}
use Rattle.command.specs.declared.Row.{Row}

-- "PUT_PC takes 01h (write, 4 address bytes) and 03h (8)": with as many address bytes as its row says, and with 8 (01, Commands)
abbrev pub types : (narrow wide : ℕ) → Option Cycle
types n w = Some (record { narrow = n; wide = w })

-- the opcode tells all: so many address and data bytes behind it, and a CRC (004, 3.2: "an optional header (HDR), optional DATA and a CRC")
abbrev pub plain : Opcode → Channel → (address bytes : ℕ) → Option Row
plain op k a n = Some (record { opcode = op; channel = k; cycle = None; told = 1; from = 1; address = a; carries = Fixed n; crc = true })

-- "cycle type, then tag (4 bits) with length bits 11:8, then length 7:0, address high byte first, data"
abbrev pub headed : Opcode → (narrow wide told : ℕ) → Data → Option Row
headed op n w t d = Some (record { opcode = op; channel = Peripheral; cycle = types n w; told = t; from = 4; address = 4; carries = d; crc = true })

-- "a byte whose low six bits are the group count less one (bits 7:6 ignored), then index and data pairs"
abbrev pub counted : Option Row
counted = Some (record { opcode = O.PutVwire; channel = Wires; cycle = None; told = 2; from = 2; address = 0; carries = Pairs; crc = true })

-- "RESET: two or more bytes, all FFh", no CRC
abbrev pub resets : Option Row
resets = Some (record { opcode = O.Reset; channel = Independent; cycle = None; told = 1; from = 1; address = 0; carries = Ones; crc = false })

-- "In a short opcode C1C0 00, 01 and 11 mean 1, 2 and 4 bytes; 10 is no opcode"
abbrev pub size_of_code : ℕ → ℕ
size_of_code c = pick (eqb c 0) 1 (pick (eqb c 1) 2 4)

-- "I/O has 2 address bytes, memory 4, high byte first; data follows for a write"
abbrev pub short : Access → (address : ℕ) (writes : Bool) (code : ℕ) → Option Row
short a n w c = pick (eqb c 2) None (plain (O.Short a (size_of_code c)) Peripheral n (pick w (size_of_code c) 0))

-- "short I/O read 40h+c, I/O write 44h+c, memory read 48h+c, memory write 4Ch+c"
abbrev pub short_row : ℕ → Option Row
short_row op =
    pick (eqb (op / 4) 0x10) (short IoRead 2 false (op % 4))
    (pick (eqb (op / 4) 0x11) (short IoWrite 2 true (op % 4))
    (pick (eqb (op / 4) 0x12) (short MemoryRead 4 false (op % 4))
    (pick (eqb (op / 4) 0x13) (short MemoryWrite 4 true (op % 4))
    None)))

-- "PUT_PC takes 01h (write, 4 address bytes) and 03h (8); PUT_NP takes 00h (read, 4) and 02h (8)"; a read's length is not needed to know how
-- many bytes the command has
abbrev pub row_of : ℕ → Option Row
row_of op =
    pick (eqb op 0x00) (headed O.PutPc 0x01 0x03 4 Length)
    (pick (eqb op 0x01) (plain O.GetPc Peripheral 0 0)
    (pick (eqb op 0x02) (headed O.PutNp 0x00 0x02 2 (Fixed 0))
    (pick (eqb op 0x04) counted
    (pick (eqb op 0x05) (plain O.GetVwire Wires 0 0)
    (pick (eqb op 0x21) (plain O.GetConfiguration Independent 2 0)
    (pick (eqb op 0x22) (plain O.SetConfiguration Independent 2 4)
    (pick (eqb op 0x25) (plain O.GetStatus Independent 0 0)
    (pick (eqb op 0xFF) resets
    (short_row op)))))))))
