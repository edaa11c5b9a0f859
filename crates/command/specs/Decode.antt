-- Which command the bytes are, or why they are none: 12 to 16 in document 01's order (01, Commands; Replies and refusals).
use Rattle.std.specs.Prelude.{ℕ, zero, suc, ◌+◌, ◌-◌, ◌*◌, ◌/◌, ◌%◌, Bool, ◌&&◌, not, List, eqb, leb, length, get_or, take}
use Rattle.base.specs.Pick.{pick}
use Rattle.base.specs.Bytes.{joined4}
use Rattle.crc.specs.Crc.{crc}
use Rattle.command.specs.Rows.{row_of}
use Rattle.command.specs.Needs.{wide_cycle, address_bytes, length_of, group_count, need_row}
use Rattle.command.specs.declared.Opcode.{Opcode}
use Rattle.command.specs.declared.Opcode.TheVariants as O
use Rattle.command.specs.declared.Channels.{Channels}
use Rattle.command.specs.declared.Row.{Row}
use Rattle.command.specs.declared.Need.{Need}
use Rattle.command.specs.declared.Need.TheVariants.{Whole, More, Open, Never}
use Rattle.command.specs.declared.Head.{Head}
use Rattle.command.specs.declared.PeripheralCommand.TheVariants as P
use Rattle.command.specs.declared.WiresCommand.TheVariants as W
use Rattle.command.specs.declared.Command.{Command}
use Rattle.command.specs.declared.Command.TheVariants as C
use Rattle.std.specs.Prelude.{Option, Some, None, Result, Ok, Err}
use Rattle.command.specs.declared.Refusal.{Refusal}
use Rattle.command.specs.declared.Refusal.TheVariants.{LengthWrong, OpcodeUnknown, CrcWrong}

-- ---- the fields of a command

-- the number of n bytes from a place on: "high byte first" (01, Commands)
abbrev pub high_first : ℕ → ℕ → List ℕ → ℕ
high_first zero at b = 0
high_first (suc n) at b = high_first n at b * 256 + get_or b (at + n) 0

-- "address high byte first"
abbrev pub address_in : Row → List ℕ → ℕ
address_in r b = high_first (address_bytes r b) r.from b

-- "cycle type, then tag (4 bits) with length bits 11:8, then length 7:0, address"
abbrev pub head_of : Row → List ℕ → Head
head_of r b =
    record {
      wide = wide_cycle r.cycle (get_or b 1 0);
      tag = get_or b 2 0 / 16;
      length = length_of (get_or b 2 0) (get_or b 3 0);
      address = address_in r b;
    }

-- "address bits 1:0 and 15:12 are ignored"
abbrev pub register_address : Row → List ℕ → ℕ
register_address r b = high_first r.address r.from b / 4 % 1024 * 4

-- "data low byte first"
abbrev pub register_data : List ℕ → ℕ
register_data b = joined4 (get_or b 3 0) (get_or b 4 0) (get_or b 5 0) (get_or b 6 0)

-- the command of a row that bytes of the right length are: "one of a few kinds, and the four short accesses are one kind with an access inside it"
-- (01, Commands)
abbrev pub command_as : Row → List ℕ → Opcode → Command
command_as r b O.PutPc = C.Peripheral (P.PutPc (head_of r b))
command_as r b O.GetPc = C.Peripheral P.GetPc
command_as r b O.PutNp = C.Peripheral (P.PutNp (head_of r b))
command_as r b O.PutVwire = C.Wires (W.PutVwire (group_count (get_or b 1 0)))
command_as r b O.GetVwire = C.Wires W.GetVwire
command_as r b O.GetConfiguration = C.GetConfiguration (register_address r b)
command_as r b O.SetConfiguration = C.SetConfiguration (register_address r b) (register_data b)
command_as r b O.GetStatus = C.GetStatus
command_as r b O.Reset = C.Reset
command_as r b (O.Short a n) = C.Peripheral (P.Short a (record { address = address_in r b; size = n }))

-- that of the row's own opcode (01, Commands)
abbrev pub command_of : Row → List ℕ → Command
command_of r b = command_as r b r.opcode

-- ---- the decoder

-- the last byte is the CRC of all before it (004, 5.2: "all the bytes during the Command Phase")
abbrev pub crc_good : List ℕ → Bool
crc_good b = eqb (crc (take (length b - 1) b)) (get_or b (length b - 1) 0)

-- "checked only while register 008h bit 31 is 1"; RESET has none
abbrev pub crc_wrong : Bool → Bool → List ℕ → Bool
crc_wrong checked has b = checked && (has && not (crc_good b))

-- 16, "CRC wrong while checked"; else the command is known
abbrev pub checked_as : Bool → List ℕ → Row → Result Command Refusal
checked_as checked b r = pick (crc_wrong checked r.crc b) (Err CrcWrong) (Ok (command_of r b))

-- "exact length (12)"; "RESET: two or more bytes", else 13
abbrev pub read_off_value : Bool → List ℕ → Row → Need → Result Command Refusal
read_off_value checked b r (Whole n) = pick (not (eqb (length b) n)) (Err LengthWrong) (checked_as checked b r)
read_off_value checked b r (More k) = Err LengthWrong
read_off_value checked b r Open = pick (not (leb 2 (length b))) (Err OpcodeUnknown) (checked_as checked b r)
read_off_value checked b r (Never z) = Err z

-- "unknown opcode" is 13
abbrev pub admit_listed : Channels → Bool → List ℕ → Option Row → Result Command Refusal
admit_listed on checked b None = Err OpcodeUnknown
admit_listed on checked b (Some r) = read_off_value checked b r (need_row on b r)

-- "empty (12)"
unfoldable pub admit : Channels → Bool → List ℕ → Result Command Refusal
admit on checked b = pick (eqb (length b) 0) (Err LengthWrong) (admit_listed on checked b (row_of (get_or b 0 0)))
