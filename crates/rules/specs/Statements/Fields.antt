-- A command's bytes as document 01 (Commands) and table 2 of source 004 describe them, said by themselves: the statements read these, and
-- the decoder is held against them.
use Rattle.std.specs.Prelude.{ℕ, zero, suc, ◌+◌, ◌-◌, ◌*◌, ◌/◌, ◌%◌, ◌^◌, Bool, true, ◌&&◌, ◌||◌, List, [], ◌∷◌, eqb, leb, length, get_or, take, drop}
use Rattle.base.specs.Pick.{pick}
use Rattle.crc.specs.Crc.{crc}
use Rattle.peripheral.specs.declared.Kind.{Kind}
use Rattle.peripheral.specs.declared.Kind.TheVariants.{MemoryRead, IoRead, IoWrite}

-- a byte of the command, from 0, the opcode (01, Commands; 004, 3.2)
abbrev pub byte : List ℕ → ℕ → ℕ
byte b k = get_or b k 0

-- ---- opcodes

-- "In a short opcode C1C0 00, 01 and 11 mean 1, 2 and 4 bytes; 10 is no opcode" (01, Commands; 004, table 2, note 1)
abbrev pub short_at : ℕ → ℕ → Bool
short_at base op = eqb op base || (eqb op (base + 1) || eqb op (base + 3))

-- "short I/O read 40h+c" (01, Commands)
abbrev pub is_io_read : ℕ → Bool
is_io_read op = short_at 0x40 op

-- ".. I/O write 44h+c" (01, Commands)
abbrev pub is_io_write : ℕ → Bool
is_io_write op = short_at 0x44 op

-- ".. memory read 48h+c" (01, Commands)
abbrev pub is_memory_read : ℕ → Bool
is_memory_read op = short_at 0x48 op

-- ".. memory write 4Ch+c" (01, Commands)
abbrev pub is_memory_write : ℕ → Bool
is_memory_write op = short_at 0x4C op

-- a posted write: PUT_PC and the short memory write; "An I/O write is non-posted" (01, Commands; 004, table 2)
abbrev pub is_posted : ℕ → Bool
is_posted op = eqb op 0x00 || is_memory_write op

-- a read: PUT_NP and the short reads (01, Commands: "PUT_NP takes 00h (read, 4) and 02h (8)")
abbrev pub is_read : ℕ → Bool
is_read op = eqb op 0x02 || (is_io_read op || is_memory_read op)

-- a non-posted request: a read, or an I/O write (004, table 2)
abbrev pub is_non_posted : ℕ → Bool
is_non_posted op = is_read op || is_io_write op

-- channel 0: PUT_PC, GET_PC, PUT_NP and the short accesses (004, table 2: "eSPI Peripheral Channel")
abbrev pub is_channel0 : ℕ → Bool
is_channel0 op = is_posted op || (is_non_posted op || eqb op 0x01)

-- channel 1: PUT_VWIRE and GET_VWIRE (004, table 2: "Virtual Wire Channel")
abbrev pub is_channel1 : ℕ → Bool
is_channel1 op = eqb op 0x04 || eqb op 0x05

-- "PUT_PC 00h, GET_PC 01h, PUT_NP 02h, PUT_VWIRE 04h, GET_VWIRE 05h, GET_CONFIGURATION 21h, SET_CONFIGURATION 22h, GET_STATUS 25h, RESET FFh; short .."
abbrev pub is_listed : ℕ → Bool
is_listed op = is_channel0 op || (is_channel1 op || (eqb op 0x21 || (eqb op 0x22 || (eqb op 0x25 || eqb op 0xFF))))

-- "all FFh" (01, Commands: RESET)
unfoldable pub only_ff : List ℕ → Bool
only_ff [] = true
only_ff (x ∷ xs) = eqb x 0xFF && only_ff xs

-- "RESET: two or more bytes, all FFh" (01, Commands)
abbrev pub is_reset : List ℕ → Bool
is_reset b = leb 2 (length b) && only_ff b

-- ---- numbers in a command

-- n bytes from a place on as a number, "high byte first" (01, Commands)
abbrev pub high_first : ℕ → ℕ → List ℕ → ℕ
high_first zero at b = 0
high_first (suc n) at b = high_first n at b * 256 + byte b (at + n)

-- "low byte first" (01, Commands)
abbrev pub low_first : ℕ → ℕ → List ℕ → ℕ
low_first zero at b = 0
low_first (suc n) at b = low_first n at b + byte b (at + n) * 256 ^ n

-- "PUT_PC takes 01h (write, 4 address bytes) and 03h (8); PUT_NP takes 00h (read, 4) and 02h (8)" (01, Commands)
abbrev pub cycle_width : ℕ → ℕ
cycle_width t = pick (eqb t 0x02 || eqb t 0x03) 8 4

-- "C1C0 00, 01 and 11 mean 1, 2 and 4 bytes" (01, Commands)
abbrev pub short_size : ℕ → ℕ
short_size op = pick (eqb (op % 4) 0) 1 (pick (eqb (op % 4) 1) 2 4)

-- "tag (4 bits) with length bits 11:8, then length 7:0" (01, Commands)
abbrev pub length_field : List ℕ → ℕ
length_field b = byte b 2 % 16 * 256 + byte b 3

-- "Length 0 means 4,096" (01, Commands; 004, 4.1.3)
abbrev pub put_length : List ℕ → ℕ
put_length b = pick (eqb (length_field b) 0) 4096 (length_field b)

-- how many bytes the access is of, PUT_PC and PUT_NP by their length, a short one by its opcode (01, Commands; 004, 4.1.3)
abbrev pub access_length : List ℕ → ℕ
access_length b = pick (eqb (byte b 0) 0x00 || eqb (byte b 0) 0x02) (put_length b) (short_size (byte b 0))

-- "I/O has 2 address bytes, memory 4, high byte first" (01, Commands: Short); PUT_PC and PUT_NP by their cycle type
abbrev pub access_address : List ℕ → ℕ
access_address b =
    pick (eqb (byte b 0) 0x00 || eqb (byte b 0) 0x02) (high_first (cycle_width (byte b 1)) 4 b)
    (pick (is_io_read (byte b 0) || is_io_write (byte b 0)) (high_first 2 1 b) (high_first 4 1 b))

-- "tag (4 bits)"; "Tag 0" for a short access (01, Commands)
abbrev pub access_tag : List ℕ → ℕ
access_tag b = pick (eqb (byte b 0) 0x02) (byte b 2 / 16) 0

-- where the data of a write begins: after the address (01, Commands: "address high byte first, data"; "data follows for a write")
abbrev pub data_from : List ℕ → ℕ
data_from b = pick (eqb (byte b 0) 0x00) (4 + cycle_width (byte b 1)) (pick (is_io_write (byte b 0)) 3 5)

-- the write's data: from there on, as many bytes as its length says (01, Commands: "data follows for a write")
abbrev pub written_data : List ℕ → List ℕ
written_data b = take (access_length b) (drop (data_from b) b)

-- ---- what a non-posted request asks

-- what a non-posted request is: PUT_NP is a memory read, the short ones as they are called (01, Commands; 004, table 5)
abbrev pub request_kind : ℕ → Kind
request_kind op = pick (is_io_read op) IoRead (pick (is_io_write op) IoWrite MemoryRead)

-- "An I/O write's bytes are kept in the state" (01, Requests, answers, pieces): in bus order, low byte first; 0 for a read
abbrev pub io_bytes : List ℕ → ℕ
io_bytes b = pick (is_io_write (byte b 0)) (low_first (access_length b) 3 b) 0

-- ---- wire packets and configuration

-- "a byte whose low six bits are the group count less one (bits 7:6 ignored)" (01, Commands)
abbrev pub groups : List ℕ → ℕ
groups b = byte b 1 % 64 + 1

-- "then index and data pairs" (01, Commands)
abbrev pub pairs : List ℕ → List ℕ
pairs b = take (2 * groups b) (drop 2 b)

-- "address high byte first, ..; address bits 1:0 and 15:12 are ignored" (01, Commands: Configuration)
abbrev pub register_at : List ℕ → ℕ
register_at b = high_first 2 1 b / 4 % 1024 * 4

-- "data low byte first" (01, Commands: Configuration)
abbrev pub register_value : List ℕ → ℕ
register_value b = low_first 4 3 b

-- ---- the whole length: opcode, header, data, CRC

-- a short access: "I/O has 2 address bytes, memory 4 ..; data follows for a write" (01, Commands), and a CRC
abbrev pub short_length : ℕ → ℕ
short_length op =
    pick (is_io_read op) (1 + 2 + 1)
    (pick (is_io_write op) (1 + 2 + short_size op + 1)
    (pick (is_memory_read op) (1 + 4 + 1)
    (1 + 4 + short_size op + 1)))

-- "exact length (12)" is against this: opcode, header, data and "its CRC byte included" (01, Replies and refusals; What the engine covers)
abbrev pub whole_length : List ℕ → ℕ
whole_length b =
    pick (eqb (byte b 0) 0x00) (1 + 3 + cycle_width (byte b 1) + put_length b + 1)
    (pick (eqb (byte b 0) 0x02) (1 + 3 + cycle_width (byte b 1) + 1)
    (pick (eqb (byte b 0) 0x04) (1 + 1 + 2 * groups b + 1)
    (pick (eqb (byte b 0) 0x21) (1 + 2 + 1)
    (pick (eqb (byte b 0) 0x22) (1 + 2 + 4 + 1)
    (pick (eqb (byte b 0) 0x01 || (eqb (byte b 0) 0x05 || eqb (byte b 0) 0x25)) (1 + 1)
    (short_length (byte b 0)))))))

-- the last byte is the CRC of all before it (004, 5.2: "all the bytes during the Command Phase")
abbrev pub crc_right : List ℕ → Bool
crc_right b = eqb (crc (take (length b - 1) b)) (byte b (length b - 1))
