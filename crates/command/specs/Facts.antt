-- What is known of a need and of an admitted command: the row and the tests that it passed, how many bytes it has, which numbers it holds.
use Rattle.std.specs.Prelude.{ℕ, zero, suc, ◌+◌, ◌*◌, ◌/◌, ◌%◌, ◌^◌, ◌<◌, ◌≤◌, Bool, true, false, not, ◌&&◌, List, ◌⊎◌, ◌≡◌, eqb, ltb, get_or}
use Rattle.std.proofs.Common.{inl, inr, sym}
use Rattle.std.proofs.Math.Path.{refl, subst}
use native.Mathlib.Omega.{arith}
use borrow.Author.Tests.{eqb-false}
use Rattle.std.proofs.Math.ListN.{length}
use Rattle.base.specs.Pick.{pick, pick_ind}
use Rattle.base.specs.Bytes.{high2}
use Rattle.command.specs.Rows.{plain, headed, counted, resets, size_of_code, short, row_of}
use Rattle.command.specs.Needs.{channel_on, cycle_listed, wide_cycle, address_bytes, length_of, need_data}
use Rattle.command.specs.Decode.{high_first, command_of}
use Rattle.command.specs.declared.Access.{Access}
use Rattle.command.specs.declared.Access.TheVariants.{IoRead, IoWrite, MemoryRead, MemoryWrite}
use Rattle.command.specs.declared.Opcode.TheVariants as O
use Rattle.command.specs.declared.Channels.{Channels}
use Rattle.command.specs.declared.Channel.TheVariants.{Peripheral, Wires, Independent}
use Rattle.command.specs.declared.Data.TheVariants.{Fixed, Length}
use Rattle.command.specs.declared.Row.{Row}
use Rattle.command.specs.declared.Need.{Need}
use Rattle.command.specs.declared.Need.TheVariants.{Whole, More, Open, Never}
use Rattle.command.specs.declared.Head.{Head}
use Rattle.command.specs.declared.Span.{Span}
use Rattle.command.specs.declared.PeripheralCommand.{PeripheralCommand}
use Rattle.command.specs.declared.PeripheralCommand.TheVariants as P
use Rattle.command.specs.declared.WiresCommand.{WiresCommand}
use Rattle.command.specs.declared.WiresCommand.TheVariants as W
use Rattle.command.specs.declared.Command.{Command}
use Rattle.command.specs.declared.Command.TheVariants as C
use Rattle.std.specs.Prelude.{Option, None}

-- ---- how many bytes

-- "I/O has 2 address bytes, memory 4, high byte first; data follows for a write"
abbrev pub short_length : Access → ℕ → ℕ
short_length IoRead n = 1 + 2 + 1
short_length IoWrite n = 1 + 2 + n + 1
short_length MemoryRead n = 1 + 4 + 1
short_length MemoryWrite n = 1 + 4 + n + 1

-- so many bytes a command has; the data of a write and the pairs of PUT_VWIRE are among them
abbrev pub PeripheralLength : PeripheralCommand → ℕ → Type 0
PeripheralLength (P.PutPc h) m = m ≡ 4 + pick h.wide 8 4 + h.length + 1
PeripheralLength P.GetPc m = m ≡ 2
PeripheralLength (P.PutNp h) m = m ≡ 4 + pick h.wide 8 4 + 1
PeripheralLength (P.Short a s) m = m ≡ short_length a s.size

abbrev pub WiresLength : WiresCommand → ℕ → Type 0
WiresLength (W.PutVwire n) m = m ≡ 2 + n * 2 + 1
WiresLength W.GetVwire m = m ≡ 2

abbrev pub CommandLength : Command → ℕ → Type 0
CommandLength (C.Peripheral c) m = PeripheralLength c m
CommandLength (C.Wires c) m = WiresLength c m
CommandLength (C.GetConfiguration a) m = m ≡ 4
CommandLength (C.SetConfiguration a v) m = m ≡ 8
CommandLength C.GetStatus m = m ≡ 2
CommandLength C.Reset m = 2 ≤ m

-- ---- which numbers

-- each is a byte; past the end `get_or` gives 0
abbrev pub IsBytes : List ℕ → Type 0
IsBytes b = (i : ℕ) → get_or b i 0 < 256

pub record HeadFits (h : Head) : Type 0 where
  pub tag : h.tag < 16
  pub some : 1 ≤ h.length
  pub most : h.length ≤ 4096
  pub address : h.address < 18446744073709551616
  pub narrow : h.wide ≡ false → h.address < 4294967296

-- "1, 2 and 4 bytes"
abbrev pub SizeFits : ℕ → Type 0
SizeFits n = (n ≡ 1) ⊎ ((n ≡ 2) ⊎ (n ≡ 4))

abbrev pub address_limit : Access → ℕ
address_limit IoRead = 65536
address_limit IoWrite = 65536
address_limit MemoryRead = 4294967296
address_limit MemoryWrite = 4294967296

pub record SpanFits (a : Access) (s : Span) : Type 0 where
  pub size : SizeFits s.size
  pub address : s.address < address_limit a

abbrev pub PeripheralNumbers : PeripheralCommand → Type 0
PeripheralNumbers (P.PutPc h) = HeadFits h
PeripheralNumbers P.GetPc = Unit {0}
PeripheralNumbers (P.PutNp h) = HeadFits h
PeripheralNumbers (P.Short a s) = SpanFits a s

abbrev pub WiresNumbers : WiresCommand → Type 0
WiresNumbers (W.PutVwire n) = (1 ≤ n) × (n ≤ 64)
WiresNumbers W.GetVwire = Unit {0}

abbrev pub NumbersFit : Command → Type 0
NumbersFit (C.Peripheral c) = PeripheralNumbers c
NumbersFit (C.Wires c) = WiresNumbers c
NumbersFit (C.GetConfiguration a) = a < 4096
NumbersFit (C.SetConfiguration a v) = (a < 4096) × (v < 4294967296)
NumbersFit C.GetStatus = Unit {0}
NumbersFit C.Reset = Unit {0}

abbrev pub PeripheralFits : PeripheralCommand → List ℕ → Type 0
PeripheralFits c b = PeripheralLength c (length b) × PeripheralNumbers c

abbrev pub WiresFits : WiresCommand → List ℕ → Type 0
WiresFits c b = WiresLength c (length b) × WiresNumbers c

-- at a channel's command this computes to the channel's own
abbrev pub CommandFits : Command → List ℕ → Type 0
CommandFits c b = CommandLength c (length b) × NumbersFit c

pub length-fits : (hi lo : ℕ) → lo < 256 → (1 ≤ length_of hi lo) × (length_of hi lo ≤ 4096)
length-fits hi lo h =
    pick_ind (λ (n : ℕ). (1 ≤ n) × (n ≤ 4096)) (eqb (high2 (hi % 16) lo) 0)
    (λ _. (omega arith, omega arith))
    (λ e. let z : high2 (hi % 16) lo ≡ 0 → ⊥ = eqb-false _ _ e in (omega arith, omega arith))

pub register_fits : (x : ℕ) → x % 1024 * 4 < 4096
register_fits x = omega arith

module _ (b : List ℕ) (bytes : IsBytes b) where
  pub high_fits : (n at : ℕ) → high_first n at b < 256 ^ n
  high_fits zero at = omega arith
  high_fits (suc n) at = omega (arith, high_fits n at, bytes (at + n))

  -- an address of 4 or 8 bytes behind the header
  pub head_fits : (wide : Bool)
      → HeadFits (record { wide = wide; tag = get_or b 2 0 / 16; length = length_of (get_or b 2 0) (get_or b 3 0); address = high_first (pick wide 8 4) 4 b })
  head_fits wide =
      let l = length-fits (get_or b 2 0) (get_or b 3 0) (bytes 3) in
      record {
        tag = omega (arith, bytes 2);
        some = l.0;
        most = l.1;
        address = most wide;
        narrow = λ e. subst (λ (t : Bool). high_first (pick t 8 4) 4 b < 4294967296) (sym e) (high_fits 4 4);
      }
    where
      most : (t : Bool) → high_first (pick t 8 4) 4 b < 18446744073709551616
      most true = high_fits 8 4
      most false = omega (arith, high_fits 4 4)

-- ---- whose

-- the channel of the command is on
abbrev pub CommandOn : Channels → Command → Type 0
CommandOn on (C.Peripheral c) = on.peripheral ≡ true
CommandOn on (C.Wires c) = on.wires ≡ true
CommandOn on (C.GetConfiguration a) = Unit {0}
CommandOn on (C.SetConfiguration a v) = Unit {0}
CommandOn on C.GetStatus = Unit {0}
CommandOn on C.Reset = Unit {0}

-- ---- row by row

sized : (Q : Option Row → Type 0) (a : Access) (address : ℕ) (writes : Bool)
    → ((n : ℕ) → SizeFits n → Q (plain (O.Short a n) Peripheral address (pick writes n 0)))
    → Q None → (c : ℕ) → Q (short a address writes c)
sized Q a n w h none c =
    pick_ind Q (eqb c 2) (λ _. none)
    (λ _. h (size_of_code c) (pick_ind SizeFits (eqb c 0) (λ _. inl refl)
    (λ _. pick_ind SizeFits (eqb c 1) (λ _. inr (inl refl)) (λ _. inr (inr refl)))))

-- what holds of each row, and where there is none, holds of every opcode's
pub by_row : (Q : Option Row → Type 0)
    → Q (headed O.PutPc 0x01 0x03 4 Length)
    → Q (plain O.GetPc Peripheral 0 0)
    → Q (headed O.PutNp 0x00 0x02 2 (Fixed 0))
    → Q counted
    → Q (plain O.GetVwire Wires 0 0)
    → Q (plain O.GetConfiguration Independent 2 0)
    → Q (plain O.SetConfiguration Independent 2 4)
    → Q (plain O.GetStatus Independent 0 0)
    → Q resets
    → ((n : ℕ) → SizeFits n → Q (plain (O.Short IoRead n) Peripheral 2 0))
    → ((n : ℕ) → SizeFits n → Q (plain (O.Short IoWrite n) Peripheral 2 n))
    → ((n : ℕ) → SizeFits n → Q (plain (O.Short MemoryRead n) Peripheral 4 0))
    → ((n : ℕ) → SizeFits n → Q (plain (O.Short MemoryWrite n) Peripheral 4 n))
    → Q None
    → (op : ℕ) → Q (row_of op)
by_row Q put_pc_value get_pc put_np_value put_vwire get_vwire get_configuration set_configuration get_status reset io_read io_write_lem
    memory_read_value memory_write none op =
    pick_ind Q (eqb op 0x00) (λ _. put_pc_value)
    λ _. pick_ind Q (eqb op 0x01) (λ _. get_pc)
    λ _. pick_ind Q (eqb op 0x02) (λ _. put_np_value)
    λ _. pick_ind Q (eqb op 0x04) (λ _. put_vwire)
    λ _. pick_ind Q (eqb op 0x05) (λ _. get_vwire)
    λ _. pick_ind Q (eqb op 0x21) (λ _. get_configuration)
    λ _. pick_ind Q (eqb op 0x22) (λ _. set_configuration)
    λ _. pick_ind Q (eqb op 0x25) (λ _. get_status)
    λ _. pick_ind Q (eqb op 0xFF) (λ _. reset)
    λ _. pick_ind Q (eqb (op / 4) 0x10) (λ _. sized Q IoRead 2 false io_read none (op % 4))
    λ _. pick_ind Q (eqb (op / 4) 0x11) (λ _. sized Q IoWrite 2 true io_write_lem none (op % 4))
    λ _. pick_ind Q (eqb (op / 4) 0x12) (λ _. sized Q MemoryRead 4 false memory_read_value none (op % 4))
    λ _. pick_ind Q (eqb (op / 4) 0x13) (λ _. sized Q MemoryWrite 4 true memory_write none (op % 4)) (λ _. none)

-- few bytes tell how many there are in all, and a narrow address has few
pub record Readable (r : Row) : Type 0 where
  pub told : r.told ≤ 4
  pub address : r.address ≤ 4

pub address_few : (r : Row) (b : List ℕ) → Readable r → address_bytes r b ≤ 8
address_few r b h = pick_ind (λ (n : ℕ). n ≤ 8) (wide_cycle r.cycle (get_or b 1 0)) (λ _. omega arith) (λ _. omega (arith, h.address))

-- the address stands in the bytes
pub record Reaches (r : Row) (b : List ℕ) : Type 0 where
  pub readable : Readable r
  pub within : r.from + address_bytes r b ≤ length b

-- so does a narrow one
pub reaches_narrow : (r : Row) (b : List ℕ) → Reaches r b → r.from + r.address ≤ length b
reaches_narrow r b h =
    pick_ind (λ (n : ℕ). r.from + n ≤ length b → r.from + r.address ≤ length b) (wide_cycle r.cycle (get_or b 1 0))
    (λ _ l. omega (arith, h.readable.address)) (λ _ l. l) h.within

-- the bytes are as many as the need says
abbrev pub LengthRight : Need → ℕ → Type 0
LengthRight (Whole n) m = m ≡ n
LengthRight (More k) m = ⊥
LengthRight Open m = 2 ≤ m
LengthRight (Never z) m = ⊥

-- the cycle type, if it is there, is not listed
abbrev pub cycle_wrong : Row → List ℕ → Bool
cycle_wrong r b = not (cycle_listed r.cycle (get_or b 1 0)) && ltb 1 (length b)

pub record RowTells (on : Channels) (b : List ℕ) (r : Row) : Type 0 where
  pub readable : Readable r
  pub listed : r.told ≤ length b → cycle_wrong r b ≡ false → cycle_listed r.cycle (get_or b 1 0) ≡ true
  pub channel : channel_on on r.channel ≡ true → CommandOn on (command_of r b)
  pub right : LengthRight (need_data r b r.carries) (length b) → CommandLength (command_of r b) (length b)
  pub within : LengthRight (need_data r b r.carries) (length b) → r.from + address_bytes r b ≤ length b
  pub numbers : IsBytes b → NumbersFit (command_of r b)
