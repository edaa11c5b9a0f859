-- What an admitted command's bytes say, in document 01's words: the statements read the bytes by Fields, and the decoder is held against them.
use Rattle.std.specs.Prelude.{ℕ, ◌+◌, ◌≤◌, true, List, ◌↔◌, ◌≡◌, length}
use Rattle.registers.specs.declared.Config.{Config}
use Rattle.command.specs.Rows.{row_of}
use Rattle.command.specs.declared.Row.{Row}
use Rattle.command.specs.declared.Command.{Command}
use Rattle.command.specs.declared.Command.TheVariants as C
use Rattle.peripheral.specs.declared.Request.{Request}
use Rattle.state.specs.State.{State}
use Rattle.rules.specs.Rules.Peripheral as P
use Rattle.rules.specs.Rules.Peripheral.{request_of}
use Rattle.rules.specs.Rules.Wires as W
use Rattle.rules.specs.Statements.Cases.{Admits}
use Rattle.rules.specs.Statements.Fields.{is_listed}
use Rattle.rules.specs.Statements.Fields.{byte, is_posted, is_non_posted, access_address, access_length, access_tag, data_from, request_kind, io_bytes, groups, pairs, register_at, register_value}
use Rattle.std.specs.Prelude.{Some}

-- the decoder has a row for exactly the opcodes that are listed, of all numbers ("Opcodes", 01, Commands; 13, "unknown opcode", 01, Replies and refusals)
abbrev pub OpcodesListed : Type 0
OpcodesListed = (op : ℕ) → (is_listed op ≡ true) ↔ ((q : Row) × (row_of op ≡ Some q))

-- the request that a command makes: what its bytes ask, "with its tag, payload and read sizes then in force"
abbrev pub request_in : Config → List ℕ → Request
request_in c b = request_of c (request_kind (byte b 0)) (access_address b) (access_length b) (access_tag b) (io_bytes b)

-- a posted write has all its data ("PUT_PC, PUT_NP: cycle type, then tag"; "Short: I/O has 2 address bytes"; "GET_PC 01h", 01, Commands)
pub data Peripheral (c : Config) (b : List ℕ) : P.Act → Type 0 where
  posts : is_posted (byte b 0) ≡ true → data_from b + access_length b ≤ length b → Peripheral c b (P.posts (access_address b) (access_length b) (data_from b))
  asks : is_non_posted (byte b 0) ≡ true → Peripheral c b (P.asks (request_in c b))
  gets : byte b 0 ≡ 0x01 → Peripheral c b P.gets

-- "PUT_VWIRE: a byte whose low six bits are the group count less one .., then index and data pairs"; "GET_VWIRE 05h" (01, Commands)
pub data Wires (b : List ℕ) : W.Act → Type 0 where
  puts : byte b 0 ≡ 0x04 → Wires b (W.puts (groups b) (pairs b))
  gets : byte b 0 ≡ 0x05 → Wires b W.gets

-- SET_CONFIGURATION: "address high byte first, data low byte first" (01, Commands)
pub record Writes (b : List ℕ) (a v : ℕ) : Type 0 where
  pub opcode : byte b 0 ≡ 0x22
  pub address : a ≡ register_at b
  pub value : v ≡ register_value b

-- GET_CONFIGURATION: "address high byte first" (01, Commands)
pub record Shows (b : List ℕ) (a : ℕ) : Type 0 where
  pub opcode : byte b 0 ≡ 0x21
  pub address : a ≡ register_at b

-- "a decoded command is one of a few kinds" (01, Commands): of each, what the bytes say
abbrev pub ReadAs : Config → List ℕ → Command → Type 0
ReadAs c b (C.Peripheral o) = Peripheral c b (P.act_of c o b)
ReadAs c b (C.Wires o) = Wires b (W.act_of o b)
ReadAs c b (C.GetConfiguration a) = Shows b a
ReadAs c b (C.SetConfiguration a v) = Writes b a v
ReadAs c b C.GetStatus = byte b 0 ≡ 0x25
ReadAs c b C.Reset = byte b 0 ≡ 0xFF

-- so of every command that is admitted ("In: one target, command bytes to reply bytes", 01, What the engine covers)
abbrev pub Reads : Type 0
Reads = (s : State) (b : List ℕ) (o : Command) → Admits s b o → ReadAs s.config b o
