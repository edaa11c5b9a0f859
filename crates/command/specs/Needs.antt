-- What a command's first bytes need: how many bytes it has in all, its CRC byte included; how many more must come before that is known; that
-- it is open; or that it is never one, and why (01, Commands; Replies and refusals).
use Rattle.std.specs.Prelude.{ℕ, ◌+◌, ◌-◌, ◌*◌, ◌%◌, Bool, true, false, ◌&&◌, ◌||◌, not, List, [], ◌∷◌, eqb, ltb, length, get_or}
use Rattle.base.specs.Pick.{pick}
use Rattle.base.specs.Bytes.{bit, high2}
use Rattle.command.specs.Rows.{row_of}
use Rattle.command.specs.declared.Channels.{Channels}
use Rattle.command.specs.declared.Channel.{Channel}
use Rattle.command.specs.declared.Channel.TheVariants.{Peripheral, Wires, Independent}
use Rattle.command.specs.declared.Cycle.{Cycle}
use Rattle.command.specs.declared.Data.{Data}
use Rattle.command.specs.declared.Data.TheVariants.{Fixed, Length, Pairs, Ones}
use Rattle.command.specs.declared.Row.{Row}
use Rattle.command.specs.declared.Need.{Need}
use Rattle.command.specs.declared.Need.TheVariants.{Whole, More, Open, Never}
use Rattle.std.specs.Prelude.{Option, Some, None}
use Rattle.command.specs.declared.Refusal.TheVariants.{OpcodeUnknown, ChannelDisabled, CycleUnlisted}

-- ---- what the row says of the bytes

-- else 14, "channel disabled": the command's channel is on; those for no channel always are (004, table 2, note 2)
abbrev pub channel_on : Channels → Channel → Bool
channel_on on Peripheral = on.peripheral
channel_on on Wires = on.wires
channel_on on Independent = true

-- else 15, "cycle type not listed" (01, Replies and refusals): one of the two that the opcode takes (01, Commands)
abbrev pub cycle_listed : Option Cycle → ℕ → Bool
cycle_listed None t = true
cycle_listed (Some c) t = eqb t c.narrow || eqb t c.wide

-- 8 address bytes: "03h (8)" and "02h (8)" (01, Commands)
abbrev pub wide_cycle : Option Cycle → ℕ → Bool
wide_cycle None t = false
wide_cycle (Some c) t = eqb t c.wide

-- 8, or as many as the opcode's row has: "4 address bytes", "I/O has 2 address bytes, memory 4" (01, Commands)
abbrev pub address_bytes : Row → List ℕ → ℕ
address_bytes r b = pick (wide_cycle r.cycle (get_or b 1 0)) 8 r.address

-- "tag (4 bits) with length bits 11:8, then length 7:0 .. Length 0 means 4,096"
abbrev pub length_of : ℕ → ℕ → ℕ
length_of hi lo = pick (eqb (high2 (hi % 16) lo) 0) 4096 (high2 (hi % 16) lo)

-- "a byte whose low six bits are the group count less one (bits 7:6 ignored)"
abbrev pub group_count : ℕ → ℕ
group_count c = c % 64 + 1

-- "all FFh" (01, Commands: RESET)
unfoldable pub all_ff : List ℕ → Bool
all_ff [] = true
all_ff (x ∷ xs) = eqb x 0xFF && all_ff xs

-- ---- how many bytes

-- header, address, n data bytes, CRC: the whole command phase, "its CRC byte included" (01, What the engine covers)
abbrev pub whole_with_value : Row → List ℕ → ℕ → ℕ
whole_with_value r b n = r.from + address_bytes r b + n + bit r.crc

-- "how many bytes the command needs in all" (02, Q-8); RESET has no fixed length, and "FFh not a RESET" is 13
abbrev pub need_data : Row → List ℕ → Data → Need
need_data r b (Fixed n) = Whole (whole_with_value r b n)
need_data r b Length = Whole (whole_with_value r b (length_of (get_or b 2 0) (get_or b 3 0)))
need_data r b Pairs = Whole (whole_with_value r b (group_count (get_or b 1 0) * 2))
need_data r b Ones = pick (all_ff b) Open (Never OpcodeUnknown)

-- "14, a missing header byte needed next (12) or 15, exact length (12)"
abbrev pub need_row : Channels → List ℕ → Row → Need
need_row on b r =
    pick (not (channel_on on r.channel)) (Never ChannelDisabled)
    (pick (not (cycle_listed r.cycle (get_or b 1 0)) && ltb 1 (length b)) (Never CycleUnlisted)
    (pick (ltb (length b) r.told) (More (r.told - length b))
    (need_data r b r.carries)))

-- "unknown opcode" is 13
abbrev pub need_listed : Channels → List ℕ → Option Row → Need
need_listed on b None = Never OpcodeUnknown
need_listed on b (Some r) = need_row on b r

-- .. "or how many more header bytes must come before that is known" (02, Q-8): of no bytes, the opcode
unfoldable pub need_in : Channels → List ℕ → Need
need_in on b = pick (eqb (length b) 0) (More 1) (need_listed on b (row_of (get_or b 0 0)))
