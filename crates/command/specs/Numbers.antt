-- The numbers of the decoder's refusals (01, Replies and refusals).
use Rattle.std.specs.Prelude.{ℕ}
use Rattle.command.specs.declared.Refusal.{Refusal}
use Rattle.command.specs.declared.Refusal.TheVariants.{LengthWrong, OpcodeUnknown, ChannelDisabled, CycleUnlisted, CrcWrong}

-- "empty, cut short or too long"
abbrev pub length_wrong : ℕ
length_wrong = 12

-- "unknown opcode, or FFh not a RESET"
abbrev pub opcode_unknown : ℕ
opcode_unknown = 13

-- "channel disabled"
abbrev pub channel_disabled : ℕ
channel_disabled = 14

-- "cycle type not listed"
abbrev pub cycle_unlisted : ℕ
cycle_unlisted = 15

-- "CRC wrong while checked"
abbrev pub crc_refused : ℕ
crc_refused = 16

-- each refusal has its number (01, Replies and refusals)
abbrev pub number_of : Refusal → ℕ
number_of LengthWrong = length_wrong
number_of OpcodeUnknown = opcode_unknown
number_of ChannelDisabled = channel_disabled
number_of CycleUnlisted = cycle_unlisted
number_of CrcWrong = crc_refused
