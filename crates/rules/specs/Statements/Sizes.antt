-- What the statements read off an opcode for each channel and off the registers, in document 01's words (Commands; Registers and status).
use Rattle.std.specs.Prelude.{ℕ, ◌-◌, ◌*◌, ◌^◌, Bool, eqb}
use Rattle.registers.specs.Registers.{bits}
use Rattle.registers.specs.declared.Config.{Config}
use Rattle.rules.specs.Rules.Channel.{Channel, peripheral, wires}
use Rattle.rules.specs.Statements.Fields.{is_channel0, is_channel1}

-- whose command an opcode is (004, table 2: by channel)
abbrev pub is_of : Channel → ℕ → Bool
is_of peripheral op = is_channel0 op
is_of wires op = is_channel1 op

-- 010h and 020h, "bit 0 (enable)" (01, Registers and status)
abbrev pub is_enabled : Channel → Config → Bool
is_enabled peripheral c = eqb (bits 0 0 c.r010.value) 1
is_enabled wires c = eqb (bits 0 0 c.r020.value) 1

-- "codes n mean 64 times 2^(n-1) bytes": 010h, payload 10:8 (01, Registers and status; 004, 6.2.1.4)
abbrev pub payload_of : Config → ℕ
payload_of c = 64 * 2 ^ (bits 10 8 c.r010.value - 1)

-- .. read request 14:12 (004, 6.2.1.4)
abbrev pub read_size_of : Config → ℕ
read_size_of c = 64 * 2 ^ (bits 14 12 c.r010.value - 1)
