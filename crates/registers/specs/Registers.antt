-- The configuration registers (01, Registers and status; 004, 6.2.1): reset values, writable bits, forbidden values, what is read off them.
use Rattle.std.specs.Prelude.{ℕ, suc, ◌+◌, ◌-◌, ◌*◌, ◌/◌, ◌%◌, ◌^◌, Bool, false, ◌&&◌, ◌||◌, not, eqb, ltb}
use Rattle.std.specs.Int.Bits.{bit_and, bit_or}
use Rattle.base.specs.Pick.{pick}
use Rattle.registers.specs.declared.Reg004.{Reg004}
use Rattle.registers.specs.declared.Reg008.{Reg008}
use Rattle.registers.specs.declared.Reg010.{Reg010}
use Rattle.registers.specs.declared.Reg020.{Reg020}
use Rattle.registers.specs.declared.Config.{Config}

-- ---- bits of a register

-- n bits of x from bit k on, for the table's "bits 27:26 = 11" and the like (01, Registers and status)
abbrev pub field : ℕ → ℕ → ℕ → ℕ
field x k n = x / 2 ^ k % 2 ^ n

-- bits hi:lo of x, as document 01 writes them: "bits 21:16" (01, Registers and status)
abbrev pub bits : ℕ → ℕ → ℕ → ℕ
bits hi lo x = field x lo (suc hi - lo)

-- the bits of val where the mask has ones, those of old elsewhere: the table's "Writable" (01, Registers and status)
abbrev pub masked : ℕ → ℕ → ℕ → ℕ
masked old val mask = bit_or (bit_and old (2 ^ 32 - 1 - mask)) (bit_and val mask)

-- ---- the table: address, reset value, writable bits, forbidden values

-- 004h, reset "00000001h" (01, Registers and status: the table; 004, 6.2.1.2)
abbrev pub reset004 : ℕ
reset004 = 0x00000001

-- 004h, writable "none" (01, Registers and status: the table; RO in 004, 6.2.1.2)
abbrev pub writable004 : ℕ
writable004 = 0x00000000

-- 008h, reset "030C0003h" (01, Registers and status: the table)
abbrev pub reset008 : ℕ
reset008 = 0x030C0003

-- 008h, writable "DCF0F000h" (01, Registers and status: the table; the RW bits of 004, 6.2.1.3)
abbrev pub writable008 : ℕ
writable008 = 0xDCF0F000

-- 010h, reset "00001133h" (01, Registers and status: the table; docs/DECISIONS.md, 2)
abbrev pub reset010 : ℕ
reset010 = 0x00001133

-- 010h, writable "00007705h" (01, Registers and status: the table; the RW bits of 004, 6.2.1.4)
abbrev pub writable010 : ℕ
writable010 = 0x00007705

-- 020h, reset "00003F00h" (02, Q-5): 64 groups in a packet are advertised, less one in 13:8 (004, 6.2.1.5)
abbrev pub reset020 : ℕ
reset020 = 0x00003F00

-- 020h, writable "003F0001h" (01, Registers and status: the table; the RW bits of 004, 6.2.1.5)
abbrev pub writable020 : ℕ
writable020 = 0x003F0001

-- 008h: "bits 27:26 = 11; 22:20 above 100" (01, Registers and status: the table)
abbrev pub forbidden008 : ℕ → Bool
forbidden008 v = eqb (bits 27 26 v) 3 || ltb 4 (bits 22 20 v)

-- 010h: "14:12 = 000; 10:8 = 000 or above 011" (01, Registers and status: the table)
abbrev pub forbidden010 : ℕ → Bool
forbidden010 v = eqb (bits 14 12 v) 0 || (eqb (bits 10 8 v) 0 || ltb 3 (bits 10 8 v))

-- ---- a register's write

-- "Bit 1 (ready) of 010h and 020h equals bit 0 (enable)" (01, Registers and status)
abbrev pub readied : ℕ → ℕ
readied v = masked v (2 * (v % 2)) 2

-- the writable bits of 008h are the value's, the others stay (01, Registers and status: the table)
abbrev pub write008 : Reg008 → ℕ → Reg008
write008 r v = record { value = masked r.value v writable008 }

-- so of 010h, and its ready bit follows (01, Registers and status: "Bit 1 (ready) .. equals bit 0")
abbrev pub write010 : Reg010 → ℕ → Reg010
write010 r v = record { value = readied (masked r.value v writable010) }

-- so of 020h, and its ready bit follows (01, Registers and status: "Bit 1 (ready) .. equals bit 0")
abbrev pub write020 : Reg020 → ℕ → Reg020
write020 r v = record { value = readied (masked r.value v writable020) }

-- 004h with its reset value: "a constant of its own kind" (01, Registers and status)
abbrev pub fresh004 : Reg004
fresh004 = record { value = reset004 }

-- 008h with its reset value: a RESET's and an eSPI reset's (01, Commands: "It resets register 008h")
abbrev pub fresh008 : Reg008
fresh008 = record { value = reset008 }

-- 010h with its reset value: "Platform reset also resets 010h" (01, Requests, answers, pieces)
abbrev pub fresh010 : Reg010
fresh010 = record { value = reset010 }

-- 020h with its reset value (01, Registers and status: the table)
abbrev pub fresh020 : Reg020
fresh020 = record { value = reset020 }

-- ---- what is read off a register

-- "Payload and read request codes n mean 64 times 2^(n-1) bytes"
unfoldable pub size_of : ℕ → ℕ
size_of n = 64 * 2 ^ (n - 1)

-- the sizes that codes mean: payload 001 to 011 (01, Registers and status; 004, 6.2.1.4, bits 10:8)
abbrev pub payload_legal : ℕ → Bool
payload_legal p = eqb p 64 || (eqb p 128 || eqb p 256)

-- .. and read request 001 to 111 (004, 6.2.1.4, bits 14:12)
abbrev pub read_legal : ℕ → Bool
read_legal p = eqb p 64 || (eqb p 128 || (eqb p 256 || (eqb p 512 || (eqb p 1024 || (eqb p 2048 || eqb p 4096)))))

-- 008h, bit 31: the CRC of commands is checked (01, Commands; 004, 6.2.1.3)
abbrev pub crc_checked : Reg008 → Bool
crc_checked r = eqb (bits 31 31 r.value) 1

-- 010h, "bit 0 (enable)": channel 0 is on (01, Registers and status; 004, 6.2.1.4)
abbrev pub on0 : Reg010 → Bool
on0 r = eqb (r.value % 2) 1

-- the payload size in force: 010h, 10:8 (004, 6.2.1.4)
abbrev pub payload_size : Reg010 → ℕ
payload_size r = size_of (bits 10 8 r.value)

-- the read request size in force: 010h, 14:12 (004, 6.2.1.4)
abbrev pub read_size : Reg010 → ℕ
read_size r = size_of (bits 14 12 r.value)

-- 020h, "bit 0 (enable)": channel 1 is on (01, Registers and status; 004, 6.2.1.5)
abbrev pub on1 : Reg020 → Bool
on1 r = eqb (r.value % 2) 1

-- "The operating wire count is bits 21:16 plus one" (01, Registers and status)
abbrev pub operating_count : Reg020 → ℕ
operating_count r = bits 21 16 r.value + 1

-- ---- the configuration: the registers that hold state, by address

-- all at their reset values: "eSPI reset also resets all registers" (01, Requests, answers, pieces)
abbrev pub fresh_config : Config
fresh_config = record { r008 = fresh008; r010 = fresh010; r020 = fresh020 }

-- "Other addresses read 0" (01, Registers and status)
abbrev pub read_at_value : Config → ℕ → ℕ
read_at_value c a =
    pick (eqb a 0x004) reset004
    (pick (eqb a 0x008) c.r008.value
    (pick (eqb a 0x010) c.r010.value
    (pick (eqb a 0x020) c.r020.value
    0)))

-- number 2: a "forbidden configuration value" (01, Replies and refusals), by the register's row of the table; of 020h none is, "its forbidden entry goes away"
-- (02, Q-5)
abbrev pub forbidden_at : ℕ → ℕ → Bool
forbidden_at a v =
    pick (eqb a 0x008) (forbidden008 v)
    (pick (eqb a 0x010) (forbidden010 v)
    false)

-- "Other addresses .. take writes without effect"; 004h has no writable bit (01, Registers and status)
abbrev pub write_at : Config → ℕ → ℕ → Config
write_at c a v =
    pick (eqb a 0x008) (record { r008 = write008 c.r008 v; r010 = c.r010; r020 = c.r020 })
    (pick (eqb a 0x010) (record { r008 = c.r008; r010 = write010 c.r010 v; r020 = c.r020 })
    (pick (eqb a 0x020) (record { r008 = c.r008; r010 = c.r010; r020 = write020 c.r020 v })
    c))

-- ---- reachable values (01, Sound state): what a write that is not forbidden makes of the reset value

-- 008h holds a reachable value (01, Sound state; docs/DECISIONS.md, 35)
unfoldable pub reachable008 : ℕ → Bool
reachable008 v = eqb (write008 fresh008 v).value v && not (forbidden008 v)

-- so 010h, its ready bit with it (01, Sound state; docs/DECISIONS.md, 35)
unfoldable pub reachable010 : ℕ → Bool
reachable010 v = eqb (write010 fresh010 v).value v && not (forbidden010 v)

-- so 020h, of which no value is forbidden (01, Sound state; 02, Q-5; docs/DECISIONS.md, 35)
unfoldable pub reachable020 : ℕ → Bool
reachable020 v = eqb (write020 fresh020 v).value v

-- "registers hold reachable values" (01, Sound state)
abbrev pub reachable : Config → Bool
reachable c = reachable008 c.r008.value && reachable010 c.r010.value && reachable020 c.r020.value
