-- P23. Bench lines (01, Bench lines; outside vectors; 02, Q-1, Q-4, Q-5, Q-6): one table, one statement. A row: the calls before it from a fresh world, the
-- command, its number and its whole reply. The set-ups are real commands; replies were made by hand and a CRC program that shares nothing with this repository.
use Rattle.std.specs.Prelude.{ℕ, zero, suc, List, [], ◌∷◌, ◌++◌, ◌≡◌, replicate}
use Rattle.state.specs.Fresh.{fresh_state}
use Rattle.rules.specs.Rules.Peripheral as P
use Rattle.rules.specs.Rules.Wires as W
use Rattle.rules.specs.Rules.Channel.{peripheral, wires}
use Rattle.rules.specs.Rules.Step.{World, Call, exchange, board, step, run}

-- n bytes that count up from a
abbrev ramp : ℕ → ℕ → List ℕ
ramp a zero = []
ramp a (suc n) = a ∷ ramp (suc a) n

-- ---- commands

-- channel 1 on (01, Bench lines: "channel 1 on")
abbrev pub on1 : List ℕ
on1 = 0x22 ∷ 0x00 ∷ 0x20 ∷ 0x01 ∷ 0x00 ∷ 0x00 ∷ 0x00 ∷ 0x6A ∷ []

-- channel 1 on with an operating count of 2 (02, Q-4)
abbrev pub on2 : List ℕ
on2 = 0x22 ∷ 0x00 ∷ 0x20 ∷ 0x01 ∷ 0x00 ∷ 0x01 ∷ 0x00 ∷ 0x7F ∷ []

-- channel 1 on with an operating count of 64
abbrev on64 : List ℕ
on64 = 0x22 ∷ 0x00 ∷ 0x20 ∷ 0x01 ∷ 0x00 ∷ 0x3F ∷ 0x00 ∷ 0x50 ∷ []

-- channel 1 on with an operating count of 63
abbrev on63 : List ℕ
on63 = 0x22 ∷ 0x00 ∷ 0x20 ∷ 0x01 ∷ 0x00 ∷ 0x3E ∷ 0x00 ∷ 0x45 ∷ []

-- n pairs that say SLP_S3# is high, then what follows
abbrev high : ℕ → List ℕ → List ℕ
high zero l = l
high (suc n) l = 0x02 ∷ 0x11 ∷ high n l

-- PUT_VWIRE of 64 pairs; the last says that PLTRST# is high
abbrev put64 : List ℕ
put64 = 0x04 ∷ 0x3F ∷ high 63 (0x03 ∷ 0x22 ∷ 0x2D ∷ [])

-- channel 1 on with an operating count of 4
abbrev on4 : List ℕ
on4 = 0x22 ∷ 0x00 ∷ 0x20 ∷ 0x01 ∷ 0x00 ∷ 0x03 ∷ 0x00 ∷ 0x55 ∷ []

-- PUT_VWIRE: SLP_S3# high
abbrev high_once : List ℕ
high_once = 0x04 ∷ 0x00 ∷ 0x02 ∷ 0x11 ∷ 0x05 ∷ []

-- PUT_VWIRE: SLP_S3# high, low, high
abbrev high_low_high : List ℕ
high_low_high = 0x04 ∷ 0x02 ∷ 0x02 ∷ 0x11 ∷ 0x02 ∷ 0x10 ∷ 0x02 ∷ 0x11 ∷ 0x24 ∷ []

-- PUT_VWIRE of 64 pairs: SLP_S3# high 62 times, low, high
abbrev third64 : List ℕ
third64 = 0x04 ∷ 0x3F ∷ high 62 (0x02 ∷ 0x10 ∷ 0x02 ∷ 0x11 ∷ 0xCA ∷ [])

-- PUT_VWIRE: PLTRST# high
abbrev pltrst_high : List ℕ
pltrst_high = 0x04 ∷ 0x00 ∷ 0x03 ∷ 0x22 ∷ 0x89 ∷ []

-- PUT_VWIRE: PLTRST# low
abbrev pltrst_low : List ℕ
pltrst_low = 0x04 ∷ 0x00 ∷ 0x03 ∷ 0x20 ∷ 0x87 ∷ []

-- PUT_VWIRE: PLTRST# low, high
abbrev pltrst_low_high : List ℕ
pltrst_low_high = 0x04 ∷ 0x01 ∷ 0x03 ∷ 0x20 ∷ 0x03 ∷ 0x22 ∷ 0x6E ∷ []

-- PUT_VWIRE: PLTRST# high, low
abbrev pltrst_high_low : List ℕ
pltrst_high_low = 0x04 ∷ 0x01 ∷ 0x03 ∷ 0x22 ∷ 0x03 ∷ 0x20 ∷ 0xB6 ∷ []

-- 010h: read size 256, payload size 64
abbrev r256p64 : List ℕ
r256p64 = 0x22 ∷ 0x00 ∷ 0x10 ∷ 0x03 ∷ 0x31 ∷ 0x00 ∷ 0x00 ∷ 0x9A ∷ []

-- 010h: read size 256, payload size 256
abbrev r256p256 : List ℕ
r256p256 = 0x22 ∷ 0x00 ∷ 0x10 ∷ 0x03 ∷ 0x33 ∷ 0x00 ∷ 0x00 ∷ 0x4C ∷ []

-- 010h: read size 128, payload size 64
abbrev r128p64 : List ℕ
r128p64 = 0x22 ∷ 0x00 ∷ 0x10 ∷ 0x03 ∷ 0x21 ∷ 0x00 ∷ 0x00 ∷ 0x38 ∷ []

-- 008h: CRC checked
abbrev crc_on : List ℕ
crc_on = 0x22 ∷ 0x00 ∷ 0x08 ∷ 0x00 ∷ 0x00 ∷ 0x00 ∷ 0x80 ∷ 0x88 ∷ []

-- PUT_NP: 160 bytes at 1030h, tag 5
abbrev read160 : List ℕ
read160 = 0x02 ∷ 0x00 ∷ 0x50 ∷ 0xA0 ∷ 0x00 ∷ 0x00 ∷ 0x10 ∷ 0x30 ∷ 0xFA ∷ []

-- PUT_NP: 64 bytes at 1020h, tag 5
abbrev read64 : List ℕ
read64 = 0x02 ∷ 0x00 ∷ 0x50 ∷ 0x40 ∷ 0x00 ∷ 0x00 ∷ 0x10 ∷ 0x20 ∷ 0xB1 ∷ []

-- GET_PC
abbrev get_pc : List ℕ
get_pc = 0x01 ∷ 0x07 ∷ []

-- GET_STATUS
abbrev get_status : List ℕ
get_status = 0x25 ∷ 0xFB ∷ []

-- short I/O read of one byte at port 64h
abbrev io_read : List ℕ
io_read = 0x40 ∷ 0x00 ∷ 0x64 ∷ 0xBD ∷ []

-- ---- rows

-- an exchange of these bytes, with a reply store that is long enough (01, Bench lines)
abbrev pub send : List ℕ → Call
send command = exchange command (replicate 263 0)

abbrev answer : ℕ → ℕ → List ℕ → Call
answer serial success bytes = board peripheral (P.answer serial success bytes)

-- "set a wire" (01, What the engine covers)
abbrev pub set_wire : ℕ → ℕ → ℕ → Call
set_wire index bit value = board wires (W.set_wire index bit value)

-- "The board raises and lowers a line" (02, Q-4)
abbrev pub set_line : ℕ → ℕ → Call
set_line line level = board wires (W.set_line line level)

-- "or asks for an edge" (02, Q-4)
abbrev pub pulse_line : ℕ → Call
pulse_line line = board wires (W.pulse_line line)

-- an operating count of 2, line 1 raised, an edge of line 130, bit 0 of group 5 set (02, Q-4)
abbrev pub three_wait : List Call → List Call
three_wait cs = send on2 ∷ set_line 1 1 ∷ pulse_line 130 ∷ set_wire 5 0 1 ∷ cs

-- GET_VWIRE (01, Commands)
abbrev pub get_vwire : List ℕ
get_vwire = 0x05 ∷ 0x1B ∷ []

-- "Fresh": after a start, with stores that are long enough (01, Bench lines)
abbrev pub fresh : World
fresh = record { state = fresh_state; write = replicate 256 0; read = replicate 4096 0 }

-- a line: "Fresh, 25 FB gives 08 07 00 3A" (01, Bench lines)
pub record Row : Type 0 where
  pub before : List Call
  pub command : List ℕ
  pub number : ℕ
  pub reply : List ℕ

abbrev row : List Call → List ℕ → ℕ → List ℕ → Row
row before command number reply = record { before = before; command = command; number = number; reply = reply }

-- ★: "Those with a star are proved of the definitions" (01, Bench lines)
unfoldable pub rows : List Row
rows =
    -- ★ fresh: GET_STATUS
    row [] get_status 0
    (0x08 ∷ 0x07 ∷ 0x00 ∷ 0x3A ∷ [])
    -- ★ fresh: 008h read
    ∷ row [] (0x21 ∷ 0x00 ∷ 0x08 ∷ 0x10 ∷ []) 0
    (0x08 ∷ 0x03 ∷ 0x00 ∷ 0x0C ∷ 0x03 ∷ 0x07 ∷ 0x00 ∷ 0xAF ∷ [])
    -- ★ fresh: GET_PC with no completion ready
    ∷ row [] get_pc 1
    (0x03 ∷ 0x07 ∷ 0x00 ∷ 0xD6 ∷ [])
    -- ★ fresh: short I/O read of port 64h
    ∷ row [] io_read 0
    (0x01 ∷ 0x05 ∷ 0x00 ∷ 0x2A ∷ [])
    -- ★ answered with 1Dh, handed over
    ∷ row (send io_read ∷ answer 1 1 (0x1D ∷ []) ∷ []) get_pc 0
    (0x08 ∷ 0x0F ∷ 0x00 ∷ 0x01 ∷ 0x1D ∷ 0x07 ∷ 0x00 ∷ 0x34 ∷ [])
    -- the status between the answer and that
    ∷ row (send io_read ∷ answer 1 1 (0x1D ∷ []) ∷ []) get_status 0
    (0x08 ∷ 0x15 ∷ 0x00 ∷ 0x47 ∷ [])
    -- ★ channel 1 on, SCI# set to 0: GET_VWIRE
    ∷ row (send on1 ∷ set_wire 6 0 0 ∷ []) (0x05 ∷ 0x1B ∷ []) 0
    (0x08 ∷ 0x00 ∷ 0x06 ∷ 0xF6 ∷ 0x07 ∷ 0x00 ∷ 0x41 ∷ [])
    -- the status while SCI# is pending
    ∷ row (send on1 ∷ set_wire 6 0 0 ∷ []) get_status 0
    (0x08 ∷ 0x47 ∷ 0x00 ∷ 0x61 ∷ [])
    -- ★ 160 bytes at 1030h, tag 5, P 64, read size 256: the first piece
    ∷ row (send r256p64 ∷ send read160 ∷ answer 1 1 (ramp 0 160) ∷ []) get_pc 0
    (0x08 ∷ 0x0B ∷ 0x50 ∷ 0x10 ∷ (ramp 0 16 ++ 0x15 ∷ 0x00 ∷ 0x03 ∷ []))
    -- ★ the second
    ∷ row (send r256p64 ∷ send read160 ∷ answer 1 1 (ramp 0 160) ∷ send get_pc ∷ []) get_pc 0
    (0x08 ∷ 0x09 ∷ 0x50 ∷ 0x40 ∷ (ramp 16 64 ++ 0x15 ∷ 0x00 ∷ 0x26 ∷ []))
    -- ★ the third
    ∷ row (send r256p64 ∷ send read160 ∷ answer 1 1 (ramp 0 160) ∷ send get_pc ∷ send get_pc ∷ []) get_pc 0
    (0x08 ∷ 0x09 ∷ 0x50 ∷ 0x40 ∷ (ramp 80 64 ++ 0x15 ∷ 0x00 ∷ 0x85 ∷ []))
    -- ★ the last
    ∷ row (send r256p64 ∷ send read160 ∷ answer 1 1 (ramp 0 160) ∷ send get_pc ∷ send get_pc ∷ send get_pc ∷ []) get_pc 0
    (0x08 ∷ 0x0D ∷ 0x50 ∷ 0x10 ∷ (ramp 144 16 ++ 0x07 ∷ 0x00 ∷ 0x3F ∷ []))
    -- ★ the same with P 256: one piece
    ∷ row (send r256p256 ∷ send read160 ∷ answer 1 1 (ramp 0 160) ∷ []) get_pc 0
    (0x08 ∷ 0x0F ∷ 0x50 ∷ 0xA0 ∷ (ramp 0 160 ++ 0x07 ∷ 0x00 ∷ 0xC5 ∷ []))
    -- ★ 64 bytes at 1020h, read size 64: refused
    ∷ row [] read64 1
    (0x03 ∷ 0x07 ∷ 0x00 ∷ 0xD6 ∷ [])
    -- ★ read size 128, P 64: two of 32
    ∷ row (send r128p64 ∷ send read64 ∷ answer 1 1 (ramp 0 64) ∷ []) get_pc 0
    (0x08 ∷ 0x0B ∷ 0x50 ∷ 0x20 ∷ (ramp 0 32 ++ 0x15 ∷ 0x00 ∷ 0x53 ∷ []))
    -- ★ and the second
    ∷ row (send r128p64 ∷ send read64 ∷ answer 1 1 (ramp 0 64) ∷ send get_pc ∷ []) get_pc 0
    (0x08 ∷ 0x0D ∷ 0x50 ∷ 0x20 ∷ (ramp 32 32 ++ 0x07 ∷ 0x00 ∷ 0xE4 ∷ []))
    -- fresh: 010h := 0 has forbidden sizes
    ∷ row [] (0x22 ∷ 0x00 ∷ 0x10 ∷ 0x00 ∷ 0x00 ∷ 0x00 ∷ 0x00 ∷ 0x2A ∷ []) 2
    (0x02 ∷ 0x07 ∷ 0x00 ∷ 0xBD ∷ [])
    -- fresh: 010h read
    ∷ row [] (0x21 ∷ 0x00 ∷ 0x10 ∷ 0x58 ∷ []) 0
    (0x08 ∷ 0x33 ∷ 0x11 ∷ 0x00 ∷ 0x00 ∷ 0x07 ∷ 0x00 ∷ 0x0F ∷ [])
    -- CRC checked: a wrong CRC comes before no credit
    ∷ row (send crc_on ∷ []) (0x01 ∷ 0x00 ∷ []) 16
    ([])
    -- CRC checked and right
    ∷ row (send crc_on ∷ []) get_pc 1
    (0x03 ∷ 0x07 ∷ 0x00 ∷ 0xD6 ∷ [])
    -- fresh: 020h read; 13:8 advertise 64 groups (02, Q-5)
    ∷ row [] (0x21 ∷ 0x00 ∷ 0x20 ∷ 0xC8 ∷ []) 0
    (0x08 ∷ 0x00 ∷ 0x3F ∷ 0x00 ∷ 0x00 ∷ 0x07 ∷ 0x00 ∷ 0xE7 ∷ [])
    -- fresh: an operating count of 64 is taken
    ∷ row [] on64 0
    (0x08 ∷ 0x07 ∷ 0x00 ∷ 0x3A ∷ [])
    -- .. and then 64 pairs are
    ∷ row (send on64 ∷ []) put64 0
    (0x08 ∷ 0x07 ∷ 0x00 ∷ 0x3A ∷ [])
    -- at an operating count of 63 they are too many
    ∷ row (send on63 ∷ []) put64 1
    (0x03 ∷ 0x07 ∷ 0x00 ∷ 0xD6 ∷ [])
    -- an operating count of 4, SLP_S3# low: a third transition is refused (02, Q-6)
    ∷ row (send on4 ∷ []) high_low_high 1
    (0x03 ∷ 0x07 ∷ 0x00 ∷ 0xD6 ∷ [])
    -- .. two are not
    ∷ row (send on4 ∷ []) (0x04 ∷ 0x01 ∷ 0x02 ∷ 0x11 ∷ 0x02 ∷ 0x10 ∷ 0x79 ∷ []) 0
    (0x08 ∷ 0x07 ∷ 0x00 ∷ 0x3A ∷ [])
    -- SLP_S3# high: the same three pairs have two
    ∷ row (send on4 ∷ send high_once ∷ []) high_low_high 0
    (0x08 ∷ 0x07 ∷ 0x00 ∷ 0x3A ∷ [])
    -- .. low, high, low have three
    ∷ row (send on4 ∷ send high_once ∷ []) (0x04 ∷ 0x02 ∷ 0x02 ∷ 0x10 ∷ 0x02 ∷ 0x11 ∷ 0x02 ∷ 0x10 ∷ 0x2A ∷ []) 1
    (0x03 ∷ 0x07 ∷ 0x00 ∷ 0xD6 ∷ [])
    -- the third in the last of 64 pairs
    ∷ row (send on64 ∷ []) third64 1
    (0x03 ∷ 0x07 ∷ 0x00 ∷ 0xD6 ∷ [])
    -- channel 1 on: PLTRST# goes high (02, Q-1)
    ∷ row (send on1 ∷ []) pltrst_high 0
    (0x08 ∷ 0x07 ∷ 0x00 ∷ 0x3A ∷ [])
    -- .. a request is held, and PLTRST# goes low: the reply shows the status before the reset
    ∷ row (send on1 ∷ send pltrst_high ∷ send io_read ∷ []) pltrst_low 0
    (0x08 ∷ 0x05 ∷ 0x00 ∷ 0x10 ∷ [])
    -- .. which has come after it
    ∷ row (send on1 ∷ send pltrst_high ∷ send io_read ∷ send pltrst_low ∷ []) get_status 0
    (0x08 ∷ 0x07 ∷ 0x00 ∷ 0x3A ∷ [])
    -- .. a late answer is none
    ∷ row (send on1 ∷ send pltrst_high ∷ send io_read ∷ send pltrst_low ∷ answer 1 1 (0x1D ∷ []) ∷ []) get_pc 1
    (0x03 ∷ 0x07 ∷ 0x00 ∷ 0xD6 ∷ [])
    -- .. and low to low is no reset: the next request stays
    ∷ row (send on1 ∷ send pltrst_high ∷ send pltrst_low ∷ send io_read ∷ send pltrst_low ∷ []) get_status 0
    (0x08 ∷ 0x05 ∷ 0x00 ∷ 0x10 ∷ [])
    -- an operating count of 4, PLTRST# high: low, high is no reset
    ∷ row (send on4 ∷ send pltrst_high ∷ send io_read ∷ send pltrst_low_high ∷ []) get_status 0
    (0x08 ∷ 0x05 ∷ 0x00 ∷ 0x10 ∷ [])
    -- PLTRST# low: high, low is none
    ∷ row (send on4 ∷ send io_read ∷ send pltrst_high_low ∷ []) get_status 0
    (0x08 ∷ 0x05 ∷ 0x00 ∷ 0x10 ∷ [])
    -- PLTRST# high: high, low is one
    ∷ row (send on4 ∷ send pltrst_high ∷ send io_read ∷ []) pltrst_high_low 0
    (0x08 ∷ 0x05 ∷ 0x00 ∷ 0x10 ∷ [])
    -- .. and what was held is gone
    ∷ row (send on4 ∷ send pltrst_high ∷ send io_read ∷ send pltrst_high_low ∷ []) get_status 0
    (0x08 ∷ 0x07 ∷ 0x00 ∷ 0x3A ∷ [])
    -- two entries fit: group 5, and line 1 behind it; the edge of line 130 takes two (02, Q-4)
    ∷ row (three_wait []) get_vwire 0
    (0x08 ∷ 0x01 ∷ 0x05 ∷ 0xF1 ∷ 0x00 ∷ 0x81 ∷ 0x47 ∷ 0x00 ∷ 0xF1 ∷ [])
    -- .. the edge: high, then low, which it holds
    ∷ row (three_wait (send get_vwire ∷ [])) get_vwire 0
    (0x08 ∷ 0x01 ∷ 0x01 ∷ 0x82 ∷ 0x01 ∷ 0x02 ∷ 0x07 ∷ 0x00 ∷ 0x96 ∷ [])
    -- .. and nothing waits
    ∷ row (three_wait (send get_vwire ∷ send get_vwire ∷ [])) get_vwire 1
    (0x03 ∷ 0x07 ∷ 0x00 ∷ 0xD6 ∷ [])
    ∷ []

-- ---- the statement: each row's command gets the row's number and reply

-- "gathered into a single table under a single statement" (01, Bench lines)
abbrev pub Holds : List Row → Type 0
Holds [] = Unit {0}
Holds (r ∷ rs) =
    ((step (run fresh r.before) (send r.command)).number ≡ r.number)
    × (((step (run fresh r.before) (send r.command)).reply ≡ r.reply) × Holds rs)
