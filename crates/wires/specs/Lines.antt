-- Interrupt lines (02, Q-4; 004, table 8 and 4.2.2): 256 lines, each with a level, and whether it waits to be sent, by itself or as an edge.
use Rattle.std.specs.Prelude.{ℕ, zero, suc, ◌+◌, ◌-◌, ◌*◌, ◌/◌, ◌%◌, ◌^◌, Bool, true, false, ◌&&◌, ◌||◌, not, List, [], ◌∷◌, ◌++◌, eqb, ltb, leb, get_or, set, length}
use Rattle.std.specs.Int.Bits.{bit_and, bit_or}
use Rattle.base.specs.Pick.{pick}
use Rattle.base.specs.Numbers.{listed}
use Rattle.wires.specs.Below.{any, all}
use Rattle.wires.specs.Table.{line_count, is_line}

-- ---- a map of the lines: 32 bytes, line n in byte n / 8, bit n mod 8 (docs/STATE.md)

-- how many bytes hold a bit for each of the "256 lines" (02, Q-4)
abbrev pub map_length : ℕ
map_length = 32

-- line n's bit as a number (docs/STATE.md)
abbrev pub line_value : List ℕ → ℕ → ℕ
line_value m n = get_or m (n / 8) 0 / 2 ^ (n % 8) % 2

-- .. as a test (docs/STATE.md)
abbrev pub line_bit : List ℕ → ℕ → Bool
line_bit m n = eqb (line_value m n) 1

-- a byte with bit k made another (docs/STATE.md)
abbrev pub byte_with : ℕ → ℕ → Bool → ℕ
byte_with x k b = pick b (bit_or x (2 ^ k)) (bit_and x (255 - 2 ^ k))

-- the map with line n's bit made another (docs/STATE.md)
unfoldable pub with_bit : List ℕ → ℕ → Bool → List ℕ
with_bit m n b = set m (n / 8) (byte_with (get_or m (n / 8) 0) (n % 8) b)

-- no line's bit is 1 (02, Q-4: "lower all lines and drop their waits and edges")
abbrev pub no_bits_value : List ℕ
no_bits_value =
    0 ∷ 0 ∷ 0 ∷ 0 ∷ 0 ∷ 0 ∷ 0 ∷ 0 ∷ 0 ∷ 0 ∷ 0 ∷ 0 ∷ 0 ∷ 0 ∷ 0 ∷ 0
    ∷ 0 ∷ 0 ∷ 0 ∷ 0 ∷ 0 ∷ 0 ∷ 0 ∷ 0 ∷ 0 ∷ 0 ∷ 0 ∷ 0 ∷ 0 ∷ 0 ∷ 0 ∷ 0 ∷ []

-- some line's bit is 1 (02, Q-4: "while an edge waits")
unfoldable pub any_bit : List ℕ → Bool
any_bit m = any line_count (line_bit m)

-- ---- the lines

-- each line's level, whether it waits to be sent, and whether what waits is an edge (02, Q-4: "The board raises and lowers a line, or asks for an edge")
pub record Lines : Type 0 where
  pub level : List ℕ
  pub waits : List ℕ
  pub edges : List ℕ

-- after a start and both resets: "Both resets lower all lines and drop their waits and edges" (02, Q-4)
abbrev pub no_lines : Lines
no_lines = record { level = no_bits_value; waits = no_bits_value; edges = no_bits_value }

-- ---- the board raises and lowers a line, or asks for an edge

-- else 22: "22 for no such line comes first" (02, Q-4); a level is 0 or 1, as a wire's (01, Replies and refusals, 22: "value above 1")
abbrev pub line_level_ok : ℕ → ℕ → Bool
line_level_ok n level = is_line n && leb level 1

-- a real change: the level, and "makes the line wait" while channel 1 is on (02, Q-4; as a wire's: 01, Wires, "a real change while channel 1 is enabled")
abbrev pub changed_line : Bool → Lines → ℕ → ℕ → Lines
changed_line on l n level =
    record { level = with_bit l.level n (eqb level 1); waits = pick on (with_bit l.waits n true) l.waits; edges = l.edges }

-- "The board raises and lowers a line" (02, Q-4); one that is no change changes nothing (docs/DECISIONS.md, 65)
unfoldable pub set_line : Bool → Lines → ℕ → ℕ → Lines
set_line on l n level = pick (eqb (line_value l.level n) level) l (changed_line on l n level)

-- "or asks for an edge": it waits, and the level stays (02, Q-4; docs/DECISIONS.md, 65)
unfoldable pub pulse_line : Lines → ℕ → Lines
pulse_line l n = record { level = l.level; waits = with_bit l.waits n true; edges = with_bit l.edges n true }

-- 24 does not stand against an edge: channel 1 is on, the operating count is 2 or more, and the line does not wait (02, Q-4)
abbrev pub can_pulse : Bool → ℕ → Lines → ℕ → Bool
can_pulse on count l n = on && (ltb 1 count && not (line_bit l.waits n))

-- an edge waits (02, Q-4: "while an edge waits")
abbrev pub any_edge : Lines → Bool
any_edge l = any_bit l.edges

-- ---- a line is sent

-- how many entries: an edge "is sent as two entries in one packet" (02, Q-4)
abbrev pub line_size : Lines → ℕ → ℕ
line_size l n = pick (line_bit l.edges n) 2 1

-- "wire indexes 0 and 1: 256 lines, level in data bit 7, line in bits 6:0" (02, Q-4; 004, table 8)
abbrev pub line_entry : ℕ → ℕ → List ℕ
line_entry n level = n / 128 ∷ (level * 128 + n % 128) ∷ []

-- its entries: an edge's "two entries in one packet, new level first", then the level that it holds (02, Q-4; docs/DECISIONS.md, 65)
abbrev pub line_entries : Lines → ℕ → List ℕ
line_entries l n = pick (line_bit l.edges n) (line_entry n (1 - line_value l.level n)) [] ++ line_entry n (line_value l.level n)

-- it waits no more (01, Wires: "and their pending marks go")
abbrev pub sent_line : Lines → ℕ → Lines
sent_line l n = record { level = l.level; waits = with_bit l.waits n false; edges = with_bit l.edges n false }

-- ---- enabling and disabling

-- "Enabling channel 1 makes every high line pending" (02, Q-4)
abbrev pub raised : Lines → Lines
raised l = record { level = l.level; waits = l.level; edges = no_bits_value }

-- "Disabling channel 1 drops pending marks and keeps values" (01, Wires), of lines too (02, Q-4: "drop their waits and edges")
abbrev pub dropped : Lines → Lines
dropped l = record { level = l.level; waits = no_bits_value; edges = no_bits_value }

-- ---- soundness (01, Sound state; 02, Q-4: "sound state admits waiting lines and their turns")

-- an edge is one that waits (02, Q-4: "while its edge waits")
unfoldable pub edges_wait : Lines → Bool
edges_wait l = all line_count (λ (n : ℕ). not (line_bit l.edges n) || line_bit l.waits n)

-- none waits "while channel 1 is off" (01, Sound state), and no edge while "the operating count is 1" (02, Q-4)
abbrev pub sound_lines : Bool → ℕ → Lines → Bool
sound_lines on count l = edges_wait l && ((on || not (any_bit l.waits)) && (ltb 1 count || not (any_bit l.edges)))

-- 32 bytes: what the state's bytes have by their place (docs/STATE.md)
unfoldable pub whole_map : List ℕ → Bool
whole_map m = eqb (length m) map_length && all map_length (λ (j : ℕ). ltb (get_or m j 0) 256)

-- so each of the three maps (docs/STATE.md)
abbrev pub whole_lines : Lines → Bool
whole_lines l = whole_map l.level && (whole_map l.waits && whole_map l.edges)

-- ---- their bytes (docs/STATE.md)

-- 32 bytes from a place on, as a map (docs/STATE.md)
unfoldable pub map_in : ℕ → List ℕ → List ℕ
map_in at l = listed map_length at l

-- 78 to 109: levels; 110 to 141: waits; 142 to 173: edges (docs/STATE.md)
abbrev pub lines_in : List ℕ → Lines
lines_in l = record { level = map_in 78 l; waits = map_in 110 l; edges = map_in 142 l }

-- n bytes of a map from i on; what a map has past a byte's width is no part of it (docs/STATE.md)
abbrev pub bytes_from : ℕ → ℕ → List ℕ → List ℕ
bytes_from zero i m = []
bytes_from (suc n) i m = get_or m i 0 % 256 ∷ bytes_from n (suc i) m

-- a map's 32 bytes (docs/STATE.md)
unfoldable pub map_bytes : List ℕ → List ℕ
map_bytes m = bytes_from map_length 0 m

-- the three maps, one behind the other (docs/STATE.md)
abbrev pub lines_bytes : Lines → List ℕ
lines_bytes l = map_bytes l.level ++ (map_bytes l.waits ++ map_bytes l.edges)
