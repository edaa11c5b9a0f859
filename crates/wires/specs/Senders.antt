-- All virtual wires (01, Wires; 02, Q-4): the six groups and the interrupt lines; what GET_VWIRE sends of them, what enabling, disabling and resets
-- make of them, and when they are sound.
use Rattle.std.specs.Prelude.{ℕ, ◌+◌, ◌-◌, ◌*◌, Bool, ◌&&◌, List, [], ◌∷◌, ◌++◌}
use Rattle.base.specs.Pick.{pick}
use Rattle.base.specs.Bytes.{bit}
use Rattle.wires.specs.Below.{any}
use Rattle.wires.specs.Table.{is_line, senders, group_at}
use Rattle.wires.specs.Turn.{after, turn, sizes}
use Rattle.wires.specs.Groups.{fresh_wires, mark_at, group_byte, unmarked, with_place, enabled, disabled, platform_wires, sound_wires, whole_wires}
use Rattle.wires.specs.Lines.{Lines, no_lines, line_bit, line_size, line_entries, sent_line, raised, dropped, sound_lines, whole_lines}
use Rattle.wires.specs.declared.Wires.{Wires}
use Rattle.wires.specs.declared.Packet.{Packet}

-- channel 1's part of the state: "six wire groups" (01, Wires) and "256 lines" (02, Q-4)
pub record AllWires : Type 0 where
  pub groups : Wires
  pub lines : Lines

-- with other groups, the lines as they were (01, Wires)
abbrev pub with_groups : AllWires → Wires → AllWires
with_groups w g = record { groups = g; lines = w.lines }

-- with other lines, the groups as they were (02, Q-4)
abbrev pub with_lines : AllWires → Lines → AllWires
with_lines w l = record { groups = w.groups; lines = l }

-- after a start and an eSPI reset (01, Wires; 02, Q-4: "Both resets lower all lines and drop their waits and edges")
abbrev pub fresh_all : AllWires
fresh_all = record { groups = fresh_wires; lines = no_lines }

-- ---- GET_VWIRE

-- a line is one entry of a packet, its edge two; a group is one (02, Q-4: "two entries in one packet"; 01, Commands: "index and data pairs")
abbrev pub sender_size : AllWires → ℕ → ℕ
sender_size w k = pick (is_line k) (line_size w.lines k) 1

-- the line "waits to be sent" (02, Q-4), the sender's group is pending (01, Wires)
abbrev pub waiting : AllWires → ℕ → Bool
waiting w k = pick (is_line k) (line_bit w.lines.waits k) (mark_at w.groups (group_at k))

-- the senders that a packet of this capacity takes, from sender p on: "A packet closes at the first sender that does not fit" (02, Q-4)
unfoldable pub sent_from : AllWires → ℕ → ℕ → List ℕ
sent_from w p capacity = turn (sender_size w) (waiting w) senders senders capacity p

-- .. from where "going round" stands (01, Wires)
abbrev pub sent : AllWires → ℕ → List ℕ
sent w capacity = sent_from w w.groups.place capacity

-- the one just sent waits no more: "and their pending marks go"; the place follows it (01, Wires)
abbrev pub left_by : AllWires → ℕ → AllWires
left_by w k =
    pick (is_line k)
    (record { groups = with_place w.groups (after senders k); lines = sent_line w.lines k })
    (record { groups = unmarked w.groups (group_at k) (after senders k); lines = w.lines })

-- so for all that a packet takes, in their order (01, Wires: "and their pending marks go")
unfoldable pub after_sent : AllWires → List ℕ → AllWires
after_sent w [] = w
after_sent w (k ∷ ks) = after_sent (left_by w k) ks

-- a packet is where it begins and how many entries fit, over the wires as they were (docs/DECISIONS.md, 25 and 66)
abbrev pub packet_of : AllWires → ℕ → Packet
packet_of w capacity = record { place = w.groups.place; capacity = capacity }

-- the "index and data pairs" of one sender (01, Commands: PUT_VWIRE): a line's one or two, a group's
abbrev pub entries_of : AllWires → ℕ → List ℕ
entries_of w k = pick (is_line k) (line_entries w.lines k) (group_at k ∷ group_byte w.groups (group_at k) ∷ [])

-- the packet's "index and data pairs", in the order sent (01, Commands: PUT_VWIRE)
unfoldable pub pair_bytes : AllWires → List ℕ → List ℕ
pair_bytes w [] = []
pair_bytes w (k ∷ ks) = entries_of w k ++ pair_bytes w ks

-- how many entries they are (02, Q-4: "two entries in one packet")
abbrev pub entries : AllWires → List ℕ → ℕ
entries w ks = sizes (sender_size w) ks

-- the packet's bytes: "the group count less one .., then index and data pairs" (01, Commands: PUT_VWIRE)
abbrev pub packet_bytes : AllWires → Packet → List ℕ
packet_bytes w p =
    (entries w (sent_from w p.place p.capacity) - 1) ∷ pair_bytes w (sent_from w p.place p.capacity)

-- "a group is pending" (01, Registers and status), or a line waits (02, Q-4)
unfoldable pub any_pending : AllWires → Bool
any_pending w = any senders (waiting w)

-- the channel's word of the status: "2 VWIRE_FREE (always 1)", "6 VWIRE_AVAIL (a group is pending)" (01, Registers and status; 004, table 4)
abbrev pub wires_status : AllWires → ℕ
wires_status w = 4 + bit (any_pending w) * 64

-- ---- enabling, disabling and resets

-- "Enabling it from disabled makes each up group pending that differs from its reset value" (01, Wires), "every high line pending" (02, Q-4)
abbrev pub all_enabled : AllWires → AllWires
all_enabled w = record { groups = enabled w.groups; lines = raised w.lines }

-- "Disabling channel 1 drops pending marks and keeps values" (01, Wires)
abbrev pub all_disabled : AllWires → AllWires
all_disabled w = record { groups = disabled w.groups; lines = dropped w.lines }

-- "Platform reset also resets .. wire groups 6 and 7" (01, Requests, answers, pieces); "Both resets lower all lines" (02, Q-4)
abbrev pub all_platform : AllWires → AllWires
all_platform w = record { groups = platform_wires w.groups; lines = no_lines }

-- ---- soundness

-- channel 1's clauses of "Sound state" (01, Wires, last paragraph; 02, Q-4), by whether it is on and by the operating count
abbrev pub sound_all : Bool → ℕ → AllWires → Bool
sound_all on count w = sound_wires on w.groups && sound_lines on count w.lines

-- six groups, three maps of 32 bytes (docs/STATE.md)
abbrev pub whole_all : AllWires → Bool
whole_all w = whole_wires w.groups && whole_lines w.lines
