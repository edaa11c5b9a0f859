-- P19 and P20 of `step`: what PUT_VWIRE, GET_VWIRE and the board's set and read do to levels, marks and place, and what makes a group or a line wait (01,
-- Wires; 02, Q-4). The calls that set a line and ask for an edge: Statements/Wires/LineEffects.
use Rattle.std.specs.Prelude.{ℕ, zero, suc, ◌+◌, ◌-◌, ◌*◌, ◌/◌, ◌%◌, ◌^◌, ◌<◌, ◌≤◌, Bool, true, false, ◌&&◌, ◌||◌, not, ◌≡◌, eqb, ltb, leb, get_or, length}
use mathlib.Core.List.{List, [], ◌∷◌, ◌++◌, Memᴰ}
use Rattle.base.specs.Pick.{pick}
use Rattle.wires.specs.Table.{row_at}
use Rattle.wires.specs.Groups as G
use Rattle.wires.specs.Groups.{level_at, mark_at, group_byte, is_down, defined_bit}
use Rattle.wires.specs.Changes.{last_named}
use Rattle.wires.specs.Transitions.{values_given, transitions}
use Rattle.wires.specs.Senders.{AllWires}
use Rattle.state.specs.Status.{status}
use Rattle.state.specs.Sound.{Sound}
use Rattle.rules.specs.Rules.Reset.{platform_reset}
use Rattle.rules.specs.Rules.Channel.{wires, on}
use Rattle.rules.specs.Rules.Reply.{closed}
use Rattle.rules.specs.Rules.Step.{World, Call, exchange, Outcome, step}
use Rattle.rules.specs.Statements.Events.{lowers_pltrst}
use Rattle.rules.specs.Statements.Fields.{byte, pairs, register_at, register_value}
use Rattle.rules.specs.Statements.Wires.Effects.{reset_part}
use Rattle.rules.specs.Statements.Wires.Rows.{at_line}
use Rattle.rules.specs.Statements.WireEvents.{wires_of, groups_of, lines_of, count_of}
use Rattle.rules.specs.Statements.WireView.{sets_wire, reads_wire, sets_line, pulses_line}

-- a wire's level: bit `bit` of group i ("The state holds six wire groups", 01, Wires)
abbrev pub wire_of : World → ℕ → ℕ → ℕ
wire_of w i bit = G.read_wire (groups_of w) i bit

-- ---- PUT_VWIRE

-- few: no "third transition of a wire in one packet" (02, Q-6); then it "applies pairs in order; only valid and defined bits of down groups change, other
-- groups are passed over" (01, Wires)
pub record Put (w v : World) (given : List ℕ) : Type 0 where
  pub few : (i bit : ℕ) → is_down i ≡ true → defined_bit i bit ≡ true → transitions (wire_of w i bit ∷ values_given given i bit) ≤ 2
  pub bits : (i bit : ℕ) → is_down i ≡ true → defined_bit i bit ≡ true → wire_of v i bit ≡ last_named given i bit (wire_of w i bit)
  pub undefined_bits : (i bit : ℕ) → is_down i ≡ true → bit < 4 → defined_bit i bit ≡ false → wire_of v i bit ≡ wire_of w i bit
  pub other_groups : (i : ℕ) → 2 ≤ i → is_down i ≡ false → level_at (groups_of v) i ≡ level_at (groups_of w) i
  pub marks : (groups_of v).pending ≡ (groups_of w).pending
  pub place : (groups_of v).place ≡ (groups_of w).place
  pub lines : lines_of v ≡ lines_of w

-- .. and then "the platform reset follows after that reply" (02, Q-1): "groups 6 and 7", "going round .. from 4 itself" (01)
pub record Lowered (w v : World) (given : List ℕ) : Type 0 where
  pub packet : World
  pub put : Put w packet given
  pub reset : wires_of v ≡ reset_part platform_reset (wires_of packet)

-- ---- the board sets and reads a wire

-- "The board sets one defined bit of an up group; a real change while channel 1 is enabled makes it pending"
pub record Set (w v : World) (i bit value : ℕ) : Type 0 where
  pub bits : (k : ℕ) → k < 4 → wire_of v i k ≡ pick (eqb k bit) value (wire_of w i k)
  pub other_groups : (j : ℕ) → 2 ≤ j → (j ≡ i → ⊥) → level_at (groups_of v) j ≡ level_at (groups_of w) j
  pub mark : mark_at (groups_of v) i ≡ (mark_at (groups_of w) i || (on wires w.state.config && not (eqb (wire_of w i bit) value)))
  pub other_marks : (j : ℕ) → 2 ≤ j → (j ≡ i → ⊥) → mark_at (groups_of v) j ≡ mark_at (groups_of w) j
  pub place : (groups_of v).place ≡ (groups_of w).place
  pub lines : lines_of v ≡ lines_of w

-- ---- GET_VWIRE: the senders, "lines 0 to 255, then groups 4 to 6" (02, Q-4), numbered from 0

-- the sender after this one, going round: line 0 comes after group 6 ("going round from the index after the last one sent", 01, Wires; 02, Q-4: "Turns go
-- over lines 0 to 255, then groups 4 to 6")
abbrev pub next_turn : ℕ → ℕ
next_turn k = pick (eqb k 258) 0 (k + 1)

-- behind the 256 lines, the group of a sender: 4, 5 or 6 (02, Q-4: "then groups 4 to 6")
abbrev pub group_of : ℕ → ℕ
group_of k = k - 252

-- a line "waits to be sent" (02, Q-4), a group is pending (01, Wires)
abbrev pub waits_at : AllWires → ℕ → Bool
waits_at w k = pick (ltb k 256) (at_line w.lines.waits k) (mark_at w.groups (group_of k))

-- what waits is a line's edge (02, Q-4: "while its edge waits")
abbrev pub edge_at : AllWires → ℕ → Bool
edge_at w k = ltb k 256 && at_line w.lines.edges k

-- the entries that it takes: an edge "is sent as two entries in one packet" (02, Q-4), all else as one
abbrev pub room_at : AllWires → ℕ → ℕ
room_at w k = pick (edge_at w k) 2 1

-- .. of several (02, Q-4: "A packet closes at the first sender that does not fit")
unfoldable pub room_of : AllWires → List ℕ → ℕ
room_of w [] = 0
room_of w (k ∷ ks) = room_at w k + room_of w ks

-- n turns from a place on (01, Wires: "going round")
unfoldable pub turns : ℕ → ℕ → List ℕ
turns zero k = []
turns (suc n) k = k ∷ turns n (next_turn k)

-- of these senders, those that wait (01, Wires: "their pending marks")
unfoldable pub waiting_of : AllWires → List ℕ → List ℕ
waiting_of w [] = []
waiting_of w (k ∷ ks) = pick (waits_at w k) (k ∷ waiting_of w ks) (waiting_of w ks)

-- the first of these, as many as fit: "A packet closes at the first sender that does not fit" (02, Q-4)
unfoldable pub fitting_of : AllWires → ℕ → List ℕ → List ℕ
fitting_of w room [] = []
fitting_of w room (k ∷ ks) = pick (leb (room_at w k) room) (k ∷ fitting_of w (room - room_at w k) ks) []

-- all that wait, going round once from the place (01, Wires: "going round from the index after the last one sent"; docs/DECISIONS.md, 21)
abbrev pub waiting_round : AllWires → List ℕ
waiting_round w = waiting_of w (turns 259 w.groups.place)

-- a line's level, 0 or 1: bit n mod 8 of byte n / 8 (02, Q-4: "The board raises and lowers a line"; docs/STATE.md)
abbrev pub line_level : AllWires → ℕ → ℕ
line_level w n = get_or w.lines.level (n / 8) 0 / 2 ^ (n % 8) % 2

-- "wire indexes 0 and 1: 256 lines, level in data bit 7, line in bits 6:0" (02, Q-4)
abbrev pub line_as_value : ℕ → ℕ → List ℕ
line_as_value n level = n / 128 ∷ (level * 128 + n % 128) ∷ []

-- index and data: a line's level, before it the opposite one where what waits is an edge, "new level first" (02, Q-4; docs/DECISIONS.md, 65); a group's "with
-- all defined bits valid" (01, Wires)
abbrev pub entries_at : AllWires → ℕ → List ℕ
entries_at w k =
    pick (ltb k 256) (pick (at_line w.lines.edges k) (line_as_value k (1 - line_level w k)) [] ++ line_as_value k (line_level w k))
    (group_of k ∷ group_byte w.groups (group_of k) ∷ [])

-- .. of each, in the order sent ("then index and data pairs", 01, Commands)
unfoldable pub entries_of : AllWires → List ℕ → List ℕ
entries_of w [] = []
entries_of w (k ∷ ks) = entries_at w k ++ entries_of w ks

-- first: the senders sent are those that wait, going round from the place, as many of the first as fit the operating count (01, Wires: "GET_VWIRE sends
-- min(pending, operating count) groups, going round"; 02, Q-4: "A packet closes at the first sender that does not fit"); reply: "the group count less one ..,
-- then index and data pairs" (01, Commands); gone, no_edge: "and their pending marks go"; place: behind the last one sent (01, Wires)
pub record Got (w : World) (o : Outcome) (senders : List ℕ) : Type 0 where
  pub first : senders ≡ fitting_of (wires_of w) (count_of w) (waiting_round (wires_of w))
  pub some : 1 ≤ length senders
  pub reply : o.reply ≡ closed (0x08 ∷ (room_of (wires_of w) senders - 1) ∷ entries_of (wires_of w) senders) (status o.next.state)
  pub gone : (k : ℕ) → Memᴰ k senders → waits_at (wires_of o.next) k ≡ false
  pub no_edge : (k : ℕ) → Memᴰ k senders → edge_at (wires_of o.next) k ≡ false
  pub stay : (k : ℕ) → k < 259 → (Memᴰ k senders → ⊥) → waits_at (wires_of o.next) k ≡ waits_at (wires_of w) k
  pub edges : (k : ℕ) → k < 259 → (Memᴰ k senders → ⊥) → edge_at (wires_of o.next) k ≡ edge_at (wires_of w) k
  pub levels : (groups_of o.next).level ≡ (groups_of w).level
  pub line_levels : (lines_of o.next).level ≡ (lines_of w).level
  pub place : (before : List ℕ) (last : ℕ) → senders ≡ before ++ (last ∷ []) → (groups_of o.next).place ≡ next_turn last

-- "min(pending, operating count) groups": there are such (01, Wires)
pub record SomeGot (w : World) (o : Outcome) : Type 0 where
  pub senders : List ℕ
  pub got : Got w o senders

-- ---- what raises a mark

-- "a real change while channel 1 is enabled makes it pending", "Enabling it from disabled makes each up group pending" (01, Wires), and nothing else
pub data Raised (w : World) (c : Call) (i : ℕ) : Type 0 where
  -- "a real change while channel 1 is enabled"
  by_change : (bit value : ℕ) → c ≡ sets_wire i bit value → on wires w.state.config ≡ true → (wire_of w i bit ≡ value → ⊥) → Raised w c i
  -- "Enabling it from disabled makes each up group pending that differs from its reset value"
  by_enabling : (b r : List ℕ) → c ≡ exchange b r → byte b 0 ≡ 0x22 → register_at b ≡ 0x020 → register_value b % 2 ≡ 1
      → on wires w.state.config ≡ false → (level_at (groups_of w) i ≡ (row_at (i - 2)).reset → ⊥) → Raised w c i

-- a line: "makes the line wait", a real change while channel 1 is on, an edge asked for, "Enabling channel 1 makes every high line pending" (02, Q-4;
-- docs/DECISIONS.md, 65), and nothing else
pub data LineRaised (w : World) (c : Call) (n : ℕ) : Type 0 where
  by_level : (level : ℕ) → c ≡ sets_line n level → on wires w.state.config ≡ true → (line_level (wires_of w) n ≡ level → ⊥) → LineRaised w c n
  by_edge : c ≡ pulses_line n → on wires w.state.config ≡ true → 2 ≤ count_of w → LineRaised w c n
  by_enabling_high : (b r : List ℕ) → c ≡ exchange b r → byte b 0 ≡ 0x22 → register_at b ≡ 0x020 → register_value b % 2 ≡ 1
      → on wires w.state.config ≡ false → line_level (wires_of w) n ≡ 1 → LineRaised w c n

-- ---- the statements: of an accepted call on a sound state

-- each rule of 01, Wires of its call; raised: no pending mark comes by itself ("makes it pending", "makes each up group pending")
pub record WireSteps : Type 0 where
  pub put : (w : World) (b r : List ℕ) → Sound w.state → byte b 0 ≡ 0x04 → (step w (exchange b r)).number ≡ 0 → lowers_pltrst w.state b ≡ false
      → Put w (step w (exchange b r)).next (pairs b)
  pub lowered : (w : World) (b r : List ℕ) → Sound w.state → (step w (exchange b r)).number ≡ 0 → lowers_pltrst w.state b ≡ true
      → Lowered w (step w (exchange b r)).next (pairs b)
  pub set : (w : World) (i bit value : ℕ) → Sound w.state → (step w (sets_wire i bit value)).number ≡ 0
      → Set w (step w (sets_wire i bit value)).next i bit value
  -- so that `wire_of` is what the board reads; `WireReads` has that value by what came since a reset
  pub read : (w : World) (i bit : ℕ) → (step w (reads_wire i bit)).number ≡ 0 → (step w (reads_wire i bit)).value ≡ wire_of w i bit
  pub get : (w : World) (b r : List ℕ) → Sound w.state → byte b 0 ≡ 0x05 → (step w (exchange b r)).number ≡ 0 → SomeGot w (step w (exchange b r))
  pub raised : (w : World) (c : Call) (i : ℕ) → Sound w.state → 2 ≤ i → i ≤ 7 → mark_at (groups_of w) i ≡ false → mark_at (groups_of (step w c).next) i ≡ true
      → Raised w c i
  -- and so no line waits by itself
  pub line_raised_lem : (w : World) (c : Call) (n : ℕ) → Sound w.state → n < 256 → at_line (lines_of w).waits n ≡ false
      → at_line (lines_of (step w c).next).waits n ≡ true → LineRaised w c n
