-- P11, the interrupt lines one by one (02, Q-4): what each call leaves of a line's level, of its wait and of its edge, of the line itself and of all others.
use Rattle.std.specs.Prelude.{ℕ, ◌/◌, ◌%◌, ◌^◌, Bool, true, false, ◌&&◌, ◌||◌, not, List, ◌≢◌, ◌≡◌, eqb, get_or}
use Rattle.wires.specs.declared.Wires.{Wires}
use Rattle.state.specs.Sound.{Sound}
use Rattle.rules.specs.Rules.Reset.{Reset}
use Rattle.rules.specs.Rules.Wires.{set_line, pulse_line}
use Rattle.rules.specs.Rules.Channel.{wires}
use Rattle.rules.specs.Rules.Step.{World, reset, exchange, board, step}
use Rattle.rules.specs.Statements.Sizes.{is_enabled}
use Rattle.rules.specs.Statements.Events.{disables, pltrst_falls}
use Rattle.rules.specs.Statements.WireEvents.{switches_on}
use Rattle.rules.specs.Statements.Wires.Rows.{at_line}

-- line n is at level 0 or 1: bit n mod 8 of byte n / 8 of the levels (docs/STATE.md; 02, Q-4: "The board raises and lowers a line")
abbrev pub level_of : World → ℕ → ℕ
level_of w n = get_or w.state.wires.lines.level (n / 8) 0 / 2 ^ (n % 8) % 2

-- it "waits to be sent" (02, Q-4)
abbrev pub waits_in : World → ℕ → Bool
waits_in w n = at_line w.state.wires.lines.waits n

-- "its edge waits" (02, Q-4)
abbrev pub edge_in : World → ℕ → Bool
edge_in w n = at_line w.state.wires.lines.edges n

-- the groups' levels, marks and place (01, Wires)
abbrev pub groups_in : World → Wires
groups_in w = w.state.wires.groups

-- the line has the level asked for, and waits if that is a real change "while channel 1 is enabled" (01, Wires; docs/DECISIONS.md, 65); no other line, no edge
-- and no group changes
pub record LineSet (w after : World) (n level : ℕ) : Type 0 where
  pub own : level_of after n ≡ level
  pub waits : waits_in after n ≡ waits_in w n || (is_enabled wires w.state.config && not (eqb (level_of w n) level))
  pub levels : (k : ℕ) → k ≢ n → level_of after k ≡ level_of w k
  pub others_wait : (k : ℕ) → k ≢ n → waits_in after k ≡ waits_in w k
  pub edges : (k : ℕ) → edge_in after k ≡ edge_in w k
  pub groups : groups_in after ≡ groups_in w

-- the line waits with its edge, and its level stays (02, Q-4: "or asks for an edge"; docs/DECISIONS.md, 65); no other line and no group changes
pub record LinePulsed (w after : World) (n : ℕ) : Type 0 where
  pub waits : waits_in after n ≡ true
  pub edge : edge_in after n ≡ true
  pub levels : (k : ℕ) → level_of after k ≡ level_of w k
  pub others_wait : (k : ℕ) → k ≢ n → waits_in after k ≡ waits_in w k
  pub others_edge : (k : ℕ) → k ≢ n → edge_in after k ≡ edge_in w k
  pub groups : groups_in after ≡ groups_in w

-- "lower all lines and drop their waits and edges" (02, Q-4)
pub record NoLine (after : World) : Type 0 where
  pub low : (k : ℕ) → level_of after k ≡ 0
  pub waits : (k : ℕ) → waits_in after k ≡ false
  pub edges : (k : ℕ) → edge_in after k ≡ false

-- the lines' levels stay, none is an edge, and those that wait are these (01, Wires: "keeps values")
pub record LinesWait (w after : World) (which : ℕ → Bool) : Type 0 where
  pub levels : (k : ℕ) → level_of after k ≡ level_of w k
  pub waits : (k : ℕ) → waits_in after k ≡ which k
  pub edges : (k : ℕ) → edge_in after k ≡ false

-- of every accepted call: "raises and lowers a line, or asks for an edge"; "Both resets lower all lines and drop their waits and edges"; "Enabling channel 1
-- makes every high line pending" (02, Q-4); disabling it "drops pending marks and keeps values" (01, Wires)
pub record LineEffects : Type 0 where
  pub set : (w : World) → Sound w.state → (n level : ℕ) → (step w (board wires (set_line n level))).number ≡ 0
      → LineSet w (step w (board wires (set_line n level))).next n level
  pub pulsed : (w : World) → Sound w.state → (n : ℕ) → (step w (board wires (pulse_line n))).number ≡ 0
      → LinePulsed w (step w (board wires (pulse_line n))).next n
  -- a start and both resets, and the packet that counts "as a platform reset" (02, Q-1)
  pub reset : (w : World) (r : Reset) → NoLine (step w (reset r)).next
  pub fallen : (w : World) (b reply : List ℕ) → pltrst_falls w (exchange b reply) ≡ true → NoLine (step w (exchange b reply)).next
  pub enabled : (w : World) (b reply : List ℕ) → (step w (exchange b reply)).number ≡ 0 → switches_on w.state b ≡ true
      → LinesWait w (step w (exchange b reply)).next (λ (k : ℕ). eqb (level_of w k) 1)
  pub disabled : (w : World) (b reply : List ℕ) → (step w (exchange b reply)).number ≡ 0 → disables wires w.state b ≡ true
      → LinesWait w (step w (exchange b reply)).next (λ (k : ℕ). false)
