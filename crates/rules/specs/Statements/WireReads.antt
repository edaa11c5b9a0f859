-- What a read of a wire yields, by what has come since its group was reset: a down wire by the accepted packets, an up wire by the board's
-- accepted settings (01, Wires).
use Rattle.std.specs.Prelude.{ℕ, ◌-◌, ◌/◌, ◌%◌, ◌^◌, Bool, true, false, ◌&&◌, ◌||◌, List, [], ◌∷◌, ◌++◌, ◌≡◌, eqb, ltb, get_or}
use Rattle.base.specs.Pick.{pick}
use Rattle.wires.specs.Changes.{last_named}
use Rattle.state.specs.Sound.{Sound}
use Rattle.rules.specs.Rules.Reset.{Reset, start, espi_reset, platform_reset}
use Rattle.rules.specs.Rules.Wires as W
use Rattle.rules.specs.Rules.Channel.{Channel, peripheral, wires, Board}
use Rattle.rules.specs.Rules.Step.{World, Call, reset, exchange, board, short, lend, step, run, all_handed}
use Rattle.rules.specs.Statements.Fields.{byte, pairs}
use Rattle.rules.specs.Statements.Events.{accepted, pltrst_falls}
use Rattle.rules.specs.Statements.Requests.{is_start, without}
use Rattle.rules.specs.Statements.WireView.{reads_wire}
use Rattle.rules.specs.Statements.Wires.Effects.{table_values}
use Rattle.rules.specs.Statements.Wires.Rows.{wire_of_board}

-- ---- the table

-- "2 down 7h; 3 down 7h ..; 7 down 7h"; `wire_of_board` has the up wires
abbrev pub wire_down : ℕ → ℕ → Bool
wire_down i bit = (eqb i 2 || (eqb i 3 || eqb i 7)) && ltb bit 3

-- "Wire table: index, direction, defined bits, reset value" (01, Wires): the wire's bit of its group's reset value
abbrev pub reset_level : ℕ → ℕ → ℕ
reset_level i bit = get_or table_values (i - 2) 0 / 2 ^ bit % 2

-- "eSPI reset also resets all .. groups", "Platform reset also resets .. wire groups 6 and 7"; start "gives the fresh one"
abbrev pub resets_group : ℕ → Reset → Bool
resets_group i start = true
resets_group i espi_reset = true
resets_group i platform_reset = eqb i 6 || eqb i 7

-- .. by a call ("eSPI reset, platform reset", 01, What the engine covers) or by a packet that counts "as a platform reset" (02, Q-1)
abbrev pub resets_by : ℕ → World → Call → Bool
resets_by i w (reset r) = resets_group i r
resets_by i w (exchange command reply) = resets_group i platform_reset && pltrst_falls w (exchange command reply)
resets_by i w (board k o) = false
resets_by i w (short state c) = false
resets_by i w (lend write read) = false

-- ---- what a run accepts, in order

-- what f finds at each call, one after the other (of `packets` and `settings`; "in order", 01, Wires)
unfoldable pub along : {A : Type 0} → (World → Call → List A) → World → List Call → List A
along f w [] = []
along f w (c ∷ cs) = f w c ++ along f (step w c).next cs

-- the pairs of a PUT_VWIRE ("PUT_VWIRE applies pairs in order", 01, Wires)
abbrev pub packet_in : Call → List (List ℕ)
packet_in (reset r) = []
packet_in (exchange command reply) = pick (eqb (byte command 0) 0x04) (pairs command ∷ []) []
packet_in (board k o) = []
packet_in (short state c) = []
packet_in (lend write read) = []

-- the value to which the board sets this wire ("The board sets one defined bit of an up group", 01, Wires)
abbrev pub wires_setting : (i bit : ℕ) → W.Board → List ℕ
wires_setting i bit (W.set_wire index k value) = pick (eqb index i && eqb k bit) (value ∷ []) []
wires_setting i bit (W.read_wire index k) = []
wires_setting i bit (W.set_line line level) = []
wires_setting i bit (W.pulse_line line) = []

-- .. of any channel ("set a wire", 01, What the engine covers)
abbrev pub board_setting : (i bit : ℕ) → (k : Channel) → Board k → List ℕ
board_setting i bit peripheral o = []
board_setting i bit wires o = wires_setting i bit o

-- .. of any call ("set a wire", 01, What the engine covers)
abbrev pub setting_in : (i bit : ℕ) → Call → List ℕ
setting_in i bit (reset r) = []
setting_in i bit (exchange command reply) = []
setting_in i bit (board k o) = board_setting i bit k o
setting_in i bit (short state c) = []
setting_in i bit (lend write read) = []

-- the accepted packets of a run (0, "accepted or deferred", 01, Replies and refusals)
abbrev pub packets : World → List Call → List (List ℕ)
packets = along (λ w c. pick (accepted (step w c)) (packet_in c) [])

-- .. and the accepted settings of a wire: "The board sets one defined bit" (01, Wires)
abbrev pub settings : (i bit : ℕ) → World → List Call → List ℕ
settings i bit = along (λ w c. pick (accepted (step w c)) (setting_in i bit c) [])

-- ---- the level that these leave, from one before them

-- each in turn, from a level before (of `last_put` and `last_set`; "in order", 01, Wires)
unfoldable pub through : {A : Type 0} → (A → ℕ → ℕ) → List A → ℕ → ℕ
through f [] old = old
through f (x ∷ xs) old = through f xs (f x old)

-- "applies pairs in order": the last pair of the last packet that names the wire validly
abbrev pub last_put : (i bit : ℕ) → List (List ℕ) → ℕ → ℕ
last_put i bit = through (λ ps. last_named ps i bit)

-- the last value that the board set: "The board sets one defined bit of an up group" (01, Wires)
abbrev pub last_set : List ℕ → ℕ → ℕ
last_set = through (λ value old. value)

-- ---- the statements

-- what the board's call yields: "read a wire" (01, What the engine covers)
abbrev pub value_read : World → ℕ → ℕ → ℕ
value_read w i bit = (step w (reads_wire i bit)).value

-- a read after the calls cs, the wire having had this level before them
-- ("only valid and defined bits of down groups change"; "The board sets one defined bit of an up group", 01, Wires)
pub record ReadAfter (w : World) (cs : List Call) (i bit old : ℕ) : Type 0 where
  pub down : wire_down i bit ≡ true → value_read (run w cs) i bit ≡ last_put i bit (packets w cs) old
  pub up : wire_of_board i bit ≡ true → value_read (run w cs) i bit ≡ last_set (settings i bit w cs) old

-- a sound state, but for a start: "Start takes no state" (01, What the engine covers)
abbrev pub SoundBefore : World → Call → Type 0
SoundBefore w c = is_start c ≡ false → Sound w.state

-- since a reset of the wire's group, or between any two places of a run: cs, with no such reset among them
-- ("register values, wires and queues afterwards", 00, demand 2; "reset value", 01, Wires; "Disabling channel 1 drops pending marks and keeps values")
pub record WireReads : Type 0 where
  pub since : (w : World) (c : Call) (cs : List Call) (i bit : ℕ) → SoundBefore w c → resets_by i w c ≡ true
      → all_handed (c ∷ cs) ≡ true → without (resets_by i) (step w c).next cs ≡ true
      → ReadAfter (step w c).next cs i bit (reset_level i bit)
  pub between : (w : World) (cs : List Call) (i bit : ℕ) → Sound w.state → all_handed cs ≡ true → without (resets_by i) w cs ≡ true
      → ReadAfter w cs i bit (value_read w i bit)
