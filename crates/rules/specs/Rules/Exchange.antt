-- An exchange (01, Replies and refusals): the decoder, then the command's channel, or what stands above all channels.
use Rattle.std.specs.Prelude.{ℕ, Bool, ◌&&◌, List, eqb}
use Rattle.base.specs.Pick.{pick}
use Rattle.registers.specs.Registers.{crc_checked, fresh008, fresh010, fresh_config, read_at_value, forbidden_at, write_at}
use Rattle.registers.specs.declared.Config.{Config}
use Rattle.command.specs.Decode.{admit}
use Rattle.command.specs.declared.Channels.{Channels}
use Rattle.command.specs.declared.Command.{Command}
use Rattle.command.specs.declared.Command.TheVariants as C
use Rattle.state.specs.State.{State}
use Rattle.rules.specs.Rules.Reset.{Reset, start, espi_reset, platform_reset}
use Rattle.rules.specs.Rules.Channel.{Channel, peripheral, wires, Act, Change, next_of, part, put, each, on, act_of, acting, reset_follows, enable_edge, reset}
use Rattle.rules.specs.Rules.Wires.{edge_hinders}
use Rattle.rules.specs.Rules.Lift.{lift, silent, show, non_fatal, accept_then, quietly}
use Rattle.rules.specs.declared.Body.TheVariants as B
use Rattle.rules.specs.Rules.Plan.{Plan}
use Rattle.std.specs.Prelude.{Result, Ok, Err}
use Rattle.command.specs.declared.Refusal.{Refusal}
use Rattle.command.specs.Numbers.{number_of}

-- ---- configuration: each channel gets the enable_edge of its enable bit

-- each channel by what its enable bit was and is: "Disabling channel 0" (01, Requests, answers, pieces), "Disabling channel 1", "Enabling it from
-- disabled" (01, Wires)
abbrev pub reconfigured : State → Config → State
reconfigured s c = each (λ k. enable_edge k (on k s.config) (on k c)) c s

-- a write of 020h that a waiting edge stands against (02, Q-4: "The operating count may not be lowered to 1 while an edge waits (number 2)")
abbrev pub hindered : State → ℕ → ℕ → Bool
hindered s a v = eqb a 0x020 && edge_hinders (write_at s.config a v) s.wires

-- 2, "forbidden configuration value" (01, Replies and refusals), or an edge that waits (02, Q-4); else "A write takes effect after its own reply" (01,
-- Registers and status)
unfoldable pub set_configuration : State → ℕ → ℕ → Plan
set_configuration s a v =
    pick (forbidden_at a v) (non_fatal s)
    (pick (hindered s a v) (non_fatal s)
    (accept_then s (reconfigured s (write_at s.config a v))))

-- "RESET .. No reply. It resets register 008h and nothing else"
abbrev pub reset008h : State → State
reset008h s = each (λ k p. p) (record { r008 = fresh008; r010 = s.config.r010; r020 = s.config.r020 }) s

-- ---- start and resets: each channel its own

-- "Platform reset also resets 010h", "eSPI reset also resets all registers"; start "gives the fresh one"
abbrev pub config_reset : Reset → Config → Config
config_reset start c = fresh_config
config_reset espi_reset c = fresh_config
config_reset platform_reset c = record { r008 = c.r008; r010 = fresh010; r020 = c.r020 }

-- the configuration and each channel, by their own rule for this reset (01, Requests, answers, pieces; Wires)
abbrev pub was_reset : Reset → State → State
was_reset r s = each (λ k. reset k r) (config_reset r s.config) s

-- ---- the decision

-- "the platform reset follows after that reply, which shows the status before it, and before the next exchange" (02, Q-1)
abbrev pub then_reset : State → Plan
then_reset s = accept_then s (was_reset platform_reset s)

-- a channel's change put into the whole (docs/DECISIONS.md, 30), and the reset where it follows (02, Q-1)
abbrev pub followed : (k : Channel) → State → Act k → Change k → Plan
followed k s a x = pick (reset_follows k (part k s) a (next_of k x)) (then_reset (put k (next_of k x) s)) (lift k s x)

-- a command of a channel: what its rule makes of its part (docs/DECISIONS.md, 30)
abbrev pub acted : (k : Channel) → State → Act k → Plan
acted k s a = followed k s a (acting k s.config (part k s) a)

-- an admitted command by its opcode (01, Commands): the two channels', GET_CONFIGURATION, SET_CONFIGURATION, GET_STATUS, RESET; what is left of the
-- order, "credit (1), size (1), 2", comes in its own rule (01, Replies and refusals)
unfoldable pub decide : State → Command → List ℕ → Plan
decide s (C.Peripheral o) b = acted peripheral s (act_of peripheral s.config o b)
decide s (C.Wires o) b = acted wires s (act_of wires s.config o b)
decide s (C.GetConfiguration a) b = show (B.Word (read_at_value s.config a)) s
decide s (C.SetConfiguration a v) b = set_configuration s a v
decide s C.GetStatus b = show B.Nothing s
decide s C.Reset b = quietly (reset008h s)

-- ---- the exchange

-- which channels are on: "channel disabled" is 14 (01, Replies and refusals)
abbrev pub channels_of : Config → Channels
channels_of c = record { peripheral = on peripheral c; wires = on wires c }

-- "A decode that gives no command ends the exchange at once" (01, Replies and refusals)
abbrev pub by_decoded : State → List ℕ → Result Command Refusal → Plan
by_decoded s b (Err z) = silent (number_of z) s
by_decoded s b (Ok o) = decide s o b

-- "One exchange is the whole command phase of one Chip Select# assertion" (01, What the engine covers), of a sound state: the order of refusals from
-- "empty (12)" on (01, Replies and refusals), the CRC "checked only while register 008h bit 31 is 1" (01, Commands)
unfoldable pub exchange : State → List ℕ → Plan
exchange s b = by_decoded s b (admit (channels_of s.config) (crc_checked s.config.r008) b)
