-- A call carried out on the state's bytes: what goes out of its plan by value, and the next state where it stands.
use Rattle.std.specs.Prelude.{ℕ, ◌+◌, ◌≤◌, Bool, true, false, not, ◌&&◌, List, [], ◌≡◌, eqb, length, take, Option, None, Result, Ok, Err}
use Rattle.command.specs.Numbers.{number_of}
use Rattle.command.specs.declared.Command.{Command}
use Rattle.command.specs.declared.Refusal.{Refusal}
use Rattle.rules.specs.Rules.Lift.{replying, with_status}
use Rattle.base.specs.Pick.{pick}
use Rattle.base.specs.Bytes as B
use Rattle.wires.specs.Lines.{Lines}
use Rattle.wires.specs.Senders.{AllWires, sent, after_sent, packet_of, wires_status, all_enabled, all_disabled}
use Rattle.wires.specs.Layout.{all_in}
use Rattle.wires.specs.declared.Wires.{Wires}
use Rattle.wires.specs.declared.Packet.{Packet}
use Rattle.peripheral.specs.Queues.{dropped}
use Rattle.state.specs.Channel.{place, part_bytes_value}
use Rattle.state.specs.Sound.{sound}
use Rattle.state.specs.Layout.{state_length, packed, unpacked}
use Rattle.state.specs.State.{State}
use Rattle.state.specs.Core.{core_of, quiet_state}
use Rattle.state.specs.declared.Core.{Core}
use Rattle.registers.specs.Registers.{operating_count}
use Rattle.registers.specs.Layout.{config_in}
use Rattle.registers.specs.declared.Config.{Config}
use Rattle.peripheral.specs.Status.{peripheral_status}
use Rattle.peripheral.specs.Layout.{peripheral_in}
use Rattle.rules.specs.Rules.Channel.{Channel, peripheral, wires, Part, Change, next_of, out_of}
use Rattle.rules.specs.Rules.Numbers.{fatal_error, non_fatal_error}
use Rattle.rules.specs.Rules.Fits.{plain}
use Rattle.rules.specs.Rules.Calls.{kept}
use Rattle.rules.specs.Rules.Reset.{Reset}
use Rattle.rules.specs.Rules.Exchange.{was_reset}
use Rattle.rules.specs.Rules.Wires as W
use Rattle.rules.specs.declared.Kept.{Kept}
use Rattle.rules.specs.declared.Body.{Body}
use Rattle.rules.specs.declared.Out.{Out}
use Rattle.rules.specs.declared.Body.TheVariants.{Nothing, Groups}
use Rattle.rules.specs.declared.Response.{Response}
use Rattle.rules.specs.declared.Response.TheVariants.{Accept, NonFatal, Fatal}
use Rattle.rules.specs.declared.Reply.{Reply}
use Rattle.rules.specs.Rules.Plan.{Plan, WiresChange, GroupsChange}
use Rattle.engine.specs.declared.Outgoing.{Outgoing}
use Rattle.engine.specs.declared.Speech.{Speech}
use Rattle.engine.specs.declared.Speech.TheVariants as Y

-- the bytes pack this sound state: else 11, "bytes that pack no state" (01, What the engine covers)
pub record Packs (s : State) (l : List ℕ) : Type 0 where
  pub long : state_length ≤ length l
  pub good : sound s ≡ true
  pub bytes : take state_length l ≡ packed s

-- they pack the sound state that they hold: what a call may take for granted once 10 and 11 are passed (01, Replies and refusals)
abbrev pub Loadable : List ℕ → Type 0
Loadable l = Packs (unpacked l) l

-- what a call on the bytes comes to: number, reply, bytes to keep, the state's bytes, and the bytes over which a packet is made, none where the reply is
-- no packet ("the contract .. determines result, state", 01, What each contract must settle)
pub record Carried : Type 0 where
  pub number : ℕ
  pub reply : Option Reply
  pub kept : Option Kept
  pub state : List ℕ
  pub from : List ℕ

-- the packet of these bytes: from the going-round place on, as many entries as the operating count (01, Wires: GET_VWIRE)
abbrev pub packet_in : List ℕ → Packet
packet_in st = packet_of (all_in st) (operating_count (config_in st).r020)

-- the wires after it is made (01, Wires: "and their pending marks go")
abbrev pub sent_in : List ℕ → AllWires
sent_in st = after_sent (all_in st) (sent (all_in st) (operating_count (config_in st).r020))

-- its reply, with the status after it (01, Registers and status: "All other replies show the status after the command")
abbrev pub reply_in : List ℕ → Option Reply
reply_in st = replying Accept (Groups (packet_in st)) (peripheral_status (peripheral_in st) + wires_status (sent_in st))

-- what is said, number and data beside it: a reply that stands there, or a packet made over the bytes, which changes the wires among them (01, Wires)
abbrev pub carried_as : ℕ → Speech → Option Kept → List ℕ → Carried
carried_as n (Y.Reply r) k st = record { number = n; reply = r; kept = k; state = st; from = [] }
carried_as n Y.Packet k st =
    record { number = n; reply = reply_in st; kept = k; state = B.put (place wires) (part_bytes_value wires (sent_in st)) st; from = st }

-- what goes out over the state's bytes (01, What each contract must settle)
unfoldable pub carried : Outgoing → List ℕ → Carried
carried x st = carried_as x.number x.speech x.kept st

-- what goes out of a plan whose reply is no packet: number, reply, and bytes to keep (01, Replies and refusals: "Reply; state and stores")
abbrev pub outgoing : Plan → Outgoing
outgoing p = record { number = p.number; speech = Y.Reply p.reply; kept = p.kept }

-- a plan carried out: that, and its next state in the bytes; "bytes past it neither read nor written" (01, What the engine covers)
abbrev pub carried_by : Plan → List ℕ → Carried
carried_by p st =
    record { number = p.number; reply = p.reply; kept = p.kept; state = kept p.next st; from = pick (plain p.reply) [] st }

-- ---- what is stored

-- a channel's bytes at their place (docs/DECISIONS.md, 27 and 36)
abbrev pub put_part : (k : Channel) → Part k → List ℕ → List ℕ
put_part k q l = B.put (place k) (part_bytes_value k q) l

-- those of a change with this number: a refused one stores none, "unchanged" (01, Replies and refusals)
abbrev pub stored_by : (k : Channel) → ℕ → Part k → List ℕ → List ℕ
stored_by k number q l = pick (eqb number 0) (put_part k q l) l

-- a channel's change carried out on the bytes: what goes out of it, and what is stored (docs/DECISIONS.md, 36)
pub record Changed : Type 0 where
  pub goes : Out
  pub state : List ℕ

-- of these two (docs/DECISIONS.md, 36)
abbrev pub changed_to : Out → List ℕ → Changed
changed_to o l = record { goes = o; state = l }

-- .. of the channel's change: its part where it is accepted, else the bytes as they were (01, Replies and refusals: "otherwise unchanged")
abbrev pub changed_by : (k : Channel) → Change k → List ℕ → Changed
changed_by k x l = changed_to (out_of k x) (stored_by k (out_of k x).number (next_of k x) l)

-- a board call's: its number, and the bytes (docs/DECISIONS.md, 36)
pub record Numbered : Type 0 where
  pub number : ℕ
  pub state : List ℕ

-- of these two (docs/DECISIONS.md, 36)
abbrev pub settled_to : ℕ → List ℕ → Numbered
settled_to n l = record { number = n; state = l }

-- .. of channel 1's change (01, Replies and refusals: "a refused one yields only its number")
abbrev pub settled_by : WiresChange → List ℕ → Numbered
settled_by x l = settled_to x.out.number (stored_by wires x.out.number x.next l)

-- a change of the groups, the lines beside it as they were (02, Q-4: the lines stand in the state's bytes alone)
abbrev pub beside : Lines → GroupsChange → WiresChange
beside l x = record { next = record { groups = x.next; lines = l }; out = x.out }

-- a change of the groups of these two (01, Replies and refusals: "Reply; state and stores")
abbrev pub groups_change : Wires → Out → GroupsChange
groups_change w out = record { next = w; out = out }

-- a PUT_VWIRE's change of the groups: the channel's, whatever the lines are (01, Wires: "other groups are passed over"; 02, Q-4)
abbrev pub Puts : Config → Wires → ℕ → List ℕ → GroupsChange → Type 0
Puts c w n pairs r = (l : Lines) → beside l r ≡ W.put_vwire c (record { groups = w; lines = l }) n pairs

-- a set wire's (01, Wires: "The board sets one defined bit of an up group")
abbrev pub Sets : Config → Wires → (index bit value : ℕ) → GroupsChange → Type 0
Sets c w index bit value r = (l : Lines) → beside l r ≡ W.setting c (record { groups = w; lines = l }) index bit value

-- what a reset makes of all but the lines, which it lowers, whatever they are (02, Q-4: "Both resets lower all lines and drop their waits and edges")
abbrev pub Resets : Reset → Core → Core → Type 0
Resets k s r = (t : State) → s ≡ core_of t → quiet_state r ≡ was_reset k t

-- those of an edge of the enable bit: of channel 0 the falling one alone drops what is held, of channel 1 both change marks (docs/DECISIONS.md, 20)
abbrev pub edge_stored : (k : Channel) → Bool → Bool → Part k → List ℕ → List ℕ
edge_stored peripheral was is p l = pick (was && not is) (put_part peripheral (dropped p) l) l
edge_stored wires was is w l = pick (was && not is) (put_part wires (all_disabled w) l) (pick (not was && is) (put_part wires (all_enabled w) l) l)

-- a refused call's next state is the one before: "A refusal, silent or not, changes no state" (demand 1)
abbrev pub Stays : State → Plan → Type 0
Stays s p = eqb p.number 0 ≡ false → p.next ≡ s

-- what goes out of a channel's change, with this status word (01, Replies and refusals: "response byte .., body, status")
abbrev pub says_out : Out → ℕ → Outgoing
says_out out word = record { number = out.number; speech = Y.Reply (with_status out.say word); kept = out.kept }

-- ---- a plan that shows, a silent plan

-- a reply, and no data kept (01, Replies and refusals: "Reply: response byte .., body, status")
abbrev pub says_only : ℕ → Response → Body → ℕ → Outgoing
says_only number response body word = record { number = number; speech = Y.Reply (replying response body word); kept = None }

-- a plan that shows: ACCEPT, this body, this status (01, Replies and refusals: "Reply: response byte")
abbrev pub showing : Body → ℕ → Outgoing
showing body word = says_only 0 Accept body word

-- a forbidden configuration value: NON_FATAL, this status (01, Replies and refusals: number 2)
abbrev pub forbidding : ℕ → Outgoing
forbidding word = says_only non_fatal_error NonFatal Nothing word

-- no credit: FATAL, this status (01, Replies and refusals: number 1)
abbrev pub failing : ℕ → Outgoing
failing word = says_only fatal_error Fatal Nothing word

-- a silent plan: "none; unchanged", or a RESET's "0 bytes" (01, Replies and refusals)
abbrev pub quiet : ℕ → Outgoing
quiet number = record { number = number; speech = Y.Reply None; kept = None }

-- "the silent refusal" that a decoded one is; one that is a command is none, and no caller hands it over (01, What form each place takes: let .. else)
abbrev pub refused_by : Result Command Refusal → Outgoing
refused_by (Ok o) = quiet 0
refused_by (Err r) = quiet (number_of r)
