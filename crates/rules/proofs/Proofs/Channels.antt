-- Every channel is lawful, from its own law.
use Rattle.registers.specs.declared.Config.{Config}
use Rattle.state.specs.State.{State}
use Rattle.rules.specs.Rules.Channel.{Channel, peripheral, wires, Part, Act, Board, Change, part, settle}
use Rattle.rules.specs.Statements.Plans.{Did, Settled}
use Rattle.rules.specs.Statements.Channels.{Acts, Settles, Lawful}
use Rattle.rules.proofs.Proofs.Plans as Q
use Rattle.rules.proofs.Proofs.Peripheral.Lawful as P
use Rattle.rules.proofs.Proofs.Wires.Lawful as W

pub acts : (k : Channel) (c : Config) (p : Part k) (a : Act k) (x : Change k) → Did k c p a x → Acts k p a x
acts peripheral c p a x d = P.acts d
acts wires c p a x d = W.acts d

pub settled : (k : Channel) (c : Config) (p : Part k) (o : Board k) (x : Change k) → Settled k c p o x → Settles k p o x
settled peripheral c p o x d = P.settles d
settled wires c p o x d = W.settles d

-- a board call on a state
pub board_settles : (k : Channel) (s : State) (o : Board k) → Settles k (part k s) o (settle k s.config (part k s) o)
board_settles k s o = settled k s.config (part k s) o _ (Q.settled k s.config (part k s) o)

pub lawful : Lawful
lawful = record { acts = acts; settles = settled }
