-- Which state a reply shows: that before what comes after the reply, else the one that the command leaves.
use Rattle.std.specs.Prelude.{ℕ, Bool, true, false, ◌||◌, List, ◌≡◌, refl, eqb}
use Rattle.std.proofs.Math.Bool.{or-true}
use Rattle.std.proofs.Common.{ap, ap₂, ◌∙◌}
use Rattle.base.specs.Pick.{pick_ind, taken, passed}
use Rattle.wires.specs.Senders.{AllWires}
use Rattle.state.specs.Status.{status}
use Rattle.state.specs.State.{State}
use Rattle.rules.specs.Rules.Channel.{Channel, wires, Command, Change, next_of, out_of, part, put, act_of, reset_follows}
use Rattle.rules.specs.Statements.Plans.{Did, Admits, command_of}
use Rattle.rules.specs.Statements.Events.{lowers_pltrst}
use Rattle.rules.specs.Statements.Fields.{byte}
use Rattle.rules.specs.Statements.Shape.{effect_follows, state_shown}
use Rattle.rules.proofs.Proofs.Effects.{command_own, unlowered}
use Rattle.rules.proofs.Proofs.Whose.{never-set}
use Rattle.rules.proofs.Proofs.Wires.Lowering.{Lowered, status-put}

-- a state that is not changed
pub shown_same : (b : List ℕ) (s : State) → s ≡ state_shown b s s
shown_same b s = pick_ind (λ (t : State). s ≡ t) (effect_follows s b) (λ _. refl) (λ _. refl)

-- an accepted command of a channel that no reset follows
pub shows_after : (k : Channel) (s : State) (b : List ℕ) (o : Command k) (x : Change k) → Admits s b (command_of k o)
    → Did k s.config (part k s) (act_of k s.config o b) x → reset_follows k (part k s) (act_of k s.config o b) (next_of k x) ≡ false
    → eqb (out_of k x).number 0 ≡ true → put k (next_of k x) s ≡ state_shown b s (put k (next_of k x) s)
shows_after k s b o x e d f n =
    passed _ _ (ap₂ (λ (t u : Bool). t || u) (never-set k (byte b 0) (command_own k s b o e)) (unlowered k s b o x e d f n)) refl

-- a write, and a packet that lowers PLTRST#
pub written_shows : (s t : State) (b : List ℕ) → byte b 0 ≡ 0x22 → s ≡ state_shown b s t
written_shows s t b e = taken _ _ (ap (λ (op : ℕ). eqb op 0x22 || lowers_pltrst s b) e) refl

pub lowered_shows : (s t : State) (b : List ℕ) → lowers_pltrst s b ≡ true → s ≡ state_shown b s t
lowered_shows s t b e = taken _ _ (ap (λ (u : Bool). eqb (byte b 0) 0x22 || u) e ∙ or-true (eqb (byte b 0) 0x22)) refl

pub lowered_status : (s : State) (b : List ℕ) (v : AllWires) → Lowered s b v → status (put wires v s) ≡ status s
lowered_status s b v l = ap (λ (z : AllWires). status (put wires z s)) l.wires ∙ status-put s _
