-- What the other channels leave of channel 0.
use Rattle.std.specs.Prelude.{ℕ, Bool, true, false, ◌||◌, List, [], ◌∷◌, ◌≡◌, refl, eqb, Option, Some, None}
use Rattle.std.proofs.Common.{true≢false, sym, ap, ◌∙◌}
use Rattle.base.specs.Pick.{pick}
use Rattle.state.specs.State.{State}
use Rattle.rules.specs.Rules.Out.{fatal, number, keep}
use Rattle.rules.specs.Rules.Channel.{Channel, peripheral, wires, Part, Command, Act, Board, Change, out_of, own_kept, same}
use Rattle.rules.specs.Statements.Cases.{command_of, Admits}
use Rattle.rules.specs.Statements.Channels as L
use Rattle.rules.specs.Statements.Channels.{response_for, accepts, Acts, Settles}
use Rattle.rules.specs.Statements.Events.{lowers_pltrst}
use Rattle.rules.specs.Statements.Fields.{byte, is_posted, is_non_posted}
use Rattle.rules.specs.Statements.Sizes.{is_of}
use Rattle.rules.proofs.Proofs.Lift.{out_change}
use Rattle.rules.specs.Statements.Requests.{idle, asks, gets, command_event, board_event}
use Rattle.rules.proofs.Proofs.Events.{no_lowering}
use Rattle.rules.proofs.Proofs.Effects.{command_own}
use Rattle.rules.proofs.Proofs.Whose.{own_opcode, never-set}
use Rattle.rules.specs.declared.Kept.{Kept}
use Rattle.rules.specs.declared.Out.{Out}

-- its calls keep nothing in channel 0's stores
pub own_other : (k : Channel) → same peripheral k ≡ false → (kept : Option Kept) → own_kept k kept ≡ true → kept ≡ None
own_other peripheral e kept f = absurd (true≢false e)
own_other wires e None f = refl
own_other wires e (Some d) f = absurd (true≢false (sym f))

pub acts_other : (k : Channel) → same peripheral k ≡ false → (p : Part k) (a : Act k) (x : Change k) → Acts k p a x → (out_of k x).kept ≡ None
acts_other k e p a x L.Acts.refused = ap (λ (out : Out). out.kept) (out_change k p fatal)
acts_other k e p a x (L.Acts.accepted q body kept f g) =
    ap (λ (out : Out). out.kept) (out_change k q (accepts (response_for k a) body kept)) ∙ own_other k e kept g

pub settles_other : (k : Channel) → same peripheral k ≡ false → (p : Part k) (o : Board k) (x : Change k) → Settles k p o x → (out_of k x).kept ≡ None
settles_other k e p o x (L.Settles.refused n f g h i) = ap (λ (out : Out). out.kept) (out_change k p (number n))
settles_other k e p o x (L.Settles.accepted q kept f) = ap (λ (out : Out). out.kept) (out_change k q (keep kept)) ∙ own_other k e kept f

-- ---- its commands and calls are no event of channel 0

-- bytes that make no event of channel 0
pub record Plain (s : State) (b : List ℕ) : Type 0 where
  pub event : command_event b ≡ idle
  pub write : eqb (byte b 0) 0x22 ≡ false
  pub high : lowers_pltrst s b ≡ false

pub plain : (s : State) (b : List ℕ) (op : ℕ) → byte b 0 ≡ op → command_event (op ∷ []) ≡ idle → eqb op 0x22 ≡ false → eqb op 0x04 ≡ false → Plain s b
plain s b op e f g h = record { event = rw e f; write = rw e g; high = no_lowering s b (rw e h) }

-- an opcode that is none of channel 0's
quiet : (op : ℕ) → is_of peripheral op ≡ false → command_event (op ∷ []) ≡ idle
quiet op = go (is_posted op) (is_non_posted op) (eqb op 0x01)
  where
    go : (a t u : Bool) → (a || (t || u)) ≡ false → pick t asks (pick u gets idle) ≡ idle
    go true t u e = absurd (true≢false e)
    go false true u e = absurd (true≢false e)
    go false false true e = absurd (true≢false e)
    go false false false e = refl

pub command_other : (k : Channel) → same peripheral k ≡ false → (s : State) (b : List ℕ) (o : Command k) → Admits s b (command_of k o)
    → lowers_pltrst s b ≡ false → Plain s b
command_other k n s b o e h =
    let own = command_own k s b o e in
    record { event = quiet (byte b 0) (own_opcode peripheral k (byte b 0) own ∙ n); write = never-set k (byte b 0) own; high = h }

pub board_other : (k : Channel) → same peripheral k ≡ false → (o : Board k) → board_event k o ≡ idle
board_other peripheral e o = absurd (true≢false e)
board_other wires e o = refl
