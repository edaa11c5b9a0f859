-- A change put back: what `lift` and `put` do, whatever the channel.
use Rattle.std.specs.Prelude.{ℕ, zero, suc, Bool, true, false, ◌≡◌, refl}
use Rattle.std.proofs.Common.{true≢false, sym, ap, subst, ◌∙◌, eq-eqb, ne_eqb, eqb-true}
use Rattle.std.proofs.lemmas.Bool.{eqb-false}
use Rattle.registers.specs.declared.Config.{Config}
use Rattle.state.specs.Status.{status}
use Rattle.state.specs.Parts.{by_channel}
use Rattle.state.specs.State.{State}
use Rattle.rules.specs.Rules.Channel.{Channel, peripheral, wires, Part, change, next_of, out_of, part, put, each, channel_number, same}
use Rattle.rules.specs.Rules.Lift.{lift, with_status}
use Rattle.rules.specs.declared.Out.{Out}
use Rattle.rules.specs.Rules.Plan.{Plan}

-- what goes out, with a state and its status
abbrev pub planned : State → Out → Plan
planned s out = record { number = out.number; reply = with_status out.say (status s); next = s; kept = out.kept }

pub lift-change : (k : Channel) (s : State) (q : Part k) (out : Out) → lift k s (change k q out) ≡ planned (put k q s) out
unfolding lift
lift-change peripheral s q out = refl
lift-change wires s q out = refl

pub out_change : (k : Channel) (q : Part k) (out : Out) → out_of k (change k q out) ≡ out
out_change peripheral q out = refl
out_change wires q out = refl

pub next_change : (k : Channel) (q : Part k) (out : Out) → next_of k (change k q out) ≡ q
next_change peripheral q out = refl
next_change wires q out = refl

-- a part that stays
pub put_same : (k : Channel) (s : State) → put k (part k s) s ≡ s
put_same peripheral s = refl
put_same wires s = refl

pub lift_stays : (k : Channel) (s : State) (out : Out) → lift k s (change k (part k s) out) ≡ planned s out
lift_stays k s out = lift-change k s (part k s) out ∙ ap (λ (t : State). planned t out) (put_same k s)

pub put-config : (k : Channel) (q : Part k) (s : State) → (put k q s).config ≡ s.config
put-config peripheral q s = refl
put-config wires q s = refl

-- the one lemma in which channels meet: the parts of two states, one channel's replaced in both, stay related if the new ones are
pub put_both : (Q : (y : Channel) → Part y → Part y → Type 0) (k : Channel) (p q : Part k) (s t : State)
    → Q k p q → ((y : Channel) → Q y (part y s) (part y t)) → (y : Channel) → Q y (part y (put k p s)) (part y (put k q t))
put_both Q peripheral p q s t h g = by_channel (λ y. Q y (part y (put peripheral p s)) (part y (put peripheral q t))) h (g wires)
put_both Q wires p q s t h g = by_channel (λ y. Q y (part y (put wires p s)) (part y (put wires q t))) (g peripheral) h

-- of one state: what holds of a new part and of every part before holds of every part after
pub put-each : (Q : (j : Channel) → Part j → Type 0) (k : Channel) (q : Part k) (s : State) → Q k q → ((j : Channel) → Q j (part j s)) → (j : Channel)
    → Q j (part j (put k q s))
put-each Q k q s h e = put_both (λ (j : Channel) (a b : Part j). Q j a) k q q s s h e

pub part-each : (f : (k : Channel) → Part k → Part k) (c : Config) (s : State) (k : Channel) → part k (each f c s) ≡ f k (part k s)
part-each f c s peripheral = refl
part-each f c s wires = refl

-- every part by a function that gives it the same, under the same configuration
pub each_as : (f g : (k : Channel) → Part k → Part k) (c d : Config) (s : State) → c ≡ d → ((k : Channel) → f k (part k s) ≡ g k (part k s))
    → each f c s ≡ each g d s
each_as f g c d s e h = rw (e, h peripheral, h wires)

-- ---- which channel: told by its number

abbrev channel_at : ℕ → Channel
channel_at zero = peripheral
channel_at (suc n) = wires

number-back : (x : Channel) → channel_at (channel_number x) ≡ x
number-back peripheral = refl
number-back wires = refl

pub same_self : (x : Channel) → same x x ≡ true
same_self x = eq-eqb (channel_number x) (channel_number x) refl

pub same-is : (x y : Channel) → same x y ≡ true → y ≡ x
same-is x y e = sym (number-back y) ∙ ap channel_at (sym (eqb-true (channel_number x) (channel_number y) e)) ∙ number-back x

pub same_turned : (x k : Channel) → same x k ≡ false → same k x ≡ false
same_turned x k e = ne_eqb (channel_number k) (channel_number x) (λ q. eqb-false (channel_number x) (channel_number k) e (sym q))

-- a channel, or another
pub own_or_other : (x : Channel) (Q : Channel → Type 0) → Q x → ((k : Channel) → same x k ≡ false → Q k) → (k : Channel) → Q k
own_or_other x Q q other k = go (same x k) refl
  where
    go : (t : Bool) → same x k ≡ t → Q k
    go true e = subst Q (sym (same-is x k e)) q
    go false e = other k e

-- another channel's part stays
pub part_stays : (k j : Channel) (q : Part k) (s : State) → same k j ≡ false → part j (put k q s) ≡ part j s
part_stays k j q s e =
    put_both (λ (z : Channel) (a b : Part z). same k z ≡ false → a ≡ b) k q (part k s) s s (λ f. absurd (true≢false (sym (same_self k) ∙ f))) (λ z f. refl) j e
    ∙ ap (part j) (put_same k s)
