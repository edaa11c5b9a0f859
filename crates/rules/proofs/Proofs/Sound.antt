-- P4: every call keeps the state sound, part by part.
use Rattle.std.specs.Prelude.{ℕ, ◌^◌, ◌<◌, true, false, List, [], ◌∷◌, ◌≡◌, refl}
use Rattle.std.proofs.Common.{sym, subst}
use Rattle.base.specs.Pick.{and_left, and_right}
use Rattle.registers.specs.Registers.{write_at, forbidden_at}
use Rattle.registers.specs.Laws.{fits-write}
use Rattle.registers.proofs.Laws.{reachable-write}
use Rattle.registers.specs.declared.Config.{Config}
use Rattle.command.specs.Facts.{IsBytes}
use Rattle.command.proofs.Facts.{admit_numbers, admit_channel}
use Rattle.command.specs.declared.Command.TheVariants as C₀
use Rattle.state.specs.Facts.{fresh-sound}
use Rattle.state.specs.State.{State}
use Rattle.state.specs.Sound.{Sound}
use Rattle.rules.specs.Rules.Reset.{Reset, platform_reset}
use Rattle.rules.specs.Rules.Channel.{Channel, peripheral, wires, Part, Command, Board, Change, next_of, part, put, on, act_of, enable_edge, reset}
use Rattle.rules.specs.Rules.Lift as L
use Rattle.rules.specs.Rules.Lift.{lift}
use Rattle.rules.specs.Rules.Exchange.{reconfigured, hindered, config_reset, was_reset, reset008h, exchange}
use Rattle.rules.specs.Rules.Step as S
use Rattle.rules.specs.Rules.Step.{World, Call, Outcome, performed, served}
use Rattle.rules.specs.Statements.Plans as N
use Rattle.rules.specs.Statements.Plans.{Did, Settled, Admits, Planned}
use Rattle.rules.specs.Statements.Cases as C
use Rattle.rules.specs.Statements.Cases.{Case}
use Rattle.rules.specs.Statements.Sound.{SoundKept}
use Rattle.rules.proofs.Proofs.Plans as D
use Rattle.rules.proofs.Proofs.Plans.{plans}
use Rattle.rules.proofs.Proofs.Cases.{cases}
use Rattle.rules.proofs.Proofs.SoundBytes.{bytes_below}
use Rattle.rules.proofs.Proofs.SoundParts.{PartOk, Parts, parts, with_part, with_each, fresh008_ok, reset-config}
use Rattle.rules.proofs.Proofs.Peripheral.Sound as P
use Rattle.rules.proofs.Proofs.Wires.Sound as W
use Rattle.rules.proofs.Proofs.Wires.Lowering.{lowers_did}
use Rattle.rules.specs.Rules.Plan.{Plan}

-- ---- every channel keeps its part sound

acts_ok : (k : Channel) (s : State) (b : List ℕ) (o : Command k) (x : Change k) → Parts s → IsBytes b → Admits s b (N.command_of k o)
    → Did k s.config (part k s) (act_of k s.config o b) x → PartOk k s.config (next_of k x)
acts_ok peripheral s b o x h bytes e d =
    P.acts_ok h.config.right (h.each peripheral) (admit_channel _ _ b (C₀.Peripheral o) e)
    (P.act-fits s.config o b bytes (admit_numbers _ _ b (C₀.Peripheral o) e bytes)) d
acts_ok wires s b o x h bytes e d = W.acts_ok (h.each wires) d

settled_ok : (k : Channel) (s : State) (o : Board k) (x : Change k) → Parts s → Settled k s.config (part k s) o x → PartOk k s.config (next_of k x)
settled_ok peripheral s o x h d = P.settled_ok (h.each peripheral) d
settled_ok wires s o x h d = W.settled_ok (h.each wires) d

edge_ok : (k : Channel) (s : State) (a v : ℕ) → hindered s a v ≡ false → PartOk k s.config (part k s)
    → PartOk k (write_at s.config a v) (enable_edge k (on k s.config) (on k (write_at s.config a v)) (part k s))
edge_ok peripheral s a v g h = P.edge_ok (on peripheral s.config) (on peripheral (write_at s.config a v)) s.peripheral h
edge_ok wires s a v g h = W.write_ok s a v g h

reset_ok : (k : Channel) (r : Reset) (c : Config) (p : Part k) → PartOk k c p → PartOk k (config_reset r c) (reset k r p)
reset_ok peripheral r c p h = P.reset_ok _ r p h
reset_ok wires r c p h = W.reset_ok r c p h

-- ---- above the channels

module _ {s : State} (h : Parts s) where
  configured_sound : (a v : ℕ) → forbidden_at a v ≡ false → hindered s a v ≡ false → v < 2 ^ 32 → Sound (reconfigured s (write_at s.config a v))
  configured_sound a v e g l =
      with_each (λ k. enable_edge k (on k s.config) (on k (write_at s.config a v))) (write_at s.config a v)
      (record { right = reachable-write s.config a v h.config.right e; fit = fits-write s.config a v h.config.fit l })
      (λ k. edge_ok k s a v g (h.each k))

  reset_parts : (r : Reset) → Sound (was_reset r s)
  reset_parts r = with_each (λ k. reset k r) (config_reset r s.config) (reset-config r h.config) (λ k. reset_ok k r s.config (part k s) (h.each k))

  -- 008h enables no channel
  cleared-part : (k : Channel) → PartOk k (reset008h s).config (part k s)
  cleared-part peripheral = h.each peripheral
  cleared-part wires = h.each wires

  cleared-sound : Sound (reset008h s)
  cleared-sound = with_each {s = s} (λ k p. p) (reset008h s).config (fresh008_ok h.config) cleared-part

lift_next : (k : Channel) (s : State) (x : Change k) → (lift k s x).next ≡ put k (next_of k x) s
unfolding lift
lift_next k s x = refl

-- ---- a plan, a call, and a run

planned-sound : {s : State} {b : List ℕ} {p : Plan} → Sound s → IsBytes b → Planned s b p → Sound p.next
planned-sound {s} {b} h bytes (N.turned n q) = h
planned-sound {s} {b} h bytes (N.shows q) = h
planned-sound {s} {b} h bytes (N.acts k o x e d f) =
    subst Sound (sym (lift_next k s x)) (with_part k (next_of k x) (parts h) (acts_ok k s b o x (parts h) bytes e d))
planned-sound {s} {b} h bytes (N.forbids a v e f) = h
planned-sound {s} {b} h bytes (N.hinders a v e f g) = h
planned-sound {s} {b} h bytes (N.configures a v e f g) = configured_sound (parts h) a v f g (admit_numbers _ _ b (C₀.SetConfiguration a v) e bytes).1
planned-sound {s} {b} h bytes (N.lowers o x e d) =
    reset_parts (parts (with_part wires x.next (parts h) (acts_ok wires s b o x (parts h) bytes e (lowers_did d)))) platform_reset
planned-sound {s} {b} h bytes (N.clears e) = cleared-sound (parts h)

pub exchange-sound : {s : State} → Sound s → (b : List ℕ) → S.are_bytes b ≡ true → Sound (exchange s b).next
exchange-sound {s} h b bytes = planned-sound h (bytes_below b bytes) (plans s b)

settled-sound : {s : State} → Sound s → (k : Channel) (o : Board k) (x : Change k) → Settled k s.config (part k s) o x → Sound (lift k s x).next
settled-sound {s} h k o x d = subst Sound (sym (lift_next k s x)) (with_part k (next_of k x) (parts h) (settled_ok k s o x (parts h) d))

pub board_sound : {s : State} → Sound s → (k : Channel) (o : Board k) → Sound (L.settled k s o).next
board_sound {s} h k o = settled-sound h k o _ (D.settled k s.config (part k s) o)

pub reset-sound : {s : State} → Sound s → (r : Reset) → Sound (was_reset r s)
reset-sound h r = reset_parts (parts h) r

sound_case : {w : World} {c : Call} {o : Outcome} → Sound w.state → S.handed_over c ≡ true → Case w c o → Sound o.next.state
unfolding performed served
sound_case {w} h b (C.idle n q) = h
sound_case {w} h b (C.shown q) = h
sound_case {w} h b (C.acted {b = l} k o x e d f) = planned-sound h (bytes_below l b) (N.acts k o x e d f)
sound_case {w} h b (C.settles k o x e d) = settled-sound h k o x d
sound_case {w} h b (C.forbidden a v e f) = h
sound_case {w} h b (C.hindered a v e f g) = h
sound_case {w} h b (C.configured {b = l} a v e f g) = planned-sound h (bytes_below l b) (N.configures a v e f g)
sound_case {w} h b (C.lowered {b = l} o x e d) = planned-sound h (bytes_below l b) (N.lowers o x e d)
sound_case {w} h b (C.cleared e) = cleared-sound (parts h)
sound_case {w} h b (C.wiped {r}) = reset-sound h r
sound_case {w} h b C.lent = h

pub sound-step : (w : World) (c : Call) → Sound w.state → S.handed_over c ≡ true → Sound (S.step w c).next.state
sound-step w c h b = sound_case h b (cases w c)

pub sound-run : (w : World) (cs : List Call) → Sound w.state → S.all_handed cs ≡ true → Sound (S.run w cs).state
unfolding S.run S.all_handed
sound-run w [] h b = h
sound-run w (c ∷ cs) h b = sound-run (S.step w c).next cs (sound-step w c h (and_left (S.handed_over c) _ b)) (and_right (S.handed_over c) _ b)

pub sound-kept : SoundKept
sound-kept = record { fresh = fresh-sound; call = sound-step; calls = sound-run }
