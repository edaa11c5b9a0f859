-- The plan of an exchange: what stands above the channels is unfolded here, a channel's decisions in its own law.
use Rattle.std.specs.Prelude.{ℕ, List, ◌≡◌, refl, Bool, true, false}
use Rattle.std.proofs.Common.{sym, arith, true≢false}
use Rattle.std.proofs.Math.Path.{subst}
use Rattle.base.specs.Pick.{pick_ind, pick}
use Rattle.registers.specs.Registers.{crc_checked, forbidden_at, write_at}
use Rattle.registers.specs.declared.Config.{Config}
use Rattle.command.specs.Decode.{admit}
use Rattle.command.proofs.Facts.{refused_number}
use Rattle.command.specs.declared.Command as C₀
use Rattle.command.specs.declared.Command.TheVariants as C
use Rattle.state.specs.State.{State}
use Rattle.rules.specs.Rules.Channel as N
use Rattle.rules.specs.Rules.Channel.{Channel, peripheral, wires, Part, Command, Act, Board, act_of, acting}
use Rattle.rules.specs.Rules.Lift.{non_fatal, accept_then}
use Rattle.rules.specs.Rules.Exchange as E
use Rattle.rules.specs.Rules.Exchange.{channels_of, hindered, by_decoded}
use Rattle.rules.proofs.Proofs.Peripheral as P
use Rattle.rules.proofs.Proofs.Wires as W
use Rattle.base.specs.Bytes.{over}
use Rattle.rules.specs.Rules.Reply.{reply_bytes}
use Rattle.rules.specs.Rules.Step.{World, exchange, short_stores, performed}
use Rattle.rules.specs.Rules.Plan.{Plan}
use Rattle.rules.specs.Statements.Both as T
use Rattle.rules.specs.Statements.Both.{Both, SameHindrance}
use Rattle.rules.specs.Statements.Plans.{Did, Settled, command_of, Admits, Planned, turned, shows, acts, lowers, forbids, hinders, configures, clears, status, register, Plans}
use Rattle.std.specs.Prelude.{Result, Ok, Err}
use Rattle.command.specs.declared.Refusal.{Refusal}
use Rattle.command.specs.Numbers.{number_of}

pub did : (k : Channel) (c : Config) (p : Part k) (a : Act k) → Did k c p a (acting k c p a)
did peripheral = P.did
did wires = W.did

pub settled : (k : Channel) (c : Config) (p : Part k) (o : Board k) → Settled k c p o (N.settle k c p o)
settled peripheral = P.settles
settled wires = W.settles

module _ (s : State) (b : List ℕ) where
  set-planned : (a v : ℕ) → Admits s b (C.SetConfiguration a v) → Planned s b (E.set_configuration s a v)
  unfolding E.set_configuration
  set-planned a v e =
      pick_ind (Planned s b) (forbidden_at a v) (forbids a v e) (λ f. pick_ind (Planned s b) (hindered s a v) (hinders a v e f) (configures a v e f))

  acted-planned : (k : Channel) (o : Command k) → Admits s b (command_of k o) → Planned s b (E.acted k s (act_of k s.config o b))
  acted-planned peripheral o e = acts peripheral o _ e (did peripheral _ _ _) refl
  acted-planned wires o e =
      pick_ind (Planned s b) (N.reset_follows wires s.wires (act_of wires s.config o b) _) (λ t. lowers o _ e (W.lowers (W.did _ _ _) t))
      (acts wires o _ e (did wires _ _ _))

  known-planned : (o : C₀.Command) → Admits s b o → Planned s b (E.decide s o b)
  unfolding E.decide
  known-planned (C.Peripheral o) e = acted-planned peripheral o e
  known-planned (C.Wires o) e = acted-planned wires o e
  known-planned (C.GetConfiguration a) e = shows (register a e)
  known-planned (C.SetConfiguration a v) e = set-planned a v e
  known-planned C.GetStatus e = shows (status e)
  known-planned C.Reset e = clears e

  decoded_planned : (d : Result C₀.Command Refusal) → admit (channels_of s.config) (crc_checked s.config.r008) b ≡ d → Planned s b (by_decoded s b d)
  decoded_planned (Err z) e = let t = refused_number z in turned _ (record { refusal = z; given = e; number = refl; least = t.0; most = t.1 })
  decoded_planned (Ok o) e = known-planned o e

pub plans : Plans
unfolding E.exchange
plans s b = decoded_planned s b _ refl

-- an admitted command of a channel is planned by it
pub plan_admitted : (k : Channel) (s : State) (b : List ℕ) (o : Command k) → Admits s b (command_of k o)
    → E.exchange s b ≡ E.acted k s (act_of k s.config o b)
unfolding E.exchange E.decide
plan_admitted peripheral s b o e = rw e
plan_admitted wires s b o e = rw e

-- .. and a write by its rule
pub plan_write : (s : State) (b : List ℕ) (a v : ℕ) → Admits s b (C.SetConfiguration a v) → E.exchange s b ≡ E.set_configuration s a v
unfolding E.exchange E.decide
plan_write s b a v e = rw e

-- one that an edge stands against is number 2
pub hindered-number : (s : State) (a v : ℕ) → hindered s a v ≡ true → (E.set_configuration s a v).number ≡ 2
unfolding E.set_configuration
hindered-number s a v = go (forbidden_at a v) (hindered s a v) _
  where
    go : (t u : Bool) (p : Plan) → u ≡ true → (pick t (non_fatal s) (pick u (non_fatal s) p)).number ≡ 2
    go true u p e = refl
    go false true p e = refl
    go false false p e = absurd (true≢false (sym e))

-- ---- the same command in two worlds of one configuration

module _ (w v : World) (b r : List ℕ) (room : short_stores r w ≡ false) (same : SameHindrance w v (exchange b r)) where
  abbrev Twice : Plan → Plan → Type 0
  Twice p q = Both w v (exchange b r) (performed w b p) (performed v b q)

  set_both : (a n : ℕ) → Admits w.state b (C.SetConfiguration a n) → Twice (E.set_configuration w.state a n) (E.set_configuration v.state a n)
  unfolding E.set_configuration
  set_both a n e =
      subst
      (λ (t : Bool). Twice (E.set_configuration w.state a n) (pick (forbidden_at a n) (non_fatal v.state) (pick t (non_fatal v.state) (wrote v))))
      (same room a n e)
      (chosen (forbidden_at a n) _ _ _ _ T.forbidden (chosen (hindered w.state a n) _ _ _ _ T.forbidden (T.configured a n e)))
    where
      wrote : World → Plan
      wrote x = accept_then x.state (E.reconfigured x.state (write_at x.state.config a n))

      chosen : (t : Bool) (p q p' q' : Plan) → Twice p p' → Twice q q' → Twice (pick t p q) (pick t p' q')
      chosen true p q p' q' f g = f
      chosen false p q p' q' f g = g

  known_both : (o : C₀.Command) → Admits w.state b o → Twice (E.decide w.state o b) (E.decide v.state o b)
  unfolding E.decide
  known_both (C.Peripheral o) e = T.acted peripheral o room e
  known_both (C.Wires o) e = T.acted wires o room e
  known_both (C.GetConfiguration a) e = T.register a e
  known_both (C.SetConfiguration a n) e = set_both a n e
  known_both C.GetStatus e = T.status e
  known_both C.Reset e = T.cleared e

  abbrev admitted : Config → Result C₀.Command Refusal
  admitted c = admit (channels_of c) (crc_checked c.r008) b

  decoded_both : (d : Result C₀.Command Refusal) → admitted w.state.config ≡ d → Twice (by_decoded w.state b d) (by_decoded v.state b d)
  unfolding performed reply_bytes over
  decoded_both (Err z) e = T.idle (number_of z) (omega (arith, (refused_number z).0))
  decoded_both (Ok o) e = known_both o e

  pub exchange-both : w.state.config ≡ v.state.config → Twice (E.exchange w.state b) (E.exchange v.state b)
  unfolding E.exchange
  exchange-both c =
      subst (λ (x : Config). Twice (by_decoded w.state b (admitted w.state.config)) (by_decoded v.state b (admitted x))) c
      (decoded_both (admitted w.state.config) refl)
