-- What stands above all channels.
use Rattle.std.specs.Prelude.{ℕ, Bool, true, false, List, ◌≡◌}
use Rattle.std.proofs.Math.Path.{refl, ap}
use Rattle.std.proofs.Common.{sym, subst, ◌∙◌}
use Rattle.base.specs.Pick.{taken, passed}
use Rattle.registers.specs.Registers.{crc_checked, read_at_value, forbidden_at, write_at}
use Rattle.registers.specs.declared.Config.{Config}
use Rattle.command.specs.Decode.{admit}
use Rattle.command.specs.Facts.{CommandFits, IsBytes}
use Rattle.command.proofs.Facts.{admit-fits}
use Rattle.command.specs.declared.Channels.{Channels}
use Rattle.command.specs.declared.Command.{Command}
use Rattle.command.specs.declared.Command.TheVariants as C
use Rattle.state.specs.State.{State}
use Rattle.rules.specs.Rules.Calls.{kept}
use Rattle.rules.specs.Rules.Lift.{silent, show, non_fatal, accept_then, quietly}
use Rattle.rules.specs.Rules.Channel as K
use Rattle.rules.specs.Rules.Channel.{Channel, peripheral, wires, act_of}
use Rattle.rules.specs.Rules.Exchange.{reconfigured, hindered, set_configuration, reset008h, channels_of, by_decoded, acted, decide, exchange}
use Rattle.rules.specs.Statements.Plans.{command_of}
use Rattle.rules.specs.declared.Body.TheVariants as B
use Rattle.rules.specs.Rules.Plan.{Plan}
use Rattle.engine.specs.Carried.{Packs, Carried, carried, carried_by, outgoing, quiet, refused_by}
use Rattle.engine.specs.declared.Outgoing.{Outgoing}
use Rattle.engine.specs.Laws.Tests.{tested}
use Rattle.engine.specs.Laws.Stored.{outgoing-carried, stays_carried}
use Rattle.std.specs.Prelude.{Result, Ok, Err}
use Rattle.command.specs.declared.Refusal.{Refusal}
use Rattle.command.specs.Numbers.{number_of}

-- ---- configuration

module _ (s : State) (a v : ℕ) (l : List ℕ) where
  pub set_forbidden : (bad : Bool) (r : Outgoing) → Packs s l → bad ≡ forbidden_at a v → bad ≡ true → r ≡ outgoing (non_fatal s)
      → carried r l ≡ carried_by (set_configuration s a v) l
  unfolding set_configuration
  set_forbidden bad r h e t k =
      stays_carried s l (non_fatal s) r h refl refl k ∙ ap (λ (p : Plan). carried_by p l) (taken (non_fatal s) _ (tested e t) refl)

  pub set-hindered : (bad stops : Bool) (r : Outgoing) → Packs s l → bad ≡ forbidden_at a v → bad ≡ false → stops ≡ hindered s a v → stops ≡ true
      → r ≡ outgoing (non_fatal s) → carried r l ≡ carried_by (set_configuration s a v) l
  unfolding set_configuration
  set-hindered bad stops r h e t f u k =
      stays_carried s l (non_fatal s) r h refl refl k
      ∙ ap (λ (p : Plan). carried_by p l) (passed (non_fatal s) _ (tested e t) (taken (non_fatal s) _ (tested f u) refl))

  pub set-done : (bad stops : Bool) (c : Config) (l' : List ℕ) (r : Outgoing)
      → bad ≡ forbidden_at a v
      → bad ≡ false
      → stops ≡ hindered s a v
      → stops ≡ false
      → c ≡ write_at s.config a v
      → l' ≡ kept (reconfigured s c) l
      → r ≡ outgoing (show B.Nothing s)
      → carried r l' ≡ carried_by (set_configuration s a v) l
  unfolding set_configuration
  set-done bad stops c l' r e t f u ec el k =
      outgoing-carried (accept_then s (reconfigured s (write_at s.config a v))) l l' r refl k (el ∙ ap (λ (z : Config). kept (reconfigured s z) l) ec)
      ∙ ap (λ (p : Plan). carried_by p l)
      (passed (non_fatal s) _ (tested e t) (passed (non_fatal s) (accept_then s (reconfigured s (write_at s.config a v))) (tested f u) refl))

-- ---- a decision

pub fits_as : (b : List ℕ) {x y : Command} → x ≡ y → CommandFits x b → CommandFits y b
fits_as b e = subst (λ (z : Command). CommandFits z b) e

module _ (s : State) (b l : List ℕ) (z : Command) where
  decided_as : (y : Command) (x : Carried) → z ≡ y → x ≡ carried_by (decide s y b) l → x ≡ carried_by (decide s z b) l
  decided_as y x e h = h ∙ ap (λ (c : Command). carried_by (decide s c b) l) (sym e)

  -- a command of a channel is its channel's
  pub acted_decided : (k : Channel) (o : K.Command k) (x : Carried) → z ≡ command_of k o → x ≡ carried_by (acted k s (act_of k s.config o b)) l
      → x ≡ carried_by (decide s z b) l
  unfolding decide
  acted_decided peripheral o x e h = decided_as (C.Peripheral o) x e h
  acted_decided wires o x e h = decided_as (C.Wires o) x e h

  pub read_decided : (a v : ℕ) (r : Outgoing) → Packs s l → z ≡ C.GetConfiguration a → v ≡ read_at_value s.config a → r ≡ outgoing (show (B.Word v) s)
      → carried r l ≡ carried_by (decide s z b) l
  unfolding decide
  read_decided a v r h e ev k =
      stays_carried s l (show (B.Word v) s) r h refl refl k ∙ decided_as (C.GetConfiguration a) _ e (ap (λ (n : ℕ). carried_by (show (B.Word n) s) l) ev)

  pub set_decided : (a v : ℕ) (x : Carried) → z ≡ C.SetConfiguration a v → x ≡ carried_by (set_configuration s a v) l → x ≡ carried_by (decide s z b) l
  unfolding decide
  set_decided a v x e h = decided_as (C.SetConfiguration a v) x e h

  pub status_decided : (r : Outgoing) → Packs s l → z ≡ C.GetStatus → r ≡ outgoing (show B.Nothing s) → carried r l ≡ carried_by (decide s z b) l
  unfolding decide
  status_decided r h e k = stays_carried s l (show B.Nothing s) r h refl refl k ∙ decided_as C.GetStatus _ e refl

  pub reset_decided : (l' : List ℕ) (r : Outgoing) → z ≡ C.Reset → l' ≡ kept (reset008h s) l → r ≡ quiet 0 → carried r l' ≡ carried_by (decide s z b) l
  unfolding decide
  reset_decided l' r e el k = decided_as C.Reset _ e (outgoing-carried (quietly (reset008h s)) l l' r refl k el)

-- ---- the exchange

module _ (s : State) (b l : List ℕ) where
  admitted : (on : Channels) (checked : Bool) (d : Result Command Refusal) → on ≡ channels_of s.config → checked ≡ crc_checked s.config.r008
      → d ≡ admit on checked b → d ≡ admit (channels_of s.config) (crc_checked s.config.r008) b
  admitted on checked d eo ec ed = ed ∙ ap (λ (z : Channels). admit z checked b) eo ∙ ap (λ (z : Bool). admit (channels_of s.config) z b) ec

  pub exchange-silent : (on : Channels) (checked : Bool) (d : Result Command Refusal) (z : Refusal) (r : Outgoing)
      → Packs s l
      → on ≡ channels_of s.config
      → checked ≡ crc_checked s.config.r008
      → d ≡ admit on checked b
      → d ≡ Err z
      → r ≡ refused_by d
      → carried r l ≡ carried_by (exchange s b) l
  unfolding exchange
  exchange-silent on checked d z r h eo ec ed er k =
      stays_carried s l (silent (number_of z) s) r h refl refl (k ∙ ap refused_by er) ∙ ap (λ (x : Result Command Refusal). carried_by (by_decoded s b x) l)
      (sym er ∙ admitted on checked d eo ec ed)

  pub exchange_decided : (on : Channels) (checked : Bool) (d : Result Command Refusal) (o : Command) (x : Carried)
      → on ≡ channels_of s.config
      → checked ≡ crc_checked s.config.r008
      → d ≡ admit on checked b
      → d ≡ Ok o
      → x ≡ carried_by (decide s o b) l
      → x ≡ carried_by (exchange s b) l
  unfolding exchange
  exchange_decided on checked d o x eo ec ed er k =
      k ∙ ap (λ (z : Result Command Refusal). carried_by (by_decoded s b z) l) (sym er ∙ admitted on checked d eo ec ed)

pub command_fits : (on : Channels) (checked : Bool) (b : List ℕ) (d : Result Command Refusal) (o : Command) → IsBytes b → d ≡ admit on checked b → d ≡ Ok o
    → CommandFits o b
command_fits on checked b d o h ed ek = admit-fits on checked b o h (sym ed ∙ ek)
