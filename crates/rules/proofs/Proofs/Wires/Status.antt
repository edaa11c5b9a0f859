-- Channel 1's bit of the status, from its row.
use Rattle.std.specs.Prelude.{ℕ, Bool, true, false, not, List, [], ◌∷◌, ◌≡◌}
use Rattle.std.proofs.Common.{sym, ap, subst, ◌∙◌, arith}
use Rattle.base.specs.Pick.{pick}
use Rattle.base.specs.Bytes.{bit}
use Rattle.registers.specs.Registers.{field, operating_count}
use Rattle.wires.specs.Senders.{sound_all}
use Rattle.wires.specs.ForRules.{off_none}
use Rattle.state.specs.Status.{status}
use Rattle.state.specs.State.{State}
use Rattle.state.specs.Facts.{sound_wires_lem}
use Rattle.state.specs.Sound.{Sound}
use Rattle.rules.specs.Rules.Channel.{wires}
use Rattle.rules.specs.Rules.Step.{World}
use Rattle.rules.specs.Statements.Sizes.{is_enabled}
use Rattle.rules.specs.Statements.Wires.Rows.{some_pending}
use Rattle.rules.specs.Statements.Status.{number_got, ShowsAvail}
use Rattle.rules.proofs.Proofs.Sizes.{on_as}
use Rattle.rules.proofs.Proofs.Wires.Rows.{pending_as}
use Rattle.rules.proofs.Proofs.Reply.{status-bits}
use Rattle.rules.proofs.Proofs.Status.{avail, ByRows}

pub word-bit : (s : State) → field (status s) 6 1 ≡ bit (some_pending s.wires)
unfolding status
word-bit s = omega (arith, status-bits s, ap bit (pending_as s.wires))

module _ (w : World) (lent : List ℕ) (sound : Sound w.state) (by_rows : ByRows w lent) where
  abbrev s : State
  s = w.state

  -- while the channel is off no group is pending and no line waits
  off_marks : is_enabled wires s.config ≡ false → some_pending s.wires ≡ false
  off_marks e =
      sym (pending_as s.wires)
      ∙ off_none (operating_count s.config.r020) s.wires
      (subst (λ (t : Bool). sound_all t (operating_count s.config.r020) s.wires ≡ true) (on_as wires s.config ∙ e) (sound_wires_lem s sound.is_sound))

  pub get_vwire_lem : ShowsAvail w lent 6 0x05
  get_vwire_lem x crc =
      avail _ (number_got w lent (0x05 ∷ x ∷ [])) (is_enabled wires s.config) (some_pending s.wires) off_marks (word-bit s)
      (by_rows (0x05 ∷ x ∷ [])
      ∙ ap (λ (t : Bool). pick (not (is_enabled wires s.config)) 14 (pick t 16 (pick (not (some_pending s.wires)) 1 0))) crc)
