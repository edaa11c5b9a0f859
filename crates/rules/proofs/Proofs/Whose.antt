-- Whose an exchange is: a channel's command begins with an opcode of that channel's, and of no other's.
use Rattle.std.specs.Prelude.{ℕ, ◌≤◌, Bool, true, false, List, [], ◌∷◌, ◌≡◌, refl, eqb, length}
use Rattle.std.proofs.Common.{sym, ap, ◌∙◌, arith}
use Rattle.registers.specs.Registers.{crc_checked}
use Rattle.command.proofs.Facts.{admit_decodes}
use Rattle.command.specs.declared.Command as C₀
use Rattle.state.specs.State.{State}
use Rattle.rules.specs.Rules.Channel.{Channel, Command, same}
use Rattle.rules.specs.Rules.Exchange.{channels_of}
use Rattle.rules.specs.Statements.Plans.{Admits, command_of}
use Rattle.rules.specs.Statements.Fields.{byte}
use Rattle.rules.specs.Statements.Sizes.{is_of}
use Rattle.rules.specs.Statements.Apart.{is_command_of}
use Rattle.rules.proofs.Proofs.Fields.{outside}
use Rattle.rules.proofs.Proofs.Lift.{same-is}
use Rattle.rules.proofs.Proofs.Effects.{command_own, one_channel, above}

pub begins : (x : Channel) (s : State) (b : List ℕ) (o : C₀.Command) → Admits s b o → is_command_of x b ≡ is_of x (byte b 0)
begins x s b o e = go b (admit_decodes (channels_of s.config) (crc_checked s.config.r008) b o e).passes.some
  where
    go : (l : List ℕ) → 1 ≤ length l → is_command_of x l ≡ is_of x (byte l 0)
    go [] h = absurd (omega (arith, h))
    go (op ∷ r) h = refl

pub own_opcode : (x k : Channel) (op : ℕ) → is_of k op ≡ true → is_of x op ≡ same x k
own_opcode x k op e = go (is_of x op) refl (same x k) refl
  where
    go : (t : Bool) → is_of x op ≡ t → (u : Bool) → same x k ≡ u → t ≡ u
    go true f u g = sym (one_channel x k op f e) ∙ g
    go false f true g = sym f ∙ ap (λ (z : Channel). is_of z op) (sym (same-is x k g)) ∙ e
    go false f false g = refl

-- and no channel's is a SET_CONFIGURATION
pub never-set : (k : Channel) (op : ℕ) → is_of k op ≡ true → eqb op 0x22 ≡ false
never-set k op e = outside (is_of k) op 0x22 (above k).at22 e

pub own_command : (x k : Channel) (s : State) (b : List ℕ) (o : Command k) → Admits s b (command_of k o) → is_command_of x b ≡ same x k
own_command x k s b o e = begins x s b (command_of k o) e ∙ own_opcode x k (byte b 0) (command_own k s b o e)
