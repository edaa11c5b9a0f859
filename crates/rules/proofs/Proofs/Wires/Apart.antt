-- What no channel telling on another asks of channel 1: it has no stores.
use Rattle.std.specs.Prelude.{true, ◌≡◌, refl}
use Rattle.std.proofs.Common.{true≢false, sym, ap}
use Rattle.wires.specs.Senders.{AllWires, packet_bytes}
use Rattle.rules.specs.Rules.Channel.{wires, own_body}
use Rattle.rules.specs.Rules.Step.{World}
use Rattle.rules.proofs.Proofs.Stores.{Owns, body_in, storeless}
use Rattle.rules.specs.declared.Body.{Body}
use Rattle.rules.specs.declared.Body.TheVariants as B

-- its bodies read the wires alone
own_bytes : (body : Body) (w v : World) → own_body wires body ≡ true → w.state.wires ≡ v.state.wires → body_in w body ≡ body_in v body
own_bytes B.Nothing w v o e = refl
own_bytes (B.Word n) w v o e = refl
own_bytes (B.Piece c) w v o e = absurd (true≢false (sym o))
own_bytes (B.Groups p) w v o e = ap (λ (x : AllWires). packet_bytes x p) e

pub owns : Owns wires
owns = storeless wires refl (λ write read. refl) refl own_bytes (λ o w. refl)
