-- The case law for `step`.
use Rattle.std.specs.Prelude.{ℕ, false, Bool, true, List, ◌≡◌, refl}
use Rattle.std.proofs.Common.{subst, arith}
use Rattle.base.specs.Pick.{pick, pick_ind}
use Rattle.base.specs.Bytes.{over}
use Rattle.rules.specs.Rules.Reset.{Reset}
use Rattle.rules.specs.Rules.Channel.{Channel, Board}
use Rattle.rules.specs.Rules.Lift as L
use Rattle.rules.specs.Rules.Lift.{silent}
use Rattle.rules.specs.Rules.Exchange as E
use Rattle.rules.specs.Rules.Reply.{reply_bytes}
use Rattle.rules.specs.Rules.Step as S
use Rattle.rules.specs.Rules.Step.{World, exchange, board, reset, short, lend, only, with_state, short_stores, short_for, performed, Call, Outcome}
use Rattle.rules.specs.Statements.Both as T
use Rattle.rules.specs.Statements.Both.{Both, BothCases}
use Rattle.rules.specs.Statements.Plans as N
use Rattle.rules.specs.Statements.Plans.{Silent, Planned}
use Rattle.rules.specs.Statements.Cases.{Case, idle, shown, acted, settles, forbidden, hindered, configured, lowered, cleared, wiped, lent, Cases}
use Rattle.rules.proofs.Proofs.Plans.{plans, exchange-both}
pub use Rattle.rules.proofs.Proofs.Plans.{did, settled}
use Rattle.rules.specs.Rules.Plan.{Plan}

too_short : Silent 10
too_short = record { least = omega arith; most = omega arith }

-- the decoder's refusals leave no more than their number
silent-only : (w : World) (b : List ℕ) (n : ℕ) → only n w ≡ performed w b (silent n w.state)
unfolding performed reply_bytes over
silent-only w b n = refl

exchange_case : (w : World) (b r : List ℕ) {p : Plan} → Planned w.state b p → Case w (exchange b r) (performed w b p)
exchange_case w b r (N.turned n q) = subst (Case w (exchange b r)) (silent-only w b n) (idle n (record { least = omega (arith, q.least); most = q.most }))
exchange_case w b r (N.shows q) = shown q
exchange_case w b r (N.acts k o x e d f) = acted k o x e d f
exchange_case w b r (N.lowers o x e d) = lowered o x e d
exchange_case w b r (N.forbids a v e f) = forbidden a v e f
exchange_case w b r (N.hinders a v e f g) = hindered a v e f g
exchange_case w b r (N.configures a v e f g) = configured a v e f g
exchange_case w b r (N.clears e) = cleared e

pub cases : Cases
unfolding S.step
cases w (reset r) = wiped
cases w (exchange b r) = pick_ind (Case w (exchange b r)) (short_stores r w) (λ _. idle 10 too_short) (λ _. exchange_case w b r (plans w.state b))
cases w (board k o) = pick_ind (Case w (board k o)) (short_for k o w) (λ _. idle 10 too_short) (λ e. settles k o _ e (settled k _ _ o))
cases w (short state c) = idle 10 too_short
cases w (lend write read) = lent

-- an exchange's plan is carried out where the stores are long enough
pub exchange-step : (w : World) (b r : List ℕ) → S.step w (exchange b r) ≡ pick (short_stores r w) (only 10 w) (performed w b (E.exchange w.state b))
unfolding S.step
exchange-step w b r = refl

-- ---- a reset, and calls with long enough slices

pub reset-is : (w : World) (r : Reset) → S.step w (reset r) ≡ only 0 (with_state w (E.was_reset r w.state))
unfolding S.step
reset-is w r = refl

pub exchange_long : (w : World) (b r : List ℕ) → short_stores r w ≡ false → S.step w (exchange b r) ≡ performed w b (E.exchange w.state b)
unfolding S.step
exchange_long w b r l = rw l

pub board_long : (k : Channel) (w : World) (o : Board k) → short_for k o w ≡ false → S.step w (board k o) ≡ S.served k w o (L.settled k w.state o)
unfolding S.step
board_long k w o l = rw l

-- ---- two worlds of one configuration

-- a test that comes out alike
either : {w v : World} {c : Call} {a b a' b' : Outcome} (t u : Bool) → t ≡ u → Both w v c a a' → (t ≡ false → Both w v c b b')
    → Both w v c (pick t a b) (pick u a' b')
either {w} {v} {c} {a} {b} {a'} {b'} t u e f g = subst (λ (z : Bool). Both w v c (pick t a b) (pick z a' b')) e (go t g)
  where
    go : (t : Bool) → (t ≡ false → Both w v c b b') → Both w v c (pick t a b) (pick t a' b')
    go true g = f
    go false g = g refl

pub both : BothCases
unfolding S.step
both w v (reset r) c m i = T.wiped
both w v (exchange b r) c m i = either (short_stores r w) (short_stores r v) m (T.idle 10 (omega arith)) (λ e. exchange-both w v b r e i c)
both w v (board k o) c m i = either (short_for k o w) (short_for k o v) m (T.idle 10 (omega arith)) (λ e. T.settles k o e)
both w v (short state k) c m i = T.idle 10 (omega arith)
both w v (lend write read) c m i = T.lent
