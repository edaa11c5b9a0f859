-- Proof of P9: the bits from the rows of P6, the status shown from the plan's law.
use Rattle.std.specs.Prelude.{ℕ, ◌+◌, ◌*◌, Bool, true, false, List, [], ◌≢◌, ◌≡◌, refl, eqb, length, Option, Some, None}
use Rattle.std.proofs.Common.{true≢false, sym, ◌∙◌, subst, arith, le-ltb}
use Rattle.std.proofs.Math.Path.{ap}
use Rattle.base.specs.Pick.{pick, pick_ind}
use Rattle.base.specs.Bytes.{bit}
use Rattle.state.specs.Status.{status}
use Rattle.state.specs.State.{State}
use Rattle.state.specs.Sound.{Sound}
use Rattle.rules.specs.Rules.Channel.{Channel, peripheral, wires, Part, Command, Act, Change, next_of, out_of, part, put, act_of, reset_follows}
use Rattle.rules.specs.Rules.Lift.{lift, with_status}
use Rattle.rules.specs.Rules.Exchange as E
use Rattle.rules.specs.Rules.Reply.{reply_bytes}
use Rattle.rules.specs.Rules.Step.{World, performed, short_stores, only, Outcome, reply_length, write_length, read_length}
use Rattle.rules.specs.Statements.Plans as N
use Rattle.rules.specs.Statements.Plans.{Did, Admits, command_of, Planned}
use Rattle.rules.specs.Statements.Shape.{state_shown}
use Rattle.rules.specs.Statements.Channels as L
use Rattle.rules.specs.Statements.Channels.{Acts}
use Rattle.rules.specs.Statements.Status.{LongEnough, status_bit}
use Rattle.rules.specs.Statements.StatusSays.{BitsOf, StatusBits, ShowsStatus, StatusSays}
use Rattle.rules.specs.Statements.Requests.{status_in}
use Rattle.rules.proofs.Proofs.Reply.{status_in_lem}
use Rattle.rules.proofs.Proofs.Reads.{reads}
use Rattle.rules.proofs.Proofs.Plans.{plans}
use Rattle.rules.proofs.Proofs.Cases.{exchange-step}
use Rattle.rules.proofs.Proofs.FirstApplies.{command_number}
use Rattle.rules.proofs.Proofs.Reply as R
use Rattle.rules.proofs.Proofs.Status.{ByRows}
use Rattle.rules.proofs.Proofs.Peripheral.Status as P
use Rattle.rules.proofs.Proofs.Wires.Status as W
use Rattle.rules.proofs.Proofs.Wires.Rows.{pending_as}
use Rattle.rules.proofs.Proofs.Lift.{out_change, next_change, put_same}
use Rattle.rules.proofs.Proofs.Channels as H
use Rattle.rules.proofs.Proofs.StatusShown.{shown_same, shows_after, written_shows, lowered_shows, lowered_status}
use Rattle.rules.proofs.Proofs.Wires.Lowering.{lowered_bytes}
use Rattle.rules.specs.declared.Out.{Out}
use Rattle.rules.specs.declared.Say.{Say}
use Rattle.rules.specs.Rules.Plan.{Plan}

-- ---- the bits

word-is : (w : World) → status w.state ≡ status_bit w 0 + 2 * status_bit w 1 + 4 + 16 * status_bit w 4 + 64 * status_bit w 6
unfolding status
word-is w =
    let s = w.state in
    rw (P.free_bit s, P.idle-bit s, P.avail_bit s, W.word-bit s) (omega (arith, R.status-bits s, ap bit (pending_as s.wires)))

module _ (w : World) (lent : List ℕ) (sound : Sound w.state) (long : LongEnough w lent) where
  abbrev s : State
  s = w.state

  enough : short_stores lent w ≡ false
  enough = rw (le-ltb (length lent) reply_length long.for_reply, le-ltb _ write_length long.for_write, le-ltb _ read_length long.for_read)

  -- the number is that of the first row
  by_rows : ByRows w lent
  unfolding performed
  by_rows b =
      ap (λ (o : Outcome). o.number) (exchange-step w b lent)
      ∙ ap (λ (t : Bool). (pick t (only 10 w) (performed w b (E.exchange s b))).number) enough ∙ command_number s sound.is_sound b

  of_channel : (k : Channel) → BitsOf w lent k
  of_channel peripheral = P.status-bits w lent sound by_rows
  of_channel wires = record { gets = W.get_vwire_lem w lent sound by_rows; pending = W.word-bit s }

  status-bits : StatusBits w lent
  status-bits = record { word = word-is w; of_channel_lem = of_channel }

-- ---- the status in a reply

-- a refused command of a channel
refused_stays : (k : Channel) (s : State) (b : List ℕ) (o : Command k) (x : Change k) → Did k s.config (part k s) (act_of k s.config o b) x
    → eqb (out_of k x).number 0 ≡ false → put k (next_of k x) s ≡ s
refused_stays k s b o x d = go (H.acts k s.config (part k s) _ x d)
  where
    go : {a : Act k} {y : Change k} → Acts k (part k s) a y → eqb (out_of k y).number 0 ≡ false → put k (next_of k y) s ≡ s
    go L.Acts.refused n = ap (λ (q : Part k). put k q s) (next_change k (part k s) _) ∙ put_same k s
    go (L.Acts.accepted q body kept f g) n = absurd (true≢false (ap (λ (out : Out). eqb out.number 0) (sym (out_change k q _)) ∙ n))

module _ (s : State) (b store : List ℕ) where
  abbrev Shown : Plan → Type 0
  Shown p = reply_bytes p.reply s.wires store ≢ [] → status_in (reply_bytes p.reply s.wires store) ≡ status (state_shown b s p.next)

  said : (say : Option Say) (t : State) → reply_bytes (with_status say (status t)) s.wires store ≢ []
      → status_in (reply_bytes (with_status say (status t)) s.wires store) ≡ status t
  unfolding reply_bytes
  said None t some = absurd (some refl)
  said (Some y) t some = status_in_lem _ t

  -- a refused one changes no state, so it shows either
  acted_shows : (k : Channel) (o : Command k) (x : Change k) → Admits s b (command_of k o) → Did k s.config (part k s) (act_of k s.config o b) x
      → reset_follows k (part k s) (act_of k s.config o b) (next_of k x) ≡ false → put k (next_of k x) s ≡ state_shown b s (put k (next_of k x) s)
  acted_shows k o x e d f = go (eqb (out_of k x).number 0) refl
    where
      go : (t : Bool) → eqb (out_of k x).number 0 ≡ t → put k (next_of k x) s ≡ state_shown b s (put k (next_of k x) s)
      go true n = shows_after k s b o x e d f n
      go false n = let q = refused_stays k s b o x d n in subst (λ (t : State). t ≡ state_shown b s t) (sym q) (shown_same b s)

  plan_shows : {p : Plan} → Planned s b p → Shown p
  unfolding reply_bytes lift
  plan_shows (N.turned n q) some = absurd (some refl)
  plan_shows (N.shows q) some = status_in_lem _ s ∙ ap status (shown_same b s)
  plan_shows (N.acts k o x e d f) some = said (out_of k x).say (put k (next_of k x) s) some ∙ ap status (acted_shows k o x e d f)
  plan_shows (N.forbids a v e f) some = status_in_lem _ s ∙ ap status (shown_same b s)
  plan_shows (N.hinders a v e f g) some = status_in_lem _ s ∙ ap status (shown_same b s)
  plan_shows (N.configures a v e f g) some = status_in_lem _ s ∙ ap status (written_shows s _ b (reads s b _ e).opcode)
  plan_shows (N.lowers o x e d) some =
      let l = lowered_bytes s b d (reads s b _ e) in
      status_in_lem _ (put wires x.next s) ∙ lowered_status s b x.next l ∙ ap status (lowered_shows s _ b l.lowers)
  plan_shows (N.clears e) some = absurd (some refl)

shows_status : (w : World) (reply : List ℕ) → ShowsStatus w reply
unfolding performed
shows_status w reply b =
    let Of : Outcome → Type 0 = λ o. o.reply ≢ [] → status_in o.reply ≡ status (state_shown b w.state o.next.state) in
    subst Of (sym (exchange-step w b reply))
    (pick_ind Of (short_stores reply w) {x = only 10 w} (λ _ some. absurd (some refl)) (λ _. plan_shows w.state b w.read (plans w.state b)))

pub status_says : StatusSays
status_says = record { bits = status-bits; shown = shows_status }
