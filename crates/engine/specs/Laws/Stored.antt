-- One part stored in the bytes of a state is the whole next state stored.
use Rattle.std.specs.Prelude.{ℕ, Bool, not, ◌&&◌, List, [], ◌≡◌, take, Option, Some, None}
use Rattle.std.proofs.Math.Bool.{true, false}
use Rattle.std.proofs.Common.{true≢false, sym, ap₂, subst, ◌∙◌, le_of_eq}
use Rattle.std.proofs.Math.Path.{refl, ap}
use Rattle.std.proofs.Math.Dec.{eqb}
use Rattle.base.specs.Pick.{pick}
use Rattle.base.specs.Bytes as B
use Rattle.base.specs.Bytes.{over, over-take, take-over, over-over}
use Rattle.registers.specs.Layout.{config_bytes}
use Rattle.registers.specs.declared.Config.{Config}
use Rattle.wires.specs.Senders.{all_enabled, all_disabled}
use Rattle.command.specs.declared.Channels.{Channels}
use Rattle.peripheral.specs.Queues.{dropped}
use Rattle.state.specs.Status.{status}
use Rattle.state.specs.Layout.{state_length, packed}
use Rattle.state.specs.Sound.{fits, Sound}
use Rattle.state.specs.Facts.{sound_parts, fit_parts}
use Rattle.state.specs.Channel.{sound_part, fits_part, part_in}
use Rattle.state.specs.Packing.{packed-length, part_there}
use Rattle.state.specs.Stored.{stored-config, stored-part}
use Rattle.state.specs.State.{State}
use Rattle.rules.specs.Rules.Out.{fatal, number}
use Rattle.rules.specs.Rules.Channel.{Channel, peripheral, wires, Part, Act, Board, Change, next_of, out_of, part, put, each, on, acting, settle, enable_edge}
use Rattle.rules.specs.Rules.Fits.{plain_say, plain}
use Rattle.rules.specs.Rules.Lift.{lift, with_status}
use Rattle.rules.specs.Rules.Calls.{kept}
use Rattle.rules.specs.Rules.Exchange.{channels_of, reconfigured, reset008h}
use Rattle.rules.specs.Statements.Channels as L
use Rattle.rules.specs.Statements.Channels.{Acts, Settles}
use Rattle.rules.proofs.Proofs.Lift.{lift-change, lift_stays, put_same, each_as}
use Rattle.rules.proofs.Proofs.Plans.{did}
use Rattle.rules.proofs.Proofs.Channels as H
use Rattle.rules.specs.declared.Say.{Say}
use Rattle.rules.specs.declared.Reply.{Reply}
use Rattle.rules.specs.Rules.Plan.{Plan}
use Rattle.engine.specs.declared.Speech.TheVariants as Y
use Rattle.engine.specs.Carried.{Packs, carried, carried_by, outgoing, put_part, stored_by, edge_stored, Stays}
use Rattle.engine.specs.declared.Outgoing.{Outgoing}

-- ---- a refused call's state

module _ (k : Channel) (s : State) where
  acts_stay : (a : Act k) {x : Change k} → Acts k (part k s) a x → Stays s (lift k s x)
  acts_stay a L.Acts.refused = subst (Stays s) (sym (lift_stays k s fatal)) (λ e. refl)
  acts_stay a (L.Acts.accepted q body kept e f) = subst (Stays s) (sym (lift-change k s q _)) (λ t. absurd (true≢false t))

  pub acting_stays : (a : Act k) (x : Change k) → x ≡ acting k s.config (part k s) a → Stays s (lift k s x)
  acting_stays a x e =
      subst (λ (z : Change k). Stays s (lift k s z)) (sym e) (acts_stay a (H.acts k s.config (part k s) a _ (did k s.config (part k s) a)))

  settles_stay : (o : Board k) {x : Change k} → Settles k (part k s) o x → Stays s (lift k s x)
  settles_stay o (L.Settles.refused n l m r v) = subst (Stays s) (sym (lift_stays k s (number n))) (λ e. refl)
  settles_stay o (L.Settles.accepted q kept e) = subst (Stays s) (sym (lift-change k s q _)) (λ t. absurd (true≢false t))

  pub settle_stays : (o : Board k) (x : Change k) → x ≡ settle k s.config (part k s) o → Stays s (lift k s x)
  settle_stays o x e = subst (λ (z : Change k). Stays s (lift k s z)) (sym e) (settles_stay o (H.board_settles k s o))

-- ---- bytes that stay

pub unchanged : (s : State) (l : List ℕ) → Packs s l → l ≡ kept s l
unchanged s l h = sym (over-take l state_length h.long) ∙ ap (λ (z : List ℕ). over z l) h.bytes

-- what goes out of a plan whose reply is no packet, over the bytes of its next state
pub outgoing-carried : (p : Plan) (l l' : List ℕ) (r : Outgoing) → plain p.reply ≡ true → r ≡ outgoing p → l' ≡ kept p.next l
    → carried r l' ≡ carried_by p l
unfolding carried
outgoing-carried p l l' r t k e =
    ap (λ (z : Outgoing). carried z l') k
    ∙ ap₂ (λ (z f : List ℕ). record { number = p.number; reply = p.reply; kept = p.kept; state = z; from = f }) e (sym (ap (λ (b : Bool). pick b [] l) t))

pub stays_carried : (s : State) (l : List ℕ) (p : Plan) (r : Outgoing) → Packs s l → p.next ≡ s → plain p.reply ≡ true → r ≡ outgoing p
    → carried r l ≡ carried_by p l
stays_carried s l p r h e t k = outgoing-carried p l l r t k (unchanged s l h ∙ ap (λ (z : State). kept z l) (sym e))

-- ---- a part put where the state's bytes stand

module _ (s : State) (l₀ l : List ℕ) (e : l ≡ kept s l₀) where
  found : take state_length l ≡ packed s
  found = ap (take state_length) e ∙ take-over (packed s) l₀ state_length (packed-length s)

  -- what is put over the state's bytes is put over those before
  pub again : (t : State) → kept t l ≡ kept t l₀
  again t = ap (kept t) e ∙ over-over (packed s) (packed t) l₀ (le_of_eq (packed-length s ∙ sym (packed-length t)))

  config-stored : (c : Config) → B.put 0 (config_bytes c) l ≡ kept (each (λ k q. q) c s) l₀
  config-stored c = stored-config s l found c ∙ again _

  pub part-stored : (k : Channel) (q : Part k) → put_part k q l ≡ kept (put k q s) l₀
  part-stored k q = stored-part s l found k q ∙ again _

  -- the part that a test picks: the one that stands there is not stored
  picked_stored : (k : Channel) (t : Bool) (q : Part k) → pick t (put_part k q l) l ≡ kept (put k (pick t q (part k s)) s) l₀
  picked_stored k true q = part-stored k q
  picked_stored k false q = e ∙ ap (λ (z : State). kept z l₀) (sym (put_same k s))

-- ---- a channel's change

pub plain-status : (y : Option Say) (word : ℕ) → plain (with_status y word) ≡ plain_say y
plain-status None word = refl
plain-status (Some y) word = refl

pub lift-plain : (k : Channel) (s : State) (x : Change k) → plain_say (out_of k x).say ≡ true → plain (lift k s x).reply ≡ true
unfolding lift
lift-plain k s x e = plain-status (out_of k x).say (status (put k (next_of k x) s)) ∙ e

module _ (k : Channel) (s : State) (x : Change k) (l : List ℕ) (h : Packs s l) (f : Stays s (lift k s x)) where
  pub change-stored : stored_by k (out_of k x).number (next_of k x) l ≡ kept (put k (next_of k x) s) l
  unfolding lift
  change-stored = go (eqb (out_of k x).number 0) refl
    where
      go : (t : Bool) → eqb (out_of k x).number 0 ≡ t → pick t (put_part k (next_of k x) l) l ≡ kept (put k (next_of k x) s) l
      go true e = part-stored s l l (unchanged s l h) k (next_of k x)
      go false e = unchanged s l h ∙ ap (λ (z : State). kept z l) (sym (f e))

  pub lift-carried : (l' : List ℕ) (r : Option Reply) → plain_say (out_of k x).say ≡ true → l' ≡ stored_by k (out_of k x).number (next_of k x) l
      → r ≡ with_status (out_of k x).say (status (put k (next_of k x) s))
      → carried (record { number = (out_of k x).number; speech = Y.Reply r; kept = (out_of k x).kept }) l' ≡ carried_by (lift k s x) l
  unfolding lift
  lift-carried l' r t es er =
      outgoing-carried (lift k s x) l l' _ (plain-status (out_of k x).say (status (put k (next_of k x) s)) ∙ t)
      (ap (λ (z : Option Reply). record { number = (out_of k x).number; speech = Y.Reply z; kept = (out_of k x).kept }) er) (es ∙ change-stored)

-- ---- configuration: its bytes, then those of each channel that has an enable_edge

edge-stored : (k : Channel) (s : State) (l₀ l : List ℕ) (was is : Bool) → l ≡ kept s l₀
    → edge_stored k was is (part k s) l ≡ kept (put k (enable_edge k was is (part k s)) s) l₀
edge-stored peripheral s l₀ l was is e = picked_stored s l₀ l e peripheral (was && not is) (dropped s.peripheral)
edge-stored wires s l₀ l was is e = go (was && not is)
  where
    go : (t : Bool)
        → pick t (put_part wires (all_disabled s.wires) l) (pick (not was && is) (put_part wires (all_enabled s.wires) l) l)
        ≡ kept (put wires (pick t (all_disabled s.wires) (pick (not was && is) (all_enabled s.wires) s.wires)) s) l₀
    go true = part-stored s l₀ l e wires (all_disabled s.wires)
    go false = picked_stored s l₀ l e wires (not was && is) (all_enabled s.wires)

-- RESET
pub cleared_by : (s : State) (l l' : List ℕ) → Packs s l → l' ≡ B.put 0 (config_bytes (reset008h s).config) l → l' ≡ kept (reset008h s) l
cleared_by s l l' h e = e ∙ config-stored s l l (unchanged s l h) (reset008h s).config

-- whether a channel is among those that are on
abbrev pub is_on : Channel → Channels → Bool
is_on peripheral x = x.peripheral
is_on wires x = x.wires

on_of : (k : Channel) (c : Config) → is_on k (channels_of c) ≡ on k c
on_of peripheral c = refl
on_of wires c = refl

-- SET_CONFIGURATION, put by put: the bytes m pack the state t, whose channels were and are on as found
pub record Configured (s : State) (c : Config) (l : List ℕ) (was is : Channels) (t : State) (m : List ℕ) : Type 0 where
  before : was ≡ channels_of s.config
  after : is ≡ channels_of c
  whole : Sound s
  bytes : m ≡ kept t l

module _ {s : State} {c : Config} {l : List ℕ} {was is : Channels} {m : List ℕ} where
  pub configured_start : was ≡ channels_of s.config → is ≡ channels_of c → Packs s l → fits s ≡ true → m ≡ B.put 0 (config_bytes c) l
      → Configured s c l was is (each (λ k q. q) c s) m
  configured_start ew ei h f e =
      record {
        before = ew;
        after = ei;
        whole = record { is_sound = h.good; is_fit = f };
        bytes = e ∙ config-stored s l l (unchanged s l h) c;
      }

  -- a channel's part is still the one before the write, and is found among the bytes
  still : {t : State} (k : Channel) → part k t ≡ part k s → Configured s c l was is t m → part_in k m ≡ part k t
  still {t} k e h =
      part_there k s.config t m (subst (λ (q : Part k). sound_part k s.config q ≡ true) (sym e) ((sound_parts s h.whole.is_sound).each k))
      (subst (λ (q : Part k). fits_part k q ≡ true) (sym e) ((fit_parts s h.whole.is_fit).each k)) (found t l m h.bytes)

  pub configured_then : {t : State} {n : List ℕ} (k : Channel) → part k t ≡ part k s → n ≡ edge_stored k (is_on k was) (is_on k is) (part_in k m) m
      → Configured s c l was is t m → Configured s c l was is (put k (enable_edge k (is_on k was) (is_on k is) (part k t)) t) n
  configured_then {t} {n} k f e h =
      record {
        before = h.before;
        after = h.after;
        whole = h.whole;
        bytes =
            e ∙ ap (λ (q : Part k). edge_stored k (is_on k was) (is_on k is) q m) (still k f h)
            ∙ edge-stored k t l m (is_on k was) (is_on k is) h.bytes;
      }

  pub configured_done : Configured s c l was is (each (λ k. enable_edge k (is_on k was) (is_on k is)) c s) m → m ≡ kept (reconfigured s c) l
  configured_done h =
      h.bytes
      ∙ ap (λ (t : State). kept t l)
      (each_as (λ k. enable_edge k (is_on k was) (is_on k is)) (λ k. enable_edge k (on k s.config) (on k c)) c c s refl
      (λ k.
      ap (λ (x : Bool). enable_edge k x (is_on k is) (part k s)) (ap (is_on k) h.before ∙ on_of k s.config)
      ∙ ap (λ (x : Bool). enable_edge k (on k s.config) x (part k s)) (ap (is_on k) h.after ∙ on_of k c)))
