-- The bytes of a sound state: what the channels find in them, a change of channel 0 carried out on them, and one of channel 1 with the reset that may follow.
use Rattle.std.specs.Prelude.{ℕ, ◌+◌, ◌/◌, ◌≤◌, Bool, ◌&&◌, ◌≡◌, length, take, Option, None}
use Rattle.std.proofs.Math.Bool.{true, false, not}
use mathlib.Core.List.{List, [], ◌++◌, append-nil}
use Rattle.std.proofs.Math.Path.{refl, sym, ap, ap₂}
use Rattle.std.proofs.Common.{◌∙◌, arith, take-append-drop, length-append}
use Rattle.std.proofs.Math.Dec.{eqb}
use Rattle.std.proofs.Math.ListN.{drop}
use Rattle.std.proofs.Math.Seq.{drop-nil}
use Rattle.base.specs.Pick.{pick, taken, passed}
use Rattle.base.specs.Bytes.{put, over}
use Rattle.registers.specs.Registers.{reachable, on1, operating_count}
use Rattle.registers.specs.Layout.{config_in}
use Rattle.registers.specs.declared.Config.{Config}
use Rattle.wires.specs.Groups.{level_at, read_wire, sound_wires}
use Rattle.wires.specs.Lines.{lines_in}
use Rattle.wires.specs.Senders.{AllWires, with_groups, wires_status}
use Rattle.wires.specs.AllKept.{sound-groups}
use Rattle.wires.specs.MapBytes.{all-length, stored-groups}
use Rattle.wires.specs.Shown.{status-groups}
use Rattle.wires.specs.Layout.{wires_in, tidy_wires, all_bytes, all_in}
use Rattle.wires.specs.declared.Wires.{Wires}
use Rattle.peripheral.specs.Sound.{sound_request}
use Rattle.peripheral.specs.declared.Peripheral.{Peripheral}
use Rattle.peripheral.specs.Status.{peripheral_status}
use Rattle.peripheral.specs.Layout.{peripheral_bytes, np_in, peripheral_in}
use Rattle.peripheral.specs.Stored.{Stands, status-stored}
use Rattle.state.specs.Status.{status}
use Rattle.state.specs.Layout.{state_length, packed, unpacked}
use Rattle.state.specs.Channel.{part}
use Rattle.state.specs.Parts.{front, behind, front_length, packed-at, part-tidy}
use Rattle.state.specs.Sound.{Sound}
use Rattle.state.specs.Packing.{packed-length, unpacked-fits, unpacked-over}
use Rattle.state.specs.Facts.{sound-config, sound_request_lem, sound_wires_lem}
use Rattle.state.specs.State.{State}
use Rattle.command.specs.Facts.{IsBytes}
use Rattle.command.specs.declared.PeripheralCommand.{PeripheralCommand}
use Rattle.rules.specs.Rules.Calls.{kept}
use Rattle.rules.specs.Rules.Reset.{platform_reset}
use Rattle.rules.specs.Rules.Exchange.{was_reset, then_reset, acted}
use Rattle.rules.specs.Rules.Peripheral as P
use Rattle.rules.specs.Rules.Wires as W
use Rattle.rules.specs.Rules.Channel as C
use Rattle.rules.specs.Rules.Channel.{peripheral, wires}
use Rattle.rules.specs.Rules.Lift.{lift, show, non_fatal, with_status}
use Rattle.rules.specs.Rules.Fits.{plain_body, plain_say}
use Rattle.rules.specs.Statements.Channels as A
use Rattle.rules.specs.Statements.Channels.{Acts, Settles}
use Rattle.rules.specs.Statements.Wires as W₁
use Rattle.rules.proofs.Proofs.Channels as H
use Rattle.rules.proofs.Proofs.Events.{one_or_zero}
use Rattle.rules.proofs.Proofs.Plans.{did}
use Rattle.rules.proofs.Proofs.SoundParts.{parts, with_part}
use Rattle.rules.proofs.Proofs.Wires.{lowers}
use Rattle.rules.proofs.Proofs.Wires.Lowering.{lowers_accepts}
use Rattle.rules.proofs.Proofs.Wires.Sound.{acts_ok}
use Rattle.rules.specs.declared.Body.{Body}
use Rattle.rules.specs.declared.Body.TheVariants as B
use Rattle.rules.specs.declared.Kept.{Kept}
use Rattle.rules.specs.declared.Out.{Out}
use Rattle.rules.specs.Rules.Plan.{Plan, WiresChange, PeripheralChange, GroupsChange}
use Rattle.engine.specs.declared.Speech.{Speech}
use Rattle.engine.specs.declared.Speech.TheVariants as Y
use Rattle.engine.specs.Carried.{Loadable, Stays, stored_by, Changed, changed_to, changed_by, Carried, carried_as, carried, carried_by, says_out, sent_in, beside, Puts, Sets, outgoing, showing, forbidding}
use Rattle.engine.specs.Laws.Stored.{outgoing-carried, again, plain-status, lift-carried}
use Rattle.engine.specs.declared.Outgoing.{Outgoing}

-- ---- the parts where they stand

pub config_in_lem : (l : List ℕ) → config_in l ≡ (unpacked l).config
unfolding unpacked
config_in_lem l = refl

pub peripheral_in_lem : (l : List ℕ) → peripheral_in l ≡ (unpacked l).peripheral
unfolding unpacked
peripheral_in_lem l = refl

module _ (l : List ℕ) (h : Loadable l) where
  stands : Stands (peripheral_in l) l
  unfolding unpacked
  stands =
      let r = drop state_length l in
      record {
        front = front peripheral (unpacked l);
        behind = behind peripheral (unpacked l) r;
        at = front_length peripheral (unpacked l);
        is = sym (take-append-drop state_length l) ∙ ap (λ (m : List ℕ). m ++ r) h.bytes ∙ packed-at peripheral (unpacked l) r;
      }

  -- what channel 0's commands ask for
  pub peripheral_there : (c : Config) → c ≡ (unpacked l).config
      → (64 ≤ length l) × Stands (peripheral_in l) l × (reachable c ≡ true) × (sound_request (np_in l) ≡ true)
  unfolding unpacked
  peripheral_there c e =
      (omega (arith, h.long), stands, ap reachable e ∙ sound-config (unpacked l) h.good, sound_request_lem (unpacked l) h.good)

  -- and channel 1's
  pub wires_there : (c : Config) (w : Wires) → c ≡ (unpacked l).config → w ≡ wires_in l → sound_wires (on1 c.r020) w ≡ true
  unfolding unpacked
  wires_there c w e f =
      ap (λ (z : Config). sound_wires (on1 z.r020) w) e ∙ ap (sound_wires (on1 (config_in l).r020)) f
      ∙ sound-groups (on1 (config_in l).r020) (operating_count (config_in l).r020) (all_in l) (sound_wires_lem (unpacked l) h.good)

  pub tidy_there : tidy_wires l ≡ true
  tidy_there =
      let r = drop state_length l in
      ap tidy_wires (sym (take-append-drop state_length l) ∙ ap (λ (m : List ℕ). m ++ r) h.bytes ∙ packed-at wires (unpacked l) r)
      ∙ part-tidy wires (front wires (unpacked l)) (behind wires (unpacked l) r) (part wires (unpacked l)) (front_length wires (unpacked l))

-- channel 0's decision over its bytes is that over the state that they hold
pub decided_there : (l : List ℕ) (c : Config) (o : PeripheralCommand) (b : List ℕ) → c ≡ (unpacked l).config
    → changed_by peripheral (P.decide c (peripheral_in l) o b) l
    ≡ changed_by peripheral (P.acting (unpacked l).config (unpacked l).peripheral (P.act_of (unpacked l).config o b)) l
unfolding P.decide unpacked
decided_there l c o b e = ap (λ (z : Config). changed_by peripheral (P.acting z (peripheral_in l) (P.act_of z o b)) l) e

-- channel 1's likewise
pub put_there : (l : List ℕ) (c : Config) (w : Wires) (n : ℕ) (pairs : List ℕ) (x : GroupsChange) → c ≡ (unpacked l).config → w ≡ wires_in l
    → Puts c w n pairs x
    → beside (unpacked l).wires.lines x ≡ W.acting (unpacked l).config (unpacked l).wires (W.Act.puts n pairs)
unfolding unpacked
put_there l c w n pairs x e f g =
    g (lines_in l) ∙ ap (λ (z : Config). W.put_vwire z (record { groups = w; lines = lines_in l }) n pairs) e
    ∙ ap (λ (z : Wires). W.put_vwire (config_in l) (record { groups = z; lines = lines_in l }) n pairs) f

-- a change that is another, lifted
pub lifted_by : (k : C.Channel) (l : List ℕ) {x y : C.Change k} {z : Carried} → z ≡ carried_by (lift k (unpacked l) x) l → x ≡ y
    → z ≡ carried_by (lift k (unpacked l) y) l
lifted_by k l e f = e ∙ ap (λ (c : C.Change k). carried_by (lift k (unpacked l) c) l) f

-- what is carried out and is no packet is a reply that stands there
pub record Replied (n : ℕ) (y : Speech) (k : Option Kept) (l : List ℕ) (q : Carried) : Type 0 where
  pub number : n ≡ q.number
  pub speech : y ≡ Y.Reply q.reply
  pub keeps : k ≡ q.kept
  pub state : l ≡ q.state

short-put : (w : AllWires) (l : List ℕ) → l ≡ [] → length (put 64 (all_bytes w) l) ≡ 110
unfolding put
short-put w l e =
    ap (λ (z : List ℕ). length ((take 64 z ++ all_bytes w) ++ drop (64 + length (all_bytes w)) z)) e
    ∙ ap (λ (z : List ℕ). length (all_bytes w ++ z)) (drop-nil (64 + length (all_bytes w)))
    ∙ ap length (append-nil (all_bytes w)) ∙ all-length w

pub replied : (n : ℕ) (y : Speech) (k : Option Kept) (l : List ℕ) (q : Carried) → carried_as n y k l ≡ q → q.from ≡ []
    → state_length ≤ length q.state → Replied n y k l q
replied n (Y.Reply r) k l q e f h =
    record {
      number = ap (λ (z : Carried). z.number) e;
      speech = ap (λ (z : Carried). Y.Reply z.reply) e;
      keeps = ap (λ (z : Carried). z.kept) e;
      state = ap (λ (z : Carried). z.state) e;
    }
replied n Y.Packet k l q e f h =
    let z = short-put (sent_in l) l (ap (λ (z : Carried). z.from) e ∙ f) in
    let g = ap (λ (z : Carried). length z.state) e in
    absurd (omega (arith, z, g))

kept_long : (t : State) (l : List ℕ) → state_length ≤ length (kept t l)
unfolding over
kept_long t l = omega (arith, length-append (packed t) (drop (length (packed t)) l), packed-length t)

plain-put : {c : Config} {w : AllWires} {n : ℕ} {pairs : List ℕ} {x : WiresChange} → W₁.Did c w (W.Act.puts n pairs) x → plain_say x.out.say ≡ true
plain-put (W₁.over_count e) = refl
plain-put (W₁.third e f) = refl
plain-put (W₁.put e f) = refl

pub put-plain : (s : State) (n : ℕ) (pairs : List ℕ) (x : WiresChange) → x ≡ W.acting s.config s.wires (W.Act.puts n pairs)
    → plain_say x.out.say ≡ true
put-plain s n pairs x e = ap (λ (z : WiresChange). plain_say z.out.say) e ∙ plain-put (did wires s.config s.wires (W.Act.puts n pairs))

board_plain : {p : AllWires} {o : W.Board} {x : WiresChange} → Settles wires p o x → plain_say x.out.say ≡ true
board_plain (A.Settles.refused n l m r v) = refl
board_plain (A.Settles.accepted q kept e) = refl

pub set-plain : (s : State) (o : W.Board) (x : WiresChange) → x ≡ W.settle s.config s.wires o → plain_say x.out.say ≡ true
set-plain s o x e = ap (λ (z : WiresChange). plain_say z.out.say) e ∙ board_plain (H.board_settles wires s o)

-- a PUT_VWIRE put back, and the platform reset where PLTRST# went low (02, Q-1)
module _ (l : List ℕ) (n : ℕ) (pairs : List ℕ) (h : Loadable l) (bytes : IsBytes l) where
  abbrev s : State
  s = unpacked l

  abbrev a : W.Act
  a = W.Act.puts n pairs

  abbrev x : WiresChange
  x = W.acting s.config s.wires a

  -- the state that it leaves, before a reset
  abbrev t : State
  t = C.put wires x.next s

  left-sound : Sound t
  left-sound =
      let p = parts (record { is_sound = h.good; is_fit = unpacked-fits l bytes }) in
      with_part wires x.next p (acts_ok (p.each wires) (did wires s.config s.wires a))

  module _ (out : Outgoing) (l₁ : List ℕ) (e : carried out l₁ ≡ carried_by (lift wires s x) l) where
    goes_out : Replied out.number out.speech out.kept l₁ (carried_by (lift wires s x) l)
    unfolding lift carried
    goes_out =
        replied out.number out.speech out.kept l₁ _ e
        (ap (λ (b : Bool). pick b [] l) (plain-status x.out.say (status t) ∙ plain-put (did wires s.config s.wires a))) (kept_long t l)

    stored : l₁ ≡ kept t l
    unfolding lift
    stored = goes_out.state

    sent : out ≡ says_out x.out (status t)
    unfolding lift
    sent =
        ap₂ (λ (m : ℕ) (k : Option Kept). record { number = m; speech = out.speech; kept = k }) goes_out.number goes_out.keeps
        ∙ ap (λ (y : Speech). record { number = x.out.number; speech = y; kept = x.out.kept }) goes_out.speech

    found : unpacked l₁ ≡ t
    found = ap unpacked stored ∙ unpacked-over t l left-sound

    module _ (w : Wires) (y : GroupsChange) (was is : Bool) (ew : w ≡ wires_in l) (ey : beside s.wires.lines y ≡ x) (eb : was ≡ eqb (read_wire w 3 1) 1)
        (ea : is ≡ eqb (read_wire y.next 3 1) 1) where
      follows : {u : Bool} → was && not is ≡ u → W.reset_follows s.wires a x.next ≡ u
      unfolding unpacked
      follows f =
          ap₂ (λ (z : Wires) (u : Bool). eqb (read_wire z 3 1) 1 && u) (sym ew) (sym (one_or_zero (level_at x.next.groups 3 / 2)))
          ∙ sym (ap₂ (λ (p q : Bool). p && not q) eb (ea ∙ ap (λ (z : WiresChange). eqb (W.pltrst z.next) 1) ey)) ∙ f

      pub high-carried : was && not is ≡ false → carried out l₁ ≡ carried_by (acted wires s a) l
      high-carried f = e ∙ ap (λ (p : Plan). carried_by p l) (passed _ _ (follows f) refl)

      pub low_carried : (l₂ : List ℕ) → was && not is ≡ true → l₂ ≡ kept (was_reset platform_reset (unpacked l₁)) l₁
          → carried out l₂ ≡ carried_by (acted wires s a) l
      low_carried l₂ f e₂ =
          outgoing-carried (then_reset t) l l₂ out refl goes (e₂ ∙ ap (λ (z : State). kept (was_reset platform_reset z) l₁) found ∙ again t l l₁ stored _)
          ∙ ap (λ (p : Plan). carried_by p l) (taken _ _ (follows f) refl)
        where
          -- an accepted packet's reply, with the status before the reset
          goes : out ≡ outgoing (then_reset t)
          goes = sent ∙ ap (λ (z : Out). says_out z (status t)) (lowers_accepts (lowers (did wires s.config s.wires a) (follows f)))

pub set_there : (l : List ℕ) (c : Config) (w : Wires) (index bit value : ℕ) (x : GroupsChange) → c ≡ config_in l → w ≡ wires_in l
    → Sets c w index bit value x
    → beside (unpacked l).wires.lines x ≡ W.setting (unpacked l).config (unpacked l).wires index bit value
unfolding unpacked
set_there l c w index bit value x e f g =
    g (lines_in l) ∙ ap (λ (z : Config). W.setting z (record { groups = w; lines = lines_in l }) index bit value) e
    ∙ ap (λ (z : Wires). W.setting (config_in l) (record { groups = z; lines = lines_in l }) index bit value) f

-- ---- the groups stored: the status after, read off the bytes

module _ (l : List ℕ) (x : GroupsChange) (h : Loadable l) (byte : IsBytes l)
    (f : Stays (unpacked l) (lift wires (unpacked l) (beside (unpacked l).wires.lines x))) where
  pub groups-status : (l' : List ℕ) (others word : ℕ) → l' ≡ stored_by wires x.out.number (with_groups (all_in l) x.next) l
      → others ≡ peripheral_status (peripheral_in l) → word ≡ wires_status (all_in l')
      → others + word ≡ status (C.put wires (beside (unpacked l).wires.lines x).next (unpacked l))
  unfolding lift unpacked status
  groups-status l' others word e eo ew = ap₂ (λ (a b : ℕ). a + b) eo (ew ∙ ap (λ (z : List ℕ). wires_status (all_in z)) e ∙ go (eqb x.out.number 0) refl)
    where
      go : (t : Bool) → eqb x.out.number 0 ≡ t
          → wires_status (all_in (pick t (put 64 (all_bytes (with_groups (all_in l) x.next)) l) l)) ≡ wires_status (with_groups (all_in l) x.next)
      go true k = ap (λ (z : List ℕ). wires_status (all_in z)) (sym (stored-groups l byte h.long x.next)) ∙ status-groups l byte h.long x.next
      go false k = ap (λ (s : State). wires_status s.wires) (sym (f k))

-- ---- a plan that shows

pub shown_is : (s : State) (body : Body) (word : ℕ) (r : Outgoing) → r ≡ showing body word → word ≡ status s → r ≡ outgoing (show body s)
shown_is s body word r k e = k ∙ ap (showing body) e

pub forbidden_is : (s : State) (word : ℕ) (r : Outgoing) → r ≡ forbidding word → word ≡ status s → r ≡ outgoing (non_fatal s)
forbidden_is s word r k e = k ∙ ap forbidding e

-- ---- a change of channel 0 that stores its queue itself

-- it says no packet of wires
own_plain : (body : Body) → C.own_body peripheral body ≡ true → plain_body body ≡ true
own_plain B.Nothing e = refl
own_plain (B.Word v) e = refl
own_plain (B.Piece c) e = refl
own_plain (B.Groups p) e = e

acts_plain : {p : Peripheral} {a : P.Act} {x : PeripheralChange} → Acts peripheral p a x → plain_say x.out.say ≡ true
acts_plain A.Acts.refused = refl
acts_plain (A.Acts.accepted q body kept e f) = own_plain body e

pub peripheral_plain : (s : State) (a : P.Act) → plain_say (P.acting s.config s.peripheral a).out.say ≡ true
peripheral_plain s a = acts_plain (H.acts peripheral s.config s.peripheral a _ (did peripheral s.config s.peripheral a))

settles_silent : {p : Peripheral} {o : P.Board} {x : PeripheralChange} → Settles peripheral p o x → x.out.say ≡ None
settles_silent (A.Settles.refused n l m r v) = refl
settles_silent (A.Settles.accepted q kept e) = refl

pub settle-silent : (s : State) (o : P.Board) (x : PeripheralChange) → x ≡ P.settle s.config s.peripheral o → x.out.say ≡ None
settle-silent s o x e = ap (λ (z : PeripheralChange). z.out.say) e ∙ settles_silent (H.board_settles peripheral s o)

pub settle-plain : (s : State) (o : P.Board) (x : PeripheralChange) → x ≡ P.settle s.config s.peripheral o → plain_say x.out.say ≡ true
settle-plain s o x e = ap plain_say (settle-silent s o x e)

module _ (l : List ℕ) (x : PeripheralChange) (h : Loadable l) (f : Stays (unpacked l) (lift peripheral (unpacked l) x)) where
  -- the bytes after it say the status of its next part
  said : (l' : List ℕ) → l' ≡ (changed_by peripheral x l).state → peripheral_status (peripheral_in l') ≡ peripheral_status x.next
  unfolding lift unpacked
  said l' e = ap (λ (z : List ℕ). peripheral_status (peripheral_in z)) e ∙ go (eqb x.out.number 0) refl
    where
      go : (t : Bool) → eqb x.out.number 0 ≡ t
          → peripheral_status (peripheral_in (pick t (put 12 (peripheral_bytes x.next) l) l)) ≡ peripheral_status x.next
      go true k = status-stored x.next l (omega (arith, h.long))
      go false k = ap (λ (s : State). peripheral_status s.peripheral) (sym (f k))

  pub acted-carried : (l' : List ℕ) (o : Out) (word : ℕ) (r : Outgoing)
      → plain_say x.out.say ≡ true
      → changed_to o l' ≡ changed_by peripheral x l
      → (peripheral_status (peripheral_in l') ≡ peripheral_status x.next → word ≡ status (C.put peripheral x.next (unpacked l)))
      → r ≡ says_out o word
      → carried r l' ≡ carried_by (lift peripheral (unpacked l) x) l
  acted-carried l' o word r t e ew er =
      let eo : o ≡ x.out = ap (λ (z : Changed). z.goes) e in
      let el : l' ≡ (changed_by peripheral x l).state = ap (λ (z : Changed). z.state) e in
      ap (λ (z : Outgoing). carried z l') (er ∙ ap (λ (z : Out). says_out z word) eo)
      ∙ lift-carried peripheral (unpacked l) x l h f l' _ t el (ap (with_status x.out.say) (ew (said l' el)))
