-- Laws by which the exported calls meet their contracts: each return from what the callees ensure, in the code's order.
use Rattle.std.specs.Prelude.{ℕ, ◌+◌, ◌*◌, ◌≤◌, Bool, not, ◌≡◌, Option, Some, None, Result, Ok, Err, ⊤, ◌||◌, ltb}
use Rattle.std.proofs.Math.Bool.{true, false}
use Rattle.std.proofs.Common.{true≢false, subst, ◌∙◌, zero-add, arith}
use mathlib.Core.List.{List, [], ◌∷◌}
use Rattle.std.proofs.Math.Path.{refl, sym, ap, ap₂}
use Rattle.std.proofs.Math.ListN.{length}
use borrow.Author.Tests.{not-false}
use Rattle.std.proofs.lemmas.Bool.{ltb-false}
use Rattle.base.specs.Pick.{pick, and_left}
use Rattle.base.specs.Bytes.{put, over, agree}
use Rattle.registers.specs.Registers.{on1, operating_count}
use Rattle.registers.specs.Layout.{config_in}
use Rattle.wires.specs.Groups.{defined_bit, read_wire}
use Rattle.wires.specs.Senders.{AllWires, fresh_all}
use Rattle.wires.specs.Layout.{wires_in, all_bytes, all_in}
use Rattle.wires.specs.declared.Wires.{Wires}
use Rattle.peripheral.specs.Layout.{peripheral_in}
use Rattle.peripheral.specs.declared.Peripheral.{Peripheral}
use Rattle.peripheral.specs.declared.Np.{Np}
use Rattle.state.specs.State.{State}
use Rattle.state.specs.Core.{quiet_state, fresh_core}
use Rattle.state.specs.Fresh.{fresh_state}
use Rattle.state.specs.declared.Core.{Core}
use Rattle.state.specs.Sound.{sound}
use Rattle.state.specs.Layout.{state_length, packed, unpacked, holds}
use Rattle.state.specs.Packing.{holds-bytes}
use Rattle.state.specs.Facts.{sound_wires_lem}
use Rattle.rules.specs.Rules.Peripheral as P
use Rattle.rules.specs.Rules.Wires as W
use Rattle.rules.specs.Rules.Channel.{peripheral, wires}
use Rattle.rules.specs.Rules.Lift.{lift}
use Rattle.rules.specs.Rules.Exchange.{exchange}
use Rattle.rules.specs.Rules.Numbers.{number_of, number_in}
use Rattle.rules.specs.declared.Refusal.{Refusal}
use Rattle.rules.specs.declared.Refusal.TheVariants.{StoreTooShort, StateNotSound}
use Rattle.rules.specs.Rules.Step.{write_length, read_length}
use Rattle.rules.specs.Rules.Out.{response_byte}
use Rattle.rules.specs.Rules.Reply.{closed, body_bytes, reply_bytes, kept_bytes}
use Rattle.rules.specs.Rules.Fits.{BodyFits, ReplyFits, KeptFits, plain_body, plain}
use Rattle.rules.specs.Rules.Calls.{Exchanged, done, exchanged, stored, looked, kept, word, exchange_planned}
use Rattle.rules.proofs.Proofs.Fits as F
use Rattle.rules.specs.declared.Body.{Body}
use Rattle.rules.specs.declared.Body.TheVariants as B
use Rattle.rules.specs.declared.Reply.{Reply}
use Rattle.rules.specs.declared.Kept.{Kept}
use Rattle.rules.specs.Rules.Plan.{Plan}
use Rattle.reply.specs.Packets.{PacketReady, PacketPut, packet_put, packet_reply, packet_put_by}
use Rattle.engine.specs.Carried.{Loadable, Carried, carried_as, carried, carried_by, sent_in, reply_in}
use Rattle.engine.specs.Laws.Stored.{lift-plain}
use Rattle.engine.specs.Laws.Loaded.{tidy_there, settle-plain, set-plain}
use Rattle.engine.specs.declared.Outgoing.{Outgoing}
use Rattle.engine.specs.declared.Speech.{Speech}
use Rattle.engine.specs.declared.Speech.TheVariants as Y

-- ---- what a call looks at before its own rule

-- the first of these three that holds, if one does (01, Replies and refusals: "in this order: 10, 11")
abbrev pub first_of_tests : Bool → Bool → Bool → Result ⊤ Refusal
first_of_tests lacks short bad = pick (lacks || short) (Err StoreTooShort) (pick bad (Err StateNotSound) (Ok tt))

-- "a lent store too short" is 10, "bytes that pack no state" 11, in this order; short tells of the slices beside the state (01, Replies and refusals)
abbrev pub guarded : List ℕ → Bool → Result ⊤ Refusal
guarded st short = first_of_tests (ltb (length st) state_length) short (not (holds st))

passes : Result ⊤ Refusal → Bool
passes (Ok u) = true
passes (Err f) = false

-- the definition of a call, and what the code does
module _ {A : Type 0} (st : List ℕ) (short : Bool) (r : Result ⊤ Refusal) (g : r ≡ guarded st short) (x : ℕ → A) (y : A) where
  abbrev call : A
  call = pick (ltb (length st) state_length) (x 10) (pick short (x 10) (pick (not (holds st)) (x 11) y))

  pub refuses : (n : ℕ) (f : Refusal) → n ≡ number_of f → r ≡ Err f → x n ≡ call
  unfolding passes
  refuses n f en e = ap x en ∙ go (ltb (length st) state_length) short (not (holds st)) (sym g ∙ e)
    where
      go : (a b h : Bool) → first_of_tests a b h ≡ Err f → x (number_of f) ≡ pick a (x 10) (pick b (x 10) (pick h (x 11) y))
      go true b h e = ap (λ (q : Result ⊤ Refusal). x (number_in q)) (sym e)
      go false true h e = ap (λ (q : Result ⊤ Refusal). x (number_in q)) (sym e)
      go false false true e = ap (λ (q : Result ⊤ Refusal). x (number_in q)) (sym e)
      go false false false e = absurd (true≢false (ap passes e))

  pub goes_through : {z : A} (u : ⊤) → r ≡ Ok u → z ≡ y → z ≡ call
  unfolding passes
  goes_through {z} u e f = go (ltb (length st) state_length) short (not (holds st)) (sym g ∙ e)
    where
      go : (a b h : Bool) → first_of_tests a b h ≡ Ok u → z ≡ pick a (x 10) (pick b (x 10) (pick h (x 11) y))
      go true b h e = absurd (true≢false (sym (ap passes e)))
      go false true h e = absurd (true≢false (sym (ap passes e)))
      go false false true e = absurd (true≢false (sym (ap passes e)))
      go false false false e = f

-- the slices are as long as they must be, and the bytes pack a state
pub record Admitted (st : List ℕ) (short : Bool) : Type 0 where
  pub room : short ≡ false
  pub state : Loadable st

pub admitted : (st : List ℕ) (short : Bool) (r : Result ⊤ Refusal) (u : ⊤) → r ≡ guarded st short → r ≡ Ok u → Admitted st short
unfolding passes holds
admitted st short r u g e = go (ltb (length st) state_length) short (not (holds st)) refl refl refl (sym g ∙ e)
  where
    go : (a b h : Bool) → ltb (length st) state_length ≡ a → short ≡ b → not (holds st) ≡ h
        → first_of_tests a b h ≡ Ok u → Admitted st short
    go true b h i j k e = absurd (true≢false (sym (ap passes e)))
    go false true h i j k e = absurd (true≢false (sym (ap passes e)))
    go false false true i j k e = absurd (true≢false (sym (ap passes e)))
    go false false false i j k e =
        let t : holds st ≡ true = not-false (holds st) k in
        let n : state_length ≤ length st = ltb-false _ _ i in
        record {
          room = j;
          state = record { long = n; good = and_left (sound (unpacked st)) (agree state_length (packed (unpacked st)) st) t; bytes = holds-bytes st n t };
        }

-- the tests of two or three slices in one
pub neither : (b c : Bool) → b || c ≡ false → (b ≡ false) × (c ≡ false)
neither true c e = absurd (true≢false e)
neither false c e = (refl, e)

pub two_tests : {A : Type 0} (a b c : Bool) (x z : A) → pick a x (pick (b || c) x z) ≡ pick a x (pick b x (pick c x z))
two_tests true b c x z = refl
two_tests false true c x z = refl
two_tests false false c x z = refl

pub three_tests : {A : Type 0} (a b c d : Bool) (x z : A) → pick a x (pick ((b || c) || d) x z) ≡ pick a x (pick b x (pick c x (pick d x z)))
three_tests a b c d x z = two_tests a (b || c) d x z ∙ two_tests a b c x (pick d x z)

-- ---- an exchange's reply and data on the lent bytes

-- what saying it asks of the slices: a reply fits and is no packet, a packet is over sound wires, some of which wait (01, What the engine covers)
abbrev pub SaysFits : Speech → List ℕ → Type 0
SaysFits (Y.Reply r) st = ReplyFits r fresh_all × (plain r ≡ true)
SaysFits Y.Packet st = PacketReady st

-- what is said: the reply's bytes, the same over any wires, or a packet with what it changes (01, Replies and refusals; Wires)
abbrev pub spoken_by : Speech → (st reply read : List ℕ) → PacketPut
spoken_by (Y.Reply r) st reply read = packet_put (length (reply_bytes r fresh_all read)) st (over (reply_bytes r fresh_all read) reply)
spoken_by Y.Packet st reply read = packet_put_by st reply

-- .. with number and data: what an exchange leaves (01, Replies and refusals)
abbrev pub committed : Outgoing → (st command reply write read : List ℕ) → Exchanged
committed p st command reply write read =
    let x = spoken_by p.speech st reply read in exchanged (word p.number x.count) x.state x.reply
    (over (kept_bytes p.kept command) write)

-- by which of the two it is
pub fits_as : (y z : Speech) (st : List ℕ) → y ≡ z → SaysFits y st → SaysFits z st
fits_as y z st e f = subst (λ (x : Speech). SaysFits x st) e f

pub spoken_as : (y z : Speech) (st reply read : List ℕ) (x : PacketPut) → y ≡ z → x ≡ spoken_by z st reply read → x ≡ spoken_by y st reply read
spoken_as y z st reply read x e ex = ex ∙ ap (λ (u : Speech). spoken_by u st reply read) (sym e)

pub spoken_reply : (r : Option Reply) (st reply reply' read : List ℕ) (n : ℕ) → reply' ≡ over (reply_bytes r fresh_all read) reply
    → n ≡ length (reply_bytes r fresh_all read) → packet_put n st reply' ≡ spoken_by (Y.Reply r) st reply read
spoken_reply r st reply reply' read n er en = ap₂ (λ (a : ℕ) (z : List ℕ). packet_put a st z) en er

pub committed_by : (p : Outgoing) (st st' command reply reply' write write' read : List ℕ) (n : ℕ)
    → packet_put n st' reply' ≡ spoken_by p.speech st reply read
    → write' ≡ over (kept_bytes p.kept command) write
    → exchanged (p.number + 256 * n) st' reply' write' ≡ committed p st command reply write read
committed_by p st st' command reply reply' write write' read n e ew =
    rw ew (ap (λ (z : PacketPut). exchanged (word p.number z.count) z.state z.reply (over (kept_bytes p.kept command) write)) e)

-- a reply that is no packet has the same bytes over any wires
plain-any : (r : Option Reply) (w v : AllWires) (read : List ℕ) → plain r ≡ true → reply_bytes r w read ≡ reply_bytes r v read
unfolding reply_bytes
plain-any None w v read e = refl
plain-any (Some r) w v read e = ap (λ (m : List ℕ). closed (response_byte r.response ∷ m) r.status) (go r.body e)
  where
    go : (m : Body) → plain_body m ≡ true → body_bytes m w read ≡ body_bytes m v read
    go B.Nothing e = refl
    go (B.Word x) e = refl
    go (B.Piece c) e = refl
    go (B.Groups p) e = absurd (true≢false (sym e))

-- and fits over any
fits-any : (r : Option Reply) (w v : AllWires) → plain r ≡ true → ReplyFits r w → ReplyFits r v
fits-any None w v e f = tt
fits-any (Some r) w v e f = go r.body e f
  where
    go : (m : Body) → plain_body m ≡ true → BodyFits m w → BodyFits m v
    go B.Nothing e f = tt
    go (B.Word x) e f = tt
    go (B.Piece c) e f = f
    go (B.Groups p) e f = absurd (true≢false (sym e))

-- ---- what is carried out is a reply that stands there, or a packet over the bytes as they were

pub data Goes (p : Outgoing) (st' : List ℕ) (q : Plan) (st : List ℕ) : Type 0 where
  replies : p.speech ≡ Y.Reply q.reply → plain q.reply ≡ true → st' ≡ kept q.next st → Goes p st' q st
  sends : p.speech ≡ Y.Packet → q.reply ≡ reply_in st → st' ≡ st → kept q.next st ≡ put 64 (all_bytes (sent_in st)) st → Goes p st' q st

module _ (p : Outgoing) (st st' : List ℕ) (q : Plan) (long : state_length ≤ length st) (e : carried p st' ≡ carried_by q st) where
  pub same_number : p.number ≡ q.number
  unfolding carried
  same_number = go p.speech (ap (λ (z : Carried). z.number) e)
    where
      go : (y : Speech) → (carried_as p.number y p.kept st').number ≡ q.number → p.number ≡ q.number
      go (Y.Reply r) f = f
      go Y.Packet f = f

  pub same_kept : p.kept ≡ q.kept
  unfolding carried
  same_kept = go p.speech (ap (λ (z : Carried). z.kept) e)
    where
      go : (y : Speech) → (carried_as p.number y p.kept st').kept ≡ q.kept → p.kept ≡ q.kept
      go (Y.Reply r) f = f
      go Y.Packet f = f

  pub goes : Goes p st' q st
  unfolding carried
  goes = go p.speech refl e
    where
      packed_or : (t : Bool) → plain q.reply ≡ t → [] ≡ pick t [] st → plain q.reply ≡ true
      packed_or true f g = f
      packed_or false f g = absurd (omega (arith, ap length g))

      go : (y : Speech) → p.speech ≡ y → carried_as p.number y p.kept st' ≡ carried_by q st → Goes p st' q st
      go (Y.Reply r) f g =
          replies (f ∙ ap (λ (z : Carried). Y.Reply z.reply) g) (packed_or (plain q.reply) refl (ap (λ (z : Carried). z.from) g))
          (ap (λ (z : Carried). z.state) g)
      go Y.Packet f g =
          let r : reply_in st' ≡ q.reply = ap (λ (z : Carried). z.reply) g in
          let same : st' ≡ st = ap (λ (z : Carried). z.from) g ∙ ap (λ (b : Bool). pick b [] st) (ap plain (sym r)) in
          sends f (sym r ∙ ap reply_in same) same
          (sym (ap (λ (z : Carried). z.state) g) ∙ ap (λ (z : List ℕ). put 64 (all_bytes (sent_in z)) z) same)

-- ---- bytes that pass

module _ (st : List ℕ) (ok : Bool) (e : ok ≡ holds st) where
  pub ok_is : {t : Bool} → not ok ≡ t → not (holds st) ≡ t
  ok_is h = ap not (sym e) ∙ h

  -- they pack the sound state that they hold
  pub loadable : state_length ≤ length st → not ok ≡ false → Loadable st
  unfolding holds
  loadable n h =
      let t : holds st ≡ true = not-false (holds st) (ok_is h) in
      record { long = n; good = and_left (sound (unpacked st)) (agree state_length (packed (unpacked st)) st) t; bytes = holds-bytes st n t }

-- ---- each call

module _ (st : List ℕ) where
  -- a start
  pub started_by : (s : Core) (st' : List ℕ) → s ≡ fresh_core → st' ≡ over (packed (quiet_state s)) st → done 0 st' ≡ done 0 (kept fresh_state st)
  started_by s st' e es = ap (done 0) (es ∙ ap (λ (z : Core). kept (quiet_state z) st) e)

  -- a board call: no packet goes out of it
  module _ (q : Plan) (p : Outgoing) (st' : List ℕ) (silent : plain q.reply ≡ true) (long : state_length ≤ length st)
      (e : carried p st' ≡ carried_by q st) where
    settled_state : st' ≡ kept q.next st
    settled_state = go (goes p st st' q long e)
      where
        go : Goes p st' q st → st' ≡ kept q.next st
        go (replies f h i) = i
        go (sends f g h i) = absurd (true≢false (sym silent ∙ ap plain g))

    pub settled_by_lem : done p.number st' ≡ done q.number (kept q.next st)
    settled_by_lem = ap₂ (λ (n : ℕ) (z : List ℕ). done n z) (same_number p st st' q long e) settled_state

    -- and its data kept in a store
    pub kept_by : (bytes store store' : List ℕ) → store' ≡ over (kept_bytes p.kept bytes) store
        → stored p.number st' store' ≡ stored q.number (kept q.next st) (over (kept_bytes q.kept bytes) store)
    kept_by bytes store store' ew =
        ap₂ (λ (n : ℕ) (z : List ℕ). stored n z store') (same_number p st st' q long e) settled_state
        ∙ ap (stored q.number (kept q.next st)) (ew ∙ ap (λ (k : Option Kept). over (kept_bytes k bytes) store) (same_kept p st st' q long e))

    -- a take: the held write reported
    pub taken_by : (h : Peripheral) (report report' : List ℕ) → h ≡ peripheral_in st → report' ≡ over (P.take_report h.write) report
        → stored p.number st' report' ≡ stored q.number (kept q.next st) (over (P.take_report (unpacked st).peripheral.write) report)
    unfolding unpacked
    taken_by h report report' f er =
        ap₂ (λ (n : ℕ) (z : List ℕ). stored n z report') (same_number p st st' q long e) settled_state
        ∙ ap (stored q.number (kept q.next st)) (er ∙ ap (λ (z : Peripheral). over (P.take_report z.write) report) f)

  -- a look, by the request's phase
  pub looked_by : (h : Peripheral) (n : Np) (number : ℕ) (report report' : List ℕ)
      → h ≡ peripheral_in st
      → h.request ≡ n
      → number ≡ P.look_number n
      → report' ≡ over (P.look_report n h.serial) report
      → looked number report'
      ≡ looked (P.look_number (unpacked st).peripheral.request)
      (over (P.look_report (unpacked st).peripheral.request (unpacked st).peripheral.serial) report)
  unfolding unpacked
  looked_by h n number report report' e en ew er =
      rw (ew, er)
      (ap (λ (z : Np). looked (P.look_number z) (over (P.look_report z h.serial) report)) (sym en)
      ∙ ap (λ (y : Peripheral). looked (P.look_number y.request) (over (P.look_report y.request y.serial) report)) e)

  -- what is said is the plan's reply, over the wires as they were, and the state's bytes are the plan's next
  module _ (p : Outgoing) (st' reply read : List ℕ) (q : Plan) where
    spoken : Goes p st' q st
        → spoken_by p.speech st' reply read
        ≡ packet_put (length (reply_bytes q.reply (unpacked st).wires read)) (kept q.next st)
        (over (reply_bytes q.reply (unpacked st).wires read) reply)
    unfolding reply_bytes unpacked
    spoken (replies f h i) =
        ap (λ (y : Speech). spoken_by y st' reply read) f
        ∙ ap₂ (λ (b z : List ℕ). packet_put (length b) z (over b reply)) (plain-any q.reply fresh_all (unpacked st).wires read h) i
    spoken (sends f g h i) =
        ap₂ (λ (y : Speech) (z : List ℕ). spoken_by y z reply read) f h
        ∙ ap (λ (z : List ℕ). packet_put (length (packet_reply st)) z (over (packet_reply st) reply)) (sym i)
        ∙ ap (λ (r : Option Reply). packet_put (length (reply_bytes r (all_in st) read)) (kept q.next st) (over (reply_bytes r (all_in st) read) reply)) (sym g)

  -- an exchange
  pub exchanged_by : (p : Outgoing) (st' command reply write read : List ℕ) (x : Exchanged)
      → state_length ≤ length st
      → carried p st' ≡ carried_by (exchange (unpacked st) command) st
      → x ≡ committed p st' command reply write read
      → x ≡ exchange_planned (exchange (unpacked st) command) st command reply write read
  unfolding exchange_planned
  exchanged_by p st' command reply write read x long ep ex =
      let q = exchange (unpacked st) command in
      ex
      ∙ ap₂ (λ (n : ℕ) (k : Option Kept). let z = spoken_by p.speech st' reply read in exchanged (word n z.count) z.state z.reply
      (over (kept_bytes k command) write))
      (same_number p st st' q long ep) (same_kept p st st' q long ep)
      ∙ ap (λ (z : PacketPut). exchanged (word q.number z.count) z.state z.reply (over (kept_bytes q.kept command) write))
      (spoken p st' reply read q (goes p st st' q long ep))

  -- a wire read
  pub wire_by : (w : Wires) (index bit v : ℕ) (ok : Bool) → w ≡ wires_in st → ok ≡ defined_bit index bit → not ok ≡ false → v ≡ read_wire w index bit
      → 256 * v ≡ word (W.read_number index bit) (W.read_value (unpacked st).wires index bit)
  unfolding unpacked
  wire_by w index bit v ok e eo h ev =
      let t : defined_bit index bit ≡ true = sym eo ∙ not-false ok h in
      ap (λ (z : ℕ). 256 * z) (ev ∙ ap (λ (z : Wires). read_wire z index bit) e)
      ∙ sym (zero-add (256 * read_wire (wires_in st) index bit))
      ∙ ap (λ (b : Bool). word (pick b 0 22) (pick b (read_wire (wires_in st) index bit) 0)) (sym t)

pub wire_refused : (w : AllWires) (index bit : ℕ) (ok : Bool) → ok ≡ defined_bit index bit → not ok ≡ true
    → 22 ≡ word (W.read_number index bit) (W.read_value w index bit)
wire_refused w index bit true eo h =
    let z : ◌≡◌ {A = Bool} true false = sym h in ap (λ (b : Bool). pick b 22 (word (W.read_number index bit) (W.read_value w index bit))) z
wire_refused w index bit false eo h = ap (λ (b : Bool). word (pick b 0 22) (pick b (read_wire w.groups index bit) 0)) eo

-- ---- what goes out fits the lent slices

-- a bigger store keeps as much
pub kept_wider : (k : Option Kept) (m a b : ℕ) → a ≤ b → KeptFits k m a → KeptFits k m b
kept_wider None m a b h f = tt
kept_wider (Some d) m a b h f = record { there = f.there; most = omega (arith, f.most) }

says_fit : (st st' : List ℕ) (p : Outgoing) (q : Plan) → Loadable st → Goes p st' q st → ReplyFits q.reply (unpacked st).wires
    → SaysFits p.speech st'
unfolding unpacked
says_fit st st' p q h (replies f i j) r =
    fits_as (Y.Reply q.reply) p.speech st' (sym f) (fits-any q.reply (unpacked st).wires fresh_all i r, i)
says_fit st st' p q h (sends f g i j) r =
    let w = subst (λ (z : Option Reply). ReplyFits z (all_in st)) g r in
    let c = config_in st in
    fits_as Y.Packet p.speech st' (sym f)
    (subst PacketReady (sym i)
    (record {
      long = h.long;
      on = on1 c.r020;
      count = operating_count c.r020;
      sound = sound_wires_lem (unpacked st) h.good;
      tidy = tidy_there st h;
      below = w.below;
      most = w.most;
      some = w.some;
    }))

pub exchange-fits : (st st' command : List ℕ) (p : Outgoing) → Loadable st → carried p st' ≡ carried_by (exchange (unpacked st) command) st
    → SaysFits p.speech st' × KeptFits p.kept (length command) write_length
exchange-fits st st' command p h e =
    let q = exchange (unpacked st) command in
    let f = F.exchange-fits (unpacked st) h.good command in (
      says_fit st st' p q h (goes p st st' q h.long e) f.reply,
      subst (λ (k : Option Kept). KeptFits k (length command) write_length) (sym (same_kept p st st' q h.long e)) f.kept,
    )

-- ---- the plans of the board's calls say nothing

pub answer-plain : (s : State) (serial success : ℕ) (bytes : List ℕ)
    → plain (lift peripheral s (P.answer_to s.peripheral serial (P.succeeded success) (length bytes))).reply ≡ true
unfolding P.settle
answer-plain s serial success bytes = lift-plain peripheral s _ (settle-plain s (P.answer serial success bytes) _ refl)

pub take-plain : (s : State) → plain (lift peripheral s (P.taken s.peripheral)).reply ≡ true
unfolding P.settle
take-plain s = lift-plain peripheral s _ (settle-plain s (P.take_write []) _ refl)

pub board_plain : (s : State) (o : W.Board) → plain (lift wires s (W.settle s.config s.wires o)).reply ≡ true
board_plain s o = lift-plain wires s _ (set-plain s o _ refl)

pub answer-fits : (s : State) (serial success : ℕ) (st st' bytes : List ℕ) (p : Outgoing) → sound s ≡ true → state_length ≤ length st
    → carried p st' ≡ carried_by (lift peripheral s (P.answer_to s.peripheral serial (P.succeeded success) (length bytes))) st → KeptFits p.kept
    (length bytes) read_length
answer-fits s serial success st st' bytes p h long e =
    subst (λ (k : Option Kept). KeptFits k (length bytes) read_length) (sym (same_kept p st st' _ long e)) (F.answer-fits s h serial success bytes)
