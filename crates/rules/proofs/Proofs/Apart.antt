-- No channel tells on another: one argument for every channel. A call of x's own leaves all that is not x's, or is a platform reset of it; any other call goes
-- the same way in two worlds that are alike but for x, for its channel sees its own part and stores alone. So a run shows what it shows without x's calls.
-- A configuration write alone looks at the wires, whether an edge waits: both runs are held against what remains of them from one world in which none does,
-- and without wire calls none comes to wait.
use Prim.Native.Nat.{ℕ, ◌+◌, ◌-◌, ◌*◌, ◌/◌, ◌%◌}
use Rattle.std.specs.Prelude.{Bool, ◌&&◌, ◌||◌, ◌≡◌, get_or, take, Option, Some, None}
use Rattle.std.proofs.Math.Bool.{true, false, and-false}
use Rattle.std.proofs.Common.{true≢false, ap₂, ◌∙◌, arith, length-append, take_at, get_or-append-add, eq-eqb, ne_eqb, eqb-true}
use mathlib.Core.List.{List, [], ◌∷◌, ◌++◌, map}
use Rattle.std.proofs.Math.Path.{refl, sym, ap, subst}
use Rattle.std.proofs.Math.Dec.{eqb, ltb}
use Rattle.std.proofs.Math.ListN.{length}
use Rattle.std.proofs.lemmas.List.{get_or_at}
use Rattle.std.proofs.lemmas.Bool.{eqb-false}
use Rattle.base.specs.Pick.{pick, and_true}
use Rattle.base.specs.Bytes.{low2, over}
use Rattle.crc.specs.Crc.{crc}
use Rattle.registers.specs.Registers.{fresh008, on1, operating_count, bits as bits_of, read_at_value, write_at}
use Rattle.registers.specs.Laws.{by_address}
use Rattle.registers.proofs.Laws.{bit-zero, on1-written, count-written}
use Rattle.wires.specs.Senders.{AllWires, with_lines}
use Rattle.wires.specs.Lines.{any_bit, any_edge, dropped}
use Rattle.wires.specs.LineBits.{no_bits}
use Rattle.registers.specs.declared.Config.{Config}
use Rattle.command.specs.declared.Command as C₀
use Rattle.command.specs.declared.Command.TheVariants as C
use Rattle.state.specs.Parts.{sum, sum_as}
use Rattle.state.specs.Status.{status}
use Rattle.state.specs.State.{State}
use Rattle.rules.specs.Rules.Out.{response_byte, says}
use Rattle.rules.specs.Rules.Reset.{Reset, start, espi_reset, platform_reset}
use Rattle.rules.specs.Rules.Channel.{Channel, peripheral, wires, Part, Command, Act, Board, Change, change, next_of, out_of, act_of, acting, reset_follows, settle, report_of, value_of, given, bits, own_kept, part, put, each, on, enable_edge, same}
use Rattle.rules.specs.Rules.Channel as N
use Rattle.rules.specs.Rules.Lift.{lift, with_status, show}
use Rattle.rules.specs.Rules.Wires.{edge_hinders}
use Rattle.rules.specs.Rules.Exchange.{reconfigured, hindered, config_reset, was_reset, then_reset}
use Rattle.rules.specs.Rules.Reply.{closed, reply_bytes, kept_bytes}
use Rattle.rules.specs.Rules.Step.{World, Call, Outcome, exchange, board, reset, short, lend, step, run, only, with_state, performed, served, short_stores, short_for, write_length, read_length, reply_length}
use Rattle.rules.specs.Statements.Plans.{Did, Settled, Admits, command_of}
use Rattle.rules.specs.Statements.Channels.{Acts, Settles}
use Rattle.rules.specs.Statements.Channels as L
use Rattle.rules.specs.Statements.Events.{accepted, lowers_pltrst, lowering, pltrst_falls}
use Rattle.rules.specs.Statements.Fields.{byte, register_at, register_value}
use Rattle.rules.specs.Statements.Reads.{Writes}
use Rattle.rules.specs.Statements.Cases as S
use Rattle.rules.specs.Statements.Cases.{Case}
use Rattle.rules.specs.Statements.Sizes.{is_of}
use Rattle.rules.specs.Statements.Wires.Rows.{some_line}
use Rattle.rules.specs.Statements.Both as T
use Rattle.rules.specs.Statements.Both.{Both, SameRoom, SameHindrance}
use Rattle.rules.specs.Statements.Apart.{stores_of, clear, is_command_of, is_call_of, others, remaining, remains, writes_against, edge_refuses, Unhindered, reply_but, Seen, seen, seeing}
use Rattle.rules.specs.Statements.Apart.{RunsAlike, StatesAlike, Alike, NoneTells, SameButWires, WiresApart, SameButPeripheral, PeripheralApart}
use Rattle.rules.proofs.Proofs.Plans as Q
use Rattle.rules.proofs.Proofs.Channels as L₁
use Rattle.rules.proofs.Proofs.Peripheral.Apart as P₁
use Rattle.rules.proofs.Proofs.Peripheral.Status.{avail_bit}
use Rattle.rules.proofs.Proofs.Wires.Apart as W₁
use Rattle.rules.proofs.Proofs.Stores.{lacks, SameLack, body_in, Owns, kept_other}
use Rattle.rules.proofs.Proofs.Whose.{begins, own_command}
use Rattle.rules.proofs.Proofs.Fields.{outside}
use Rattle.rules.proofs.Proofs.Events.{no_lowering, head_without, tail_without}
use Rattle.rules.proofs.Proofs.Effects.{unlowered, lowers_is, above}
use Rattle.rules.proofs.Proofs.Cases.{both, cases, reset-is, exchange_long}
use Rattle.rules.proofs.Proofs.Lift.{out_change, part_stays, lift-change, put-config, put_both, part-each, same-is, same_turned, own_or_other, planned}
use Rattle.rules.proofs.Proofs.Reads.{reads}
use Rattle.rules.proofs.Proofs.Reply.{closed_as, closed-length, status-bits, status_small, over_long}
use Rattle.rules.specs.declared.Body.TheVariants as B
use Rattle.rules.specs.declared.Say.{Say}
use Rattle.rules.specs.declared.Kept.{Kept}
use Rattle.rules.specs.declared.Out.{Out}
use Rattle.rules.specs.Rules.Plan.{Plan}
use Rattle.rules.specs.declared.Response.TheVariants.{Accept, NonFatal}

-- ---- the status without x's bits: the others' are left

-- the bits that never change: VWIRE_FREE
abbrev fixed : Channel → ℕ
fixed peripheral = 0
fixed wires = 4

abbrev left : Channel → State → ℕ
left x s = sum (λ k. pick (same x k) (fixed k) (bits k (part k s)))

cleared : (x : Channel) (s : State) → clear x (status s) ≡ left x s
unfolding status
cleared peripheral s = omega (arith, status-bits s, avail_bit s)
cleared wires s = omega (arith, status-bits s)

left_alike : (x : Channel) (s t : State) → StatesAlike x s t → left x s ≡ left x t
left_alike x s t h = sum_as _ _ (λ k. go k (same x k) refl)
  where
    go : (k : Channel) (u : Bool) → same x k ≡ u → pick u (fixed k) (bits k (part k s)) ≡ pick u (fixed k) (bits k (part k t))
    go k true e = refl
    go k false e = ap (bits k) (h.parts k e)

status_alike : (x : Channel) (s t : State) → StatesAlike x s t → clear x (status s) ≡ clear x (status t)
status_alike x s t h = cleared x s ∙ left_alike x s t h ∙ sym (cleared x t)

-- ---- a reply but for x's status bits and the CRC byte

parted : (x : Channel) (l m : List ℕ) (a b : ℕ) → length l ≡ length m + 3 → take (length m) l ≡ m → get_or l (length m) 0 ≡ a → get_or l (length m + 1) 0 ≡ b
    → reply_but x l ≡ m ++ (clear x (a + 256 * b) ∷ [])
parted x l m a b n t f g =
    let z = ne_eqb (length l) 0 (λ q. omega arith) in
    let e₃ : length l - 3 ≡ length m = omega arith in
    let e₂ : length l - 2 ≡ length m + 1 = omega arith in
    rw (z, e₃, e₂, t, f, g)

closed_but : (x : Channel) (m : List ℕ) (s : State) → reply_but x (closed m (status s)) ≡ m ++ (clear x (status s) ∷ [])
closed_but x m s =
    let t = status s in
    let end = t % 256 ∷ t / 256 % 256 ∷ crc (m ++ low2 t) ∷ [] in
    let two : t % 256 + 256 * (t / 256 % 256) ≡ t = omega (arith, status_small s) in
    ap (reply_but x) (closed_as m t)
    ∙ parted x (m ++ end) m (t % 256) (t / 256 % 256) (simp length-append (omega arith)) (take_at m end (length m) refl)
    (get_or_at m (t % 256) _ 0 (length m) refl) (get_or-append-add m end 1 0)
    ∙ ap (λ (n : ℕ). m ++ (clear x n ∷ [])) two

-- what a plan says, in two states that are alike but for x, its body's bytes being the same
abbrev body_of : Option Say → World → List ℕ
body_of None w = []
body_of (Some y) w = body_in w y.body

module _ (x : Channel) (s t : State) (h : StatesAlike x s t) (w v : World) where
  abbrev reply_on : World → Option Say → ℕ → List ℕ
  reply_on u y word = reply_bytes (with_status y word) u.state.wires u.read

  said_but : (y : Option Say) → body_of y w ≡ body_of y v → reply_but x (reply_on w y (status s)) ≡ reply_but x (reply_on v y (status t))
  unfolding reply_bytes
  said_but None e = refl
  said_but (Some q) e =
      closed_but x (response_byte q.response ∷ body_in w q.body) s
      ∙ ap (λ (z : ℕ). (response_byte q.response ∷ body_in w q.body) ++ (z ∷ [])) (status_alike x s t h)
      ∙ ap (λ (z : List ℕ). (response_byte q.response ∷ z) ++ (clear x (status t) ∷ [])) e
      ∙ sym (closed_but x (response_byte q.response ∷ body_in v q.body) t)

  said-length : (y : Option Say) → body_of y w ≡ body_of y v → length (reply_on w y (status s)) ≡ length (reply_on v y (status t))
  unfolding reply_bytes
  said-length None e = refl
  said-length (Some q) e =
      closed-length (response_byte q.response ∷ body_in w q.body) (status s)
      ∙ ap (λ (z : List ℕ). length (response_byte q.response ∷ z) + 3) e
      ∙ sym (closed-length (response_byte q.response ∷ body_in v q.body) (status t))

-- ---- states and worlds alike but for x

states_chain : {x : Channel} {s t u : State} → StatesAlike x s t → StatesAlike x t u → StatesAlike x s u
states_chain h g = record { config = h.config ∙ g.config; parts = λ y e. h.parts y e ∙ g.parts y e }

self : (x : Channel) (w : World) → Alike x w w
self x w = record { state = record { config = refl; parts = λ y e. refl }; stores = λ y e. refl; room = λ r. refl }

turned : {x : Channel} {w v : World} → Alike x w v → Alike x v w
turned h =
    record {
      state = record { config = sym h.state.config; parts = λ y e. sym (h.state.parts y e) };
      stores = λ y e. sym (h.stores y e);
      room = λ r. sym (h.room r);
    }

joined : {x : Channel} {w v u : World} → Alike x w v → Alike x v u → Alike x w u
joined h g = record { state = states_chain h.state g.state; stores = λ y e. h.stores y e ∙ g.stores y e; room = λ r. h.room r ∙ g.room r }

-- the same part put into both
put_alike : (x k : Channel) (p : Part k) (s t : State) → StatesAlike x s t → StatesAlike x (put k p s) (put k p t)
put_alike x k p s t h =
    record {
      config = put-config k p s ∙ h.config ∙ sym (put-config k p t);
      parts = put_both (λ (y : Channel) (a b : Part y). same x y ≡ false → a ≡ b) k p p s t (λ e. refl) h.parts;
    }

-- x's own replaced
put_own : (x : Channel) (p : Part x) (s : State) → StatesAlike x (put x p s) s
put_own x p s =
    record {
      config = put-config x p s;
      parts = λ y e. part_stays x y p s e;
    }

-- every part by the same function
each_alike : (x : Channel) (f g : (k : Channel) → Part k → Part k) (c d : Config) (s t : State) → c ≡ d → ((k : Channel) (p : Part k) → f k p ≡ g k p)
    → StatesAlike x s t → StatesAlike x (each f c s) (each g d t)
each_alike x f g c d s t e u h =
    record { config = e; parts = λ y n. part-each f c s y ∙ ap (f y) (h.parts y n) ∙ u y (part y t) ∙ sym (part-each g d t y) }

reset_alike : (x : Channel) (r : Reset) (s t : State) → StatesAlike x s t → StatesAlike x (was_reset r s) (was_reset r t)
reset_alike x r s t h = each_alike x (λ k. N.reset k r) (λ k. N.reset k r) _ _ s t (ap (config_reset r) h.config) (λ k p. refl) h

-- ---- stores: what is a channel's own

owns : (k : Channel) → Owns k
owns peripheral = P₁.owns
owns wires = W₁.owns

-- ---- another channel's call, in two worlds alike but for x

record Together (x : Channel) (o q : Outcome) : Type 0 where
  alike : seen x o ≡ seen x q
  next : Alike x o.next q.next

module _ (x : Channel) (w v : World) (h : Alike x w v) where
  -- a plan that says and keeps the same in both, with the status of s and t, and s' and t' after it
  exchanged_together : (b : List ℕ) (n : ℕ) (y : Option Say) (kept : Option Kept) (s t s' t' : State) → StatesAlike x s t → StatesAlike x s' t'
      → body_of y w ≡ body_of y v
      → SameLack (over (kept_bytes kept b) w.write) w.read (over (kept_bytes kept b) v.write) v.read
      → Together x (performed w b (record { number = n; reply = with_status y (status s); next = s'; kept = kept }))
      (performed v b (record { number = n; reply = with_status y (status t); next = t'; kept = kept }))
  unfolding performed seen
  exchanged_together b n y kept s t s' t' g g' e l =
      let reply : List ℕ = reply_but x (reply_bytes (with_status y (status s)) w.state.wires w.read) in
      let value : ℕ = length (reply_bytes (with_status y (status t)) v.state.wires v.read) in
      record {
        alike =
            ap (λ (z : ℕ). record { number = n; value = z; report = []; reply = reply }) (said-length x s t g w v y e)
            ∙ ap (λ (z : List ℕ). record { number = n; value = value; report = []; reply = z }) (said_but x s t g w v y e);
        next = record { state = g'; stores = λ z f. (owns z).written (kept_bytes kept b) w.write w.read v.write v.read (h.stores z f); room = l };
      }

  -- above all channels nothing is kept and no store is read
  above_together : (b : List ℕ) (n : ℕ) (y : Option Say) (s' t' : State) → StatesAlike x s' t' → body_of y w ≡ body_of y v
      → Together x (performed w b (record { number = n; reply = with_status y (status w.state); next = s'; kept = None }))
      (performed v b (record { number = n; reply = with_status y (status v.state); next = t'; kept = None }))
  unfolding over
  above_together b n y s' t' g e = exchanged_together b n y None w.state v.state s' t' h.state g e h.room

  module _ (k : Channel) (other : same x k ≡ false) where
    out_together : (b : List ℕ) (q : Part k) (n : ℕ) (y : Option Say) (kept : Option Kept) → body_of y w ≡ body_of y v → own_kept k kept ≡ true
        → Together x (performed w b (lift k w.state (change k q (record { number = n; say = y; kept = kept }))))
        (performed v b (lift k v.state (change k q (record { number = n; say = y; kept = kept }))))
    out_together b q n y kept e o =
        let out : Out = record { number = n; say = y; kept = kept } in
        let g = put_alike x k q w.state v.state h.state in
        subst (λ (p : Plan). Together x (performed w b p) (performed v b (lift k v.state (change k q out)))) (sym (lift-change k w.state q out))
        (subst (λ (p : Plan). Together x (performed w b (planned (put k q w.state) out)) (performed v b p)) (sym (lift-change k v.state q out))
        (exchanged_together b n y kept _ _ _ _ g g e ((owns k).lack_written kept b w.write w.read v.write v.read o (h.stores k other) h.room)))

    acts_together : (b : List ℕ) {p : Part k} {a : Act k} {c : Change k} → Acts k p a c
        → Together x (performed w b (lift k w.state c)) (performed v b (lift k v.state c))
    acts_together b {p = p} L.Acts.refused = out_together b p 1 _ None refl (owns k).nothing
    acts_together b (L.Acts.accepted q body kept o n) =
        out_together b q 0 (says _ body) kept ((owns k).bytes body w v o (h.state.parts k other) (h.stores k other)) n

    settle_alike : (o : Board k) → settle k w.state.config (part k w.state) o ≡ settle k v.state.config (part k v.state) o
    settle_alike o =
        ap (λ (c : Config). settle k c (part k w.state) o) h.state.config
        ∙ ap (λ (p : Part k). settle k v.state.config p o) (h.state.parts k other)

    settled_together : (o : Board k) (q : Part k) (out : Out) → own_kept k out.kept ≡ true
        → Together x (served k w o (lift k w.state (change k q out))) (served k v o (lift k v.state (change k q out)))
    unfolding served seen
    settled_together o q out n =
        subst (λ (p : Plan). Together x (served k w o p) (served k v o (lift k v.state (change k q out)))) (sym (lift-change k w.state q out))
        (subst (λ (p : Plan). Together x (served k w o (planned (put k q w.state) out)) (served k v o p)) (sym (lift-change k v.state q out))
        both-settled)
      where
        both-settled : Together x (served k w o (planned (put k q w.state) out)) (served k v o (planned (put k q v.state) out))
        both-settled =
            record {
              alike =
                  ap (λ (p : Part k). record { number = out.number; value = value_of k p o; report = report_of k p o; reply = [] }) (h.state.parts k other);
              next = record {
                state = put_alike x k q w.state v.state h.state;
                stores = λ y f. (owns y).answered (kept_bytes out.kept (given k o)) w.write w.read v.write v.read (h.stores y f);
                room = (owns k).lack_answered out.kept (given k o) w.write w.read v.write v.read n (h.stores k other) h.room;
              };
            }

    settles_together : (o : Board k) {p : Part k} {c : Change k} → Settles k p o c
        → Together x (served k w o (lift k w.state c)) (served k v o (lift k v.state c))
    settles_together o {p = p} (L.Settles.refused n a b e f) = settled_together o p _ (owns k).nothing
    settles_together o (L.Settles.accepted q kept n) = settled_together o q _ n

    -- and a reset follows in both or in neither
    follows_together : (b : List ℕ) {p : Part k} {a : Act k} {c : Change k} → Acts k p a c → (t : Bool)
        → Together x (performed w b (pick t (then_reset (put k (next_of k c) w.state)) (lift k w.state c)))
        (performed v b (pick t (then_reset (put k (next_of k c) v.state)) (lift k v.state c)))
    unfolding over
    follows_together b {c = c} d true =
        let g = put_alike x k (next_of k c) w.state v.state h.state in
        exchanged_together b 0 (says Accept B.Nothing) None _ _ _ _ g (reset_alike x platform_reset _ _ g) refl h.room
    follows_together b d false = acts_together b d

    -- the command in the other world, under a configuration and a part
    abbrev acted_under : Command k → List ℕ → Config → Part k → Outcome
    acted_under o b c p = performed v b (pick (reset_follows k p (act_of k c o b) (next_of k (acting k c p (act_of k c o b))))
        (then_reset (put k (next_of k (acting k c p (act_of k c o b))) v.state)) (lift k v.state (acting k c p (act_of k c o b))))

    acted_together : (o : Command k) (b : List ℕ) → Together x (T.acted_on k o b w) (T.acted_on k o b v)
    acted_together o b =
        let c₀ = w.state.config in
        let p₀ = part k w.state in
        let a₀ = act_of k c₀ o b in
        subst (λ (p : Part k). Together x (T.acted_on k o b w) (acted_under o b v.state.config p)) (h.state.parts k other)
        (subst (λ (c : Config). Together x (T.acted_on k o b w) (acted_under o b c (part k w.state))) h.state.config
        (follows_together b (L₁.acts k c₀ p₀ a₀ (acting k c₀ p₀ a₀) (Q.did k c₀ p₀ a₀)) (reset_follows k p₀ a₀ (next_of k (acting k c₀ p₀ a₀)))))

  reconfigured_alike : (a n : ℕ)
      → StatesAlike x (reconfigured w.state (write_at w.state.config a n)) (reconfigured v.state (write_at v.state.config a n))
  reconfigured_alike a n =
      each_alike x _ _ _ _ w.state v.state (ap (λ (c : Config). write_at c a n) h.state.config)
      (λ k p. ap (λ (c : Config). enable_edge k (on k c) (on k (write_at c a n)) p) h.state.config) h.state

  other_call : {c : Call} {o q : Outcome} → Both w v c o q → is_call_of x c ≡ false → Together x o q
  unfolding seen
  other_call (T.idle n l) e = record { alike = refl; next = h }
  other_call (T.status {b = b} a) e = above_together b 0 (says Accept B.Nothing) w.state v.state h.state refl
  other_call (T.register {b = b} a l) e =
      subst (λ (c : Config). Together x (T.registered b a w) (performed v b (show (B.Word (read_at_value c a)) v.state))) h.state.config
      (above_together b 0 (says Accept (B.Word (read_at_value w.state.config a))) w.state v.state h.state refl)
  other_call (T.acted {b = b} k o r a) e = acted_together k (sym (own_command x k w.state b o a) ∙ e) o b
  other_call (T.settles k o r) e =
      subst (λ (c : Change k). Together x (T.boarded k o w) (served k v o (lift k v.state c))) (settle_alike k e o)
      (settles_together k e o (L₁.board_settles k w.state o))
  other_call (T.forbidden {b = b}) e = above_together b 2 (says NonFatal B.Nothing) w.state v.state h.state refl
  other_call (T.configured {b = b} a n r) e = above_together b 0 (says Accept B.Nothing) _ _ (reconfigured_alike a n) refl
  other_call (T.cleared {b = b} r) e =
      above_together b 0 None _ _
      (each_alike x (λ k p. p) (λ k p. p) _ _ w.state v.state
      (ap (λ (c : Config). record { r008 = fresh008; r010 = c.r010; r020 = c.r020 }) h.state.config) (λ k p. refl) h.state) refl
  other_call (T.wiped {r = r}) e =
      record {
        alike = refl;
        next = record {
          state = reset_alike x r w.state v.state h.state;
          stores = h.stores;
          room = h.room;
        };
      }
  other_call T.lent e = record { alike = refl; next = record { state = h.state; stores = λ y f. refl; room = λ r. refl } }

-- ---- a call of x's own: it leaves the other parts, the others' stores, and of its own stores whether they are long enough

middle : (a b c : Bool) → (a || (b || c)) ≡ false → b ≡ false
middle true b c e = absurd (true≢false e)
middle false true c e = absurd (true≢false e)
middle false false c e = refl

-- channel 0 alone has stores
no_stores : (y : Channel) → same peripheral y ≡ false → (write read : List ℕ) → stores_of y write read ≡ []
no_stores peripheral e write read = absurd (true≢false e)
no_stores wires e write read = refl

same_stores : (y : Channel) → same peripheral y ≡ false → (write read write' read' : List ℕ) → stores_of y write read ≡ stores_of y write' read'
same_stores y e write read write' read' = no_stores y e write read ∙ sym (no_stores y e write' read')

-- data of k's own stays out of the others' stores
module _ (b write read : List ℕ) where
  abbrev StoresStay : Channel → (List ℕ → List ℕ) → Type 0
  StoresStay y f = (stores_of y (f write) read ≡ stores_of y write read) × (stores_of y write (f read) ≡ stores_of y write read)

  stores_own : (k y : Channel) (kept : Option Kept) → own_kept k kept ≡ true → same k y ≡ false → StoresStay y (over (kept_bytes kept b))
  stores_own k y kept o =
      own_or_other peripheral (λ (z : Channel). same k z ≡ false → StoresStay z (over (kept_bytes kept b)))
      (λ e. kept_other (StoresStay peripheral) k (same_turned k peripheral e) kept b o (refl, refl))
      (λ z n e. (same_stores z n _ _ _ _, same_stores z n _ _ _ _)) y

module _ (k : Channel) (w : World) where
  acts_own : (b r : List ℕ) {p : Part k} {a : Act k} {c : Change k} → Acts k p a c → short_stores r w ≡ false
      → Alike k (performed w b (lift k w.state c)).next w
  unfolding performed lift
  acts_own b r {c = c} d s =
      record {
        state = put_own k (next_of k c) w.state;
        stores = λ y e. (stores_own b w.write w.read k y (out_of k c).kept (kept_own d) e).0;
        room = λ reply. ap (λ (t : Bool). ltb (length reply) reply_length || (t || ltb (length w.read) read_length)) long;
      }
    where
      long : ltb (length (over (kept_bytes (out_of k c).kept b) w.write)) write_length ≡ ltb (length w.write) write_length
      long =
          over_long _ w.write write_length (middle (ltb (length r) reply_length) (ltb (length w.write) write_length) (ltb (length w.read) read_length) s)

      kept_own : {p : Part k} {a : Act k} {c : Change k} → Acts k p a c → own_kept k (out_of k c).kept ≡ true
      kept_own {p = p} L.Acts.refused = ap (λ (out : Out). own_kept k out.kept) (out_change k p _) ∙ (owns k).nothing
      kept_own (L.Acts.accepted q body kept o n) = ap (λ (out : Out). own_kept k out.kept) (out_change k q _) ∙ n

  settled_own : (o : Board k) (x : Change k) → Settled k w.state.config (part k w.state) o x → short_for k o w ≡ false
      → Alike k (served k w o (lift k w.state x)).next w
  unfolding served lift
  settled_own o x d s =
      record {
        state = put_own k (next_of k x) w.state;
        stores = λ y e. (stores_own (given k o) w.write w.read k y (out_of k x).kept (kept_own (L₁.settled k _ _ o x d)) e).1;
        room = λ reply. ap (λ (t : Bool). ltb (length reply) reply_length || (ltb (length w.write) write_length || t)) ((owns k).room w _ _ o x d s);
      }
    where
      kept_own : {p : Part k} {c : Change k} → Settles k p o c → own_kept k (out_of k c).kept ≡ true
      kept_own {p = p} (L.Settles.refused n a b e f) = ap (λ (out : Out). own_kept k out.kept) (out_change k p _) ∙ (owns k).nothing
      kept_own (L.Settles.accepted q kept n) = ap (λ (out : Out). own_kept k out.kept) (out_change k q _) ∙ n

-- a platform reset of the world
abbrev wiped : World → World
wiped w = with_state w (was_reset platform_reset w.state)

module _ (x : Channel) (w : World) where
  no_command : (b : List ℕ) (o : C₀.Command) (op : ℕ) → Admits w.state b o → byte b 0 ≡ op → is_of x op ≡ false → is_command_of x b ≡ true → ⊥
  no_command b o op a e f g = true≢false (sym g ∙ begins x w.state b o a ∙ ap (is_of x) e ∙ f)

  -- what x's own call leaves of the rest: the world as it was, or a platform reset of it
  abbrev Leaves : Call → Outcome → Type 0
  Leaves c o = Alike x o.next (pick (accepted o && lowering w.state c) (wiped w) w)

  by_fall : (c : Call) (o : Outcome) (t : Bool) → accepted o && lowering w.state c ≡ t → Alike x o.next (pick t (wiped w) w) → Leaves c o
  by_fall c o t e h = subst (λ (u : Bool). Alike x o.next (pick u (wiped w) w)) (sym e) h

  module _ (k : Channel) (o : Command k) (b r : List ℕ) (a : Admits w.state b (command_of k o)) where
    abbrev act : Act k
    act = act_of k w.state.config o b

    abbrev c : Change k
    c = acting k w.state.config (part k w.state) act

    abbrev On : Bool → Outcome
    On t = performed w b (pick t (then_reset (put k (next_of k c) w.state)) (lift k w.state c))

    did : Did k w.state.config (part k w.state) act c
    did = Q.did k w.state.config (part k w.state) act

    stays_high : reset_follows k (part k w.state) act (next_of k c) ≡ false → accepted (On false) && lowers_pltrst w.state b ≡ false
    unfolding performed lift
    stays_high f = by (eqb (out_of k c).number 0) refl
      where
        by : (t : Bool) → eqb (out_of k c).number 0 ≡ t → t && lowers_pltrst w.state b ≡ false
        by true n = unlowered k w.state b o c a did f n
        by false n = refl

    goes_low : reset_follows k (part k w.state) act (next_of k c) ≡ true → accepted (On true) && lowers_pltrst w.state b ≡ true
    unfolding performed
    goes_low f = lowers_is k w.state b o c a did f

    reset_own : Alike k (On true).next (wiped w)
    unfolding performed over
    reset_own =
        record {
          state = reset_alike k platform_reset (put k (next_of k c) w.state) w.state (put_own k (next_of k c) w.state);
          stores = λ y e. refl;
          room = λ reply. refl;
        }

    own_acted : same x k ≡ true → short_stores r w ≡ false → Leaves (exchange b r) (T.acted_on k o b w)
    own_acted n s = go (reset_follows k (part k w.state) act (next_of k c)) refl
      where
        go : (t : Bool) → reset_follows k (part k w.state) act (next_of k c) ≡ t → Leaves (exchange b r) (On t)
        go true f = by_fall (exchange b r) (On true) true (goes_low f) (subst (λ (z : Channel). Alike z (On true).next (wiped w)) (same-is x k n) reset_own)
        go false f =
            by_fall (exchange b r) (On false) false (stays_high f)
            (subst (λ (z : Channel). Alike z (On false).next w) (same-is x k n)
            (acts_own k w b r (L₁.acts k w.state.config (part k w.state) act c did) s))

  own_call : {c : Call} {o q : Outcome} → Both w w c o q → is_call_of x c ≡ true → Leaves c o
  unfolding performed served over
  own_call {c} (T.idle n h) e =
      by_fall c (only n w) false (ap (λ (t : Bool). t && lowering w.state c) (ne_eqb n 0 (λ z. omega (arith, h)))) (self x w)
  own_call {c} {o} (T.status {b} a) e = by_fall c o false (no_lowering w.state b (ap (λ (op : ℕ). eqb op 0x04) (reads w.state b _ a))) (self x w)
  own_call {c} {o} (T.register {b} n a) e =
      by_fall c o false (no_lowering w.state b (ap (λ (op : ℕ). eqb op 0x04) (reads w.state b _ a).opcode)) (self x w)
  own_call (T.acted {b} {r} k o s a) e = own_acted k o b r a (sym (own_command x k w.state b o a) ∙ e) s
  own_call {c} {q} (T.settles k o s) e =
      by_fall c q false (and-false (accepted q))
      (subst (λ (z : Channel). Alike z (T.boarded k o w).next w) (same-is x k e) (settled_own k w o _ (Q.settled k _ _ o) s))
  own_call T.forbidden e = self x w
  own_call (T.configured {b} a n r) e = absurd (no_command b _ 0x22 r (reads w.state b _ r).opcode (above x).at22 e)
  own_call (T.cleared {b} r) e = absurd (no_command b _ 0xFF r (reads w.state b _ r) (above x).at_ff e)
  own_call T.wiped e = absurd (true≢false (sym e))
  own_call T.lent e = absurd (true≢false (sym e))

-- ---- an edge that stands against a write

-- of a write's value: it stands against those of operating count 1 with channel 1 on
one_or_none : (n : ℕ) → eqb (n + 1) 1 ≡ eqb n 0
one_or_none n = go (eqb n 0) refl
  where
    go : (t : Bool) → eqb n 0 ≡ t → eqb (n + 1) 1 ≡ t
    go true e = eq-eqb (n + 1) 1 (omega (arith, eqb-true n 0 e))
    go false e = ne_eqb (n + 1) 1 (λ q. omega (arith, eqb-false n 0 e))

hindered_value : (s : State) (n a : ℕ)
    → hindered s a n ≡ eqb a 0x020 && (eqb (bits_of 0 0 n) 1 && (eqb (bits_of 21 16 n) 0 && some_line s.wires.lines.edges))
unfolding any_bit
hindered_value s n =
    let waits : Bool = some_line s.wires.lines.edges in
    let r = s.config.r020 in
    by_address (λ (a : ℕ). hindered s a n ≡ eqb a 0x020 && (eqb (bits_of 0 0 n) 1 && (eqb (bits_of 21 16 n) 0 && waits))) refl refl
    (ap₂ (λ (t u : Bool). t && (u && waits)) (on1-written r n ∙ ap (λ (m : ℕ). eqb m 1) (sym (bit-zero n)))
    (ap (λ (m : ℕ). eqb m 1) (count-written r n) ∙ one_or_none (bits_of 21 16 n)))
    (λ a e f g. rw g)

-- by the command's bytes
against_as : (s : State) (b : List ℕ) (a n : ℕ) → Writes b a n → writes_against s b ≡ hindered s a n
against_as s b a n h =
    ap (λ (op : ℕ). eqb op 0x22 && (eqb (register_at b) 0x020 && OfValue (register_value b))) h.opcode
    ∙ ap₂ (λ (m v : ℕ). eqb m 0x020 && OfValue v) (sym h.address) (sym h.value)
    ∙ sym (hindered_value s n a)
  where
    OfValue : ℕ → Bool
    OfValue v = eqb (bits_of 0 0 v) 1 && (eqb (bits_of 21 16 v) 0 && some_line s.wires.lines.edges)

-- so the write is refused for it
refused_for : (w : World) (b r : List ℕ) → short_stores r w ≡ false → (a n : ℕ) → Admits w.state b (C.SetConfiguration a n)
    → hindered w.state a n ≡ true → edge_refuses w (exchange b r) ≡ true
unfolding performed
refused_for w b r l a n e h =
    and_true (eq-eqb (step w (exchange b r)).number 2 two) (against_as w.state b a n (reads w.state b (C.SetConfiguration a n) e) ∙ h)
  where
    two : (step w (exchange b r)).number ≡ 2
    two =
        ap (λ (o : Outcome). o.number) (exchange_long w b r l)
        ∙ ap (λ (p : Plan). p.number) (Q.plan_write w.state b a n e)
        ∙ Q.hindered-number w.state a n h

-- where x is the wires, a world in which no edge waits: nothing is refused for one
abbrev Quiet : Channel → World → Type 0
Quiet x w = same x wires ≡ true → any_edge w.state.wires.lines ≡ false

none_hindered : (s : State) (a n : ℕ) → any_edge s.wires.lines ≡ false → hindered s a n ≡ false
none_hindered s a n e = falls (eqb a 0x020) (on1 (write_at s.config a n).r020) (eqb (operating_count (write_at s.config a n).r020) 1) _ e
  where
    falls : (p q r t : Bool) → t ≡ false → p && (q && (r && t)) ≡ false
    falls true true true t f = f
    falls true true false t f = refl
    falls true false r t f = refl
    falls false q r t f = refl

-- a call that is refused for none in w is the same case in a quiet world; of another channel than the wires the edges are the same
module _ (x : Channel) (w v : World) (h : Alike x w v) (q : Quiet x v) where
  write_hindrance : (b r : List ℕ) → (same x wires ≡ true → edge_refuses w (exchange b r) ≡ false) → short_stores r w ≡ false → (a n : ℕ)
      → Admits w.state b (C.SetConfiguration a n) → hindered w.state a n ≡ hindered v.state a n
  write_hindrance b r f l a n e = by (same x wires) refl
    where
      free : same x wires ≡ true → (t : Bool) → hindered w.state a n ≡ t → t ≡ false
      free i true g = sym (refused_for w b r l a n e g) ∙ f i
      free i false g = refl

      by : (t : Bool) → same x wires ≡ t → hindered w.state a n ≡ hindered v.state a n
      by true i = free i (hindered w.state a n) refl ∙ sym (none_hindered v.state a n (q i))
      by false i =
          ap (λ (z : Config). eqb a 0x020 && edge_hinders (write_at z a n) w.state.wires) h.state.config
          ∙ ap (λ (p : AllWires). eqb a 0x020 && edge_hinders (write_at v.state.config a n) p) (h.state.parts wires i)

  same_hindrance : (d : Call) → (same x wires ≡ true → edge_refuses w d ≡ false) → SameHindrance w v d
  same_hindrance (reset r) f = tt
  same_hindrance (exchange b r) f = write_hindrance b r f
  same_hindrance (board k o) f = tt
  same_hindrance (short state d) f = tt
  same_hindrance (lend write read) f = tt

self_hindrance : (w : World) (c : Call) → SameHindrance w w c
self_hindrance w (reset r) = tt
self_hindrance w (exchange b r) = λ l a n e. refl
self_hindrance w (board k o) = tt
self_hindrance w (short state c) = tt
self_hindrance w (lend write read) = tt

-- a call that is not the wires' lets no edge wait
module _ (w : World) (none : any_edge w.state.wires.lines ≡ false) where
  abbrev NoEdge : AllWires → Type 0
  NoEdge p = any_edge p.lines ≡ false

  enabled_none : (was is : Bool) → NoEdge (enable_edge wires was is w.state.wires)
  enabled_none true true = none
  enabled_none true false = no_bits
  enabled_none false true = no_bits
  enabled_none false false = none

  reset_none : (r : Reset) → NoEdge (N.reset wires r w.state.wires)
  reset_none start = no_bits
  reset_none espi_reset = no_bits
  reset_none platform_reset = no_bits

  put_none : (k : Channel) (p : Part k) → same wires k ≡ false → NoEdge (put k p w.state).wires
  put_none k p e = subst NoEdge (sym (part_stays k wires p w.state (same_turned wires k e))) none

  case_none : {c : Call} {o : Outcome} → Case w c o → is_call_of wires c ≡ false → NoEdge o.next.state.wires
  unfolding performed served lift
  case_none (S.idle n q) e = none
  case_none (S.shown q) e = none
  case_none (S.acted {b} k o x a d f) e = put_none k (next_of k x) (sym (own_command wires k w.state b o a) ∙ e)
  case_none (S.settles k o x h d) e = put_none k (next_of k x) e
  case_none (S.forbidden a v h f) e = none
  case_none (S.hindered a v h f g) e = none
  case_none (S.configured a v h f g) e = enabled_none (on wires w.state.config) (on wires (write_at w.state.config a v))
  case_none (S.lowered {b} o x a d) e = absurd (true≢false (sym (own_command wires wires w.state b o a) ∙ e))
  case_none (S.cleared h) e = none
  case_none (S.wiped {r}) e = reset_none r
  case_none S.lent e = none

quiet_next : (x : Channel) (w : World) → Quiet x w → (c : Call) → is_call_of x c ≡ false → Quiet x (step w c).next
quiet_next x w q c e i = case_none w (q i) (cases w c) (ap (λ (z : Channel). is_call_of z c) (same-is x wires i) ∙ e)

-- the quiet world of a world: x's own replaced
abbrev calmed : (x : Channel) → Part x → Part x
calmed peripheral p = p
calmed wires p = with_lines p (dropped p.lines)

abbrev quieted : Channel → World → World
quieted x w = with_state w (put x (calmed x (part x w.state)) w.state)

quieted-quiet : (x : Channel) (w : World) → Quiet x (quieted x w)
quieted-quiet peripheral w e = absurd (true≢false (sym e))
quieted-quiet wires w e = no_bits

quieted_alike : (x : Channel) (w : World) → Alike x w (quieted x w)
quieted_alike x w = turned (record { state = put_own x (calmed x (part x w.state)) w.state; stores = λ y e. refl; room = λ r. refl })

-- ---- runs: a run shows what it shows without x's calls

same_room : (x : Channel) (w v : World) → Alike x w v → (c : Call) → is_call_of x c ≡ false → SameRoom w v c
same_room x w v h (reset r) e = tt
same_room x w v h (exchange b r) e = h.room r
same_room x w v h (board k o) e = (owns k).short_alike_lem w v o (h.stores k e)
same_room x w v h (short state c) e = tt
same_room x w v h (lend write read) e = tt

self_room : (w : World) (c : Call) → SameRoom w w c
self_room w (reset r) = tt
self_room w (exchange b r) = refl
self_room w (board k o) = refl
self_room w (short state c) = tt
self_room w (lend write read) = tt

-- what remains of a call: nothing, or one call that is not x's and leaves the same of what is not x's
data Left (x : Channel) (w : World) (c : Call) : List Call → Type 0 where
  nothing : Alike x (step w c).next w → Left x w c []
  one : (d : Call) → is_call_of x d ≡ false → (edge_refuses w c ≡ false → edge_refuses w d ≡ false) → Alike x (step w c).next (step w d).next
      → Left x w c (d ∷ [])

left_of_lem : (x : Channel) (w : World) (c : Call) → Left x w c (remaining x w c)
left_of_lem x w c = by (is_call_of x c) refl
  where
    fallen : (t : Bool) → Alike x (step w c).next (pick t (wiped w) w) → Left x w c (pick t (reset platform_reset ∷ []) [])
    fallen true h =
        one (reset platform_reset) refl (λ e. and-false (eqb (step w (reset platform_reset)).number 2))
        (subst (λ (o : Outcome). Alike x (step w c).next o.next) (sym (reset-is w platform_reset)) h)
    fallen false h = nothing h

    by : (t : Bool) → is_call_of x c ≡ t → Left x w c (pick t (pick (pltrst_falls w c) (reset platform_reset ∷ []) []) (c ∷ []))
    by true e = fallen (pltrst_falls w c) (own_call x w (both w w c refl (self_room w c) (self_hindrance w c)) e)
    by false e = one c e (λ f. f) (self x (step w c).next)

-- a call that is not x's
remaining_other : (x : Channel) (w : World) (c : Call) → is_call_of x c ≡ false → remaining x w c ≡ c ∷ []
remaining_other x w c e = rw e

module _ (x : Channel) (w : World) (c : Call) (cs : List Call) where
  remains_as : {l : List Call} → remaining x w c ≡ l → remains x w (c ∷ cs) ≡ l ++ remains x (step w c).next cs
  unfolding remains
  remains_as e = ap (λ (z : List Call). z ++ remains x (step w c).next cs) e

  seeing_as : {l : List Call} → remaining x w c ≡ l → seeing x w (c ∷ cs) ≡ map (λ (d : Call). seen x (step w d)) l ++ seeing x (step w c).next cs
  unfolding seeing
  seeing_as e = ap (λ (z : List Call). map (λ (d : Call). seen x (step w d)) z ++ seeing x (step w c).next cs) e

-- a run against what remains of it from a quiet world
sifted : (x : Channel) (cs : List Call) (w v : World) → Alike x w v → Unhindered x w cs → Quiet x v → RunsAlike x (Alike x) w v cs (remains x w cs)
unfolding remains seeing run
sifted x [] w v h f q = record { calls = refl; after = h }
sifted x (c ∷ cs) w v h f q = go (remaining x w c) refl (left_of_lem x w c) (sifted x cs)
  where
    Rest : Type 0
    Rest = (w v : World) → Alike x w v → Unhindered x w cs → Quiet x v → RunsAlike x (Alike x) w v cs (remains x w cs)

    later : Unhindered x (step w c).next cs
    later i = tail_without edge_refuses w c cs (f i)

    go : (l : List Call) → remaining x w c ≡ l → Left x w c l → Rest → RunsAlike x (Alike x) w v (c ∷ cs) (remains x w (c ∷ cs))
    go l e (nothing a) rest =
        let r = rest (step w c).next v (joined a h) later q in
        subst (RunsAlike x (Alike x) w v (c ∷ cs)) (sym (remains_as x w c cs e)) (record { calls = seeing_as x w c cs e ∙ r.calls; after = r.after })
    go l e (one d n g a) rest =
        let free = same_hindrance x w v h q d (λ i. g (head_without edge_refuses w c cs (f i))) in
        let o = other_call x w v h (both w v d h.state.config (same_room x w v h d n) free) n in
        let r = rest (step w c).next (step v d).next (joined a o.next) later (quiet_next x v q d n) in
        subst (RunsAlike x (Alike x) w v (c ∷ cs)) (sym (remains_as x w c cs e))
        (record {
          calls =
              seeing_as x w c cs e
              ∙ ap (λ (z : Seen). z ∷ seeing x (step w c).next cs) o.alike
              ∙ ap (λ (z : List Seen). seen x (step v d) ∷ z) r.calls
              ∙ sym (seeing_as x v d (remains x (step w c).next cs) (remaining_other x v d n));
          after = r.after;
        })

pub none_tells : NoneTells
none_tells x w v cs ds h f g e =
    let u = quieted x v in
    let k = quieted_alike x v in
    let q = quieted-quiet x v in
    let a = sifted x cs w u (joined h k) f q in
    let b = subst (RunsAlike x (Alike x) v u ds) (sym e) (sifted x ds v u k g q) in
    record { calls = a.calls ∙ sym b.calls; after = joined a.after (turned b.after) }

-- ---- P22 and its mirror

to_wires : {w v : World} → SameButWires w v → Alike wires w v
to_wires {w} {v} h =
    record {
      state = h.state;
      stores = λ y e. ap (λ (l : List ℕ). stores_of y l w.read) h.write ∙ ap (stores_of y v.write) h.read;
      room = λ reply. ap (λ (l : List ℕ). lacks reply l w.read) h.write ∙ ap (lacks reply v.write) h.read;
    }

from_wires : {w v : World} → Alike wires w v → SameButWires w v
from_wires h =
    record {
      state = h.state;
      write = ap (λ (l : List (List ℕ)). get_or l 0 []) (h.stores peripheral refl);
      read = ap (λ (l : List (List ℕ)). get_or l 1 []) (h.stores peripheral refl);
    }

pub wires_apart : WiresApart
wires_apart w v cs ds h f g e =
    let r = none_tells wires w v cs ds (to_wires h) (λ i. f) (λ i. g) e in record { calls = r.calls; after = from_wires r.after }

-- of channel 0's own calls none lowers PLTRST#
first_opcode : (b : List ℕ) → is_command_of peripheral b ≡ true → is_of peripheral (byte b 0) ≡ true
first_opcode [] e = absurd (true≢false (sym e))
first_opcode (op ∷ rest) e = e

peripheral_high : (s : State) (c : Call) → is_call_of peripheral c ≡ true → lowering s c ≡ false
peripheral_high s (reset r) e = refl
peripheral_high s (exchange b r) e = no_lowering s b (outside (is_of peripheral) (byte b 0) 0x04 refl (first_opcode b e))
peripheral_high s (board k o) e = refl
peripheral_high s (short state c) e = refl
peripheral_high s (lend write read) e = refl

-- so what remains is the run without them
pub remains-others : (cs : List Call) (w : World) → remains peripheral w cs ≡ others peripheral cs
unfolding remains others
remains-others [] w = refl
remains-others (c ∷ cs) w = by (is_call_of peripheral c) refl (remains-others cs (step w c).next)
  where
    by : (t : Bool) → is_call_of peripheral c ≡ t → remains peripheral (step w c).next cs ≡ others peripheral cs
        → pick t (pick (pltrst_falls w c) (reset platform_reset ∷ []) []) (c ∷ []) ++ remains peripheral (step w c).next cs
        ≡ pick t (others peripheral cs) (c ∷ others peripheral cs)
    by true e h =
        ap (λ (u : Bool). pick u (reset platform_reset ∷ []) [] ++ remains peripheral (step w c).next cs)
        (ap (λ (u : Bool). accepted (step w c) && u) (peripheral_high w.state c e) ∙ and-false (accepted (step w c))) ∙ h
    by false e h = ap (λ (l : List Call). c ∷ l) h

to_peripheral : {w v : World} → SameButPeripheral w v → Alike peripheral w v
to_peripheral {w} {v} h = record { state = h.state; stores = λ y e. same_stores y e w.write w.read v.write v.read; room = h.room }

from_peripheral : {w v : World} → Alike peripheral w v → SameButPeripheral w v
from_peripheral h = record { state = h.state; room = h.room }

pub peripheral_apart : PeripheralApart
peripheral_apart w v cs ds h e =
    let r = none_tells peripheral w v cs ds (to_peripheral h) (free w cs) (free v ds) (remains-others cs w ∙ e ∙ sym (remains-others ds v)) in
    record { calls = r.calls; after = from_peripheral r.after }
  where
    free : (u : World) (l : List Call) → Unhindered peripheral u l
    free u l i = absurd (true≢false (sym i))
