-- How the code goes round over the wires' bytes, and that each step leaves the same still to come: the packet of document 01.
use Rattle.std.specs.Prelude.{ℕ, zero, suc, ◌+◌, ◌-◌, ◌*◌, ◌/◌, ◌%◌, ◌^◌, ◌≤◌, ◌<◌, Bool, true, false, ◌&&◌, ◌≡◌, eqb, leb, get_or, set, length}
use mathlib.Core.List.{List, [], ◌∷◌, ◌++◌}
use Rattle.std.proofs.Math.Path.{refl, sym, ap}
use Rattle.std.proofs.Common.{subst, ◌∙◌, div-le_self, length-set, eqb-true, eq-eqb, ne_eqb, lt-ltb, le-ltb, leb-true}
use native.Mathlib.Omega.{arith}
use Rattle.std.specs.Int.Bits.{bit_and}
use Rattle.std.proofs.lemmas.List.{set-get_or}
use Rattle.std.proofs.lemmas.List.Edits.{sets-eq}
use Rattle.base.specs.Pick.{pick, pick_ind, and_left, and_right, and_true}
use Rattle.base.specs.Bytes.{put, put_none, put-put, length-put, number8}
use Rattle.wires.specs.Below.{at_both, at_every}
use Rattle.wires.specs.Table.{senders, is_line, is_up, group_at}
use Rattle.wires.specs.Rows.{sender}
use Rattle.wires.specs.Turn.{turn, after, sizes}
use Rattle.wires.specs.Round.{steps, after_below, turn_full}
use Rattle.wires.specs.Steps.{turn-over, turn_none, turn_closes, turn-takes, turn_past, turn-same, turn_gives, steps_apart, steps_below}
use Rattle.wires.specs.Kept.{set_cases}
use Rattle.wires.specs.Groups.{level_at, mark_at, group_byte, pair_at}
use Rattle.wires.specs.Lines.{line_bit, line_value, line_entry, line_entries, map_in, lines_in}
use Rattle.wires.specs.Senders.{AllWires, sender_size, waiting, sent_from, left_by, after_sent, entries_of, pair_bytes, entries}
use Rattle.wires.specs.Layout.{wires_in, all_in, all_bytes, tidy_wires}
use Rattle.wires.specs.Sent.{left_other, size_other, entries_other, size-some, entry_length, entries_most}
use Rattle.wires.specs.Places.{placed, cleared, cleared-length, cleared_low, cleared-map, cleared-bytes, cleared_hides, put_hides, line_get, line_left_lem, group_left_lem, group_mark, group_level, group_number, place_set_value, place_set}
use Rattle.wires.specs.declared.Going.{Going}
use Rattle.wires.specs.declared.Packet.{Packet}

-- ---- what `send` asks and gives

-- what a packet's code asks: soundness gives it; at most 64 entries (004, 4.2.2: "up to 64 groups"), which the reply has room for behind their count
pub record Sendable (l r : List ℕ) (p : Packet) : Type 0 where
  pub long : 174 ≤ length l
  pub room : 2 + p.capacity * 2 ≤ length r
  pub below : p.place < 259
  pub most : p.capacity ≤ 64
  pub tidy : tidy_wires l ≡ true
  pub small : (i : ℕ) → is_up i ≡ true → level_at (wires_in l) i < 16

-- the packet's senders are sent, from the wires as they were: their entries stand in the reply, they wait no more, and the place follows the last
-- (01, Wires: GET_VWIRE; 02, Q-4)
pub record PacketSent (l r : List ℕ) (p : Packet) (l' r' : List ℕ) (n : ℕ) : Type 0 where
  pub state : l' ≡ put 64 (all_bytes (after_sent (all_in l) (sent_from (all_in l) p.place p.capacity))) l
  pub reply : r' ≡ put 2 (pair_bytes (all_in l) (sent_from (all_in l) p.place p.capacity)) r
  pub count : n ≡ entries (all_in l) (sent_from (all_in l) p.place p.capacity)
  pub most : n ≤ 64

-- ---- runs of lines that do not wait

-- eight lines begin at n, and none of them waits (docs/STATE.md: the byte)
abbrev pub empty_byte : List ℕ → ℕ → Bool
empty_byte l n = eqb (n % 8) 0 && eqb (get_or l (110 + n / 8) 0) 0

-- 64 lines begin at n, and none of them waits (docs/STATE.md: eight bytes)
abbrev pub empty_word : List ℕ → ℕ → Bool
empty_word l n = eqb (n % 64) 0 && eqb (number8 (110 + n / 8) l) 0

-- none of the k lines from n on waits, and they are some of the `left` that are still to be asked (01, Wires: "going round")
pub record Quiet (l : List ℕ) (n left k : ℕ) : Type 0 where
  pub some : 0 < k
  pub most : k ≤ left
  pub below : n + k ≤ 256
  pub quiet : (j : ℕ) → j < k → waiting (all_in l) (n + j) ≡ false

-- ---- what is still to come

-- the senders that are still taken (01, Wires: "going round")
unfoldable pub rest_of : List ℕ → Going → List ℕ
rest_of l g = turn (sender_size (all_in l)) (waiting (all_in l)) senders g.left g.room g.sender

-- the state's bytes when they are sent (01, Wires: "and their pending marks go")
unfoldable pub state_end : List ℕ → Going → List ℕ
state_end l g = put 64 (all_bytes (after_sent (placed l g.place) (rest_of l g))) l

-- the reply's bytes (01, Commands: "index and data pairs")
unfoldable pub reply_end : (l r : List ℕ) → Going → List ℕ
reply_end l r g = put g.at (pair_bytes (all_in l) (rest_of l g)) r

-- where the last entry ends (01, Commands: "index and data pairs")
unfoldable pub count_end : List ℕ → Going → ℕ
count_end l g = g.at + entries (all_in l) (rest_of l g) * 2

-- what each step asks, and keeps: while there are senders to be asked there is room for an entry (docs/STATE.md; 01, Sound state)
pub record InRange (l r : List ℕ) (g : Going) : Type 0 where
  pub long : 174 ≤ length l
  pub bytes : (k : ℕ) → get_or l k 0 < 256
  pub marks : (k : ℕ) → k < 6 → get_or l (70 + k) 0 ≤ 1
  pub small : (k : ℕ) → k < 3 → get_or l (66 + k) 0 < 16
  pub here : g.sender < 259
  pub most : g.left ≤ 259
  pub holds : 0 < g.left → 0 < g.room
  pub behind : 2 ≤ g.at
  pub room : g.at + g.room * 2 ≤ length r
  pub ends : g.at + g.room * 2 ≤ 130

-- the sender asked is a line whose edge waits (02, Q-4: "two entries in one packet")
pub record AtEdge (l r : List ℕ) (g : Going) : Type 0 where
  pub range : InRange l r g
  pub more : 0 < g.left
  pub line : g.sender < 256
  pub waits : line_value (map_in 110 l) g.sender ≡ 1
  pub edge : line_value (map_in 142 l) g.sender ≡ 1

-- a step: nearer the end, with the same still to come (01, Wires: GET_VWIRE)
pub record Stepped (l r : List ℕ) (g : Going) (l' r' : List ℕ) (g' : Going) : Type 0 where
  pub state : state_end l' g' ≡ state_end l g
  pub reply : reply_end l' r' g' ≡ reply_end l r g
  pub count : count_end l' g' ≡ count_end l g
  pub range : InRange l' r' g'
  pub less : g'.left < g.left
  pub same_state : length l' ≡ length l
  pub same_reply : length r' ≡ length r

-- ---- what becomes of the going round

-- a full packet asks no sender more (01, Wires: "min(pending, operating count)")
abbrev pub left_for : (room left : ℕ) → ℕ
left_for room left = pick (eqb room 0) 0 left

-- k senders are not asked again: they do not wait (01, Wires: "going round"), or one does not fit and "A packet closes" (02, Q-4)
abbrev pub passed : Going → ℕ → ℕ → Going
passed g next k = record { sender = next; left = g.left - k; room = g.room; at = g.at; place = g.place }

-- the sender is taken, with n entries (01, Wires: "sends .. groups"; 02, Q-4)
abbrev pub took : Going → ℕ → ℕ → Going
took g next n = record { sender = next; left = left_for (g.room - n) (g.left - 1); room = g.room - n; at = g.at + n * 2; place = next }

-- ---- what is asked from here on does not see the one that is sent

-- the senders still taken, over any wires (01, Wires: "going round")
abbrev from : AllWires → ℕ → ℕ → ℕ → List ℕ
from w left room i = turn (sender_size w) (waiting w) senders left room i

module _ (w : AllWires) (i left : ℕ) (hi : i < senders) (hl : left < senders) where
  apart : (j : ℕ) → j < left → (steps senders j (after senders i) ≡ i → ⊥) × (steps senders j (after senders i) < senders)
  unfolding steps
  apart j h = (steps_apart senders i (suc j) hi (omega arith) (omega arith), steps_below senders j (after senders i) (after_below senders i hi))

  from-left : (room : ℕ) → from (left_by w i) left room (after senders i) ≡ from w left room (after senders i)
  from-left room =
      turn-same senders (sender_size (left_by w i)) (sender_size w) (waiting (left_by w i)) (waiting w) left room (after senders i)
      (λ j h. let a = apart j h in
      (left_other w i (steps senders j (after senders i)) hi a.1 a.0, size_other w i (steps senders j (after senders i)) hi a.1 a.0))

  pairs-left : (room : ℕ) → pair_bytes (left_by w i) (from w left room (after senders i)) ≡ pair_bytes w (from w left room (after senders i))
  unfolding pair_bytes
  pairs-left room =
      turn_gives senders (sender_size w) (waiting w) (pair_bytes (left_by w i)) (pair_bytes w) left room (after senders i) refl
      (λ j h xs e. let a = apart j h in
      let k = steps senders j (after senders i) in
      ap (λ (ys : List ℕ). ys ++ pair_bytes (left_by w i) xs) (entries_other w i k hi a.1 a.0) ∙ ap (λ (ys : List ℕ). entries_of w k ++ ys) e)

  entries-left : (room : ℕ) → entries (left_by w i) (from w left room (after senders i)) ≡ entries w (from w left room (after senders i))
  unfolding sizes
  entries-left room =
      turn_gives senders (sender_size w) (waiting w) (entries (left_by w i)) (entries w) left room (after senders i) refl
      (λ j h xs e. let a = apart j h in
      let k = steps senders j (after senders i) in
      ap (λ (x : ℕ). x + entries (left_by w i) xs) (size_other w i k hi a.1 a.0) ∙ ap (λ (x : ℕ). sender_size w k + x) e)

-- where the room is gone it does not matter how many are left
from_full : (w : AllWires) (left room i : ℕ) → from w (left_for room left) room i ≡ from w left room i
from_full w left zero i = turn-over (sender_size w) (waiting w) senders 0 i ∙ sym (turn_full (sender_size w) (waiting w) senders left i (size-some w))
from_full w left (suc room) i = ap (λ (b : Bool). from w (pick b 0 left) (suc room) i) (ne_eqb (suc room) 0 (λ e. omega arith))

left_room : (room left : ℕ) → 0 < left_for room left → 0 < room
left_room zero left h = absurd (omega arith)
left_room (suc room) left h = omega arith

left_most : (room left : ℕ) → left_for room left ≤ left
left_most room left = pick_ind (λ (x : ℕ). x ≤ left) (eqb room 0) (λ _. omega arith) (λ _. omega arith)

-- the place is no part of what is sent
pairs-placed : (l : List ℕ) (q : ℕ) (ks : List ℕ) → pair_bytes (placed l q) ks ≡ pair_bytes (all_in l) ks
unfolding pair_bytes
pairs-placed l q [] = refl
pairs-placed l q (k ∷ ks) = ap (λ (ys : List ℕ). entries_of (all_in l) k ++ ys) (pairs-placed l q ks)

-- ---- the steps

module _ (l r : List ℕ) (g : Going) (range : InRange l r g) (more : 0 < g.left) where
  abbrev i : ℕ
  i = g.sender

  -- the same wires, bytes and place, with the same still taken
  same_rest : (g' : Going) → rest_of l g' ≡ rest_of l g → g'.at ≡ g.at → g'.place ≡ g.place → g'.room ≡ g.room → g'.left < g.left → g'.sender < 259
      → Stepped l r g l r g'
  unfolding state_end reply_end count_end
  same_rest g' e a p m less here =
      record {
        state = ap (λ (q : ℕ). put 64 (all_bytes (after_sent (placed l q) (rest_of l g'))) l) p
            ∙ ap (λ (ks : List ℕ). put 64 (all_bytes (after_sent (placed l g.place) ks)) l) e;
        reply = ap (λ (x : ℕ). put x (pair_bytes (all_in l) (rest_of l g')) r) a ∙ ap (λ (ks : List ℕ). put g.at (pair_bytes (all_in l) ks) r) e;
        count = ap (λ (x : ℕ). x + entries (all_in l) (rest_of l g') * 2) a ∙ ap (λ (ks : List ℕ). g.at + entries (all_in l) ks * 2) e;
        range = record {
          long = range.long;
          bytes = range.bytes;
          marks = range.marks;
          small = range.small;
          here = here;
          most = omega (arith, range.most);
          holds = λ _. omega (arith, range.holds more);
          behind = omega (arith, range.behind);
          room = omega (arith, range.room);
          ends = omega (arith, range.ends);
        };
        less = less;
        same_state = refl;
        same_reply = refl;
      }

  -- one that waits and does not fit: none of those left is asked
  pub full_step : (next : ℕ) → next < 259 → waiting (all_in l) i ≡ true → g.room < sender_size (all_in l) i → Stepped l r g l r (passed g next g.left)
  unfolding rest_of
  full_step next h w f =
      let z : g.left - g.left ≡ 0 = omega arith in
      same_rest (passed g next g.left)
      (ap (λ (x : ℕ). from (all_in l) x g.room next) z
      ∙ turn-over (sender_size (all_in l)) (waiting (all_in l)) senders g.room next
      ∙ sym (turn_closes (sender_size (all_in l)) (waiting (all_in l)) senders g.left g.room i w f))
      refl refl refl (omega arith) h

  -- lines that do not wait
  pub quiet_step : (k : ℕ) → Quiet l i g.left k → Stepped l r g l r (passed g (i + k) k)
  unfolding rest_of
  quiet_step k q =
      let e : k + (g.left - k) ≡ g.left = omega (arith, q.most) in
      same_rest (passed g (i + k) k)
      (sym (turn_past (sender_size (all_in l)) (waiting (all_in l)) senders k (g.left - k) g.room i (omega (arith, q.below)) q.quiet)
      ∙ ap (λ (x : ℕ). from (all_in l) x g.room i) e)
      refl refl refl (omega (arith, q.some, q.most)) (omega (arith, q.below))

  -- a group that does not wait
  pub passed-step : (next : ℕ) → next ≡ after senders i → next < 259 → waiting (all_in l) i ≡ false → Stepped l r g l r (passed g next 1)
  unfolding rest_of
  passed-step next e h w =
      same_rest (passed g next 1)
      (ap (λ (x : ℕ). from (all_in l) (g.left - 1) g.room x) e
      ∙ sym (turn_none (sender_size (all_in l)) (waiting (all_in l)) senders g.left g.room i more w))
      refl refl refl (omega arith) h

  -- one that is sent
  module _ (n : ℕ) (l' : List ℕ) (waits : waiting (all_in l) i ≡ true) (size : n ≡ sender_size (all_in l) i) (fits : n ≤ g.room)
      (left : placed l' (after senders i) ≡ left_by (placed l g.place) i) (hides : (w : AllWires) → put 64 (all_bytes w) l' ≡ put 64 (all_bytes w) l) where
    abbrev v : AllWires
    v = placed l g.place

    abbrev t : List ℕ
    t = from v (g.left - 1) (g.room - n) (after senders i)

    abbrev g' : Going
    g' = took g (after senders i) n

    rest_now : rest_of l g ≡ i ∷ t
    unfolding rest_of
    rest_now =
        turn-takes (sender_size (all_in l)) (waiting (all_in l)) senders g.left g.room i more waits (subst (λ (x : ℕ). x ≤ g.room) size fits)
        ∙ ap (λ (x : ℕ). i ∷ from v (g.left - 1) (g.room - x) (after senders i)) (sym size)

    rest_then : rest_of l' g' ≡ t
    unfolding rest_of
    rest_then =
        from_full (all_in l') (g.left - 1) (g.room - n) (after senders i)
        ∙ ap (λ (w : AllWires). from w (g.left - 1) (g.room - n) (after senders i)) left
        ∙ from-left v i (g.left - 1) range.here (omega (arith, range.most)) (g.room - n)

    state_then : state_end l' g' ≡ state_end l g
    unfolding state_end after_sent
    state_then =
        ap (λ (ks : List ℕ). put 64 (all_bytes (after_sent (placed l' (after senders i)) ks)) l') rest_then
        ∙ ap (λ (w : AllWires). put 64 (all_bytes (after_sent w t)) l') left
        ∙ hides (after_sent (left_by v i) t)
        ∙ ap (λ (ks : List ℕ). put 64 (all_bytes (after_sent v ks)) l) (sym rest_now)

    entry_fits : g.at + length (entries_of (all_in l) i) ≡ g.at + n * 2
    entry_fits = omega (arith, entry_length (all_in l) i)

    reply_then : reply_end l' (put g.at (entries_of (all_in l) i) r) g' ≡ reply_end l r g
    unfolding reply_end pair_bytes
    reply_then =
        let es = entries_of (all_in l) i in
        let q = g.at + n * 2 in
        ap (λ (ks : List ℕ). put q (pair_bytes (all_in l') ks) (put g.at es r)) rest_then
        ∙ ap (λ (xs : List ℕ). put q xs (put g.at es r))
        (sym (pairs-placed l' (after senders i) t) ∙ ap (λ (w : AllWires). pair_bytes w t) left
        ∙ pairs-left v i (g.left - 1) range.here (omega (arith, range.most)) (g.room - n)
        ∙ pairs-placed l g.place t)
        ∙ put-put g.at q es (pair_bytes (all_in l) t) r (omega (arith, range.room)) entry_fits
        ∙ ap (λ (ks : List ℕ). put g.at (pair_bytes (all_in l) ks) r) (sym rest_now)

    count-then : count_end l' g' ≡ count_end l g
    unfolding count_end sizes
    count-then =
        let a = ap (entries (all_in l')) rest_then in
        let b : entries (all_in l') t ≡ entries (all_in l) t =
        ap (λ (w : AllWires). entries w t) left ∙ entries-left v i (g.left - 1) range.here (omega (arith, range.most)) (g.room - n) in
        let c = ap (entries (all_in l)) rest_now in
        omega arith

    pub taken_step : length l' ≡ length l → ((k : ℕ) → get_or l' k 0 < 256) → ((k : ℕ) → k < 6 → get_or l' (70 + k) 0 ≤ 1)
        → ((k : ℕ) → k < 3 → get_or l' (66 + k) 0 < 16) → Stepped l r g l' (put g.at (entries_of (all_in l) i) r) g'
    taken_step same bytes marks small =
        let m = length-put g.at (entries_of (all_in l) i) r (omega (arith, entry_fits, range.room)) in
        record {
          state = state_then;
          reply = reply_then;
          count = count-then;
          range = record {
            long = omega (arith, range.long);
            bytes = bytes;
            marks = marks;
            small = small;
            here = after_below senders i range.here;
            most = omega (arith, left_most (g.room - n) (g.left - 1), range.most);
            holds = left_room (g.room - n) (g.left - 1);
            behind = omega (arith, range.behind);
            room = omega (arith, range.room);
            ends = omega (arith, range.ends);
          };
          less = omega (arith, left_most (g.room - n) (g.left - 1));
          same_state = same;
          same_reply = m;
        }

-- ---- a line that waits

line_is : (n : ℕ) → n < 256 → is_line n ≡ true
line_is n h = lt-ltb n 256 h

-- what is said of a line, at its bytes
line_waits_lem : (l : List ℕ) (n v : ℕ) → n < 256 → line_value (map_in 110 l) n ≡ v → waiting (all_in l) n ≡ eqb v 1
line_waits_lem l n v h e =
    ap (λ (b : Bool). pick b (line_bit (map_in 110 l) n) (mark_at (wires_in l) (group_at n))) (line_is n h) ∙ ap (λ (x : ℕ). eqb x 1) e

line_edge : (l : List ℕ) (n : ℕ) (b : Bool) → n < 256 → line_bit (map_in 142 l) n ≡ b → sender_size (all_in l) n ≡ pick b 2 1
line_edge l n b h e = ap (λ (t : Bool). pick t (pick (line_bit (map_in 142 l) n) 2 1) 1) (line_is n h) ∙ ap (λ (t : Bool). pick t 2 1) e

line_bytes : (l : List ℕ) (n : ℕ) (b : Bool) → n < 256 → line_bit (map_in 142 l) n ≡ b
    → let v = line_value (map_in 78 l) n in entries_of (all_in l) n ≡ pick b (line_entry n (1 - v)) [] ++ line_entry n v
line_bytes l n b h e =
    let v = line_value (map_in 78 l) n in
    ap (λ (t : Bool). pick t (line_entries (lines_in l) n) (group_at n ∷ group_byte (wires_in l) (group_at n) ∷ [])) (line_is n h)
    ∙ ap (λ (t : Bool). pick t (line_entry n (1 - v)) [] ++ line_entry n v) e

-- a bit that is 0 already
byte_none : (x k : ℕ) → x < 256 → k < 8 → x / 2 ^ k % 2 ≡ 0 → bit_and x (255 - 2 ^ k) ≡ x
byte_none x k hx hk e =
    let t = at_both 256 8 (λ (a b : ℕ). pick (eqb (a / 2 ^ b % 2) 0) (eqb (bit_and a (255 - 2 ^ b)) a) true) refl x k hx hk in
    eqb-true _ _ (subst (λ (b : Bool). pick b (eqb (bit_and x (255 - 2 ^ k)) x) true ≡ true) (eq-eqb _ 0 e) t)

cleared_none : (at n : ℕ) (l : List ℕ) → n < 256 → get_or l (at + n / 8) 0 < 256 → line_value (map_in at l) n ≡ 0 → cleared at n l ≡ l
unfolding cleared
cleared_none at n l h b e =
    ap (set l (at + n / 8)) (byte_none (get_or l (at + n / 8) 0) (n % 8) b (omega arith) (sym (line_get at n l h) ∙ e)) ∙ set-get_or l (at + n / 8) 0

after_line : (n : ℕ) → n < 256 → after senders n ≡ n + 1
unfolding after
after_line n h = let e : suc n ≡ n + 1 = omega arith in ap (λ (b : Bool). pick b (suc n) 0) (lt-ltb (suc n) senders (omega arith)) ∙ e

-- the same as the code says it
pub after_next : (n : ℕ) → n < 258 → n + 1 ≡ after senders n
unfolding after
after_next n h = let e : n + 1 ≡ suc n = omega arith in e ∙ sym (ap (λ (b : Bool). pick b (suc n) 0) (lt-ltb (suc n) senders (omega arith)))

pub after_last : (n : ℕ) → 258 ≤ n → 0 ≡ after senders n
unfolding after
after_last n h = sym (ap (λ (b : Bool). pick b (suc n) 0) (le-ltb (suc n) senders (omega arith)))

pub put_two : (at a b : ℕ) (l : List ℕ) → at + 2 ≤ length l → set (set l at a) (at + 1) b ≡ put at (a ∷ b ∷ []) l
unfolding put
put_two at a b l h = let e : at + 1 ≡ suc at = omega arith in ap (λ (x : ℕ). set (set l at a) x b) e ∙ sets-eq (a ∷ b ∷ []) l at h

pub bit-cleared : (at n : ℕ) (l : List ℕ) → set l (at + n / 8) (bit_and (get_or l (at + n / 8) 0) (255 - 1 * 2 ^ (n % 8) % 256)) ≡ cleared at n l
unfolding cleared
bit-cleared at n l =
    ap (λ (x : ℕ). set l (at + n / 8) (bit_and (get_or l (at + n / 8) 0) (255 - x)))
    (eqb-true (1 * 2 ^ (n % 8) % 256) (2 ^ (n % 8)) (at_every 8 (λ (k : ℕ). eqb (1 * 2 ^ k % 256) (2 ^ k)) refl (n % 8) (omega arith)))

module _ (l r : List ℕ) (g : Going) (range : InRange l r g) (more : 0 < g.left) where
  -- what the code has made is what a step makes
  made : {l₀ r₀ l₁ r₁ : List ℕ} {g₀ g₁ : Going} → Stepped l r g l₀ r₀ g₀ → l₁ ≡ l₀ → r₁ ≡ r₀ → g₁ ≡ g₀ → Stepped l r g l₁ r₁ g₁
  made {l₀} {r₀} {l₁} {r₁} {g₀} {g₁} s a b c =
      subst (λ (x : List ℕ). Stepped l r g x r₁ g₁) (sym a)
      (subst (λ (x : List ℕ). Stepped l r g l₀ x g₁) (sym b) (subst (λ (x : Going). Stepped l r g l₀ r₀ x) (sym c) s))

  -- lines that do not wait
  pub lines_passed : (k : ℕ) → Quiet l g.sender g.left k → (g' : Going) → g' ≡ passed g (g.sender + k) k → Stepped l r g l r g'
  lines_passed k q g' c = subst (λ (x : Going). Stepped l r g l r x) (sym c) (quiet_step l r g range more k q)

  module _ (line : g.sender < 256) (waits : line_value (map_in 110 l) g.sender ≡ 1) where
    abbrev n : ℕ
    n = g.sender

    abbrev both : List ℕ
    both = cleared 142 n (cleared 110 n l)

    low : (k : ℕ) → k < 110 → get_or both k 0 ≡ get_or l k 0
    low k h = cleared_low 142 n k (cleared 110 n l) (omega arith) ∙ cleared_low 110 n k l h

    sent_line_lem : (size : ℕ) → size ≡ sender_size (all_in l) n → size ≤ g.room
        → Stepped l r g both (put g.at (entries_of (all_in l) n) r) (took g (after senders n) size)
    sent_line_lem size e f =
        taken_step l r g range more size both (line_waits_lem l n 1 line waits) e f (line_left_lem l g.place n line (line_is n line) range.long)
        (λ w. cleared_hides w 142 n (cleared 110 n l) line (omega arith) (omega arith) ∙ cleared_hides w 110 n l line (omega arith) (omega arith))
        (cleared-length 142 n (cleared 110 n l) ∙ cleared-length 110 n l)
        (cleared-bytes 142 n (cleared 110 n l) (cleared-bytes 110 n l range.bytes))
        (λ k h. subst (λ (x : ℕ). x ≤ 1) (sym (low (70 + k) (omega arith))) (range.marks k h))
        (λ k h. subst (λ (x : ℕ). x < 16) (sym (low (66 + k) (omega arith))) (range.small k h))

    -- a line whose edge does not wait: one entry
    pub line_taken : line_value (map_in 142 l) n ≡ 0 → (level : ℕ) → level ≡ line_value (map_in 78 l) n → (l' r' : List ℕ) (g' : Going)
        → l' ≡ cleared 110 n l → r' ≡ put g.at (line_entry n level) r → g' ≡ took g (n + 1) 1 → Stepped l r g l' r' g'
    line_taken edge level e l' r' g' a b c =
        let off : line_bit (map_in 142 l) n ≡ false = ap (λ (x : ℕ). eqb x 1) edge in
        let none : both ≡ cleared 110 n l =
        cleared_none 142 n (cleared 110 n l) line (cleared-bytes 110 n l range.bytes (142 + n / 8))
        (ap (λ (m : List ℕ). line_value m n) (cleared-map 110 142 n l line (λ k x j y z. omega arith)) ∙ edge) in
        made (sent_line_lem 1 (sym (line_edge l n false line off)) (range.holds more)) (a ∙ sym none)
        (b ∙ ap (λ (x : ℕ). put g.at (line_entry n x) r) e ∙ ap (λ (x : List ℕ). put g.at x r) (sym (line_bytes l n false line off)))
        (c ∙ ap (λ (x : ℕ). took g x 1) (sym (after_line n line)))

    -- one whose edge waits: two, the new level first
    pub edge-taken : line_value (map_in 142 l) n ≡ 1 → 2 ≤ g.room → (level : ℕ) → level ≡ line_value (map_in 78 l) n → (l' r' : List ℕ) (g' : Going)
        → l' ≡ both → r' ≡ put g.at (line_entry n (1 - level) ++ line_entry n level) r → g' ≡ took g (n + 1) 2 → Stepped l r g l' r' g'
    edge-taken edge f level e l' r' g' a b c =
        let on : line_bit (map_in 142 l) n ≡ true = ap (λ (x : ℕ). eqb x 1) edge in
        made (sent_line_lem 2 (sym (line_edge l n true line on)) f) a
        (b ∙ ap (λ (x : ℕ). put g.at (line_entry n (1 - x) ++ line_entry n x) r) e ∙ ap (λ (x : List ℕ). put g.at x r) (sym (line_bytes l n true line on)))
        (c ∙ ap (λ (x : ℕ). took g x 2) (sym (after_line n line)))

    -- an edge for which one entry's room is too little
    pub edge_full : line_value (map_in 142 l) n ≡ 1 → g.room < 2 → (g' : Going) → g' ≡ passed g (n + 1) g.left → Stepped l r g l r g'
    edge_full edge f g' c =
        subst (λ (x : Going). Stepped l r g l r x) (sym c)
        (full_step l r g range more (n + 1) (omega arith) (line_waits_lem l n 1 line waits)
        (subst (λ (x : ℕ). g.room < x) (sym (line_edge l n true line (ap (λ (x : ℕ). eqb x 1) edge))) f))

  -- ---- a group

  module _ (group : 256 ≤ g.sender) where
    abbrev k : ℕ
    k = g.sender

    group_is : is_line k ≡ false
    group_is = le-ltb k 256 group

    group_waits : waiting (all_in l) k ≡ eqb (get_or l (k - 184) 0) 1
    group_waits =
        ap (λ (b : Bool). pick b (line_bit (map_in 110 l) k) (mark_at (wires_in l) (group_at k))) group_is ∙ group_mark l k group range.here

    -- one that does not wait
    pub group_passed : (get_or l (k - 184) 0 ≡ 1 → ⊥) → (next : ℕ) → next ≡ after senders k → next < 259 → (g' : Going) → g' ≡ passed g next 1
        → Stepped l r g l r g'
    group_passed e next a b g' c =
        subst (λ (x : Going). Stepped l r g l r x) (sym c) (passed-step l r g range more next a b (group_waits ∙ ne_eqb _ 1 e))

    pub group_taken : get_or l (k - 184) 0 ≡ 1 → (next : ℕ) → next ≡ after senders k → (l' r' : List ℕ) (g' : Going)
        → l' ≡ set l (k - 184) 0 → r' ≡ put g.at (pair_at (k - 252) (get_or l (k - 190) 0)) r → g' ≡ took g next 1 → Stepped l r g l' r' g'
    group_taken e next q l' r' g' a b c =
        let entry : entries_of (all_in l) k ≡ pair_at (k - 252) (get_or l (k - 190) 0) =
        ap (λ (t : Bool). pick t (line_entries (lines_in l) k) (group_at k ∷ group_byte (wires_in l) (group_at k) ∷ [])) group_is
        ∙ ap (λ (x : ℕ). pair_at (group_at k) x) (group_level l k group range.here)
        ∙ ap (λ (x : ℕ). pair_at x (get_or l (k - 190) 0)) (group_number k group range.here) in
        made
        (taken_step l r g range more 1 (set l (k - 184) 0) (group_waits ∙ eq-eqb _ 1 e)
        (sym (ap (λ (t : Bool). pick t (pick (line_bit (map_in 142 l) k) 2 1) 1) group_is)) (range.holds more)
        (group_left_lem l g.place k group range.here group_is range.long)
        (λ w. put_hides w (k - 184) 0 l (omega arith) (omega (arith, range.here)))
        (length-set l (k - 184) 0)
        (λ j. set_cases (λ (x : ℕ). x < 256) l (k - 184) j 0 0 (λ _. omega arith) (range.bytes j))
        (λ j h. set_cases (λ (x : ℕ). x ≤ 1) l (k - 184) (70 + j) 0 0 (λ _. omega arith) (range.marks j h))
        (λ j h. set_cases (λ (x : ℕ). x < 16) l (k - 184) (66 + j) 0 0 (λ _. omega arith) (range.small j h)))
        a (b ∙ ap (λ (x : List ℕ). put g.at x r) (sym entry)) (c ∙ ap (λ (x : ℕ). took g x 1) q)

pub group_up : (k : ℕ) → 256 ≤ k → k < 259 → is_up (k - 252) ≡ true
group_up k a b = ap is_up (sym (group_number k a b)) ∙ (sender k a b).up

pub group_small : (l : List ℕ) (k : ℕ) → ((j : ℕ) → j < 3 → get_or l (66 + j) 0 < 16) → 256 ≤ k → k < 259 → get_or l (k - 190) 0 < 16
group_small l k small a b = let e : 66 + (k - 256) ≡ k - 190 = omega arith in subst (λ (x : ℕ). get_or l x 0 < 16) e (small (k - 256) (omega arith))

-- a pair's two bytes written
pub pair_put : (at i level : ℕ) (e r : List ℕ) → e ≡ pair_at i level → at + 2 ≤ length r
    → set (set r at (get_or e 0 0)) (at + 1) (get_or e 1 0) ≡ put at (pair_at i level) r
pair_put at i level e r q h = put_two at (get_or e 0 0) (get_or e 1 0) r h ∙ ap (λ (x : List ℕ). put at (get_or x 0 0 ∷ get_or x 1 0 ∷ []) r) q

-- ---- runs of lines that do not wait

nothing : (x : ℕ) → 0 / x % 2 ≡ 0
nothing x = omega (arith, div-le_self 0 x)

byte-quiet : (l : List ℕ) (n : ℕ) → n < 256 → get_or l (110 + n / 8) 0 ≡ 0 → waiting (all_in l) n ≡ false
byte-quiet l n h e = line_waits_lem l n 0 h (line_get 110 n l h ∙ ap (λ (x : ℕ). x / 2 ^ (n % 8) % 2) e ∙ nothing (2 ^ (n % 8)))

pub quiet_1 : (l : List ℕ) (n left : ℕ) → n < 256 → 0 < left → line_value (map_in 110 l) n ≡ 0 → Quiet l n left 1
quiet_1 l n left h m e =
    record {
      some = omega arith;
      most = omega arith;
      below = omega arith;
      quiet = λ j q. let z : n + j ≡ n = omega arith in ap (waiting (all_in l)) z ∙ line_waits_lem l n 0 h e;
    }

pub quiet_8 : (l : List ℕ) (n left : ℕ) → n < 256 → 8 ≤ left → empty_byte l n ≡ true → Quiet l n left 8
quiet_8 l n left h m e =
    let a : n % 8 ≡ 0 = eqb-true _ _ (and_left (eqb (n % 8) 0) (eqb (get_or l (110 + n / 8) 0) 0) e) in
    let b : get_or l (110 + n / 8) 0 ≡ 0 = eqb-true _ _ (and_right (eqb (n % 8) 0) (eqb (get_or l (110 + n / 8) 0) 0) e) in
    record {
      some = omega arith;
      most = m;
      below = omega arith;
      quiet = λ j q.
          let z : n / 8 ≡ (n + j) / 8 = omega arith in byte-quiet l (n + j) (omega arith) (ap (λ (x : ℕ). get_or l (110 + x) 0) (sym z) ∙ b);
    }

byte-zero : (m : List ℕ) (at k : ℕ) → number8 at m ≡ 0 → k < 8 → get_or m (at + k) 0 ≡ 0
byte-zero m at zero e h = let z : at + 0 ≡ at = omega arith in ap (λ (x : ℕ). get_or m x 0) z ∙ omega arith
byte-zero m at (suc zero) e h = omega arith
byte-zero m at (suc (suc zero)) e h = omega arith
byte-zero m at (suc (suc (suc zero))) e h = omega arith
byte-zero m at (suc (suc (suc (suc zero)))) e h = omega arith
byte-zero m at (suc (suc (suc (suc (suc zero))))) e h = let z : at + 5 ≡ at + 4 + 1 = omega arith in ap (λ (x : ℕ). get_or m x 0) z ∙ omega arith
byte-zero m at (suc (suc (suc (suc (suc (suc zero)))))) e h = let z : at + 6 ≡ at + 4 + 2 = omega arith in ap (λ (x : ℕ). get_or m x 0) z ∙ omega arith
byte-zero m at (suc (suc (suc (suc (suc (suc (suc zero))))))) e h = let z : at + 7 ≡ at + 4 + 3 = omega arith in ap (λ (x : ℕ). get_or m x 0) z ∙ omega arith
byte-zero m at (suc (suc (suc (suc (suc (suc (suc (suc k)))))))) e h = absurd (omega arith)

pub quiet_64 : (l : List ℕ) (n left : ℕ) → n < 256 → 64 ≤ left → empty_word l n ≡ true → Quiet l n left 64
quiet_64 l n left h m e =
    let a : n % 64 ≡ 0 = eqb-true _ _ (and_left (eqb (n % 64) 0) (eqb (number8 (110 + n / 8) l) 0) e) in
    let b : number8 (110 + n / 8) l ≡ 0 = eqb-true _ _ (and_right (eqb (n % 64) 0) (eqb (number8 (110 + n / 8) l) 0) e) in
    record {
      some = omega arith;
      most = m;
      below = omega arith;
      quiet = λ j q.
          let s : 110 + n / 8 + j / 8 ≡ 110 + (n + j) / 8 = omega arith in
          byte-quiet l (n + j) (omega arith) (ap (λ (x : ℕ). get_or l x 0) (sym s) ∙ byte-zero l (110 + n / 8) (j / 8) b (omega arith));
    }

-- ---- the whole: from what `send` asks to what it gives

tidy-marks : (l : List ℕ) → tidy_wires l ≡ true → (k : ℕ) → k < 6 → get_or l (70 + k) 0 ≤ 1
tidy-marks l e k h =
    let m : ℕ → Bool = λ i. leb (get_or l i 0) 1 in
    let e₁ = and_right (m 70) _ e in
    let e₂ = and_right (m 71) _ e₁ in
    let e₃ = and_right (m 72) _ e₂ in
    let e₄ = and_right (m 73) _ e₃ in
    leb-true (get_or l (70 + k) 0) 1
    (at_every 6 (λ (j : ℕ). m (70 + j))
    (and_true (and_right (m 74) _ e₄) (and_true (and_left (m 74) _ e₄) (and_true (and_left (m 73) _ e₃) (and_true (and_left (m 72) _ e₂)
    (and_true (and_left (m 71) _ e₁) (and_true (and_left (m 70) _ e) refl)))))) k h)

module _ (l r : List ℕ) (p : Packet) (ask : Sendable l r p) (bytes : (k : ℕ) → get_or l k 0 < 256) (q : ℕ)
    (place : q ≡ get_or l 76 0 + get_or l 77 0 * 256) where
  -- going round as a packet begins: nobody asked, all of its room left (01, Wires: "GET_VWIRE")
  abbrev pub begun : Going
  begun = record { sender = p.place; left = left_for p.capacity 259; room = p.capacity; at = 2; place = q }

  abbrev ks : List ℕ
  ks = sent_from (all_in l) p.place p.capacity

  begun_rest : rest_of l begun ≡ ks
  unfolding rest_of sent_from
  begun_rest = from_full (all_in l) senders p.capacity p.place

  begun_range : InRange l r begun
  begun_range =
      record {
        long = ask.long;
        bytes = bytes;
        marks = tidy-marks l ask.tidy;
        small = λ k h. level k h;
        here = ask.below;
        most = omega (arith, left_most p.capacity 259);
        holds = left_room p.capacity 259;
        behind = omega arith;
        room = ask.room;
        ends = omega (arith, ask.most);
      }
    where
      level : (k : ℕ) → k < 3 → get_or l (66 + k) 0 < 16
      level k h =
          let i = 256 + k in
          let e : i - 190 ≡ 66 + k = omega arith in
          subst (λ (x : ℕ). get_or l x 0 < 16) e
          (subst (λ (x : ℕ). x < 16) (group_level l i (omega arith) (omega arith)) (ask.small (group_at i) (sender i (omega arith) (omega arith)).up))

  pub first_range : (g₀ : Going) → g₀ ≡ begun → InRange l r g₀
  first_range g₀ e = subst (λ (x : Going). InRange l r x) (sym e) begun_range

  sent-all : (l' r' : List ℕ) (g : Going) → g.left ≡ 0 → InRange l' r' g → state_end l' g ≡ state_end l begun → reply_end l' r' g ≡ reply_end l r begun
      → count_end l' g ≡ count_end l begun → (s : List ℕ) → s ≡ place_set_value l' g.place → (n : ℕ) → n ≡ (g.at - 2) / 2 → PacketSent l r p s r' n
  unfolding rest_of state_end reply_end count_end after_sent pair_bytes sizes
  sent-all l' r' g z range state reply count s e n f =
      let over : rest_of l' g ≡ [] =
      ap (λ (x : ℕ). from (all_in l') x g.room g.sender) z ∙ turn-over (sender_size (all_in l')) (waiting (all_in l')) senders g.room g.sender in
      let none = ap (entries (all_in l')) over in
      let all = ap (entries (all_in l)) begun_rest in
      let many : n ≡ entries (all_in l) ks = omega (arith, range.behind) in
      record {
        state = e ∙ place_set l' g.place range.long range.bytes range.marks
            ∙ ap (λ (xs : List ℕ). put 64 (all_bytes (after_sent (placed l' g.place) xs)) l') (sym over)
            ∙ state
            ∙ ap (λ (x : ℕ). put 64 (all_bytes (after_sent (placed l x) (rest_of l begun))) l) place
            ∙ ap (λ (xs : List ℕ). put 64 (all_bytes (after_sent (all_in l) xs)) l) begun_rest;
        reply = sym (put_none g.at r')
            ∙ ap (λ (xs : List ℕ). put g.at (pair_bytes (all_in l') xs) r') (sym over)
            ∙ reply
            ∙ ap (λ (xs : List ℕ). put 2 (pair_bytes (all_in l) xs) r) begun_rest;
        count = many;
        most = omega (arith, entries_most (all_in l) p.place p.capacity, ask.most);
      }

  -- where the loop ends
  pub send-done : (g₀ : Going) → g₀ ≡ begun → (l' r' : List ℕ) (g : Going) → g.left ≤ 0 → InRange l' r' g
      → state_end l' g ≡ state_end l g₀ → reply_end l' r' g ≡ reply_end l r g₀ → count_end l' g ≡ count_end l g₀
      → PacketSent l r p (set (set l' 76 (g.place % 256)) 77 (g.place / 256 % 256)) r' ((g.at - 2) / 2)
  unfolding place_set_value
  send-done g₀ e l' r' g z range state reply count =
      sent-all l' r' g (omega arith) range (state ∙ ap (state_end l) e) (reply ∙ ap (reply_end l r) e) (count ∙ ap (count_end l) e) _ refl _ refl
