-- P20: which senders a GET_VWIRE takes, as what bytes, and what it leaves.
use Rattle.std.specs.Prelude.{ℕ, zero, suc, ◌+◌, ◌-◌, ◌*◌, ◌<◌, ◌≤◌, Bool, true, false, ◌≡◌, refl, eqb, leb, get_or, set, length}
use Rattle.std.proofs.Common.{true≢false, ⊎_elim, sym, ap, ◌∙◌, arith, length-append, eqb-true, ltb-true}
use mathlib.Core.List.Memᴰ
use mathlib.Core.List.{List, [], ◌∷◌, ◌++◌, Memᴰ}
use Rattle.std.proofs.lemmas.List.{set-get_or}
use Rattle.std.proofs.lemmas.Bool.{eqb-false}
use Rattle.base.specs.Pick.{pick, pick_ind}
use Rattle.wires.specs.Below.{any_at, at-any}
use Rattle.wires.specs.Table.{line_count, is_line, senders, group_at, sender_of}
use Rattle.wires.specs.Turn.{turn, after, place_after, sizes}
use Rattle.wires.specs.Lines.{line_bit, line_value, line_entry, line_entries, sent_line, with_bit}
use Rattle.wires.specs.Groups.{level_at, mark_at, unmarked, with_place, group_byte}
use Rattle.wires.specs.Senders.{AllWires, sender_size, waiting, sent_from, sent, left_by, after_sent, entries_of, pair_bytes, entries, packet_bytes, any_pending}
use Rattle.wires.specs.Rows.{sender, sender_group, by_sender}
use Rattle.wires.specs.Round.{AllBelow, none, more, turn_below, turn-fits, reached, some-taken, none_taken}
use Rattle.wires.specs.Changes.{mark_other}
use Rattle.wires.specs.LineBits.{bit_other, bit_gone}
use Rattle.wires.specs.declared.Packet.{Packet}

-- ---- which

-- those that wait, of `left` senders from i on, in circular order (01, Wires: "going round")
unfoldable pub waiters : (waits : ℕ → Bool) (n left i : ℕ) → List ℕ
waiters waits n zero i = []
waiters waits n (suc left) i = pick (waits i) (i ∷ waiters waits n left (after n i)) (waiters waits n left (after n i))

-- the first of them, as far as they fit: "A packet closes at the first sender that does not fit" (02, Q-4)
unfoldable pub fitting : (size : ℕ → ℕ) → ℕ → List ℕ → List ℕ
fitting size c [] = []
fitting size c (k ∷ ks) = pick (leb (size k) c) (k ∷ fitting size (c - size k) ks) []

turn-waiters : (size : ℕ → ℕ) (waits : ℕ → Bool) (n left c i : ℕ) → turn size waits n left c i ≡ fitting size c (waiters waits n left i)
unfolding turn waiters fitting
turn-waiters size waits n zero c i = refl
turn-waiters size waits n (suc left) c i = go (waits i) (turn-waiters size waits n left c (after n i)) (turn-waiters size waits n left (c - size i) (after n i))
  where
    ws : List ℕ
    ws = waiters waits n left (after n i)

    go : (b : Bool) → turn size waits n left c (after n i) ≡ fitting size c ws → turn size waits n left (c - size i) (after n i) ≡ fitting size (c - size i) ws
        → pick b (pick (leb (size i) c) (i ∷ turn size waits n left (c - size i) (after n i)) []) (turn size waits n left c (after n i))
        ≡ fitting size c (pick b (i ∷ ws) ws)
    go true e f = ap (λ (xs : List ℕ). pick (leb (size i) c) (i ∷ xs) []) f
    go false e f = e

-- the senders that wait, in circular order from a place (01, Wires: "going round from the index after the last one sent")
unfoldable pub queue : AllWires → ℕ → List ℕ
queue w p = waiters (waiting w) senders senders p

-- a packet takes the first of those that wait, as far as they fit
pub sent_first : (w : AllWires) (p capacity : ℕ) → sent_from w p capacity ≡ fitting (sender_size w) capacity (queue w p)
unfolding sent_from queue
sent_first w p capacity = turn-waiters (sender_size w) (waiting w) senders senders capacity p

pub from_below : (w : AllWires) (p capacity : ℕ) → p < senders → AllBelow senders (sent_from w p capacity)
unfolding sent_from
from_below w p capacity h = turn_below (sender_size w) (waiting w) senders senders capacity p h

pub sent_below : (w : AllWires) (capacity : ℕ) → w.groups.place < senders → AllBelow senders (sent w capacity)
sent_below w capacity h = from_below w w.groups.place capacity h

-- nothing is sent exactly where nothing is pending
pub sent_none : (w : AllWires) (capacity : ℕ) → w.groups.place < senders → any_pending w ≡ false → sent w capacity ≡ []
unfolding sent_from any_pending
sent_none w capacity h e = none_taken (sender_size w) (waiting w) senders senders capacity w.groups.place h (any_at senders (waiting w) e)

quiet : (w : AllWires) (capacity : ℕ) → w.groups.place < senders → ((k : ℕ) → k < senders → sender_size w k ≤ capacity) → sent w capacity ≡ []
    → (g : ℕ) → g < senders → waiting w g ≡ false
unfolding sent_from
quiet w capacity h f e g l = go (waiting w g) refl
  where
    go : (b : Bool) → waiting w g ≡ b → b ≡ false
    go true q =
        let r = reached senders w.groups.place g h l in
        absurd (some-taken (sender_size w) (waiting w) senders senders capacity w.groups.place r.0 f h r.1 (ap (waiting w) r.2 ∙ q) e)
    go false q = refl

pub sent-some : (w : AllWires) (capacity : ℕ) → w.groups.place < senders → ((k : ℕ) → k < senders → sender_size w k ≤ capacity) → any_pending w ≡ true
    → 1 ≤ length (sent w capacity)
unfolding any_pending
sent-some w capacity h f e = go (sent w capacity) refl
  where
    go : (ks : List ℕ) → sent w capacity ≡ ks → 1 ≤ length ks
    go [] q = absurd (true≢false (sym e ∙ at-any senders (waiting w) (quiet w capacity h f q)))
    go (k ∷ ks) q = omega arith

-- ---- what one leaves

module _ (w : AllWires) (k : ℕ) where
  abbrev line_left : AllWires
  line_left = record { groups = with_place w.groups (after senders k); lines = sent_line w.lines k }

  abbrev group_left : AllWires
  group_left = record { groups = unmarked w.groups (group_at k) (after senders k); lines = w.lines }

  pub left_line : is_line k ≡ true → left_by w k ≡ line_left
  left_line e = ap (λ (b : Bool). pick b line_left group_left) e

  pub left_group : is_line k ≡ false → left_by w k ≡ group_left
  left_group e = ap (λ (b : Bool). pick b line_left group_left) e

  left-levels : (left_by w k).groups.level ≡ w.groups.level
  left-levels = pick_ind (λ (v : AllWires). v.groups.level ≡ w.groups.level) (is_line k) (λ _. refl) (λ _. set-get_or w.groups.level (group_at k - 2) 0)

  left_lines : (left_by w k).lines.level ≡ w.lines.level
  left_lines = pick_ind (λ (v : AllWires). v.lines.level ≡ w.lines.level) (is_line k) (λ _. refl) (λ _. refl)

  left-place : (left_by w k).groups.place ≡ after senders k
  left-place = pick_ind (λ (v : AllWires). v.groups.place ≡ after senders k) (is_line k) (λ _. refl) (λ _. refl)

  -- what is said of a line or a group stays, of any sender but the one that is sent
  module _ (g : ℕ) (hk : k < senders) (hg : g < senders) (other : g ≡ k → ⊥) where
    apart : line_count ≤ k → line_count ≤ g → group_at g ≡ group_at k → ⊥
    apart a b e = other (sym (sender g b hg).own ∙ ap sender_of e ∙ (sender k a hk).own)

    mark_stays : line_count ≤ k → line_count ≤ g → mark_at group_left.groups (group_at g) ≡ mark_at w.groups (group_at g)
    mark_stays a b =
        let f = (sender_group k a hk).from in
        let h = (sender_group g b hg).from in
        mark_other w.groups (group_at k) (level_at w.groups (group_at k)) false (after senders k) (group_at g) (omega arith) (omega arith) (apart a b)

    pub left_other : waiting (left_by w k) g ≡ waiting w g
    left_other =
        by_sender k hk
        (λ a e. ap (λ (v : AllWires). waiting v g) (left_line e)
        ∙ ap (λ (b : Bool). pick (is_line g) b (mark_at w.groups (group_at g))) (bit_other w.lines.waits k g false other))
        (λ a e. ap (λ (v : AllWires). waiting v g) (left_group e)
        ∙ by_sender g hg (λ b f. ap (λ (t : Bool). pick t (line_bit w.lines.waits g) (mark_at group_left.groups (group_at g))) f
        ∙ sym (ap (λ (t : Bool). pick t (line_bit w.lines.waits g) (mark_at w.groups (group_at g))) f))
        (λ b f. ap (λ (t : Bool). pick (is_line g) (line_bit w.lines.waits g) t) (mark_stays a b)))

    pub size_other : sender_size (left_by w k) g ≡ sender_size w g
    size_other =
        by_sender k hk
        (λ a e. ap (λ (v : AllWires). sender_size v g) (left_line e)
        ∙ ap (λ (b : Bool). pick (is_line g) (pick b 2 1) 1) (bit_other w.lines.edges k g false other))
        (λ a e. ap (λ (v : AllWires). sender_size v g) (left_group e))

    byte_other : group_byte (left_by w k).groups (group_at g) ≡ group_byte w.groups (group_at g)
    byte_other = ap (λ (l : List ℕ). group_byte (record { level = l; pending = w.groups.pending; place = w.groups.place }) (group_at g)) left-levels

    pub entries_other : entries_of (left_by w k) g ≡ entries_of w g
    entries_other =
        ap (λ (x : ℕ). pick (is_line g) (line_entries (left_by w k).lines g) (group_at g ∷ x ∷ [])) byte_other
        ∙ ap (λ (x : List ℕ). pick (is_line g) x (group_at g ∷ group_byte w.groups (group_at g) ∷ []))
        (by_sender k hk
        (λ a e. ap (λ (v : AllWires). line_entries v.lines g) (left_line e)
        ∙ ap (λ (b : Bool). pick b (line_entry g (1 - v)) [] ++ line_entry g v) (bit_other w.lines.edges k g false other))
        (λ a e. ap (λ (v : AllWires). line_entries v.lines g) (left_group e)))
      where
        v : ℕ
        v = line_value w.lines.level g

  pub left_gone : k < senders → waiting (left_by w k) k ≡ false
  left_gone h =
      by_sender k h
      (λ a e. ap (λ (v : AllWires). waiting v k) (left_line e)
      ∙ ap (λ (b : Bool). pick b (line_bit (with_bit w.lines.waits k false) k) (mark_at w.groups (group_at k))) e
      ∙ bit_gone w.lines.waits k)
      (λ a e. ap (λ (v : AllWires). waiting v k) (left_group e)
      ∙ ap (λ (b : Bool). pick b (line_bit w.lines.waits k) (mark_at group_left.groups (group_at k))) e
      ∙ off_there w.groups.pending (group_at k - 2))
    where
      off_there : (l : List Bool) (i : ℕ) → get_or (set l i false) i false ≡ false
      off_there [] i = refl
      off_there (x ∷ l) zero = refl
      off_there (x ∷ l) (suc i) = off_there l i

  pub left_off : (g : ℕ) → k < senders → g < senders → waiting w g ≡ false → waiting (left_by w k) g ≡ false
  left_off g hk hg e = go (eqb g k) refl
    where
      go : (b : Bool) → eqb g k ≡ b → waiting (left_by w k) g ≡ false
      go true q = ap (waiting (left_by w k)) (eqb-true g k q) ∙ left_gone hk
      go false q = left_other g hk hg (eqb-false g k q) ∙ e

-- ---- what a packet leaves

-- levels stay
pub sent-levels : (w : AllWires) (ks : List ℕ) → (after_sent w ks).groups.level ≡ w.groups.level
unfolding after_sent
sent-levels w [] = refl
sent-levels w (k ∷ ks) = sent-levels (left_by w k) ks ∙ left-levels w k

pub sent_lines : (w : AllWires) (ks : List ℕ) → (after_sent w ks).lines.level ≡ w.lines.level
unfolding after_sent
sent_lines w [] = refl
sent_lines w (k ∷ ks) = sent_lines (left_by w k) ks ∙ left_lines w k

-- one that is not taken waits on, as it did
pub sent_waits : {ks : List ℕ} (w : AllWires) (g : ℕ) → g < senders → AllBelow senders ks → (Memᴰ g ks → ⊥) → waiting (after_sent w ks) g ≡ waiting w g
unfolding after_sent
sent_waits w g h none f = refl
sent_waits w g h (more {i = k} b bs) f =
    sent_waits (left_by w k) g h bs (λ m. f (Memᴰ.tail m)) ∙ left_other w k g b h (λ e. f (Memᴰ.head e))

-- .. with the same entries
pub sent-sizes : {ks : List ℕ} (w : AllWires) (g : ℕ) → g < senders → AllBelow senders ks → (Memᴰ g ks → ⊥)
    → sender_size (after_sent w ks) g ≡ sender_size w g
unfolding after_sent
sent-sizes w g h none f = refl
sent-sizes w g h (more {i = k} b bs) f =
    sent-sizes (left_by w k) g h bs (λ m. f (Memᴰ.tail m)) ∙ size_other w k g b h (λ e. f (Memᴰ.head e))

-- no packet makes one wait
pub sent_off : {ks : List ℕ} (w : AllWires) (g : ℕ) → g < senders → AllBelow senders ks → waiting w g ≡ false → waiting (after_sent w ks) g ≡ false
unfolding after_sent
sent_off w g h none e = e
sent_off w g h (more {i = k} b bs) e = sent_off (left_by w k) g h bs (left_off w k g b h e)

-- those taken wait no more
pub sent_gone : {ks : List ℕ} (w : AllWires) (g : ℕ) → AllBelow senders ks → Memᴰ g ks → waiting (after_sent w ks) g ≡ false
unfolding after_sent
sent_gone w g none m = absurd (Memᴰ.not-nil m)
sent_gone w g (more {i = k} b bs) m =
    ⊎_elim (λ e. sent_off (left_by w k) g (rw e b) bs (ap (waiting (left_by w k)) e ∙ left_gone w k b)) (sent_gone (left_by w k) g bs) (Memᴰ.cases_cons m)

-- the place follows the last one sent
place_follows : (w : AllWires) (ks : List ℕ) (p : ℕ) → w.groups.place ≡ p → (after_sent w ks).groups.place ≡ place_after senders p ks
unfolding after_sent place_after
place_follows w [] p e = e
place_follows w (k ∷ ks) p e = place_follows (left_by w k) ks (after senders k) (left-place w k)

pub sent-place : (w : AllWires) (ks : List ℕ) → (after_sent w ks).groups.place ≡ place_after senders w.groups.place ks
sent-place w ks = place_follows w ks w.groups.place refl

-- ---- as what bytes

pub size-some : (w : AllWires) (k : ℕ) → 1 ≤ sender_size w k
size-some w k =
    let Q : ℕ → Type 0 = λ x. 1 ≤ x in
    pick_ind Q (is_line k) (λ _. pick_ind Q (line_bit w.lines.edges k) (λ _. omega arith) (λ _. omega arith)) (λ _. omega arith)

pub size_two : (w : AllWires) (k : ℕ) → sender_size w k ≤ 2
size_two w k =
    let Q : ℕ → Type 0 = λ x. x ≤ 2 in
    pick_ind Q (is_line k) (λ _. pick_ind Q (line_bit w.lines.edges k) (λ _. omega arith) (λ _. omega arith)) (λ _. omega arith)

-- a packet of two entries fits any sender; one of one fits each where no edge waits
pub size_fits : (w : AllWires) (capacity : ℕ) → 2 ≤ capacity → (k : ℕ) → sender_size w k ≤ capacity
size_fits w capacity h k = omega (arith, size_two w k)

pub size-one : (w : AllWires) → ((k : ℕ) → k < line_count → line_bit w.lines.edges k ≡ false) → (k : ℕ) → sender_size w k ≡ 1
size-one w f k = go (is_line k) refl
  where
    go : (b : Bool) → is_line k ≡ b → ◌≡◌ {A = ℕ} (pick b (pick (line_bit w.lines.edges k) 2 1) 1) 1
    go true e = ap (λ (t : Bool). pick t 2 1) (f k (ltb-true k line_count e))
    go false e = refl

pub entry_length : (w : AllWires) (k : ℕ) → length (entries_of w k) ≡ sender_size w k * 2
entry_length w k = go (is_line k) (line_bit w.lines.edges k)
  where
    v : ℕ
    v = line_value w.lines.level k

    go : (a b : Bool) → length (pick a (pick b (line_entry k (1 - v)) [] ++ line_entry k v) (group_at k ∷ group_byte w.groups (group_at k) ∷ []))
        ≡ pick a (pick b 2 1) 1 * 2
    go true true = refl
    go true false = refl
    go false b = refl

pub pairs-length : (w : AllWires) (ks : List ℕ) → length (pair_bytes w ks) ≡ entries w ks * 2
unfolding pair_bytes sizes
pairs-length w [] = refl
pairs-length w (k ∷ ks) = omega (arith, length-append (entries_of w k) (pair_bytes w ks), entry_length w k, pairs-length w ks)

-- no more than there is room for
pub entries_most : (w : AllWires) (p capacity : ℕ) → entries w (sent_from w p capacity) ≤ capacity
unfolding sent_from
entries_most w p capacity = turn-fits (sender_size w) (waiting w) senders senders capacity p

-- and one at least for each that is sent
pub entries-some : (w : AllWires) (ks : List ℕ) → length ks ≤ entries w ks
unfolding sizes
entries-some w [] = omega arith
entries-some w (k ∷ ks) = omega (arith, size-some w k, entries-some w ks)

pub packet-length : (w : AllWires) (p : Packet) → length (packet_bytes w p) ≤ 1 + p.capacity * 2
packet-length w p = omega (arith, pairs-length w (sent_from w p.place p.capacity), entries_most w p.place p.capacity)
