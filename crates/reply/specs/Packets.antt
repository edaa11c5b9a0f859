-- A packet of wires written into the reply: its entries over the wires in the state's bytes, which change with it.
use Rattle.std.specs.Prelude.{ℕ, ◌+◌, ◌-◌, ◌*◌, ◌<◌, ◌≤◌, Bool, true, List, [], ◌∷◌, ◌++◌, ◌≡◌, refl, length, get_or, take, drop}
use Rattle.std.proofs.Common.{append_assoc, sym, ap, ap₂, subst, ◌∙◌, arith, length-take-le}
use Rattle.base.specs.Bytes.{put, over, put-put, put_first, put_into}
use Rattle.registers.specs.Registers.{operating_count}
use Rattle.registers.specs.Layout.{config_in}
use Rattle.registers.specs.declared.Config.{Config}
use Rattle.wires.specs.Table.{senders}
use Rattle.wires.specs.Senders.{AllWires, packet_of, sent_from, after_sent, entries, pair_bytes, packet_bytes, wires_status, sound_all, whole_all}
use Rattle.wires.specs.Layout.{wires_in, all_bytes, all_in, tidy_wires}
use Rattle.wires.specs.MapBytes.{all_back, all-fits}
use Rattle.wires.specs.AllKept.{sent_below, sound-all-after, whole_all-after}
use Rattle.wires.specs.Sent.{pairs-length}
use Rattle.wires.specs.declared.Wires.{Wires}
use Rattle.wires.specs.declared.Packet.{Packet}
use Rattle.peripheral.specs.Status.{peripheral_status}
use Rattle.peripheral.specs.Layout.{peripheral_in}
use Rattle.rules.specs.Rules.Reply.{closed}
use Rattle.rules.proofs.Proofs.Reply.{closed-length}
use Rattle.reply.specs.Written.{said_by_lem}

-- what filling a packet asks of the state's bytes: sound wires, some of which wait (01, Sound state; Replies and refusals, 1)
pub record Fillable (p : Packet) (st : List ℕ) : Type 0 where
  pub long : 174 ≤ length st
  pub on : Bool
  pub count : ℕ
  pub sound : sound_all on count (all_in st) ≡ true
  pub tidy : tidy_wires st ≡ true
  pub below : p.place < senders
  pub most : p.capacity ≤ 64
  pub some : 1 ≤ entries (all_in st) (sent_from (all_in st) p.place p.capacity)

-- what is left: the reply's length, the state's bytes, the reply's (01, What each contract must settle)
pub record PacketPut : Type 0 where
  pub count : ℕ
  pub state : List ℕ
  pub reply : List ℕ

-- of these three (01, What each contract must settle)
abbrev pub packet_put : ℕ → List ℕ → List ℕ → PacketPut
packet_put n st reply = record { count = n; state = st; reply = reply }

-- the wires after the packet (01, Wires: "and their pending marks go")
abbrev pub after_filled : Packet → List ℕ → AllWires
after_filled p st = after_sent (all_in st) (sent_from (all_in st) p.place p.capacity)

-- the reply's bytes: ACCEPT, the packet, the status after it (01, Replies and refusals; Registers and status)
abbrev pub filled_reply : Packet → ℕ → List ℕ → List ℕ
filled_reply p others st = closed (0x08 ∷ packet_bytes (all_in st) p) (others + wires_status (after_filled p st))

-- a packet put: its bytes over the reply, and the wires after it in the state's bytes (01, Replies and refusals; Wires)
abbrev pub filled_by : Packet → ℕ → (st reply : List ℕ) → PacketPut
filled_by p others st reply =
    packet_put (length (filled_reply p others st)) (put 64 (all_bytes (after_filled p st)) st) (over (filled_reply p others st) reply)

-- ---- the packet of the state's own place and operating count

-- "The operating wire count" (01, Registers and status) of these bytes
abbrev pub count_in : List ℕ → ℕ
count_in st = operating_count (config_in st).r020

-- from the going-round place on (01, Wires: GET_VWIRE)
abbrev pub packet_in : List ℕ → Packet
packet_in st = packet_of (all_in st) (count_in st)

-- the bytes can have it put (01, Sound state; Replies and refusals, 1)
abbrev pub PacketReady : List ℕ → Type 0
PacketReady st = Fillable (packet_in st) st

-- its reply's bytes (01, Replies and refusals)
abbrev pub packet_reply : List ℕ → List ℕ
packet_reply st = filled_reply (packet_in st) (peripheral_status (peripheral_in st)) st

-- and put (01, Replies and refusals; Wires)
abbrev pub packet_put_by : (st reply : List ℕ) → PacketPut
packet_put_by st reply = filled_by (packet_in st) (peripheral_status (peripheral_in st)) st reply

-- ---- laws

-- the packet that the code names
pub packet_named : (st : List ℕ) (c : Config) (w : Wires) (count : ℕ) → c ≡ config_in st → w ≡ wires_in st → count ≡ operating_count c.r020
    → record { place = w.place; capacity = count } ≡ packet_in st
packet_named st c w count ec ew en =
    ap₂ (λ (v : Wires) (n : ℕ). record { place = v.place; capacity = n }) ew (en ∙ ap (λ (z : Config). operating_count z.r020) ec)

pub fillable_as : (st : List ℕ) (p : Packet) → p ≡ packet_in st → PacketReady st → Fillable p st
fillable_as st p e h = subst (λ (q : Packet). Fillable q st) (sym e) h

pub filled_as : (st reply : List ℕ) (p : Packet) (others : ℕ) (x : PacketPut) → p ≡ packet_in st → others ≡ peripheral_status (peripheral_in st)
    → x ≡ filled_by p others st reply → x ≡ packet_put_by st reply
filled_as st reply p others x e eo h = h ∙ ap₂ (λ (q : Packet) (n : ℕ). filled_by q n st reply) e eo

-- the entries behind the first two bytes, then the count in the second
begun_by : (l l₁ l₂ l₃ pairs : List ℕ) (m : ℕ) → 2 ≤ length l → l₁ ≡ put 0 (0x08 ∷ 0 ∷ []) l → l₂ ≡ put 2 pairs l₁ → l₃ ≡ put 1 (m ∷ []) l₂
    → l₃ ≡ over (0x08 ∷ m ∷ pairs) l
unfolding over
begun_by l l₁ l₂ l₃ pairs m h e₁ e₂ e₃ =
    let f : l₂ ≡ over (0x08 ∷ 0 ∷ pairs) l = e₂ ∙ ap (put 2 pairs) e₁ ∙ put-put 0 2 (0x08 ∷ 0 ∷ []) pairs l (omega arith) refl ∙ put_first _ l in
    e₃ ∙ ap (put 1 (m ∷ [])) f ∙ put_into (0x08 ∷ []) (0 ∷ []) (m ∷ []) (pairs ++ drop (length (0x08 ∷ 0 ∷ pairs)) l) 1 refl refl

-- the wires in bytes where they were put
put_back : (on : Bool) (count : ℕ) (w : AllWires) (st : List ℕ) → 174 ≤ length st → sound_all on count w ≡ true → whole_all w ≡ true
    → all_in (put 64 (all_bytes w) st) ≡ w
unfolding put
put_back on count w st h s e =
    ap all_in (append_assoc (take 64 st) (all_bytes w) (drop (64 + length (all_bytes w)) st))
    ∙ all_back (take 64 st) (drop (64 + length (all_bytes w)) st) w (length-take-le 64 st (omega arith)) on count s e

module _ (p : Packet) (others : ℕ) (st reply : List ℕ) (ready : Fillable p st) (byte : (k : ℕ) → get_or st k 0 < 256) (long : 2 ≤ length reply) where
  abbrev ks : List ℕ
  ks = sent_from (all_in st) p.place p.capacity

  abbrev pairs : List ℕ
  pairs = pair_bytes (all_in st) ks

  -- the status after it, read off the bytes
  status-after : (st' : List ℕ) (word : ℕ) → st' ≡ put 64 (all_bytes (after_filled p st)) st → word ≡ wires_status (all_in st')
      → word ≡ wires_status (after_filled p st)
  status-after st' word e h =
      h
      ∙ ap wires_status
      (ap all_in e
      ∙ put_back ready.on ready.count (after_filled p st) st ready.long
      (sound-all-after ready.on ready.count (all_in st) (sent_below (all_in st) p.place p.capacity ready.below) ready.sound)
      (whole_all-after (all_in st) ks (all-fits st byte)))

  pub packet-put : (st' r₁ r₂ r₃ r₄ : List ℕ) (n word : ℕ)
      → r₁ ≡ put 0 (0x08 ∷ 0 ∷ []) reply
      → st' ≡ put 64 (all_bytes (after_filled p st)) st
      → r₂ ≡ put 2 pairs r₁
      → n ≡ entries (all_in st) ks
      → r₃ ≡ put 1 ((n - 1) ∷ []) r₂
      → word ≡ wires_status (all_in st')
      → r₄ ≡ over (closed (take (2 + n * 2) r₃) (others + word)) r₃
      → packet_put (2 + n * 2 + 3) st' r₄ ≡ filled_by p others st reply
  packet-put st' r₁ r₂ r₃ r₄ n word e₁ es e₂ en e₃ ew e₄ =
      let m : List ℕ = 0x08 ∷ (n - 1) ∷ pairs in
      let f : r₃ ≡ over m reply = begun_by reply r₁ r₂ r₃ pairs (n - 1) long e₁ e₂ e₃ in
      let k : 2 + n * 2 ≡ length m = omega (arith, pairs-length (all_in st) ks, en) in
      let s = status-after st' word es ew in
      let g : r₄ ≡ over (closed m (others + word)) reply = said_by_lem reply r₃ r₄ m (2 + n * 2) (others + word) f k e₄ in
      let q : 2 + n * 2 + 3 ≡ length (closed m (others + word)) = ap (λ (x : ℕ). x + 3) k ∙ sym (closed-length m (others + word)) in
      ap₂ (λ (x : ℕ) (z : List ℕ). packet_put x z r₄) q es
      ∙ ap (λ (z : List ℕ). packet_put (length (closed m (others + word))) (put 64 (all_bytes (after_filled p st)) st) z) g
      ∙ ap₂ (λ (a b : ℕ). let c : List ℕ = closed (0x08 ∷ (a - 1) ∷ pairs) (others + b) in packet_put (length c) (put 64 (all_bytes (after_filled p st)) st)
      (over c reply)) en s
