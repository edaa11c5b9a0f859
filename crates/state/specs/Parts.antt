-- The laws that go channel by channel: one clause a channel, by the channel's own laws, and where its bytes stand among the state's. What follows
-- from them names no channel.
use Rattle.std.specs.Prelude.{ℕ, ◌+◌, ◌<◌, Bool, true, ◌&&◌, List, [], ◌++◌, ◌≡◌, refl, length, get_or}
use Rattle.std.proofs.Common.{append_assoc, append-nil, sym, ap, ◌∙◌, arith}
use Rattle.base.specs.Pick.{and_left, and_right, and_true, same_test}
use Rattle.base.specs.Numbers.{length_join, join, listed}
use Rattle.base.specs.AllBytes.{AllBytes, all_append}
use Rattle.registers.specs.Layout.{config_bytes, all-config, config_again}
use Rattle.registers.specs.Registers.{on0, on1, operating_count}
use Rattle.registers.specs.declared.Config.{Config}
use Rattle.wires.specs.MapBytes.{all-length, all_back, all-all, all-fits, all_same, all_again, all-tidy}
use Rattle.peripheral.specs.Facts.{sound_of}
use Rattle.peripheral.specs.Packing.{peripheral_length, peripheral_in_fits, peripheral_same}
use Rattle.peripheral.proofs.Packing.{peripheral_back, all_peripheral}
use Rattle.peripheral.specs.Tidy.{peripheral_again, peripheral_tidy}
use Rattle.state.specs.Channel.{Channel, peripheral, wires, Part, part, put, sound_part, fits_part, place, size, part_bytes_value, part_in, tidy_part}
use Rattle.state.specs.Layout.{state_length, packed, unpacked}
use Rattle.state.specs.State.{State}

-- ---- all channels

abbrev pub by_channel : (Q : Channel → Type 0) → Q peripheral → Q wires → (k : Channel) → Q k
by_channel Q p w peripheral = p
by_channel Q p w wires = w

-- what is given of each channel
abbrev pub Each : (Channel → Type 0) → Type 0
Each Q = Q peripheral × Q wires

abbrev pub of_each : (Q : Channel → Type 0) → Each Q → (k : Channel) → Q k
of_each Q h = by_channel Q h.0 h.1

-- the last channel's bytes are the state's last
abbrev pub last : Channel
last = wires

-- a test of every channel
abbrev pub all : (Channel → Bool) → Bool
all f = f peripheral && f wires

pub all_true : (f : Channel → Bool) → all f ≡ true → (k : Channel) → f k ≡ true
all_true f e peripheral = and_left (f peripheral) _ e
all_true f e wires = and_right (f peripheral) _ e

pub true_all : (f : Channel → Bool) → ((k : Channel) → f k ≡ true) → all f ≡ true
true_all f h = and_true (h peripheral) (h wires)

pub all_as : (f g : Channel → Bool) → ((k : Channel) → f k ≡ g k) → all f ≡ all g
all_as f g h = same_test (all f) (all g) (λ e. true_all g (λ k. sym (h k) ∙ all_true f e k)) (λ e. true_all f (λ k. h k ∙ all_true g e k))

-- a sum over every channel
abbrev pub sum : (Channel → ℕ) → ℕ
sum f = f peripheral + f wires

pub sum_as : (f g : Channel → ℕ) → ((k : Channel) → f k ≡ g k) → sum f ≡ sum g
sum_as f g h = rw (h peripheral, h wires)

-- ---- a state is its configuration and its parts

abbrev made : Config → ((k : Channel) → Part k) → State
made c f = record { config = c; peripheral = f peripheral; wires = f wires }

made_as : (c d : Config) (f g : (k : Channel) → Part k) → c ≡ d → ((k : Channel) → f k ≡ g k) → made c f ≡ made d g
made_as c d f g e h = rw (e, h peripheral, h wires)

pub state_is : (s t : State) → s.config ≡ t.config → ((k : Channel) → part k s ≡ part k t) → s ≡ t
state_is s t e h = made_as s.config t.config (λ k. part k s) (λ k. part k t) e h

pub part-found : (k : Channel) (l : List ℕ) → part k (unpacked l) ≡ part_in k l
unfolding unpacked
part-found peripheral l = refl
part-found wires l = refl

-- ---- a channel's bytes

pub part_length : (k : Channel) (q : Part k) → length (part_bytes_value k q) ≡ size k
part_length peripheral q = peripheral_length q
part_length wires q = all-length q

-- they give it back
pub part-back : (k : Channel) (c : Config) (p r : List ℕ) (q : Part k) → length p ≡ place k → sound_part k c q ≡ true → fits_part k q ≡ true
    → part_in k (p ++ (part_bytes_value k q ++ r)) ≡ q
part-back peripheral c p r q h e f = let g = sound_of (on0 c.r010) q e in peripheral_back p r q h g.request g.write f
part-back wires c p r q h e f = all_back p r q h (on1 c.r020) (operating_count c.r020) e f

-- those of a sound part are bytes
pub part_bytes : (k : Channel) (c : Config) (q : Part k) → sound_part k c q ≡ true → AllBytes (part_bytes_value k q)
part_bytes peripheral c q e = all_peripheral q (sound_of (on0 c.r010) q e).request
part_bytes wires c q e = all-all (on1 c.r020) (operating_count c.r020) q e

-- what bytes make fits
pub part-fits : (k : Channel) (l : List ℕ) → ((n : ℕ) → get_or l n 0 < 256) → fits_part k (part_in k l) ≡ true
part-fits peripheral l byte = peripheral_in_fits l byte
part-fits wires l byte = all-fits l byte

-- bytes past the length do not matter
pub part_same : (k : Channel) (a b : List ℕ) → ((n : ℕ) → n < state_length → get_or a n 0 ≡ get_or b n 0) → part_in k a ≡ part_in k b
part_same peripheral a b e = peripheral_same a b (λ n h. e n (omega arith))
part_same wires a b e = all_same a b (λ n h. e n (omega arith))

-- tidy bytes are those of the part that they make, and a part's are tidy
pub part_again : (k : Channel) (l : List ℕ) → ((n : ℕ) → get_or l n 0 < 256) → tidy_part k l ≡ true
    → part_bytes_value k (part_in k l) ≡ listed (size k) (place k) l
part_again peripheral l byte e = peripheral_again l byte e
part_again wires l byte e = all_again l byte e

pub part-tidy : (k : Channel) (p r : List ℕ) (q : Part k) → length p ≡ place k → tidy_part k (p ++ (part_bytes_value k q ++ r)) ≡ true
part-tidy peripheral p r q h = peripheral_tidy p r q h
part-tidy wires p r q h = all-tidy p r q h

-- ---- where they stand: all before them, all behind them

abbrev pub front : Channel → State → List ℕ
front peripheral s = config_bytes s.config
front wires s = config_bytes s.config ++ part_bytes_value peripheral s.peripheral

abbrev pub behind : Channel → State → List ℕ → List ℕ
behind peripheral s t = part_bytes_value wires s.wires ++ t
behind wires s t = t

pub joined_length : (k : Channel) (l : List ℕ) (q : Part k) → length l ≡ place k → length (l ++ part_bytes_value k q) ≡ place k + size k
joined_length k l q h = length_join l (part_bytes_value k q) (place k) (size k) h (part_length k q)

pub front_length : (k : Channel) (s : State) → length (front k s) ≡ place k
front_length peripheral s = refl
front_length wires s = joined_length peripheral (config_bytes s.config) s.peripheral refl

-- behind the registers' bytes
abbrev pub parts_bytes : State → List ℕ
parts_bytes s = part_bytes_value peripheral s.peripheral ++ part_bytes_value wires s.wires

pub packed-config : (s : State) → packed s ≡ config_bytes s.config ++ parts_bytes s
unfolding packed
packed-config s = refl

packed_first : (s : State) (t : List ℕ) → packed s ++ t ≡ front peripheral s ++ (part_bytes_value peripheral s.peripheral ++ behind peripheral s t)
unfolding packed
packed_first s t =
    let p = part_bytes_value peripheral s.peripheral in
    let w = part_bytes_value wires s.wires in
    append_assoc (config_bytes s.config) (parts_bytes s) t ∙ ap (λ (z : List ℕ). config_bytes s.config ++ z) (append_assoc p w t)

pub packed-at : (k : Channel) (s : State) (t : List ℕ) → packed s ++ t ≡ front k s ++ (part_bytes_value k (part k s) ++ behind k s t)
packed-at peripheral s t = packed_first s t
packed-at wires s t = packed_first s t ∙ sym (append_assoc (front peripheral s) (part_bytes_value peripheral s.peripheral) (behind peripheral s t))

pub packed-is : (k : Channel) (s : State) → packed s ≡ front k s ++ (part_bytes_value k (part k s) ++ behind k s [])
packed-is k s = sym (append-nil (packed s)) ∙ packed-at k s []

-- another part put there, all else stands as before
pub packed-put : (k : Channel) (q : Part k) (s : State) → packed (put k q s) ≡ front k s ++ (part_bytes_value k q ++ behind k s [])
packed-put peripheral q s = packed-is peripheral (put peripheral q s)
packed-put wires q s = packed-is wires (put wires q s)

-- all before the last and the last are all
pub packed_ends : (s : State) → packed s ≡ front last s ++ part_bytes_value last (part last s)
packed_ends s = packed-is last s ∙ ap (λ (z : List ℕ). front last s ++ z) (append-nil (part_bytes_value last (part last s)))

pub packed_all : (s : State) → ((k : Channel) → AllBytes (part_bytes_value k (part k s))) → AllBytes (packed s)
unfolding packed
packed_all s h = all_append _ (all-config s.config) (all_append _ (h peripheral) (h wires))

pub packed_again : (l : List ℕ) → ((n : ℕ) → get_or l n 0 < 256) → ((k : Channel) → part_bytes_value k (part_in k l) ≡ listed (size k) (place k) l)
    → packed (unpacked l) ≡ listed state_length 0 l
unfolding packed unpacked
packed_again l byte h = join (config_again l byte) (join (h peripheral) (h wires))
