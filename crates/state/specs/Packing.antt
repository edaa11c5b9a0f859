-- P3, packing: sound states and their 174 bytes, there and back; nothing past them matters.
use Rattle.std.specs.Prelude.{ℕ, zero, suc, ◌<◌, ◌≤◌, true, List, [], ◌↔◌, ◌≡◌, refl, length, get_or, take}
use Rattle.std.proofs.Common.{sym, ap, subst, ◌∙◌, le_of_eq, arith, get_or-take, take_all, eq-eqb}
use Rattle.base.specs.Pick.{and_left, and_right, and_true}
use Rattle.base.specs.Bytes.{over, over-take, take-over, agree, agree-take}
use Rattle.registers.specs.declared.Config.{Config}
use Rattle.registers.specs.Layout.{config_in, config-back, config_in_fits, config-same}
use Rattle.state.specs.Channel.{Channel, Part, part, sound_part, fits_part, part_in}
use Rattle.state.specs.Parts.{last, state_is, part-found, part-back, part_bytes, part-fits, part_same, front, behind, front_length, joined_length, parts_bytes, packed-config, packed-is, packed_ends, packed_all}
use Rattle.state.specs.Sound.{sound, fits, Sound}
use Rattle.state.specs.Facts.{sound_parts, fit_parts, fit_made}
use Rattle.state.specs.Layout.{state_length, packed, unpacked, holds}
use Rattle.state.specs.State.{State}

pub packed-length : (s : State) → length (packed s) ≡ state_length
packed-length s = ap length (packed_ends s) ∙ joined_length last (front last s) (part last s) (front_length last s)

-- a sound state packs to bytes
pub packed-bytes : (s : State) → sound s ≡ true → (k : ℕ) → get_or (packed s) k 0 < 256
packed-bytes s e = (packed_all s (λ k. part_bytes k s.config (part k s) ((sound_parts s e).each k))).byte

-- what bytes make fits
pub unpacked-fits : (l : List ℕ) → ((k : ℕ) → get_or l k 0 < 256) → fits (unpacked l) ≡ true
unfolding unpacked
unpacked-fits l byte =
    fit_made (unpacked l)
    (record { config = config_in_fits l byte; each = λ k. subst (λ (q : Part k). fits_part k q ≡ true) (sym (part-found k l)) (part-fits k l byte) })

-- ---- bytes past the length do not matter

unpacked-at : (a b : List ℕ) → ((k : ℕ) → k < state_length → get_or a k 0 ≡ get_or b k 0) → unpacked a ≡ unpacked b
unfolding unpacked
unpacked-at a b e =
    state_is (unpacked a) (unpacked b) (config-same a b (λ k h. e k (omega arith))) (λ k. part-found k a ∙ part_same k a b e ∙ sym (part-found k b))

-- the first bytes are the same one by one
each : (a b : List ℕ) (n : ℕ) → take n a ≡ take n b → (k : ℕ) → k < n → get_or a k 0 ≡ get_or b k 0
each a b n e k h = sym (get_or-take n a k 0 h) ∙ ap (λ (l : List ℕ). get_or l k 0) e ∙ get_or-take n b k 0 h

agree-each : (n : ℕ) (c a b : List ℕ) → ((k : ℕ) → k < n → get_or a k 0 ≡ get_or b k 0) → agree n c a ≡ agree n c b
unfolding agree
agree-each zero c a b e = refl
agree-each (suc n) c a b e = rw (agree-each n c a b (λ k h. e k (omega arith)), e n (omega arith))

agree_self : (n : ℕ) (a : List ℕ) → agree n a a ≡ true
unfolding agree
agree_self zero a = refl
agree_self (suc n) a = rw (agree_self n a, eq-eqb (get_or a n 0) (get_or a n 0) refl)

pub packed-agree : (s : State) (l : List ℕ) → take state_length l ≡ packed s → agree state_length (packed s) l ≡ true
packed-agree s l e =
    let same : take state_length l ≡ take state_length (packed s) = e ∙ sym (take_all state_length (packed s) (le_of_eq (packed-length s))) in
    agree-each state_length (packed s) l (packed s) (each l (packed s) state_length same) ∙ agree_self state_length (packed s)

pub agree-packed : (s : State) (l : List ℕ) → state_length ≤ length l → agree state_length (packed s) l ≡ true → take state_length l ≡ packed s
agree-packed s l h e =
    let n = packed-length s in
    sym (agree-take state_length (packed s) l (le_of_eq (sym n)) h e) ∙ take_all state_length (packed s) (le_of_eq n)

pub unpacked-same : (a b : List ℕ) → take state_length a ≡ take state_length b → unpacked a ≡ unpacked b
unpacked-same a b e = unpacked-at a b (each a b state_length e)

pub holds_same : (a b : List ℕ) → take state_length a ≡ take state_length b → holds a ≡ holds b
unfolding holds
holds_same a b e = rw (unpacked-same a b e, agree-each state_length (packed (unpacked b)) a b (each a b state_length e))

-- ---- a sound state's bytes, unpacked, give it back: part by part

-- a sound part among a state's bytes, whatever the others are, under any configuration
pub part_there : (k : Channel) (c : Config) (s : State) (l : List ℕ) → sound_part k c (part k s) ≡ true → fits_part k (part k s) ≡ true
    → take state_length l ≡ packed s → part_in k l ≡ part k s
part_there k c s l g f e =
    part_same k l (packed s) (each l (packed s) state_length (e ∙ sym (take_all state_length (packed s) (le_of_eq (packed-length s)))))
    ∙ ap (part_in k) (packed-is k s) ∙ part-back k c (front k s) (behind k s []) (part k s) (front_length k s) g f

round : (s : State) → Sound s → unpacked (packed s) ≡ s
unfolding unpacked
round s w =
    let g = sound_parts s w.is_sound in
    let f = fit_parts s w.is_fit in
    state_is (unpacked (packed s)) s (ap config_in (packed-config s) ∙ config-back s.config (parts_bytes s) f.config)
    (λ k.
    part-found k (packed s)
    ∙ part_there k s.config s (packed s) (g.each k) (f.each k) (take_all state_length (packed s) (le_of_eq (packed-length s))))

-- ---- a sound state's bytes give it back, whatever comes after them

pub packed-found : (s : State) (l : List ℕ) → Sound s → take state_length l ≡ packed s → unpacked l ≡ s
packed-found s l w e = unpacked-same l (packed s) (e ∙ sym (take_all state_length (packed s) (le_of_eq (packed-length s)))) ∙ round s w

pub packed-holds : (s : State) (l : List ℕ) → Sound s → take state_length l ≡ packed s → holds l ≡ true
unfolding holds
packed-holds s l w e = rw (packed-found s l w e) (and_true w.is_sound (packed-agree s l e))

pub unpacked-over : (s : State) (l : List ℕ) → Sound s → unpacked (over (packed s) l) ≡ s
unpacked-over s l w = packed-found s (over (packed s) l) w (take-over (packed s) l state_length (packed-length s))

pub holds-packed : (s : State) (l : List ℕ) → Sound s → holds (over (packed s) l) ≡ true
holds-packed s l w = packed-holds s (over (packed s) l) w (take-over (packed s) l state_length (packed-length s))

pub packed_injective : (s t : State) → Sound s → Sound t → packed s ≡ packed t → s ≡ t
packed_injective s t v w e = sym (round s v) ∙ ap unpacked e ∙ round t w

-- ---- bytes that pass are those of the state found

pub holds-bytes : (l : List ℕ) → state_length ≤ length l → holds l ≡ true → take state_length l ≡ packed (unpacked l)
unfolding holds
holds-bytes l h e = agree-packed (unpacked l) l h (and_right (sound (unpacked l)) _ e)

-- a refusal that commits the state it got changes no byte
pub stored_same : (l : List ℕ) → state_length ≤ length l → holds l ≡ true → over (packed (unpacked l)) l ≡ l
stored_same l h e = rw (← holds-bytes l h e) (over-take l state_length h)

-- ---- what passes is a sound state

-- bytes that pass are below 256 in the part that counts, so no premise on them is needed
pub holds-sound : (l : List ℕ) → state_length ≤ length l → holds l ≡ true → Sound (unpacked l)
unfolding holds
holds-sound l h e =
    let u = unpacked l in
    let good : sound u ≡ true = and_left (sound u) _ e in
    let same : unpacked (packed u) ≡ u = unpacked-same (packed u) l (take_all state_length (packed u) (le_of_eq (packed-length u)) ∙ sym (holds-bytes l h e)) in
    record { is_sound = good; is_fit = subst (λ (t : State). fits t ≡ true) same (unpacked-fits (packed u) (packed-bytes u good)) }

-- unpacking finds exactly the packed sound states
pub exactly : (s : State) (l : List ℕ) → Sound s → state_length ≤ length l → (take state_length l ≡ packed s) ↔ ((holds l ≡ true) × (unpacked l ≡ s))
exactly s l w h = (
  λ e. (packed-holds s l w e, packed-found s l w e),
  λ p. holds-bytes l h p.0 ∙ ap packed p.1,
)
