-- Ending events by their bytes: a write makes the edge of a channel's enable bit that its bytes say. And a run without an event, call by call.
use Rattle.std.specs.Prelude.{ℕ, ◌%◌, Bool, true, false, ◌&&◌, ◌||◌, not, List, ◌∷◌, ◌≡◌, refl, eqb}
use Rattle.std.proofs.Math.Bool.{or-true, or-false}
use Rattle.std.proofs.Common.{sym, ap, ap₂, ◌∙◌, arith, eqb-true}
use Rattle.std.proofs.lemmas.Bool.{eqb-false, not-true}
use Rattle.base.specs.Pick.{pick, and_left, and_right}
use Rattle.registers.specs.Registers.{on0, on1, write_at}
use Rattle.registers.specs.Laws.{by_address}
use Rattle.registers.proofs.Laws.{on0-written, on1-written}
use Rattle.registers.specs.declared.Config.{Config}
use Rattle.wires.specs.Groups.{put_pairs, read_wire}
use Rattle.state.specs.State.{State}
use Rattle.rules.specs.Rules.Channel.{Channel, peripheral, wires, on}
use Rattle.rules.specs.Rules.Step.{World, Call, step}
use Rattle.rules.specs.Statements.Events.{enables_at, disables, lowers_pltrst, ends, unended}
use Rattle.rules.specs.Statements.Fields.{byte, pairs, register_at, register_value}
use Rattle.rules.specs.Statements.Reads.{Writes}
use Rattle.rules.specs.Statements.Requests.{without}

-- ---- the edge of an enable bit

pub enable_written : (k : Channel) (c : Config) (a v : ℕ) → on k (write_at c a v) ≡ pick (enables_at k a) (eqb (v % 2) 1) (on k c)
enable_written peripheral c a v =
    by_address (λ (x : ℕ). on0 (write_at c x v).r010 ≡ pick (eqb x 0x010) (eqb (v % 2) 1) (on0 c.r010)) refl (on0-written c.r010 v) refl
    (λ x e f g. rw (e, f, g)) a
enable_written wires c a v =
    by_address (λ (x : ℕ). on1 (write_at c x v).r020 ≡ pick (eqb x 0x020) (eqb (v % 2) 1) (on1 c.r020)) refl refl (on1-written c.r020 v)
    (λ x e f g. rw (e, f, g)) a

pub one_or_zero : (v : ℕ) → not (eqb (v % 2) 1) ≡ eqb (v % 2) 0
one_or_zero v = go (eqb (v % 2) 1) (eqb (v % 2) 0) refl refl
  where
    go : (s t : Bool) → eqb (v % 2) 1 ≡ s → eqb (v % 2) 0 ≡ t → not s ≡ t
    go true true e f = absurd (omega (arith, eqb-true (v % 2) 1 e, eqb-true (v % 2) 0 f))
    go true false e f = refl
    go false true e f = refl
    go false false e f = absurd (omega (arith, eqb-false (v % 2) 1 e, eqb-false (v % 2) 0 f))

falling_edge : (k : Channel) (c : Config) (a v : ℕ) → on k c && not (on k (write_at c a v)) ≡ enables_at k a && (on k c && eqb (v % 2) 0)
falling_edge k c a v = ap (λ (t : Bool). on k c && not t) (enable_written k c a v) ∙ go (enables_at k a) (on k c)
  where
    go : (t was : Bool) → was && not (pick t (eqb (v % 2) 1) was) ≡ t && (was && eqb (v % 2) 0)
    go true true = one_or_zero v
    go true false = refl
    go false true = refl
    go false false = refl

pub rising_edge : (k : Channel) (c : Config) (a v : ℕ) → not (on k c) && on k (write_at c a v) ≡ enables_at k a && (not (on k c) && eqb (v % 2) 1)
rising_edge k c a v = ap (λ (t : Bool). not (on k c) && t) (enable_written k c a v) ∙ go (enables_at k a) (on k c)
  where
    go : (t was : Bool) → not was && pick t (eqb (v % 2) 1) was ≡ t && (not was && eqb (v % 2) 1)
    go true was = refl
    go false true = refl
    go false false = refl

-- by the command's bytes: other commands disable nothing, a write the channel whose bit it makes fall
no_disabling : (k : Channel) (s : State) (b : List ℕ) → eqb (byte b 0) 0x22 ≡ false → disables k s b ≡ false
no_disabling k s b e = ap (λ (t : Bool). t && (enables_at k (register_at b) && (on k s.config && eqb (register_value b % 2) 0))) e

disabling : (k : Channel) (s : State) (b : List ℕ) (a v : ℕ) → Writes b a v → disables k s b ≡ on k s.config && not (on k (write_at s.config a v))
disabling k s b a v h =
    ap (λ (op : ℕ). eqb op 0x22 && (enables_at k (register_at b) && (on k s.config && eqb (register_value b % 2) 0))) h.opcode
    ∙ ap₂ (λ (x y : ℕ). enables_at k x && (on k s.config && eqb (y % 2) 0)) (sym h.address) (sym h.value)
    ∙ sym (falling_edge k s.config a v)

-- ---- PLTRST#

-- PUT_VWIRE alone lowers it
pub no_lowering : (s : State) (b : List ℕ) → eqb (byte b 0) 0x04 ≡ false → lowers_pltrst s b ≡ false
no_lowering s b e = ap (λ (t : Bool). t && (eqb (read_wire s.wires.groups 3 1) 1 && eqb (read_wire (put_pairs s.wires.groups (pairs b)) 3 1) 0)) e

-- an exchange that ends nothing: no disabling, and PLTRST# does not go low
pub no_ending : (k : Channel) (s : State) (b : List ℕ) → eqb (byte b 0) 0x22 ≡ false → lowers_pltrst s b ≡ false → (disables k s b || lowers_pltrst s b) ≡ false
no_ending k s b e f = ap₂ (λ (t u : Bool). t || u) (no_disabling k s b e) f

-- a write ends what it disables
pub write-ending : (k : Channel) (s : State) (b : List ℕ) (a v : ℕ) → Writes b a v
    → (disables k s b || lowers_pltrst s b) ≡ on k s.config && not (on k (write_at s.config a v))
write-ending k s b a v h =
    ap₂ (λ (t u : Bool). t || u) (disabling k s b a v h) (no_lowering s b (ap (λ (op : ℕ). eqb op 0x04) h.opcode))
    ∙ or-false (on k s.config && not (on k (write_at s.config a v)))

-- a packet that lowers it ends every channel
pub lowering-ends : (k : Channel) (s : State) (b : List ℕ) → lowers_pltrst s b ≡ true → (disables k s b || lowers_pltrst s b) ≡ true
lowering-ends k s b e = ap (λ (t : Bool). disables k s b || t) e ∙ or-true (disables k s b)

-- ---- a run without an event, call by call

pub head_unended : (k : Channel) (w : World) (c : Call) (cs : List Call) → unended k w (c ∷ cs) ≡ true → ends k w c ≡ false
unfolding unended
head_unended k w c cs h = not-true _ (and_left (not (ends k w c)) _ h)

pub tail_unended : (k : Channel) (w : World) (c : Call) (cs : List Call) → unended k w (c ∷ cs) ≡ true → unended k (step w c).next cs ≡ true
unfolding unended
tail_unended k w c cs h = and_right (not (ends k w c)) _ h

pub head_without : (p : World → Call → Bool) (w : World) (c : Call) (cs : List Call) → without p w (c ∷ cs) ≡ true → p w c ≡ false
unfolding without
head_without p w c cs h = not-true _ (and_left (not (p w c)) _ h)

pub tail_without : (p : World → Call → Bool) (w : World) (c : Call) (cs : List Call) → without p w (c ∷ cs) ≡ true → without p (step w c).next cs ≡ true
unfolding without
tail_without p w c cs h = and_right (not (p w c)) _ h
