-- What callers use of the registers, in place of the definitions' texts: reads after writes, values that stay below 2 ^ 32 and reachable.
-- The laws of the fields and of the sizes are passed on.
use Rattle.std.specs.Prelude.{ℕ, ◌*◌, ◌%◌, ◌^◌, ◌<◌, Bool, true, false, ◌&&◌, not, ◌≡◌, refl, eqb}
use Rattle.std.proofs.Common.{ap, sym, subst, arith, lit<, eq-eqb}
use Rattle.base.specs.Pick.{pick, and_left, and_right, and_true}
use Rattle.registers.specs.declared.Config.{Config}
use Rattle.registers.specs.Registers.{masked, readied, writable008, writable010, writable020, write020, fresh008, fresh010, fresh020, fresh_config, write_at, reachable008, reachable010, reachable020, reachable}
pub use Rattle.registers.specs.Fields.{field-kept, field-written, masked-fits, Written008, Written010, Written020}
pub use Rattle.registers.specs.Sizes.{own008, own010, own020, at_equal, sizes, payload_legal_lem, read_legal_lem, payload_cases, read_cases}

-- ---- a write by its address

-- an address is one of the three that take a write, or another
pub by_address : (Q : ℕ → Type 0) → Q 0x008 → Q 0x010 → Q 0x020
    → ((a : ℕ) → eqb a 0x008 ≡ false → eqb a 0x010 ≡ false → eqb a 0x020 ≡ false → Q a) → (a : ℕ) → Q a
by_address Q p q r other a = tested (eqb a 0x008) (eqb a 0x010) (eqb a 0x020) refl refl refl
  where
    tested : (s t u : Bool) → eqb a 0x008 ≡ s → eqb a 0x010 ≡ t → eqb a 0x020 ≡ u → Q a
    tested true t u e f g = at_equal Q a 0x008 p e
    tested false true u e f g = at_equal Q a 0x010 q f
    tested false false true e f g = at_equal Q a 0x020 r g
    tested false false false e f g = other a e f g

-- elsewhere a write is without effect
pub write_other : (c : Config) (a v : ℕ) → eqb a 0x008 ≡ false → eqb a 0x010 ≡ false → eqb a 0x020 ≡ false → write_at c a v ≡ c
write_other c a v e f g = rw (e, f, g)

pub write_r020 : (c : Config) (a v : ℕ) → (write_at c a v).r020 ≡ pick (eqb a 0x020) (write020 c.r020 v) c.r020
write_r020 c a v =
    by_address (λ (x : ℕ). (write_at c x v).r020 ≡ pick (eqb x 0x020) (write020 c.r020 v) c.r020) refl refl refl
    (λ x e f g. rw (e, f, g)) a

-- ---- values stay below 2 ^ 32

pub record Fitting (c : Config) : Type 0 where
  pub fit008 : c.r008.value < 2 ^ 32
  pub fit010 : c.r010.value < 2 ^ 32
  pub fit020 : c.r020.value < 2 ^ 32

pub fits_fresh : Fitting fresh_config
fits_fresh = record { fit008 = lit< tt; fit010 = lit< tt; fit020 = lit< tt }

readied-fits : (old v mask : ℕ) → old < 2 ^ 32 → v < 2 ^ 32 → readied (masked old v mask) < 2 ^ 32
readied-fits old v mask ho hv =
    let w = masked old v mask in
    masked-fits w (2 * (w % 2)) 2 (masked-fits old v mask ho hv) (omega arith)

pub fits-write : (c : Config) (a v : ℕ) → Fitting c → v < 2 ^ 32 → Fitting (write_at c a v)
fits-write c a v h l =
    by_address (λ (x : ℕ). Fitting (write_at c x v))
    (record { fit008 = masked-fits c.r008.value v writable008 h.fit008 l; fit010 = h.fit010; fit020 = h.fit020 })
    (record { fit008 = h.fit008; fit010 = readied-fits c.r010.value v writable010 h.fit010 l; fit020 = h.fit020 })
    (record { fit008 = h.fit008; fit010 = h.fit010; fit020 = readied-fits c.r020.value v writable020 h.fit020 l })
    (λ x e f g. subst Fitting (sym (write_other c x v e f g)) h) a

-- ---- reachable values stay so

pub fresh_008 : reachable008 fresh008.value ≡ true
unfolding reachable008
fresh_008 = refl

pub fresh_010 : reachable010 fresh010.value ≡ true
unfolding reachable010
fresh_010 = refl

pub fresh_020 : reachable020 fresh020.value ≡ true
unfolding reachable020
fresh_020 = refl

-- each register of a reachable configuration, and back
module _ (c : Config) where
  abbrev r8 : Bool
  r8 = reachable008 c.r008.value

  abbrev r10 : Bool
  r10 = reachable010 c.r010.value

  abbrev r20 : Bool
  r20 = reachable020 c.r020.value

  pub reachable_r008 : reachable c ≡ true → reachable008 c.r008.value ≡ true
  reachable_r008 h = and_left r8 r10 (and_left (r8 && r10) r20 h)

  pub reachable_r010 : reachable c ≡ true → reachable010 c.r010.value ≡ true
  reachable_r010 h = and_right r8 r10 (and_left (r8 && r10) r20 h)

  pub reachable_r020 : reachable c ≡ true → reachable020 c.r020.value ≡ true
  reachable_r020 h = and_right (r8 && r10) r20 h

  pub reachable-all : reachable008 c.r008.value ≡ true → reachable010 c.r010.value ≡ true → reachable020 c.r020.value ≡ true → reachable c ≡ true
  reachable-all e f g = and_true {a = r8 && r10} {b = r20} (and_true {a = r8} {b = r10} e f) g

pub reachable-fresh : reachable fresh_config ≡ true
reachable-fresh = reachable-all fresh_config fresh_008 fresh_010 fresh_020

-- a write that is not forbidden: its own write leaves what it makes, and the fields that are tested are the value's
pub made : (x y : ℕ) (f : Bool) → x ≡ y → f ≡ false → eqb x y && not f ≡ true
made x y f e h = and_true (eq-eqb x y e) (ap not h)
