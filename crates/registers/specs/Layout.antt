-- The registers' bytes in those of a state (docs/STATE.md), there and back.
use Rattle.std.specs.Prelude.{ℕ, ◌<◌, ◌^◌, Bool, true, ◌&&◌, List, ◌++◌, ◌≡◌, ltb, get_or}
use Rattle.std.proofs.Common.{arith, ltb-true, lt-ltb}
use Rattle.base.specs.Pick.{and_left, and_right, and_true}
use Rattle.base.specs.Bytes.{low4, number4}
use Rattle.base.specs.Numbers.{join, four_same, listed, number4_lt}
use Rattle.base.proofs.Numbers.{back4, low4-number4}
use Rattle.base.specs.AllBytes.{AllBytes, all-low4, then4}
use Rattle.registers.specs.Laws.{Fitting}
use Rattle.registers.specs.declared.Config.{Config}

-- 0 to 11: the registers 008h, 010h, 020h (docs/STATE.md; docs/DECISIONS.md, 27)
abbrev pub config_bytes : Config → List ℕ
config_bytes c = low4 c.r008.value ++ (low4 c.r010.value ++ low4 c.r020.value)

-- the registers in those bytes (docs/DECISIONS.md, 27)
abbrev pub config_in : List ℕ → Config
config_in l = record { r008 = record { value = number4 0 l }; r010 = record { value = number4 4 l }; r020 = record { value = number4 8 l } }

-- each number within its width: 31:0 (004, 6.2.1.3, 6.2.1.4 and 6.2.1.5)
abbrev pub fits_config : Config → Bool
fits_config c = ltb c.r008.value (2 ^ 32) && (ltb c.r010.value (2 ^ 32) && ltb c.r020.value (2 ^ 32))

pub config-fitting : (c : Config) → fits_config c ≡ true → Fitting c
config-fitting c e =
    let e₁ = and_right (ltb c.r008.value (2 ^ 32)) _ e in
    record {
      fit008 = ltb-true _ _ (and_left (ltb c.r008.value (2 ^ 32)) _ e);
      fit010 = ltb-true _ _ (and_left (ltb c.r010.value (2 ^ 32)) _ e₁);
      fit020 = ltb-true _ _ (and_right (ltb c.r010.value (2 ^ 32)) _ e₁);
    }

pub fitting-config : (c : Config) → Fitting c → fits_config c ≡ true
fitting-config c f = and_true (lt-ltb _ _ f.fit008) (and_true (lt-ltb _ _ f.fit010) (lt-ltb _ _ f.fit020))

-- ---- laws

pub config-back : (c : Config) (t : List ℕ) → Fitting c → config_in (config_bytes c ++ t) ≡ c
config-back c t f = rw (back4 c.r008.value f.fit008, back4 c.r010.value f.fit010, back4 c.r020.value f.fit020)

pub all-config : (c : Config) → AllBytes (config_bytes c)
all-config c = then4 c.r008.value (then4 c.r010.value (all-low4 c.r020.value))

-- any bytes are those of registers
pub config_again : (l : List ℕ) → ((k : ℕ) → get_or l k 0 < 256) → config_bytes (config_in l) ≡ listed 12 0 l
config_again l byte = join (low4-number4 l byte 0) (join (low4-number4 l byte 4) (low4-number4 l byte 8))

pub config_in_fits : (l : List ℕ) → ((k : ℕ) → get_or l k 0 < 256) → Fitting (config_in l)
config_in_fits l byte = record { fit008 = number4_lt l byte 0; fit010 = number4_lt l byte 4; fit020 = number4_lt l byte 8 }

pub config-same : (a b : List ℕ) → ((k : ℕ) → k < 12 → get_or a k 0 ≡ get_or b k 0) → config_in a ≡ config_in b
config-same a b e = rw (four_same a b 12 e 0 (omega arith), four_same a b 12 e 4 (omega arith), four_same a b 12 e 8 (omega arith))
