-- Lists of numbers below 256, part by part.
use Rattle.std.specs.Prelude.{ℕ, zero, suc, ◌%◌, ◌<◌, List, [], ◌∷◌, ◌++◌, get_or}
use Rattle.std.proofs.Common.{mod-lt, arith}
use Rattle.base.specs.Bytes.{low4, low8}

pub record AllBytes (l : List ℕ) : Type 0 where
  pub byte : (k : ℕ) → get_or l k 0 < 256

pub all_none : AllBytes []
all_none = record { byte = λ k. omega arith }

pub all_cons : {x : ℕ} {l : List ℕ} → x < 256 → AllBytes l → AllBytes (x ∷ l)
all_cons {x} {l} h a = record { byte = go }
  where
    go : (k : ℕ) → get_or (x ∷ l) k 0 < 256
    go zero = h
    go (suc k) = a.byte k

pub all_append : {b : List ℕ} (a : List ℕ) → AllBytes a → AllBytes b → AllBytes (a ++ b)
all_append {b} [] x y = y
all_append {b} (v ∷ a) x y = all_cons (x.byte 0) (all_append a (record { byte = λ k. x.byte (suc k) }) y)

-- one byte of a number
low : {l : List ℕ} (v : ℕ) → AllBytes l → AllBytes (v % 256 ∷ l)
low {l} v h = all_cons (mod-lt v (omega arith)) h

pub all-low4 : (v : ℕ) → AllBytes (low4 v)
all-low4 v = low _ (low _ (low _ (low _ all_none)))

all-low8 : (v : ℕ) → AllBytes (low8 v)
all-low8 v = low _ (low _ (low _ (low _ (low _ (low _ (low _ (low _ all_none)))))))

pub then4 : {l : List ℕ} (v : ℕ) → AllBytes l → AllBytes (low4 v ++ l)
then4 {l} v h = all_append (low4 v) (all-low4 v) h

pub then8 : {l : List ℕ} (v : ℕ) → AllBytes l → AllBytes (low8 v ++ l)
then8 {l} v h = all_append (low8 v) (all-low8 v) h
