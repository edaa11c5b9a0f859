-- `crc::word8` meets its contract: two halves.
use Prim.Native.Nat.{ℕ, ◌+◌, ◌*◌}
use mathlib.Core.Path.{sym, ap₂, ◌∙◌}
use Rattle.crc.specs.Turns.{word_add}
use Rattle.crc.proofs.word8.Goals as goal

pub returns : goal.returns
returns c = c.halves.ensures ∙ ap₂ (λ (x y : ℕ). x * 4294967296 + y) c.word4.ensures c.word4-2.ensures ∙ sym (word_add _ 4 4 _)
