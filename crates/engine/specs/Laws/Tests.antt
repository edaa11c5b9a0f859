-- A guard's test, from what the callee ensures of the tested result.
use Rattle.std.specs.Prelude.{Bool, not, ◌≡◌}
use Rattle.std.proofs.Common.{sym, ap, ◌∙◌}

-- a denied result
pub denied : {a b t : Bool} → a ≡ b → not a ≡ t → not b ≡ t
denied e h = ap not (sym e) ∙ h

-- a plain result
pub tested : {a b t : Bool} → a ≡ b → a ≡ t → b ≡ t
tested e h = sym e ∙ h
