-- What is claimed of the house file holds.
pub mod Bytes
pub mod Back
pub mod Again
pub mod Judged
pub mod Code
use Rattle.std.specs.Prelude.{[], ◌∷◌, refl}
use Rattle.std.proofs.Common.{arith}
use Rattle.housefile.specs.Format.{total, all_fit, entries, read}
use Rattle.housefile.specs.Laws.{bad_unequal}
use Rattle.housefile.specs.Statements.{Examples, House}
use Rattle.housefile.proofs.Proofs.Judged.{judged}
use Rattle.housefile.proofs.Proofs.Back.{back, fits, bytes}
use Rattle.housefile.proofs.Proofs.Again.{again}

examples : Examples
unfolding read total all_fit entries
examples = record { document = refl; empty = refl; one = λ b. bad_unequal (b ∷ []) (λ e. omega (arith, e)); none = refl }

pub house : House
house = record { judged = judged; back = back; again = again; fits = fits; bytes = bytes; examples = examples }
