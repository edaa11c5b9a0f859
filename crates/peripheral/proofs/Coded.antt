-- How the code decides what a definition says in another way: the laws that its proofs cite.
-- ---- guards: a call's answer x for the test t, and the guard `if !x`
use Rattle.std.specs.Prelude.{◌≡◌, ℕ, ◌<◌, ◌≤◌, true}
use Rattle.std.proofs.Common.{subst}
use Rattle.pieces.specs.Blocks.{Block}
use Rattle.peripheral.specs.Sound.{sound_request}
use Rattle.peripheral.proofs.Facts.{ready_request}
use Rattle.peripheral.specs.declared.Request.{Request}
use Rattle.peripheral.specs.declared.Np.{Np}
use Rattle.peripheral.specs.declared.Np.TheVariants.{Ready}

-- ---- handing over

-- what the cutting of the next piece asks for
pub piece_facts : (n : Np) (q : Request) (sent : ℕ) → sound_request n ≡ true → n ≡ Ready q sent
    → (sent < q.length) × (q.length ≤ 4096) × Block q.payload
piece_facts n q sent e h =
    let r = ready_request q sent (subst (λ (z : Np). sound_request z ≡ true) h e) in
    (r.short, r.made.most, r.made.payload.block)
