use Prim.Native.Nat.{ℕ}
use mathlib.Core.List.{List}
use mathlib.Core.Path.{◌≡◌, refl, sym}
use lib.Dec.{ltb}
use lib.ListN.{length}
use Rattle.base.specs.Bytes.{over, over_none}
use Rattle.peripheral.specs.declared.Np.{Np}
use Rattle.peripheral.specs.declared.Np.TheVariants.{Free, Waiting, Ready, Failed}
use Rattle.peripheral.specs.declared.Request.{Request}
use Rattle.rules.specs.Rules.Numbers.{nothing_there}
use Rattle.rules.specs.Rules.Peripheral.{look_number, look_report}
use Rattle.rules.specs.Rules.Step.{look_length}
use Rattle.rules.specs.Rules.Calls.{looked, look_call}
use Rattle.espi.specs.Boundary.{refuses, goes_through, looked_by}
use Rattle.espi.proofs.espi_look.Goals as goal

-- where no request waits there is nothing to look at, and nothing is said
module _ (serial : ℕ) (report : List ℕ) where
  nothing : (n : Np) → ((q : Request) → n ≡ Waiting q → ⊥) → (nothing_there ≡ look_number n) × (report ≡ over (look_report n serial) report)
  nothing Free h = (refl, sym (over_none report))
  nothing (Waiting q) h = absurd (h q refl)
  nothing (Ready q sent) h = (refl, sym (over_none report))
  nothing (Failed q) h = (refl, sym (over_none report))

pub returns-in-Err : goal.returns-in-Err
unfolding look_call
returns-in-Err c =
    refuses c.args.state.now (ltb (length c.args.report.now) look_length) _ c.guard.ensures (λ n. looked n c.args.report.now) _ _ _ c.number.ensures c.in-Err.is

pub returns-in_default-request : goal.returns-in_default-request
unfolding look_call
returns-in_default-request c =
    let p = c.unpack-p.result in
    let none = nothing p.serial c.args.report.now p.request c.in_default-request.not-Waiting in
    goes_through c.args.state.now (ltb (length c.args.report.now) look_length) _ c.guard.ensures (λ n. looked n c.args.report.now) _ _ c.in_default.is
    (looked_by c.args.state.now _ _ _ _ _ c.unpack-p.ensures refl (rw c.number-in_default-request.ensures none.0) none.1)

pub returns : goal.returns
unfolding look_call
returns c =
    goes_through c.args.state.now (ltb (length c.args.report.now) look_length) _ c.guard.ensures (λ n. looked n c.args.report.now) _ _ c.in_default.is
    (looked_by c.args.state.now _ _ 0 _ _ c.unpack-p.ensures c.in-Waiting.is refl c.put_request.ensures)
