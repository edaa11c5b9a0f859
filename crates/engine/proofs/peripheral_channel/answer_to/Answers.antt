use Rattle.std.proofs.Common.{◌≡◌, ◌≢◌, ℕ, Bool, refl, sym, ap, ◌∙◌}
use Rattle.peripheral.specs.declared.Np.{Np}
use Rattle.peripheral.specs.declared.Np.TheVariants.{Free, Waiting, Ready, Failed}
use Rattle.peripheral.specs.declared.Peripheral.{Peripheral}
use Rattle.peripheral.specs.declared.Request.{Request}
use Rattle.rules.specs.Rules.Numbers.{no_such_request}
use Rattle.rules.specs.Rules.Out.{number}
use Rattle.rules.specs.Rules.Peripheral.{change, answer_to, answering}
use Rattle.engine.proofs.peripheral_channel.answer_to.Goals as goal

none_waits : (p : Peripheral) (serial : ℕ) (success : Bool) (n : ℕ) (h : Np) → ((q : Request) → (h ≢ Waiting q))
    → change p (number no_such_request) ≡ answering p serial success n h
none_waits p serial success n Free k = refl
none_waits p serial success n (Waiting q) k = absurd (k q refl)
none_waits p serial success n (Ready q sent) k = refl
none_waits p serial success n (Failed q) k = refl

pub returns-in-Waiting : goal.returns-in-Waiting
unfolding answer_to
returns-in-Waiting c =
    let a = c.args in
    c.answer_waiting.ensures ∙ ap (answering a.p a.serial a.success a.n) (sym c.in-Waiting.is)

pub returns-in_default : goal.returns-in_default
unfolding answer_to
returns-in_default c = let a = c.args in c.refused.ensures ∙ none_waits a.p a.serial a.success a.n a.p.request c.in_default.not-Waiting
