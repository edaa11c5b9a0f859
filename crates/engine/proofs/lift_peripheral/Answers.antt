use Rattle.std.specs.Prelude.{Option}
use mathlib.Core.Path.{sym, ap, ◌∙◌}
use Rattle.state.specs.Layout.{unpacked}
use Rattle.state.specs.Status.{status}
use Rattle.rules.specs.declared.Say.{Say}
use Rattle.rules.specs.Rules.Channel.{peripheral, put}
use Rattle.rules.specs.Rules.Fits.{plain_say}
use Rattle.rules.specs.Rules.Lift.{with_status}
use Rattle.engine.specs.Carried.{carried}
use Rattle.engine.specs.declared.Outgoing.{Outgoing}
use Rattle.engine.specs.Laws.Stored.{lift-carried}
use Rattle.engine.proofs.lift_peripheral.Goals as goal

-- src/lib.rt:62:1
pub returns : goal.returns
unfolding unpacked
returns c =
    let a = c.args in
    let l = a.state.now in
    ap (λ (z : Outgoing). carried (record z { kept = a.x.out.kept }) c.store.new.state) c.silently.ensures
    ∙ lift-carried peripheral (unpacked l) a.x l c.requires.0 c.requires.1 _ _ (ap plain_say c.requires.2) c.store.ensures
    (sym (ap (λ (z : Option Say). with_status z (status (put peripheral a.x.next (unpacked l)))) c.requires.2))
