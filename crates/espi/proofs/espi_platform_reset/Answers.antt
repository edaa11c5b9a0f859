use mathlib.Core.Bool.{false}
use mathlib.Core.Path.{ap}
use Rattle.rules.specs.Rules.Calls.{done, reset_call, platform_reset_call}
use Rattle.espi.specs.Boundary.{refuses, goes_through}
use Rattle.espi.proofs.espi_platform_reset.Goals as goal

pub returns-in-Err : goal.returns-in-Err
unfolding platform_reset_call reset_call
returns-in-Err c =
    refuses c.args.state.now false _ c.guard.ensures (λ n. done n c.args.state.now) _ _ _ c.number.ensures c.in-Err.is

pub returns : goal.returns
unfolding platform_reset_call reset_call
returns c =
    goes_through c.args.state.now false _ c.guard.ensures (λ n. done n c.args.state.now) _ _ c.in_default.is
    (ap (done 0) c.platform_reset.ensures)
