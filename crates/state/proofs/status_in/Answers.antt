use Rattle.state.specs.Status.{status}
use Rattle.state.specs.Layout.{unpacked}
use Rattle.state.proofs.status_in.Goals as goal

pub returns : goal.returns
unfolding status unpacked
returns c = cc
