use Rattle.state.specs.Layout.{unpacked}
use Rattle.state.proofs.unpack.Goals as goal

-- src/lib.rt:44:1
pub returns : goal.returns
unfolding unpacked
returns c =
    cc
