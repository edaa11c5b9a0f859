use mathlib.Core.Path.{refl, ap, ◌∙◌}
use native.Mathlib.Omega.{arith}
use Rattle.state.specs.Packing.{unpacked-fits}
use Rattle.rules.specs.Rules.Channel as K
use Rattle.rules.specs.Rules.Exchange.{channels_of}
use Rattle.engine.specs.Laws.Stored.{configured_start, configured_then, configured_done}
use Rattle.engine.proofs.configuration.reconfigure.Goals as goal

pub returns : goal.returns
returns c =
    configured_done
    (configured_then K.wires refl c.store_edge-2.ensures
    (configured_then K.peripheral refl c.store_edge.ensures
    (configured_start (c.channels-was.ensures ∙ ap channels_of c.requires.1) c.channels-is.ensures c.requires.0
    (unpacked-fits c.args.state.now (λ i. omega (arith, c.slice_known-1.given i))) c.pack.ensures)))
