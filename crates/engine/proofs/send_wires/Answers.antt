use Rattle.engine.specs.Laws.Wires.{send_none, send-done}
use Rattle.engine.specs.Carried.{carried}
use Rattle.engine.specs.declared.Outgoing.{Outgoing}
use Rattle.engine.specs.declared.Speech.TheVariants as Y
use mathlib.Core.Path.{ap, ◌∙◌}
use mathlib.Core.Bool.{not}
use Rattle.engine.proofs.send_wires.Goals as goal

-- src/lib.rt:149:9
pub returns-then-not-any_pending : goal.returns-then-not-any_pending
returns-then-not-any_pending c =
    send_none c.args.state.now c.requires _ _ _ c.any_pending.ensures (ap not c.if-not-any_pending.true) c.fatally.ensures
    c.status_in.ensures

-- src/lib.rt:144:1
pub returns : goal.returns
returns c =
    ap (λ (z : Outgoing). carried (record z { speech = Y.Packet }) c.args.state.now) c.silently.ensures
    ∙ send-done c.args.state.now c.requires _ c.any_pending.ensures (ap not c.if-not-any_pending.false)
