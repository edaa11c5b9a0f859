use native.Mathlib.Omega.{arith}
use mathlib.Core.Path.{ap}
use mathlib.Core.Bool.{not}
use borrow.Author.Tests.{lt-ltb, le-ltb}
use Rattle.engine.specs.Laws.Loaded.{tidy_there}
use Rattle.engine.specs.Laws.Wires.{pulse_none, can_pulse_lem, pulse_busy, pulse_done}
use Rattle.engine.proofs.wires_channel.pulse_line.Goals as goal

-- src/wires_channel.rt:101:9

pub returns-then-line-ge256 : goal.returns-then-line-ge256
returns-then-line-ge256 c =
    let a = c.args in pulse_none a.c a.state.now a.line (ap not (le-ltb a.line 256 c.if-line-ge256.true))

-- src/wires_channel.rt:104:9

pub returns-then-not-on-operating_count : goal.returns-then-not-on-operating_count
returns-then-not-on-operating_count c =
    let a = c.args in
    pulse_busy a.c a.state.now a.line _ (ap not (lt-ltb a.line 256 c.if-line-ge256.false))
    (can_pulse_lem a.c a.state.now a.line _ _ _ c.on.ensures c.operating_count.ensures
    c.line_waits-waits.ensures) (ap not c.if-not-on-operating_count.true)

-- src/wires_channel.rt:108:5

pub returns : goal.returns
returns c =
    let a = c.args in
    pulse_done a.c a.state.now a.line _ (ap not (lt-ltb a.line 256
    c.if-line-ge256.false))
    (can_pulse_lem a.c a.state.now a.line _ _ _ c.on.ensures
    c.operating_count.ensures c.line_waits-waits.ensures) _
    (λ k. omega (arith, c.slice_known-1.given k)) c.requires.long
    (tidy_there a.state.now c.requires) (ap not c.if-not-on-operating_count.false) c.pulse_line.ensures
