use Rattle.std.proofs.Common.{◌∙◌, arith}
use Rattle.peripheral.specs.Sound.{sound_request}
use Rattle.peripheral.specs.Coded.{phase-at, phase-held, then_true}
use Rattle.peripheral.proofs.request_holds.Goals as goal

pub returns-then-phase-eq0 : goal.returns-then-phase-eq0
unfolding sound_request
returns-then-phase-eq0 c = phase-at c.args.b.now _ 0 c.if-phase-eq0.true (c.blank.ensures ∙ then_true _)

pub returns : goal.returns
returns c = phase-held c.args.b.now _
    c.if-phase-eq0.false (omega (arith, c.if-phase-gt3.false))
    (rw (c.held_right.ensures, c.unpack.ensures, c.get4.ensures))
