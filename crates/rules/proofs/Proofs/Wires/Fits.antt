-- What goes out of channel 1 fits: no piece, a packet over its sound wires, and nothing kept.
use Rattle.std.specs.Prelude.{ℕ, true, ◌≡◌, length}
use Rattle.std.proofs.Common.{ap, arith}
use Rattle.registers.specs.Registers.{on1, operating_count}
use Rattle.registers.specs.declared.Config.{Config}
use Rattle.wires.specs.Senders.{AllWires, sent, sound_all}
use Rattle.wires.specs.AllKept.{sound-all-place}
use Rattle.wires.specs.Sent.{entries-some}
use Rattle.rules.specs.Rules.Wires.{Act}
use Rattle.rules.specs.Rules.Fits.{OutFits}
use Rattle.rules.specs.Statements.Wires.{Did, over_count, third, put, none_pending_lem, sent_off_lem}
use Rattle.rules.specs.Rules.Plan.{WiresChange}

pub fits : (m : ℕ) {c : Config} {w : AllWires} {a : Act} {x : WiresChange} → sound_all (on1 c.r020) (operating_count c.r020) w ≡ true → Did c w a x
    → OutFits m w x.out
fits m h (over_count e) = (tt, tt)
fits m h (third e f) = (tt, tt)
fits m h (put e f) = (tt, tt)
fits m h (none_pending_lem e) = (tt, tt)
fits m {c} {w} h (sent_off_lem {k} {ks} e) =
    let n = operating_count c.r020 in (
      record {
        below = sound-all-place (on1 c.r020) n w h;
        most = omega arith;
        some = omega (arith, entries-some w (sent w n), ap length e);
      },
      tt,
    )
