use Rattle.std.proofs.Common.{sym, refl, ◌∙◌}
use Rattle.peripheral.specs.Coded.{none_handed, ready_handed, failed_handed}
use Rattle.peripheral.proofs.Coded.{piece_facts}
use Rattle.peripheral.proofs.Peripheral.hand_over.Goals as goal

pub hand_success-requires : goal.hand_success-requires
hand_success-requires c =
    let f = piece_facts _ c.in-Ready.q c.in-Ready.sent c.requires.1 (sym c.unpack.ensures ∙ c.in-Ready.is) in
    (c.requires.0, f.0, f.1, f.2)

pub returns-in-Free : goal.returns-in-Free
returns-in-Free c = none_handed _ _ _ _ c.unpack.ensures c.in-Free.is refl

pub returns-in-Ready : goal.returns-in-Ready
returns-in-Ready c = ready_handed _ _ _ _ c.unpack.ensures _ _ _ c.in-Ready.is c.hand_success.ensures

pub returns-in-Failed : goal.returns-in-Failed
returns-in-Failed c = failed_handed _ _ _ _ c.unpack.ensures _ _ c.in-Failed.is c.hand_bare.ensures
