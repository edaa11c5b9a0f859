use Rattle.peripheral.specs.declared.Kind.TheVariants as R
use Rattle.engine.specs.Laws.Peripheral.{request_sizes}
use Rattle.engine.proofs.peripheral_channel.short_access.Goals as goal

pub ask-requires : goal.ask-requires
ask-requires c =
    let s = request_sizes c.args.c c.requires.2 _ R.IoRead _ _ _ _ c.request_of.ensures in
    (c.requires.0, c.requires.1, s.0, s.1)

pub ask-requires-in-IoWrite : goal.ask-requires-in-IoWrite
ask-requires-in-IoWrite c =
    let s = request_sizes c.args.c c.requires.2 _ R.IoWrite _ _ _ _ c.request_of-in-IoWrite.ensures in
    (c.requires.0, c.requires.1, s.0, s.1)

pub ask-requires-in-MemoryRead : goal.ask-requires-in-MemoryRead
ask-requires-in-MemoryRead c =
    let s = request_sizes c.args.c c.requires.2 _ R.MemoryRead _ _ _ _ c.request_of-in-MemoryRead.ensures in
    (c.requires.0, c.requires.1, s.0, s.1)
