use Rattle.playback.specs.Written.{told_by}
use Rattle.playback.proofs.tell.Goals as goal

pub returns : goal.returns
returns c =
    told_by _ _ c.args.reply.now c.args.line.now _ _ _ _ _ _ _ _ _ c.decimal-a.ensures c.put_at.ensures c.decimal-b.ensures c.put_at-2.ensures
    c.shown-c.ensures c.put_at-3.ensures
