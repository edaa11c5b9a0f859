use Rattle.wires.specs.Going.{put_two}
use Rattle.wires.proofs.sending.put_level.Goals as goal

pub returns : goal.returns
returns c = put_two c.args.at _ _ c.args.reply.now c.requires.0
