use native.Mathlib.Omega.{arith}
use Rattle.wires.specs.Layout.{all_in}
use Rattle.wires.specs.AllKept.{sound-all_level}
use Rattle.wires.specs.Rows.{up_group}
use Rattle.reply.specs.Packets.{packet-put}
use borrow.Author.Rules.{rules}
use Rattle.reply.proofs.fill_packet.Goals as goal

-- src/lib.rt:140:9
pub send-n-requires : goal.send-n-requires
send-n-requires c =
    let r = c.requires.1 in
    record {
      long = r.long;
      room = search rules;
      below = r.below;
      most = r.most;
      tidy = r.tidy;
      small = λ i u. let g = up_group i u in
          sound-all_level r.on r.count (all_in c.args.state.now) r.sound i (omega (arith, g.from)) (omega (arith, g.upto));
    }

-- src/lib.rt:134:1
pub returns : goal.returns
returns c =
    let e = c.send-n.ensures in (
      packet-put c.args.p c.args.others c.args.state.now c.args.reply.now c.requires.1
          (λ k. omega (arith, c.slice_known-2-1.given k)) (omega arith)
          _ _ _ _ _ _ _ (rw c.from.ensures at c.put_at.ensures) e.state e.reply e.count c.put_at-2.ensures
          c.status_in.ensures.0 c.finish.ensures,
      omega (arith, e.most),
    )
