use Rattle.std.proofs.Common.{◌≡◌, length, arith, add-one, length-set}
use Rattle.std.proofs.Math.Seq.{paste-suc, take-length}
use Rattle.base.specs.Bytes.{put}
use Rattle.base.proofs.put_at.Goals as goal

pub loop-i-preserved : goal.loop-i-preserved
loop-i-preserved c =
    let a = c.args in
    let l = c.loop-i in (
      simp length-set (omega arith),
      rw (l.invariant.1, add-one, paste-suc a.dst.now a.at a.src.now l.i 0 (omega arith) (omega arith)),
    )

pub returns : goal.returns
unfolding put
returns c =
    let e : c.loop-i.i ≡ length c.args.src.now = omega arith in
    rw (e, take-length) at c.loop-i.invariant.1
