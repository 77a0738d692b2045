use Rattle.std.proofs.Common.{arith}
use Rattle.mirror_io.proofs.Answering.{cleared_next}
use Rattle.mirror_io.proofs.read.clear_seen.Goals as goal

pub loop-i-preserved : goal.loop-i-preserved
loop-i-preserved c = rw c.unread.ensures (cleared_next c.args.copies.now c.loop-i.seen c.loop-i.i _ c.loop-i-test.true (omega arith) c.loop-i.invariant)
