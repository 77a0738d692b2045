use Rattle.std.proofs.Common.{arith}
use Rattle.group_set.proofs.Parts.{pushed_part}
use Rattle.group_set.proofs.run.push_parts.Goals as goal

pub loop-run-preserved : goal.loop-run-preserved
loop-run-preserved c = record {
  parts = pushed_part c.args.low c.args.high c.args.runs.now c.loop-run.run-index _ c.args.out.now.items c.loop-run.out.items _ c.part.result (omega arith) c.loop-run.invariant.parts c.part.ensures c.in_ok-push_some.ensures.some;
  capacity = omega (arith, c.push_some.ensures.capacity);
}
