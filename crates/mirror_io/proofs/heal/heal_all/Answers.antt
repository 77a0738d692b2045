use Rattle.std.proofs.Common.{arith}
use Rattle.mirror_io.proofs.Healing.{heals_next, left_next}
use Rattle.mirror_io.proofs.heal.heal_all.Goals as goal

pub loop-i-preserved : goal.loop-i-preserved
loop-i-preserved g c = record {
  left = left_next c.loop-i.i c.loop-i.seen c.args.seen.now c.heal_copy.result c.loop-i.invariant.left;
  heals = heals_next c.loop-i.i _ _ c.heal_copy.result c.loop-i-test.true (omega arith) c.requires.apart c.loop-i.invariant.left
      c.loop-i.invariant.heals c.heal_copy.ensures;
}
