use Rattle.vdev_tree.proofs.Built.{pair_guid}
use Rattle.pool_core.proofs.Pairs.{HasTwo-of}
use Rattle.pool_core.proofs.pair.Pair.new.Goals as goal

pub invariant_of-result : goal.invariant_of-result
invariant_of-result c =
    HasTwo-of c.in_ok-pair.field-0 c.args.first c.args.second c.args.mirror c.in_ok-pair.ensures.leaves c.in_ok-pair.ensures.built

pub returns-clause-mirror : goal.returns-clause-mirror
returns-clause-mirror c = pair_guid c.in_ok-pair.field-0.mirror c.args.mirror c.in_ok-pair.ensures.built
