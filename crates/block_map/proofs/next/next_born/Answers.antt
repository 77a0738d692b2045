use Rattle.std.proofs.Common.{arith}
use Rattle.block_map.proofs.BornKeys.{none_born_upto}
use Rattle.block_map.proofs.next.next_born.Goals as goal

pub returns-clause-none : goal.returns-clause-none
returns-clause-none c = none_born_upto c.args.pointers.now c.args.from c.loop-at.at c.args.hi.0 (omega arith) c.loop-at.invariant
