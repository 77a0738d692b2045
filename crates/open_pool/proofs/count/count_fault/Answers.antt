use Rattle.std.proofs.Common.{sym}
use Rattle.open_pool.proofs.TopsCounted.{uncounted_group}
use Rattle.open_pool.proofs.count.count_fault.Goals as goal

pub returns-else-counted-2 : goal.returns-else-counted-2
returns-else-counted-2 c = sym (uncounted_group c.args.counted c.args.group.now c.if-counted.false c.if-counted-2.false)
