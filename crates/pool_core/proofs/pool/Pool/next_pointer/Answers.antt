use Rattle.std.proofs.Common.{arith}
use Rattle.pool_core.proofs.Validating.{few_blocks}
use Rattle.pool_core.proofs.pool.Pool.next_pointer.Goals as goal

pub free_sector-requires : goal.free_sector-requires
free_sector-requires c = omega (arith, few_blocks c.args.self.now)
