use Rattle.std.proofs.Common.{◌≡◌, replicate, None}
use Rattle.pool_core.proofs.pool.nothing.Given as goal

abbrev pub invariant-loop-a : goal.invariant-loop-a
invariant-loop-a g l = l.list.items ≡ replicate l.a None
