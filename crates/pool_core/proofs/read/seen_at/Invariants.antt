use Rattle.std.proofs.Common.{◌≡◌, drop}
use Rattle.pool_core.specs.Tries.{seen_in}
use Rattle.pool_core.proofs.read.seen_at.Given as goal

abbrev pub invariant-loop-leaf : goal.invariant-loop-leaf
invariant-loop-leaf l = seen_in (drop l.leaf-index l.leaf-items) l.member ≡ seen_in l.seen l.member
