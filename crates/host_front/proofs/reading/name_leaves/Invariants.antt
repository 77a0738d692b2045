use Rattle.std.proofs.Common.{◌≡◌, ◌++◌, drop}
use Rattle.pool_core.specs.Keeping.{Represents}
use Rattle.pool_core.specs.State.{PoolState, leaves}
use Rattle.host_machine.specs.Machine.{named}
use Rattle.host_front.proofs.reading.name_leaves.Given as goal

abbrev pub invariant-loop-shown : goal.invariant-loop-shown
invariant-loop-shown l = (s : PoolState) → Represents l.fn.pool s → l.named ++ named (leaves s) (drop l.shown-index l.shown-items) ≡ named (leaves s) l.fn.seen
