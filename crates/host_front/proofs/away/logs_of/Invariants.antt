use Rattle.std.proofs.Common.{◌≡◌, map}
use Rattle.host_front.proofs.AwayLines.{as_shown}
use Rattle.host_front.proofs.away.logs_of.Given as goal

abbrev pub invariant-loop-leaf : goal.invariant-loop-leaf
invariant-loop-leaf l = l.logs ≡ map as_shown l.yielded
