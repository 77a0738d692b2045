use Rattle.std.proofs.Common.{◌≡◌, ◌++◌, map, take, drop}
use Rattle.open_pool.specs.Scanning.{dropped}
use Rattle.open_pool.proofs.scan.drop_in.Given as goal

abbrev pub invariant-loop-i : goal.invariant-loop-i
invariant-loop-i l = l.leaves ≡ map (dropped l.dev) (take l.i l.initial.leaves) ++ drop l.i l.initial.leaves
