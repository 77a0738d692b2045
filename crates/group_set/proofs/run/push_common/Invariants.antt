use Rattle.std.proofs.Common.{◌≡◌, ◌≤◌, ◌++◌, take}
use Rattle.std.specs.Vec.{vec_capacity}
use Rattle.group_set.specs.Runs.{common}
use Rattle.group_set.proofs.run.push_common.Given as goal

abbrev pub invariant-loop-run : goal.invariant-loop-run
invariant-loop-run l = record {
  parts : l.out.items ≡ l.fn.out.items ++ common l.a (take l.run-index l.b);
  capacity : vec_capacity l.fn.out ≤ vec_capacity l.out;
}
