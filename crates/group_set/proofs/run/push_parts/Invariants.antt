use Rattle.std.proofs.Common.{◌≡◌, ◌≤◌, ◌++◌, take}
use Rattle.std.specs.List.{filter_map}
use Rattle.std.specs.Vec.{vec_capacity}
use Rattle.group_set.specs.Runs.{part}
use Rattle.group_set.proofs.run.push_parts.Given as goal

abbrev pub invariant-loop-run : goal.invariant-loop-run
invariant-loop-run l = record {
  parts : l.out.items ≡ l.fn.out.items ++ filter_map (part l.low l.high) (take l.run-index l.runs);
  capacity : vec_capacity l.fn.out ≤ vec_capacity l.out;
}
