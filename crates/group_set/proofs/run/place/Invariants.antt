use Rattle.std.proofs.Common.{◌≡◌, ◌≤◌, ◌-◌, vec_len}
use Rattle.std.specs.Vec.{vec_capacity}
use Rattle.group_set.proofs.Placed.{left_at, placed}
use Rattle.group_set.proofs.run.place.Given as goal

abbrev pub invariant-loop-i : goal.invariant-loop-i
invariant-loop-i l = record {
  left : left_at l.runs.items l.i l.run ≡ placed l.fn.run l.fn.runs.items;
  passed : l.i ≤ vec_len l.runs;
  shorter : vec_len l.runs ≤ vec_len l.fn.runs;
  capacity : vec_capacity l.fn.runs ≤ vec_capacity l.runs;
}

abbrev pub decreases-loop-i : goal.decreases-loop-i
decreases-loop-i l = vec_len l.runs - l.i
