use Rattle.std.proofs.Common.{◌≡◌, ◌≤◌, ◌-◌, vec_len}
use Rattle.std.specs.List.{filter_map}
use Rattle.std.specs.Vec.{vec_capacity}
use Rattle.group_set.specs.Runs.{part}
use Rattle.group_set.proofs.Parts.{kept_at}
use Rattle.group_set.proofs.run.keep_within.Given as goal

abbrev pub invariant-loop-i : goal.invariant-loop-i
invariant-loop-i l = record {
  kept : kept_at l.low l.high l.runs.items l.i ≡ filter_map (part l.low l.high) l.fn.runs.items;
  passed : l.i ≤ vec_len l.runs;
  capacity : vec_capacity l.runs ≡ vec_capacity l.fn.runs;
}

abbrev pub decreases-loop-i : goal.decreases-loop-i
decreases-loop-i l = vec_len l.runs - l.i
