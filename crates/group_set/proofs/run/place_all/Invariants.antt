use Rattle.std.proofs.Common.{◌≡◌, ℕ, ◌+◌, ◌≤◌, ◌||◌, take, vec_len}
use Rattle.std.specs.Vec.{vec_capacity}
use Rattle.group_set.specs.Runs.{in_runs, AreRuns}
use Rattle.group_set.proofs.run.place_all.Given as goal

abbrev pub invariant-loop-run : goal.invariant-loop-run
invariant-loop-run l = record {
  groups : (g : ℕ) → in_runs l.runs.items g ≡ (in_runs l.fn.runs.items g || in_runs (take l.run-index l.others) g);
  apart : AreRuns l.runs.items;
  capacity : vec_capacity l.fn.runs ≤ vec_capacity l.runs;
  room : vec_len l.runs ≤ vec_len l.fn.runs + l.run-index;
}
