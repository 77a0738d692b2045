use Rattle.std.proofs.Common.{List, ap, sym, ◌∙◌, subst, ◌^◌, arith}
use Rattle.group_set.specs.declared.run.Run.{Run}
use Rattle.group_set.specs.Groups.{holds}
use Rattle.group_set.specs.Runs.{in_runs, AreRuns}
use Rattle.group_set.proofs.Listed.{AreRuns-rising, in_runs_of}
use Rattle.group_set.proofs.set.GroupSet.from_ranges.Goals as goal

pub invariant_of-result : goal.invariant_of-result
invariant_of-result c = subst AreRuns (sym c.in_ok-runs_of.ensures) (AreRuns-rising 1 (2 ^ 62) c.args.ranges.now (omega arith) c.requires (omega arith))

pub returns-clause-groups : goal.returns-clause-groups
unfolding holds
returns-clause-groups c = λ g. ap (λ (runs : List Run). in_runs runs g) c.in_ok-runs_of.ensures ∙ in_runs_of c.args.ranges.now g
