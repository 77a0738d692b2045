use Rattle.std.proofs.Common.{◌≡◌, subst, sym, ap, ◌∙◌, length, arith}
use Rattle.group_set.specs.Groups.{Groups, CountsRuns}
use Rattle.group_set.specs.Runs.{AreRuns}
use Rattle.group_set.proofs.Maximal.{CountsRuns-length}
use Rattle.group_set.proofs.set.GroupSet.ranges.Goals as goal

pub returns-clause-runs : goal.returns-clause-runs
returns-clause-runs c =
    let set = c.args.self.now in
    let are : AreRuns set.runs = subst (λ (s : Groups). AreRuns s.runs) c.self.view_is c.self.invariant in
    let count : length set.runs ≡ c.len.result = ap (λ (s : Groups). length s.runs) (sym c.self.view_is) ∙ omega (arith, c.self.inside.runs.ok.0) in
    subst (CountsRuns set) count (CountsRuns-length set are)
