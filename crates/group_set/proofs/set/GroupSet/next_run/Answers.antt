use Rattle.std.proofs.Common.{◌≡◌, ℕ, ◌<◌, ◌≤◌, false, List, subst, sym, ap, ◌∙◌, IfNone}
use Rattle.group_set.specs.declared.run.Run.{Run}
use Rattle.group_set.specs.Groups.{Groups, begins}
use Rattle.group_set.specs.Runs.{AreRuns}
use Rattle.group_set.specs.Choice.{FirstFrom, IsAmong}
use Rattle.group_set.proofs.Maximal.{IsMaximalRun-among, IsRun-among, first_run, no_run}
use Rattle.group_set.proofs.set.GroupSet.next_run.Goals as goal
use Rattle.group_set.proofs.set.GroupSet.next_run.Goals.{In_ok-run}

are_runs : (c : In_ok-run) → AreRuns c.args.self.now.runs
are_runs c = subst (λ (s : Groups). AreRuns s.runs) c.self.view_is c.self.invariant

found : (c : In_ok-run) → FirstFrom c.args.self.now.runs c.args.from.0 c.in_ok-run.run'
found c = subst (λ (runs : List Run). FirstFrom runs c.args.from.0 c.in_ok-run.run') (c.deref.ensures.value ∙ ap (λ (s : Groups). s.runs) c.self.view_is) c.in_ok-run.ensures

pub returns-in_err-run-clause-none : goal.returns-in_err-run-clause-none
returns-in_err-run-clause-none c =
    let set = c.args.self.now in
    let none = subst (λ (runs : List Run). (r : Run) → IsAmong r runs → r.low < c.args.from.0) (c.deref.ensures.value ∙ ap (λ (s : Groups). s.runs) c.self.view_is) c.in_err-run.ensures in
    subst (λ r. IfNone r ((g : ℕ) → c.args.from.0 ≤ g → begins set g ≡ false)) (sym c.from_residual.ensures) (no_run set c.args.from.0 none)

pub returns-clause-run : goal.returns-clause-run
returns-clause-run c = IsMaximalRun-among c.args.self.now c.in_ok-run.run' (are_runs c) (found c).among

pub returns-clause-first : goal.returns-clause-first
returns-clause-first c = first_run c.args.self.now c.args.from.0 c.in_ok-run.run' (are_runs c) (found c)

pub returns-clause-in_range : goal.returns-clause-in_range
returns-clause-in_range c =
    let is = IsRun-among c.in_ok-run.run' c.args.self.now.runs (are_runs c) (found c).among in
    (is.first, is.last)
