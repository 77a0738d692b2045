use Rattle.std.proofs.Common.{◌≡◌, List, ◌++◌, ◌&&◌, ap, ◌∙◌, subst, sym}
use Rattle.group_set.specs.declared.run.Run.{Run}
use Rattle.group_set.specs.Groups.{Groups, holds}
use Rattle.group_set.specs.Runs.{in_runs, common, AreRuns}
use Rattle.group_set.proofs.Parts.{in_common, AreRuns-common}
use Rattle.group_set.proofs.set.GroupSet.meet.Goals as goal
use Rattle.group_set.proofs.set.GroupSet.meet.Goals.{In_ok-push_common}

-- what was pushed, in terms of the two sets
pushed : (c : In_ok-push_common) → c.push_common.new.out.items ≡ common c.self.inside.runs.items c.other.inside.runs.items
pushed c =
    c.in_ok-push_common.ensures.parts ∙ ap (λ (front : List Run). front ++ common c.deref.result.now c.deref-2.result.now) c.in_ok-runs.ensures.items
    ∙ ap (λ (a : List Run). common a c.deref-2.result.now) c.deref.ensures.value ∙ ap (λ (b : List Run). common c.self.inside.runs.items b) c.deref-2.ensures.value

pub invariant_of-self : goal.invariant_of-self
invariant_of-self c = subst AreRuns (sym (pushed ((goal.at.invariant_of-self c).In_ok-push_common))) (AreRuns-common c.self.inside.runs.items c.other.inside.runs.items c.self.invariant c.other.invariant)

pub returns-clause-ok : goal.returns-clause-ok
unfolding holds
returns-clause-ok c = λ g.
    ap (λ (runs : List Run). in_runs runs g) (pushed ((goal.at.returns-clause-ok c).In_ok-push_common))
    ∙ in_common c.self.inside.runs.items c.other.inside.runs.items g
    ∙ ap (λ (s : Groups). holds s g && in_runs c.other.inside.runs.items g) c.self.view_is
    ∙ ap (λ (s : Groups). holds c.args.self.now g && holds s g) c.other.view_is
