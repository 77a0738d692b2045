-- The runs at the end are those of the definition by recursion, whose laws the lemmas have.
use Rattle.std.proofs.Common.{◌≡◌, subst, sym, ap, ◌∙◌, length, arith}
use Rattle.group_set.specs.Runs.{in_runs, AreRuns}
use Rattle.group_set.proofs.Placed.{placed, left_all, in_placed, AreRuns-placed, length-near}
use Rattle.group_set.proofs.run.place.Goals as goal
use Rattle.group_set.proofs.run.place.Goals.{After-append}

ends : (c : After-append) → c.append.new.runs.items ≡ placed c.args.run c.args.runs.now.items
ends c =
    let runs = c.loop-i.runs in
    c.append.ensures.items ∙ sym (left_all c.loop-i.run runs.items c.loop-i.i (omega (arith, runs.ok.0))) ∙ c.loop-i.invariant.left

pub returns-clause-groups : goal.returns-clause-groups
returns-clause-groups c =
    λ g. ap (λ runs. in_runs runs g) (ends c) ∙ in_placed c.args.run c.args.runs.now.items g c.requires.run c.requires.apart

pub returns-clause-apart : goal.returns-clause-apart
returns-clause-apart c =
    subst AreRuns (sym (ends c)) (AreRuns-placed c.args.run c.args.runs.now.items c.requires.run c.requires.apart)

pub returns-clause-lengthens : goal.returns-clause-lengthens
returns-clause-lengthens c = λ g low high held.
    omega (arith, ap length (ends c), length-near c.args.run c.args.runs.now.items g low high held, c.append.new.runs.ok.0, c.args.runs.now.ok.0)
