-- The runs at the end are the parts of those at the beginning, whose laws the lemmas have.
use Rattle.std.proofs.Common.{◌≡◌, subst, sym, ap, ◌∙◌, length, arith}
use Rattle.std.specs.List.{filter_map}
use Rattle.group_set.specs.Runs.{in_runs, part, AreRuns}
use Rattle.group_set.proofs.Parts.{kept_all, in_parts, AreRuns-parts, length-parts}
use Rattle.group_set.proofs.run.keep_within.Goals as goal
use Rattle.group_set.proofs.run.keep_within.Goals.{After-loop-i}

ends : (c : After-loop-i) → c.loop-i.runs.items ≡ filter_map (part c.args.low c.args.high) c.args.runs.now.items
ends c =
    let runs = c.loop-i.runs in
    sym (kept_all c.args.low c.args.high runs.items c.loop-i.i (omega (arith, runs.ok.0))) ∙ c.loop-i.invariant.kept

pub returns-clause-groups : goal.returns-clause-groups
returns-clause-groups c = λ g. ap (λ runs. in_runs runs g) (ends c) ∙ in_parts c.args.low c.args.high c.args.runs.now.items g

pub returns-clause-apart : goal.returns-clause-apart
returns-clause-apart c = subst AreRuns (sym (ends c)) (AreRuns-parts c.args.low c.args.high c.args.runs.now.items c.requires)

pub returns-clause-len : goal.returns-clause-len
returns-clause-len c =
    let runs = c.loop-i.runs in
    omega (arith, ap length (ends c), length-parts c.args.low c.args.high c.args.runs.now.items, runs.ok.0, c.args.runs.now.ok.0)
