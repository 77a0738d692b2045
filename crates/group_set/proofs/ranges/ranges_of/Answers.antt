use Rattle.std.proofs.Common.{[], ◌∷◌, ◌++◌, ap, ◌∙◌, arith}
use Rattle.mp_base.specs.declared.range.GroupRange.{GroupRange}
use Rattle.group_set.proofs.Maximal.{IsRun-among}
use Rattle.group_set.proofs.Listed.{AreListed-none, AreListed-more, AreListed-groups, AreListed-count, AreListed-upto}
use Rattle.group_set.proofs.ranges.ranges_of.Goals as goal

pub loop-run-init : goal.loop-run-init
loop-run-init c = AreListed-none c.args.runs.now c.new-ranges.result c.requires c.new-ranges.ensures

pub overflow_add-from : goal.overflow_add-from
overflow_add-from c = omega (arith, (IsRun-among c.in-Some.run' c.args.runs.now c.requires c.in-Some.ensures.among).last)

pub loop-run-smaller : goal.loop-run-smaller
loop-run-smaller c =
    let is = IsRun-among c.in-Some.run' c.args.runs.now c.requires c.in-Some.ensures.among in
    omega (arith, is.some, is.last, c.in-Some.ensures.late)

pub loop-run-preserved : goal.loop-run-preserved
loop-run-preserved c =
    AreListed-more c.loop-run.from c.args.runs.now c.loop-run.ranges c.push.new.self c.in-Some.run' c.requires c.in-Some.ensures c.loop-run.invariant
    (c.in_ok-push.ensures.ok ∙ ap (λ (r : GroupRange). c.loop-run.ranges ++ r ∷ []) c.range.ensures)

pub returns-clause-groups : goal.returns-clause-groups
returns-clause-groups c = λ g. AreListed-groups c.loop-run.from c.args.runs.now c.loop-run.ranges g c.in_default.ensures c.loop-run.invariant

pub returns-clause-count : goal.returns-clause-count
returns-clause-count c = AreListed-count c.loop-run.from c.args.runs.now c.loop-run.ranges c.in_default.ensures c.loop-run.invariant

pub returns-clause-ranges : goal.returns-clause-ranges
returns-clause-ranges c = λ n top. AreListed-upto c.loop-run.from n c.args.runs.now c.loop-run.ranges c.in_default.ensures top c.loop-run.invariant
