use Rattle.std.proofs.Common.{◌≤◌, length, Some, sym, ap, ◌∙◌, subst}
use Rattle.std.proofs.lemmas.Option.{slice_get-get_or}
use Rattle.vdev_tree.specs.Tree.{leaves}
use Rattle.vdev_tree.specs.declared.top.Top.{Top}
use Rattle.txg_engine.proofs.Seating.{few_leaves}
use Rattle.open_pool.specs.Scanning.{HasOwing}
use Rattle.open_pool.proofs.ScansStart.{none_under_more, owes_under_one}
use Rattle.open_pool.proofs.resilver.has_owing.Goals as goal

pub owes_under-requires : goal.owes_under-requires
owes_under-requires c =
    subst (λ (top : Top). length (leaves top.mirror) ≤ 32) (sym c.index-tops-i.is)
    (few_leaves c.args.tops.now c.loop-i.i c.index-tops-i.result c.loop-i-test.true c.requires)

pub returns-then-owes_under-clause-owing : goal.returns-then-owes_under-clause-owing
returns-then-owes_under-clause-owing c = λ yes.
    let top = c.index-tops-i.result in
    owes_under_one c.args.tops.now c.loop-i.i top
    (slice_get-get_or c.args.tops.now c.loop-i.i top c.loop-i-test.true ∙ ap (λ (t : Top). Some t) (sym c.index-tops-i.is))
    (c.owes_under.ensures.owing c.if-owes_under.true)

pub loop-i-preserved : goal.loop-i-preserved
loop-i-preserved c =
    none_under_more c.args.tops.now c.loop-i.i c.index-tops-i.result c.loop-i-test.true c.loop-i.invariant
    (λ has. c.owes_under.ensures.none c.if-owes_under.false (subst (λ (t : Top). HasOwing (leaves t.mirror)) (sym c.index-tops-i.is) has))
