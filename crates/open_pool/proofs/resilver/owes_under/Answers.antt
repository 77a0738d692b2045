use Rattle.std.proofs.Common.{sym}
use Rattle.vdev_tree.specs.Tree.{leaves}
use Rattle.open_pool.proofs.ScansStart.{owes_at, owes_no_more}
use Rattle.open_pool.proofs.resilver.owes_under.Goals as goal

pub returns-then-owes-clause-owing : goal.returns-then-owes-clause-owing
returns-then-owes-clause-owing c = λ yes.
    owes_at (leaves c.args.top.now.mirror) c.loop-place.place c.in-Some.leaf.now (sym c.in-Some.ensures) (c.owes.ensures.owing c.if-owes.true)

pub loop-place-preserved : goal.loop-place-preserved
loop-place-preserved c =
    owes_no_more (leaves c.args.top.now.mirror) c.loop-place.place c.in-Some.leaf.now (sym c.in-Some.ensures) c.loop-place.invariant
    (c.owes.ensures.none c.if-owes.false)
