use Rattle.std.proofs.Common.{arith, sym, ◌∙◌}
use Rattle.std.proofs.lemmas.List.Folds.{list_any_at}
use Rattle.vdev_tree.proofs.Shapes.{length_zip}
use Rattle.vdev_tree.proofs.Seats.{some_child, that_child, passed, none_at_all}
use Rattle.open_pool.proofs.SpareLeaves.{stands_in}
use Rattle.open_pool.proofs.spares.is_spare_among.Goals as goal

pub returns-then-is_spare_of : goal.returns-then-is_spare_of
returns-then-is_spare_of c = λ cs are.
    let vdevs = c.args.children.now in
    let i = c.loop-child.child-index in
    let vdev = c.child-item.result in
    let d = (some_child vdevs cs i vdev are (omega arith) c.child-item.is).0 in
    sym (list_any_at (stands_in c.args.at) cs i d (omega (arith, length_zip vdevs cs are))
    (sym (c.is_spare_of.ensures _ (that_child vdevs cs i vdev d are (omega arith) c.child-item.is)) ∙ c.if-is_spare_of.true))

pub loop-child-preserved : goal.loop-child-preserved
loop-child-preserved c = λ cs are.
    passed (stands_in c.args.at) c.args.children.now cs c.loop-child.child-index c.child-item.result c.is_spare_of.result are (omega arith) c.child-item.is
    c.is_spare_of.ensures c.if-is_spare_of.false (c.loop-child.invariant cs are)

pub returns : goal.returns
returns c = λ cs are.
    sym (none_at_all (stands_in c.args.at) c.args.children.now cs c.loop-child.child-index are (omega arith) (c.loop-child.invariant cs are))
