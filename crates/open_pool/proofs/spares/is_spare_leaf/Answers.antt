use Rattle.std.proofs.Common.{sym, subst, ◌∙◌}
use Rattle.std.specs.List.{AllZip}
use Rattle.vdev_tree.specs.Children.{children_of, IsChild}
use Rattle.vdev_tree.proofs.Edited.{no_leaf_mirror, over_top}
use Rattle.open_pool.proofs.SpareLeaves.{spares_told}
use Rattle.open_pool.proofs.spares.is_spare_leaf.Goals as goal

pub returns-in-Leaf : goal.returns-in-Leaf
returns-in-Leaf c = absurd (no_leaf_mirror c.args.top.now.mirror c.in-Leaf.field-0 c.in-Leaf.is c.args.top.now.valid)

pub returns-in-Inner : goal.returns-in-Inner
returns-in-Inner c =
    let top = c.args.top.now in
    let are = (over_top top.mirror c.in-Inner.mirror c.in-Inner.is top.valid).are in
    λ place tops here.
    c.is_spare_among.ensures (children_of top.mirror) (subst (λ vs. AllZip IsChild vs (children_of top.mirror)) (sym c.deref.ensures.value) are)
    ∙ spares_told c.args.at place tops top here
