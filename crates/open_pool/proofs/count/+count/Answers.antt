use Rattle.std.proofs.Common.{◌≡◌, [], ◌∷◌, length, get_or, ap, subst, ◌∙◌, arith}
use Rattle.std.specs.List.{AllZip}
use Rattle.std.proofs.Math.ListN.{length-set}
use Rattle.vdev_tree.specs.declared.vdev.Vdev.{Vdev}
use Rattle.vdev_tree.specs.declared.vdev.Vdev.TheVariants.{outs-Leaf, outs-Inner}
use Rattle.vdev_tree.proofs.Built.{leaf_form, inner_form}
use Rattle.vdev_tree.specs.Tree.{leaves, marks, form_of, Form}
use Rattle.vdev_tree.specs.Changes.{form_alone}
use Rattle.vdev_tree.proofs.Lists.{here_still, drop_set, same_more}
use Rattle.vdev_tree.proofs.Changed.{leaf_changed, inner_changed, changed_more, length-marks, marks_of_child}
use Rattle.pool_config.specs.Seen.{VdevSeen, vdevs_of}
use Rattle.open_pool.specs.Counting.{counted_leaf}
use Rattle.open_pool.proofs.TopsCounted.{leaf_told, inner_told}
use Rattle.open_pool.proofs.count.+count.Goals as goal

pub count_vdev-count_children-requires : goal.count_vdev-count_children-requires
count_vdev-count_children-requires t c = (
  rw (c.in-Inner.is, outs-Inner) (omega (arith, c.decreases, length-marks c.args.vdev.now c.in-Inner.inner c.in-Inner.is)),
  tt,
)

pub count_children-count_vdev-requires : goal.count_children-count_vdev-requires
count_children-count_vdev-requires t c =
    let ys = c.args.inner.now.children.items in
    let xs = c.loop-i.inner.children.items in
    let i = c.loop-i.i in
    let child = c.index_mut.result.now in
    let here : child ≡ get_or ys i child = here_still Vdev xs ys i child c.loop-i.invariant.rest c.index_mut.ensures.value in (
      omega (arith, c.decreases, marks_of_child ys i child (omega arith), ap (λ (v : Vdev). length (marks v)) here),
      tt,
    )

pub count_children-loop-i-preserved : goal.count_children-loop-i-preserved
count_children-loop-i-preserved t c =
    let ys = c.args.inner.now.children.items in
    let xs = c.loop-i.inner.children.items in
    let i = c.loop-i.i in
    let child = c.index_mut.result.now in
    let new = c.count_vdev.new.vdev in
    let here : child ≡ get_or ys i child = here_still Vdev xs ys i child c.loop-i.invariant.rest c.index_mut.ensures.value in
    record {
      long = rw length-set c.loop-i.invariant.long;
      rest = drop_set Vdev xs ys i new c.loop-i.invariant.rest;
      counted = changed_more (λ old new. new ≡ counted_leaf c.args.counted old) xs ys i new child (omega arith) (omega arith) c.loop-i.invariant.counted
          (subst (λ (v : Vdev). AllZip (λ old new. new ≡ counted_leaf c.args.counted old) (leaves v) (leaves new)) here c.count_vdev.ensures.leaves);
      told = same_more Vdev VdevSeen vdevs_of xs ys i new child (omega arith) (omega arith) c.loop-i.invariant.told (c.count_vdev.ensures.told ∙ ap vdevs_of here);
      forms = same_more Vdev Form form_alone xs ys i new child (omega arith) (omega arith) c.loop-i.invariant.forms
          (ap (λ (form : Form). form ∷ []) (c.count_vdev.ensures.form ∙ ap form_of here));
      guid = c.loop-i.invariant.guid;
      kind = c.loop-i.invariant.kind;
    }

pub count_vdev-returns-in-Leaf-clause-leaves : goal.count_vdev-returns-in-Leaf-clause-leaves
count_vdev-returns-in-Leaf-clause-leaves t c =
    rw (c.in-Leaf.is, outs-Leaf) (leaf_changed (λ old new. new ≡ counted_leaf c.args.counted old) c.in-Leaf.leaf c.count_leaf.new.leaf
    (rw (c.in-Leaf.is, outs-Leaf) at c.count_leaf.ensures))

pub count_vdev-returns-in-Leaf-clause-told : goal.count_vdev-returns-in-Leaf-clause-told
count_vdev-returns-in-Leaf-clause-told t c =
    rw (c.in-Leaf.is, outs-Leaf) (leaf_told c.args.counted c.in-Leaf.leaf c.count_leaf.new.leaf (rw (c.in-Leaf.is, outs-Leaf) at c.count_leaf.ensures))

pub count_vdev-returns-in-Leaf-clause-form : goal.count_vdev-returns-in-Leaf-clause-form
count_vdev-returns-in-Leaf-clause-form t c = rw (c.in-Leaf.is, outs-Leaf) (leaf_form c.in-Leaf.leaf c.count_leaf.new.leaf)

pub count_vdev-returns-in-Inner-clause-leaves : goal.count_vdev-returns-in-Inner-clause-leaves
count_vdev-returns-in-Inner-clause-leaves t c =
    rw (c.in-Inner.is, outs-Inner) (inner_changed (λ old new. new ≡ counted_leaf c.args.counted old) c.in-Inner.inner c.count_children.new.inner
    (rw (c.in-Inner.is, outs-Inner) at c.count_children.ensures.leaves))

pub count_vdev-returns-in-Inner-clause-told : goal.count_vdev-returns-in-Inner-clause-told
count_vdev-returns-in-Inner-clause-told t c =
    rw (c.in-Inner.is, outs-Inner) (inner_told c.in-Inner.inner c.count_children.new.inner
    (rw (c.in-Inner.is, outs-Inner) at c.count_children.ensures.guid) (rw (c.in-Inner.is, outs-Inner) at c.count_children.ensures.kind)
    (rw (c.in-Inner.is, outs-Inner) at c.count_children.ensures.many) (rw (c.in-Inner.is, outs-Inner) at c.count_children.ensures.told))

pub count_vdev-returns-in-Inner-clause-form : goal.count_vdev-returns-in-Inner-clause-form
count_vdev-returns-in-Inner-clause-form t c =
    rw (c.in-Inner.is, outs-Inner) (inner_form c.in-Inner.inner c.count_children.new.inner
    (rw (c.in-Inner.is, outs-Inner) at c.count_children.ensures.kind) (rw (c.in-Inner.is, outs-Inner) at c.count_children.ensures.forms))
