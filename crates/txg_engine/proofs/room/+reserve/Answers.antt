use Rattle.std.proofs.Common.{◌≡◌, [], ◌∷◌, get_or, ap, subst, ◌∙◌, arith}
use Rattle.std.specs.List.{AllZip}
use Rattle.std.proofs.Math.ListN.{length-set}
use Rattle.vdev_tree.specs.declared.vdev.Vdev.{Vdev}
use Rattle.vdev_tree.specs.declared.vdev.Vdev.TheVariants.{outs-Leaf, outs-Inner}
use Rattle.vdev_tree.specs.Tree.{leaves, marks, Mark, form_of, Form}
use Rattle.vdev_tree.specs.Changes.{form_alone}
use Rattle.vdev_tree.proofs.Built.{leaf_built, leaf_form, inner_built, inner_form}
use Rattle.vdev_tree.proofs.Changed.{leaf_changed, inner_changed, changed_more}
use Rattle.vdev_tree.proofs.Lists.{here_still, unvisited_set, drop_one, drop_set, same_at, same_more}
use Rattle.txg_engine.specs.Logs.{KeepsSets}
use Rattle.txg_engine.proofs.RoomMade.{room_of_leaf, room_of_inner, room_more, kept_at}
use Rattle.txg_engine.proofs.room.+reserve.Goals as goal

pub reserve_leaves-returns-in-Leaf-clause-room : goal.reserve_leaves-returns-in-Leaf-clause-room
reserve_leaves-returns-in-Leaf-clause-room t c =
    rw (c.in-Leaf.is, outs-Leaf) (room_of_leaf c.reserve_leaf.result c.reserve_leaf.new.leaf c.reserve_leaf.ensures.room)

pub reserve_leaves-returns-in-Leaf-clause-leaves : goal.reserve_leaves-returns-in-Leaf-clause-leaves
reserve_leaves-returns-in-Leaf-clause-leaves t c =
    rw (c.in-Leaf.is, outs-Leaf) (leaf_changed KeepsSets c.in-Leaf.leaf c.reserve_leaf.new.leaf
    (rw (c.in-Leaf.is, outs-Leaf) at c.reserve_leaf.ensures.keeps))

pub reserve_leaves-returns-in-Leaf-clause-built : goal.reserve_leaves-returns-in-Leaf-clause-built
reserve_leaves-returns-in-Leaf-clause-built t c =
    rw (c.in-Leaf.is, outs-Leaf) (leaf_built c.in-Leaf.leaf c.reserve_leaf.new.leaf)

pub reserve_leaves-returns-in-Leaf-clause-form : goal.reserve_leaves-returns-in-Leaf-clause-form
reserve_leaves-returns-in-Leaf-clause-form t c =
    rw (c.in-Leaf.is, outs-Leaf) (leaf_form c.in-Leaf.leaf c.reserve_leaf.new.leaf)

pub reserve_leaves-returns-in-Inner-clause-room : goal.reserve_leaves-returns-in-Inner-clause-room
reserve_leaves-returns-in-Inner-clause-room t c =
    rw (c.in-Inner.is, outs-Inner) (room_of_inner c.reserve_children.result c.reserve_children.new.inner
    c.reserve_children.ensures.room)

pub reserve_leaves-returns-in-Inner-clause-leaves : goal.reserve_leaves-returns-in-Inner-clause-leaves
reserve_leaves-returns-in-Inner-clause-leaves t c =
    rw (c.in-Inner.is, outs-Inner) (inner_changed KeepsSets c.in-Inner.inner c.reserve_children.new.inner
    (rw (c.in-Inner.is, outs-Inner) at c.reserve_children.ensures.leaves))

pub reserve_leaves-returns-in-Inner-clause-built : goal.reserve_leaves-returns-in-Inner-clause-built
reserve_leaves-returns-in-Inner-clause-built t c =
    rw (c.in-Inner.is, outs-Inner) (inner_built c.in-Inner.inner c.reserve_children.new.inner
    (rw (c.in-Inner.is, outs-Inner) at c.reserve_children.ensures.guid)
    (rw (c.in-Inner.is, outs-Inner) at c.reserve_children.ensures.kind)
    (rw (c.in-Inner.is, outs-Inner) at c.reserve_children.ensures.built))

pub reserve_leaves-returns-in-Inner-clause-form : goal.reserve_leaves-returns-in-Inner-clause-form
reserve_leaves-returns-in-Inner-clause-form t c =
    rw (c.in-Inner.is, outs-Inner) (inner_form c.in-Inner.inner c.reserve_children.new.inner
    (rw (c.in-Inner.is, outs-Inner) at c.reserve_children.ensures.kind)
    (rw (c.in-Inner.is, outs-Inner) at c.reserve_children.ensures.forms))

pub reserve_children-returns-in_err-reserve_leaves-clause-leaves : goal.reserve_children-returns-in_err-reserve_leaves-clause-leaves
reserve_children-returns-in_err-reserve_leaves-clause-leaves t c =
    let ys = c.args.inner.now.children.items in
    let xs = c.loop-i.inner.children.items in
    let i = c.loop-i.i in
    let child = c.index_mut.result.now in
    let new = c.reserve_leaves.new.vdev in
    let here : child ≡ get_or ys i child = here_still Vdev xs ys i child c.loop-i.invariant.rest c.index_mut.ensures.value in
    kept_at Vdev leaves xs ys i new child (omega arith) (omega arith) c.loop-i.invariant.rest c.loop-i.invariant.kept
    (subst (λ (v : Vdev). AllZip KeepsSets (leaves v) (leaves new)) here c.reserve_leaves.ensures.leaves)

pub reserve_children-returns-in_err-reserve_leaves-clause-built : goal.reserve_children-returns-in_err-reserve_leaves-clause-built
reserve_children-returns-in_err-reserve_leaves-clause-built t c =
    let ys = c.args.inner.now.children.items in
    let xs = c.loop-i.inner.children.items in
    let i = c.loop-i.i in
    let child = c.index_mut.result.now in
    let here : child ≡ get_or ys i child = here_still Vdev xs ys i child c.loop-i.invariant.rest c.index_mut.ensures.value in
    same_at Vdev Mark marks xs ys i c.reserve_leaves.new.vdev child (omega arith) (omega arith) c.loop-i.invariant.built
    (drop_one Vdev xs ys i c.loop-i.invariant.rest) (c.reserve_leaves.ensures.built ∙ ap marks here)

pub reserve_children-returns-in_err-reserve_leaves-clause-forms : goal.reserve_children-returns-in_err-reserve_leaves-clause-forms
reserve_children-returns-in_err-reserve_leaves-clause-forms t c =
    let ys = c.args.inner.now.children.items in
    let xs = c.loop-i.inner.children.items in
    let i = c.loop-i.i in
    let child = c.index_mut.result.now in
    let here : child ≡ get_or ys i child = here_still Vdev xs ys i child c.loop-i.invariant.rest c.index_mut.ensures.value in
    same_at Vdev Form form_alone xs ys i c.reserve_leaves.new.vdev child (omega arith) (omega arith) c.loop-i.invariant.forms
    (drop_one Vdev xs ys i c.loop-i.invariant.rest)
    (ap (λ (form : Form). form ∷ []) (c.reserve_leaves.ensures.form ∙ ap form_of here))

pub reserve_children-loop-i-preserved : goal.reserve_children-loop-i-preserved
reserve_children-loop-i-preserved t c =
    let ys = c.args.inner.now.children.items in
    let xs = c.loop-i.inner.children.items in
    let i = c.loop-i.i in
    let child = c.index_mut.result.now in
    let new = c.reserve_leaves.new.vdev in
    let here : child ≡ get_or ys i child = here_still Vdev xs ys i child c.loop-i.invariant.rest c.index_mut.ensures.value in
    record {
      unvisited = unvisited_set Vdev xs ys i new c.loop-i.invariant.unvisited;
      long = rw length-set c.loop-i.invariant.long;
      rest = drop_set Vdev xs ys i new c.loop-i.invariant.rest;
      room = room_more Vdev leaves xs i new (omega arith) c.loop-i.invariant.room c.in_ok-reserve_leaves.ensures.room;
      kept = changed_more KeepsSets xs ys i new child (omega arith) (omega arith) c.loop-i.invariant.kept
          (subst (λ (v : Vdev). AllZip KeepsSets (leaves v) (leaves new)) here c.reserve_leaves.ensures.leaves);
      built = same_more Vdev Mark marks xs ys i new child (omega arith) (omega arith) c.loop-i.invariant.built
          (c.reserve_leaves.ensures.built ∙ ap marks here);
      forms = same_more Vdev Form form_alone xs ys i new child (omega arith) (omega arith) c.loop-i.invariant.forms
          (ap (λ (form : Form). form ∷ []) (c.reserve_leaves.ensures.form ∙ ap form_of here));
      guid = c.loop-i.invariant.guid;
      kind = c.loop-i.invariant.kind;
    }
