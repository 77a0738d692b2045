use Rattle.std.proofs.Common.{◌≡◌, ℕ, [], ◌∷◌, get_or, arith, ap, ◌∙◌, subst}
use Rattle.vdev_tree.specs.declared.vdev.Vdev.TheVariants.{outs-Leaf, outs-Inner}
use Rattle.vdev_tree.specs.declared.vdev.Vdev.{Vdev}
use Rattle.vdev_tree.specs.Tree.{leaves, marks, Mark, form_of, Form}
use Rattle.vdev_tree.specs.Changes.{form_alone}
use Rattle.dtl_rules.specs.Widening.{WidensFirst}
use Rattle.dtl_rules.proofs.Widened.{leaf_found, leaf_none, inner_found, inner_none, inner_same, found_at}
use Rattle.vdev_tree.proofs.Built.{leaf_built, leaf_form, inner_built, inner_form}
use Rattle.vdev_tree.proofs.Lists.{same_at, drop_one, get_same}
use Rattle.dtl_rules.proofs.widening.+widen.Goals as goal
use Rattle.dtl_rules.proofs.widening.+widen.Goals.{widen_child-Then-widen_first}

pub widen_first-returns-in-Leaf-clause-found : goal.widen_first-returns-in-Leaf-clause-found
widen_first-returns-in-Leaf-clause-found t c =
    rw (c.in-Leaf.is, outs-Leaf) (leaf_found c.args.ranges c.widen_leaf.result c.in-Leaf.leaf c.widen_leaf.new.leaf
    (rw (c.in-Leaf.is, outs-Leaf) at c.widen_leaf.ensures.large) (rw (c.in-Leaf.is, outs-Leaf) at c.widen_leaf.ensures.widens))

pub widen_first-returns-in-Leaf-clause-none : goal.widen_first-returns-in-Leaf-clause-none
widen_first-returns-in-Leaf-clause-none t c =
    rw (c.in-Leaf.is) (leaf_none c.args.ranges c.widen_leaf.result c.in-Leaf.leaf (rw (c.in-Leaf.is, outs-Leaf) at c.widen_leaf.ensures.large))

pub widen_first-returns-in-Leaf-clause-built : goal.widen_first-returns-in-Leaf-clause-built
widen_first-returns-in-Leaf-clause-built t c = rw (c.in-Leaf.is, outs-Leaf) (leaf_built c.in-Leaf.leaf c.widen_leaf.new.leaf)

pub widen_first-returns-in-Leaf-clause-form : goal.widen_first-returns-in-Leaf-clause-form
widen_first-returns-in-Leaf-clause-form t c = rw (c.in-Leaf.is, outs-Leaf) (leaf_form c.in-Leaf.leaf c.widen_leaf.new.leaf)

pub widen_first-returns-in-Inner-clause-found : goal.widen_first-returns-in-Inner-clause-found
widen_first-returns-in-Inner-clause-found t c =
    rw (c.in-Inner.is, outs-Inner) (inner_found c.args.ranges c.widen_child.result c.in-Inner.inner c.widen_child.new.inner
    (rw (c.in-Inner.is, outs-Inner) at c.widen_child.ensures.found))

pub widen_first-returns-in-Inner-clause-none : goal.widen_first-returns-in-Inner-clause-none
widen_first-returns-in-Inner-clause-none t c =
    rw (c.in-Inner.is) (inner_none c.args.ranges c.widen_child.result c.in-Inner.inner (rw (c.in-Inner.is, outs-Inner) at c.widen_child.ensures.none))

pub widen_first-returns-in-Inner-clause-same : goal.widen_first-returns-in-Inner-clause-same
widen_first-returns-in-Inner-clause-same t c =
    rw (c.in-Inner.is, outs-Inner) (inner_same c.widen_child.result c.in-Inner.inner c.widen_child.new.inner
    (rw (c.in-Inner.is, outs-Inner) at c.widen_child.ensures.same))

pub widen_first-returns-in-Inner-clause-built : goal.widen_first-returns-in-Inner-clause-built
widen_first-returns-in-Inner-clause-built t c =
    rw (c.in-Inner.is, outs-Inner) (inner_built c.in-Inner.inner c.widen_child.new.inner
    (rw (c.in-Inner.is, outs-Inner) at c.widen_child.ensures.guid) (rw (c.in-Inner.is, outs-Inner) at c.widen_child.ensures.kind)
    (rw (c.in-Inner.is, outs-Inner) at c.widen_child.ensures.built))

pub widen_first-returns-in-Inner-clause-form : goal.widen_first-returns-in-Inner-clause-form
widen_first-returns-in-Inner-clause-form t c =
    rw (c.in-Inner.is, outs-Inner) (inner_form c.in-Inner.inner c.widen_child.new.inner
    (rw (c.in-Inner.is, outs-Inner) at c.widen_child.ensures.kind) (rw (c.in-Inner.is, outs-Inner) at c.widen_child.ensures.forms))

-- the child that was looked at is still the one that stood there at the beginning
here : (t : ℕ) (c : widen_child-Then-widen_first t)
    → c.index_mut.result.now ≡ get_or c.args.inner.now.children.items c.loop-i.i c.index_mut.result.now
here t c =
    c.index_mut.ensures.value
    ∙ get_same Vdev c.loop-i.inner.children.items c.args.inner.now.children.items c.loop-i.i c.index_mut.result.now c.loop-i.invariant.rest

pub widen_child-returns-then-widen_first-clause-found : goal.widen_child-returns-then-widen_first-clause-found
widen_child-returns-then-widen_first-clause-found t c =
    let vdevs = c.args.inner.now.children in
    let now = c.loop-i.inner.children in
    found_at Vdev leaves c.args.ranges now.items vdevs.items c.loop-i.i c.widen_first.new.vdev c.index_mut.result.now (omega arith) (omega arith)
    c.loop-i.invariant.same c.loop-i.invariant.rest c.loop-i.invariant.none
    (subst (λ (v : Vdev). WidensFirst c.args.ranges (leaves v) (leaves c.widen_first.new.vdev)) (here t c) c.if-widen_first.ensures.found)

pub widen_child-returns-then-widen_first-clause-built : goal.widen_child-returns-then-widen_first-clause-built
widen_child-returns-then-widen_first-clause-built t c =
    let vdevs = c.args.inner.now.children.items in
    let now = c.loop-i.inner.children.items in
    same_at Vdev Mark marks now vdevs c.loop-i.i c.widen_first.new.vdev c.index_mut.result.now (omega arith) (omega arith)
    c.loop-i.invariant.built (drop_one Vdev now vdevs c.loop-i.i c.loop-i.invariant.rest) (c.if-widen_first.ensures.built ∙ ap marks (here t c))

pub widen_child-returns-then-widen_first-clause-forms : goal.widen_child-returns-then-widen_first-clause-forms
widen_child-returns-then-widen_first-clause-forms t c =
    let vdevs = c.args.inner.now.children.items in
    let now = c.loop-i.inner.children.items in
    same_at Vdev Form form_alone now vdevs c.loop-i.i c.widen_first.new.vdev c.index_mut.result.now (omega arith) (omega arith)
    c.loop-i.invariant.forms (drop_one Vdev now vdevs c.loop-i.i c.loop-i.invariant.rest)
    (ap (λ (form : Form). form ∷ []) (c.if-widen_first.ensures.form ∙ ap form_of (here t c)))
