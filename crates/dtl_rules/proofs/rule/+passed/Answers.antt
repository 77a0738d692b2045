use Rattle.std.proofs.Common.{◌≡◌, ℕ, ◌≤◌, false, List, [], ◌∷◌, IfSome, IfNone, arith, subst, sym, ◌∙◌}
use Rattle.vdev_tree.specs.declared.vdev.LeafVdev.{LeafVdev}
use Rattle.dtl_rules.specs.Rules.{others, outage_of, PassedTo}
use Rattle.dtl_rules.proofs.Passing.{passed_nothing, no_leaf_left, leaf_left, no_inner_left, passed_all, none_passed}
use Rattle.dtl_rules.proofs.rule.+passed.Goals as goal
use Rattle.dtl_rules.proofs.rule.+passed.Goals.{After-passed_by_leaf}

pub returns-then-is_at-clause-some : goal.returns-then-is_at-clause-some
returns-then-is_at-clause-some t c =
    passed_nothing _ c.args.from (no_leaf_left c.args.at.0 c.args.vdev.now c.in-Leaf.leaf c.in-Leaf.is (sym c.is_at.ensures ∙ c.if-is_at.true))

pub returns-then-is_at-2-clause-some : goal.returns-then-is_at-2-clause-some
returns-then-is_at-2-clause-some t c =
    passed_nothing _ c.args.from (no_inner_left c.args.at.0 c.args.vdev.now c.in-Inner.inner c.in-Inner.is (sym c.is_at-in-Inner.ensures ∙ c.if-is_at-2.true))

pub returns-in_err-group-in-Inner-clause-none : goal.returns-in_err-group-in-Inner-clause-none
returns-in_err-group-in-Inner-clause-none t c =
    let none = none_passed c.args.at.0 c.args.vdev.now c.in-Inner.inner c.deref-child-items.result.now c.loop-child.child-index c.child-item.result c.args.from c.loop-child.group
    c.in-Inner.is (sym c.is_at-in-Inner.ensures ∙ c.if-is_at-2.false) c.deref-child-items.ensures.value (omega arith) c.child-item.is
    c.loop-child.invariant c.in_err-group-in-Inner.ensures.none in
    subst (λ r. IfNone r ((g : ℕ) → c.args.from ≤ g → outage_of (others c.args.at.0 c.args.vdev.now) g ≡ false)) (sym c.from_residual.ensures) none

-- the one leaf that is left
left : (t : ℕ) (c : After-passed_by_leaf t) → others c.args.at.0 c.args.vdev.now ≡ c.in-Leaf.leaf ∷ []
left t c = leaf_left c.args.at.0 c.args.vdev.now c.in-Leaf.leaf c.in-Leaf.is (sym c.is_at.ensures ∙ c.if-is_at.false)

pub returns-else-is_at-clause-some : goal.returns-else-is_at-clause-some
returns-else-is_at-clause-some t c =
    subst (λ (ls : List LeafVdev). IfSome c.passed_by_leaf.result (λ g. PassedTo ls c.args.from g)) (sym (left t c)) c.passed_by_leaf.ensures.some

pub returns-else-is_at-clause-none : goal.returns-else-is_at-clause-none
returns-else-is_at-clause-none t c =
    subst (λ (ls : List LeafVdev). IfNone c.passed_by_leaf.result ((g : ℕ) → c.args.from ≤ g → outage_of ls g ≡ false)) (sym (left t c)) c.passed_by_leaf.ensures.none

pub returns-after-loop-child-clause-some : goal.returns-after-loop-child-clause-some
returns-after-loop-child-clause-some t c =
    passed_all c.args.at.0 c.args.vdev.now c.in-Inner.inner c.deref-child-items.result.now c.loop-child.child-index c.args.from c.loop-child.group
    c.in-Inner.is (sym c.is_at-in-Inner.ensures ∙ c.if-is_at-2.false) c.deref-child-items.ensures.value (omega arith) c.loop-child.invariant
