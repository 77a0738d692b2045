use Rattle.std.proofs.Common.{◌≡◌, ◌∙◌, rules}
use Rattle.vdev_tree.specs.declared.vdev.Kind.TheVariants.{Spare}
use Rattle.open_pool.proofs.SpareLeaves.{behind_first}
use Rattle.open_pool.proofs.spares.is_spare_of.Goals as goal

pub returns-then-eq : goal.returns-then-eq
returns-then-eq c = λ child is.
    let kind : c.in-Inner.inner.kind ≡ Spare = search rules in
    c.is_behind_first.ensures
    ∙ behind_first c.args.at c.args.child.now c.in-Inner.inner c.deref.result.now child c.in-Inner.is kind c.deref.ensures.value is
