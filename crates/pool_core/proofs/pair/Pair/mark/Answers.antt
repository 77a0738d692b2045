use Rattle.std.proofs.Common.{sym, subst}
use Rattle.vdev_tree.specs.Changes.{marked_at}
use Rattle.pool_core.specs.Away.{marked}
use Rattle.pool_core.specs.Keeping.{Stands}
use Rattle.pool_core.specs.Pairs.{PairState}
use Rattle.pool_core.proofs.Pairs.{HasTwo-changed, Stands-changed, marked_leaf}
use Rattle.pool_core.proofs.pair.Pair.mark.Goals as goal

pub invariant_of-self : goal.invariant_of-self
invariant_of-self c = HasTwo-changed (marked_at c.args.at) c.self.inside.top c.mark.new.self c.self.invariant c.mark.ensures.leaves c.mark.ensures.built

pub returns : goal.returns
returns c = λ s stands.
    Stands-changed c.args.at _ (marked) (marked_leaf) c.self.inside.top c.mark.new.self c.self.invariant c.mark.ensures.leaves c.mark.ensures.built
    c.mark.ensures.sectors s (subst (λ (pair : PairState). Stands pair s) (sym c.self.view_is) stands)
