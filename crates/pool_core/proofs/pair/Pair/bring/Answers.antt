use Rattle.std.proofs.Common.{sym, subst}
use Rattle.vdev_tree.specs.Changes as tree
use Rattle.pool_core.specs.Away.{brought}
use Rattle.pool_core.specs.Keeping.{Stands}
use Rattle.pool_core.specs.Pairs.{PairState}
use Rattle.pool_core.proofs.Pairs.{HasTwo-changed, Stands-changed, brought_leaf}
use Rattle.pool_core.proofs.pair.Pair.bring.Goals as goal

pub invariant_of-self : goal.invariant_of-self
invariant_of-self c = HasTwo-changed (tree.brought c.args.at c.args.dev) c.self.inside.top c.bring.new.self c.self.invariant c.bring.ensures.leaves c.bring.ensures.built

pub returns : goal.returns
returns c = λ s stands.
    Stands-changed c.args.at _ (brought c.args.dev) (brought_leaf c.args.dev) c.self.inside.top c.bring.new.self c.self.invariant c.bring.ensures.leaves c.bring.ensures.built
    c.bring.ensures.sectors s (subst (λ (pair : PairState). Stands pair s) (sym c.self.view_is) stands)
