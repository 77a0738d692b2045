use Rattle.std.proofs.Common.{sym, subst}
use Rattle.vdev_tree.specs.declared.vdev.State.TheVariants as states
use Rattle.vdev_tree.specs.Changes.{with_state}
use Rattle.pool_core.specs.Away.{taken_offline}
use Rattle.pool_core.specs.Keeping.{Stands}
use Rattle.pool_core.specs.Pairs.{PairState}
use Rattle.pool_core.proofs.Pairs.{HasTwo-changed, Stands-changed, offline_leaf}
use Rattle.pool_core.proofs.pair.Pair.take_offline.Goals as goal

pub invariant_of-self : goal.invariant_of-self
invariant_of-self c = HasTwo-changed (with_state c.args.at states.Offline c.args.temporary) c.self.inside.top c.set_state.new.self c.self.invariant c.set_state.ensures.leaves c.set_state.ensures.built

pub returns : goal.returns
returns c = λ s stands.
    Stands-changed c.args.at _ (taken_offline c.args.temporary) (offline_leaf c.args.temporary) c.self.inside.top c.set_state.new.self c.self.invariant c.set_state.ensures.leaves c.set_state.ensures.built
    c.set_state.ensures.sectors s (subst (λ (pair : PairState). Stands pair s) (sym c.self.view_is) stands)
