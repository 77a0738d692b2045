use Rattle.std.proofs.Common.{◌≢◌, sym, ap, ◌∙◌, subst}
use Rattle.pool_core.specs.Keeping.{Stands}
use Rattle.pool_core.specs.Pairs.{PairState, pair_in}
use Rattle.pool_core.specs.State.{PoolState}
use Rattle.pool_core.proofs.Left.{least_left_of, none_left_of}
use Rattle.pool_core.proofs.pair.Pair.required.Goals as goal
use Rattle.pool_core.proofs.pair.Pair.required.Goals.{After-required}

other : (c : After-required) → c.args.at ≢ (pair_in c.self.inside.top).mirror
other c = λ e. c.requires.not_mirror (e ∙ ap (λ (pair : PairState). pair.mirror) c.self.view_is)

stands_in : (c : After-required) (s : PoolState) → Stands c.args.self.now s → Stands (pair_in c.self.inside.top) s
stands_in c s stands = subst (λ (pair : PairState). Stands pair s) (sym c.self.view_is) stands

pub returns-clause-some : goal.returns-clause-some
returns-clause-some c = λ s stands.
    least_left_of c.self.inside.top c.args.at s c.required.result c.self.invariant c.requires.not_root (other c) (stands_in c s stands) c.required.ensures.required

pub returns-clause-none : goal.returns-clause-none
returns-clause-none c = λ s stands.
    none_left_of c.self.inside.top c.args.at s c.required.result c.self.invariant c.requires.not_root (other c) (stands_in c s stands) c.required.ensures.free
