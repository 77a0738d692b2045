use Rattle.std.proofs.Common.{sym, subst}
use Rattle.pool_core.specs.Keeping.{Stands}
use Rattle.pool_core.specs.Pairs.{PairState, IsLoggedTo}
use Rattle.pool_core.proofs.Redrawing.{IsDraw, HasTwo-drawn, Stands-drawn}
use Rattle.pool_core.proofs.pair.Pair.drawn.Goals as goal
use Rattle.pool_core.proofs.pair.Pair.drawn.Goals.{After-fit_one}

draw : (c : After-fit_one) → IsDraw c.args.number.0 c.self.inside.top c.in_ok-top.top c.reserve.new.self c.owe.new.self c.fit_one.new.top
draw c = record {
  two = c.self.invariant;
  copies = c.in_ok-top.ensures.mirror;
  copy_sectors = c.in_ok-top.ensures.sectors;
  keeps = c.reserve.ensures.leaves;
  kept_built = c.reserve.ensures.built;
  kept_sectors = c.reserve.ensures.sectors;
  owes = c.owe.ensures.leaves;
  owed_built = c.owe.ensures.built;
  owed_sectors = c.owe.ensures.sectors;
  widened = c.fit_one.ensures.widened;
  small = c.fit_one.ensures.small;
  counted = c.fit_one.ensures.counted;
  built = c.fit_one.ensures.built;
  sectors = c.fit_one.ensures.sectors;
}

pub invariant_of-result : goal.invariant_of-result
invariant_of-result c =
    HasTwo-drawn _ _ _ _ _ _ (draw c) c.requires.first c.requires.last
    (subst (λ (pair : PairState). IsLoggedTo c.args.number.0 pair.first) (sym c.self.view_is) c.requires.first_log)
    (subst (λ (pair : PairState). IsLoggedTo c.args.number.0 pair.second) (sym c.self.view_is) c.requires.second_log)

pub returns : goal.returns
returns c = λ s stands next.
    Stands-drawn _ _ _ _ _ _ (draw c) s c.requires.first c.requires.last
    (subst (λ (pair : PairState). IsLoggedTo c.args.number.0 pair.first) (sym c.self.view_is) c.requires.first_log)
    (subst (λ (pair : PairState). IsLoggedTo c.args.number.0 pair.second) (sym c.self.view_is) c.requires.second_log)
    (subst (λ (pair : PairState). Stands pair s) (sym c.self.view_is) stands) next
