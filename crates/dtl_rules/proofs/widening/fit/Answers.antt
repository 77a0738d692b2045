use Rattle.std.proofs.Common.{refl, arith, subst, ◌∙◌}
use Rattle.dtl_rules.specs.Widening.{leaves_of, WidensFirst, none, more}
use Rattle.dtl_rules.proofs.Totals.{fewer, total_of_few, leaves_of_few}
use Rattle.dtl_rules.proofs.widening.fit.Goals as goal
use Rattle.dtl_rules.proofs.widening.fit.Goals.{After-widen_largest}

pub loop-tally-init : goal.loop-tally-init
loop-tally-init c = record { widened = none; counted = λ h. h; built = refl; sectors = refl }

pub loop-tally-smaller : goal.loop-tally-smaller
loop-tally-smaller c =
    fewer c.tally_of_all-tally.result.most (leaves_of c.loop-tally.tops) (leaves_of c.widen_largest.new.tops) (omega arith) c.widen_largest.ensures.widens

pub loop-tally-preserved : goal.loop-tally-preserved
loop-tally-preserved c =
    let tops = c.loop-tally.tops in
    record {
      widened = more c.loop-tally.invariant.widened (omega (arith, c.tally_of_all-tally.ensures.total))
          (subst (λ n. WidensFirst n (leaves_of tops) (leaves_of c.widen_largest.new.tops)) c.tally_of_all-tally.ensures.most c.widen_largest.ensures.widens);
      counted = λ _. c.loop-tally.invariant.counted c.tally_of_all-tally.ensures.counted;
      built = c.widen_largest.ensures.built ∙ c.loop-tally.invariant.built;
      sectors = c.widen_largest.ensures.sectors ∙ c.loop-tally.invariant.sectors;
    }

pub returns-then-tally-le1-clause-small : goal.returns-then-tally-le1-clause-small
returns-then-tally-le1-clause-small c = λ few.
    let tops = c.loop-tally.tops in
    omega (arith, total_of_few (leaves_of tops) (omega (arith, c.tally_of_all-tally.ensures.most)), leaves_of_few tops, c.loop-tally.auto.tops)
