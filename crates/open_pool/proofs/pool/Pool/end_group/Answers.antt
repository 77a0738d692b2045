use Rattle.std.proofs.Common.{Ok, sym, ap, ◌∙◌, subst}
use Rattle.open_pool.specs.Here.{AreHere}
use Rattle.open_pool.specs.Syncing.{ended_as}
use Rattle.open_pool.specs.Turning.{goes_on}
use Rattle.open_pool.proofs.GroupsEnded.{ended, err_is, goes_further, none_gone, one_more, sizes_kept}
use Rattle.open_pool.proofs.SomeState.{some_state}
use Rattle.open_pool.proofs.pool.Pool.end_group.Goals as goal

pub loop-number-init : goal.loop-number-init
loop-number-init g c = record {
  frozen = c.requires.frozen;
  here = λ size here. here;
  gone = λ s stands. none_gone c.args.self.now s (g.B.Bank.view c.args.bank.now) stands;
}

pub turn-requires : goal.turn-requires
turn-requires g c =
    let some = some_state c.args.self.now in
    subst (λ size. AreHere size c.loop-number.self.tops) (sym (c.loop-number.invariant.gone some.0 some.1).sizes)
    (c.loop-number.invariant.here (g.B.Bank.view c.args.bank.now).size c.requires.here)

pub returns-in_err-number-clause-row : goal.returns-in_err-number-clause-row
returns-in_err-number-clause-row g c = λ s stands.
    ended _ _ _ _ _ _ c.loop-number.invariant.gone c.loop-number.invariant.frozen _ c.turn.ensures.row s stands c.from_residual.result
    (ap goes_on c.in_err-number.was)
    (err_is _ _ c.from_residual.ensures.1 ∙ sym (ap ended_as c.in_err-number.was))

pub returns-in_err-number-clause-here : goal.returns-in_err-number-clause-here
returns-in_err-number-clause-here g c = λ size here. c.turn.ensures.here size (c.loop-number.invariant.here size here)

pub returns-in_err-number-clause-sizes : goal.returns-in_err-number-clause-sizes
returns-in_err-number-clause-sizes g c =
    sizes_kept _ _ _ _ _ (returns-in_err-number-clause-row g c)

pub returns-in-Committed-clause-row : goal.returns-in-Committed-clause-row
returns-in-Committed-clause-row g c = λ s stands.
    let is = c.in_ok-number.was ∙ ap Ok c.in-Committed.is in
    ended _ _ _ _ _ _ c.loop-number.invariant.gone c.loop-number.invariant.frozen _ c.turn.ensures.row s stands (Ok c.in-Committed.number)
    (ap goes_on is) (sym (ap ended_as is))

pub returns-in-Committed-clause-here : goal.returns-in-Committed-clause-here
returns-in-Committed-clause-here g c = λ size here. c.turn.ensures.here size (c.loop-number.invariant.here size here)

pub returns-in-Committed-clause-sizes : goal.returns-in-Committed-clause-sizes
returns-in-Committed-clause-sizes g c =
    sizes_kept _ _ _ _ _ (returns-in-Committed-clause-row g c)

pub loop-number-smaller : goal.loop-number-smaller
loop-number-smaller g c = c.turn.ensures.fewer c.loop-number.invariant.frozen

pub loop-number-preserved : goal.loop-number-preserved
loop-number-preserved g c =
    let on = goes_further _ _ _ _ _ _ c.loop-number.invariant.gone c.loop-number.invariant.frozen _ c.turn.ensures.row c.in_ok-number.field-0 c.in_ok-number.was c.in_default.not-Committed in
    record {
      frozen = c.turn.ensures.goes_on ∙ on;
      here = λ size here. c.turn.ensures.here size (c.loop-number.invariant.here size here);
      gone = λ s stands. one_more _ _ _ _ _ _ c.loop-number.invariant.gone c.loop-number.invariant.frozen _ c.turn.ensures.row s stands on;
    }
