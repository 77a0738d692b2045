use Rattle.std.proofs.Common.{◌≡◌, Result, Ok, Err, refl, sym, ap, ◌∙◌, subst}
use Rattle.std.specs.Result.{IsErrAnd}
use Rattle.open_pool.specs.declared.resuming.ResumeFault.{ResumeFault}
use Rattle.open_pool.specs.Here.{AreHere}
use Rattle.open_pool.specs.Parts.{PoolParts}
use Rattle.open_pool.proofs.PoolResumed.{is_suspended, not_begun, resumed, suspended, suspended_tells}
use Rattle.open_pool.proofs.reopening.Reopened.resume.Goals as goal

err_is : (r : Result PoolParts ResumeFault) (e : ResumeFault) → IsErrAnd r (λ x. x ≡ e) → r ≡ Err e
err_is (Ok x) e is = absurd is
err_is (Err x) e is = ap Err is

pub returns-in_err-pool-clause-row : goal.returns-in_err-pool-clause-row
returns-in_err-pool-clause-row g c = λ s stands.
    not_begun s c.in_err-pool.field-0.0 c.from_residual.result (g.B.Bank.view c.args.bank.now) (err_is c.from_residual.result _ c.from_residual.ensures.1)
    (c.in_err-pool.ensures.row s stands)

pub end_group-requires-clause-here : goal.end_group-requires-clause-here
end_group-requires-clause-here g c = c.in_ok-pool.ensures.here (g.B.Bank.view c.args.bank.now).size c.requires

pub why_unended-requires : goal.why_unended-requires
why_unended-requires g c = is_suspended c.in_ok-pool.pool c.end_group.new.self (g.B.Bank.view c.args.bank.now) (g.B.Bank.view c.end_group.new.bank) c.in-Err.fault
    c.in-Err.ensures.row

pub returns-in-Err-clause-row : goal.returns-in-Err-clause-row
returns-in-Err-clause-row g c = λ s stands.
    suspended c.args.self c.in_ok-pool.pool c.end_group.new.self (g.B.Bank.view c.args.bank.now) (g.B.Bank.view c.end_group.new.bank) c.in_ok-pool.ensures.row
    (Err c.in-Err.fault) c.in-Err.ensures.row s stands c.in-Err.fault c.why_unended.result (Err c.why_unended.result) refl c.why_unended.ensures refl

pub returns-in-Err-clause-told : goal.returns-in-Err-clause-told
returns-in-Err-clause-told g c = λ s stands.
    suspended_tells c.args.self c.in_ok-pool.pool c.end_group.new.self (g.B.Bank.view c.args.bank.now) (g.B.Bank.view c.end_group.new.bank) c.in_ok-pool.ensures.row
    (Err c.in-Err.fault) c.in-Err.ensures.row s stands c.in-Err.fault c.why_unended.result c.why_unended.ensures c.in-Err.ensures.told

pub returns-clause-row : goal.returns-clause-row
returns-clause-row g c = λ s stands.
    resumed c.args.self c.in_ok-pool.pool c.end_group.new.self (g.B.Bank.view c.args.bank.now) (g.B.Bank.view c.end_group.new.bank) c.in_ok-pool.ensures.row
    (Ok c.in_default.field-0) c.in_default.ensures.row s stands c.in_default.field-0 c.begin_counts.new.self c.start_resilver.new.self refl
    c.begin_counts.ensures.counts c.start_resilver.ensures.row (c.start_resilver.ensures.read ∙ c.begin_counts.ensures.read)

pub returns-clause-here : goal.returns-clause-here
returns-clause-here g c = λ size here.
    subst (AreHere size) (sym c.start_resilver.ensures.tops) (c.begin_counts.ensures.here size (c.in_default.ensures.here size (c.in_ok-pool.ensures.here size here)))
