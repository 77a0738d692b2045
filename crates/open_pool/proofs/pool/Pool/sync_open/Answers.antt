use Rattle.open_pool.proofs.GroupsEnded.{err_is}
use Rattle.open_pool.proofs.SyncRows.{committed, unfrozen}
use Rattle.open_pool.proofs.pool.Pool.sync_open.Goals as goal

pub returns-in_err-freeze-clause-row : goal.returns-in_err-freeze-clause-row
returns-in_err-freeze-clause-row g c = λ s stands.
    unfrozen _ _ c.freeze.new.self s stands c.requires.idle _ (g.B.Bank.view c.args.bank.now) _ _ (err_is _ _ c.from_residual.ensures.1)
    (c.in_err-freeze.ensures.row s stands)

pub end_group-requires-clause-here : goal.end_group-requires-clause-here
end_group-requires-clause-here g c = c.freeze.ensures.here (g.B.Bank.view c.args.bank.now).size c.requires.here

pub returns-clause-row : goal.returns-clause-row
returns-clause-row g c = λ s stands.
    committed _ _ _ s stands c.requires.idle _ _ _ _
    (c.in_ok-freeze.ensures.row s stands)
    c.end_group.ensures.row

pub returns-clause-here : goal.returns-clause-here
returns-clause-here g c = λ size here. c.end_group.ensures.here size (c.freeze.ensures.here size here)
