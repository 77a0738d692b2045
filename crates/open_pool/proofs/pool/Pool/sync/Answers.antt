use Rattle.std.proofs.Common.{inl, is_some, sym, ap, ◌∙◌, subst}
use Rattle.open_pool.specs.Here.{AreHere}
use Rattle.open_pool.specs.Parts.{PoolParts}
use Rattle.open_pool.proofs.GroupsEnded.{err_is}
use Rattle.open_pool.proofs.SyncRows.{idle_sync, idle_too, fails_first, goes_first}
use Rattle.open_pool.proofs.pool.Pool.sync.Goals as goal

pub returns-then-is_none-clause-row : goal.returns-then-is_none-clause-row
returns-then-is_none-clause-row g c = λ s stands.
    let idle = ap (λ (q : PoolParts). is_some q.frozen) (sym c.self.view_is) ∙ c.if-is_none.ensures in
    idle_too idle (idle_sync _ _ s _ _ _ stands idle (c.sync_open.ensures.row s stands))

pub returns-in_err-end_group-clause-row : goal.returns-in_err-end_group-clause-row
returns-in_err-end_group-clause-row g c = λ s stands.
    let fault = c.in_err-end_group.field-0.0 in
    inl (fails_first _ _ c.end_group.new.self s stands
    (ap (λ (q : PoolParts). is_some q.frozen) (sym c.self.view_is) ∙ c.if-is_none.ensures) _ _ fault _ (err_is _ fault c.from_residual.ensures.1)
    (c.in_err-end_group.ensures.row s stands))

pub sync_open-requires-2-clause-here : goal.sync_open-requires-2-clause-here
sync_open-requires-2-clause-here g c =
    subst (λ size. AreHere size c.end_group.new.self.tops) (sym c.end_group.ensures.sizes)
    (c.end_group.ensures.here (g.B.Bank.view c.args.bank.now).size c.requires)

pub returns-clause-row : goal.returns-clause-row
returns-clause-row g c = λ s stands.
    let ended = c.in_ok-end_group.ensures.row s stands in
    inl (goes_first _ _ _ s stands
    (ap (λ (q : PoolParts). is_some q.frozen) (sym c.self.view_is) ∙ c.if-is_none.ensures) _ _ _ _ _ c.end_group.ensures.sizes ended
    (c.sync_open-2.ensures.row _ ended.answers.leaves))

pub returns-clause-here : goal.returns-clause-here
returns-clause-here g c = λ size here. c.sync_open-2.ensures.here size (c.end_group.ensures.here size here)
