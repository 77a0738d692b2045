use Rattle.std.proofs.Common.{sym, ◌∙◌}
use Rattle.pool_config.proofs.Deciding.{kept_some, kept_none, kept_valid}
use Rattle.pool_config.proofs.decoding.checked.Goals as goal

pub returns-then-branch-clause-found : goal.returns-then-branch-clause-found
returns-then-branch-clause-found c =
    sym (kept_some c.args.bytes.now _ c.requires.seen (sym c.in_ok-is_spelled.ensures ∙ c.if-branch.true))

pub returns-then-branch-clause-valid : goal.returns-then-branch-clause-valid
returns-then-branch-clause-valid c =
    kept_valid _ _ _ c.requires.seen (sym c.in_ok-is_spelled.ensures ∙ c.if-branch.true)

pub returns-else-branch-clause-found : goal.returns-else-branch-clause-found
returns-else-branch-clause-found c =
    sym (kept_none c.args.bytes.now (sym c.in_ok-is_spelled.ensures ∙ c.if-branch.false))
