use Rattle.std.proofs.Common.{sym, ◌∙◌}
use Rattle.pool_config.proofs.Checking.{sized_seen}
use Rattle.pool_config.proofs.validity.are_sized.Goals as goal

pub returns-then-are_some : goal.returns-then-are_some
returns-then-are_some c =
    sized_seen c.args.tops.now c.all_sized.result (sym c.are_some.ensures ∙ c.if-are_some.true) c.all_sized.ensures
