use Rattle.std.proofs.Common.{refl}
use Rattle.pool_config.proofs.Walking.{lie_within}
use Rattle.pool_config.proofs.trees.lies_within.Goals as goal

pub returns : goal.returns
returns c =
    let none = c.next_group-none.ensures in
    lie_within c.args.log.now _ c.least-least.result c.next_group-none.result refl c.least-least.ensures.least
    c.least-least.ensures.in_range c.least-least.ensures.none none.from none.in_range none.none
