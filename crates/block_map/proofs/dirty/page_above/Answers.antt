use Rattle.std.proofs.Common.{◌/◌, ap}
use Rattle.block_map.specs.Dirty.{page_above}
use Rattle.block_map.proofs.DirtyPages.{size_of_page, same_key}
use Rattle.block_map.proofs.dirty.page_above.Goals as goal

pub returns-clause-page : goal.returns-clause-page
unfolding page_above
returns-clause-page c = same_key c.args.level _ _ (ap (λ n. c.args.addr / n) (size_of_page c.args.level))
