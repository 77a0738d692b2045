use Rattle.std.proofs.Common.{arith}
use Rattle.block_map.proofs.ReadPages.{page_fits}
use Rattle.block_map.proofs.next_page.next_page.Goals as goal

pub overflow_add-after : goal.overflow_add-after
overflow_add-after c = let fits = page_fits c.args.map.now.blocks c.args.after c.requires.volume c.requires.page in omega arith
