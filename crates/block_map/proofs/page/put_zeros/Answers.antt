use Rattle.std.proofs.Common.{rules}
use Rattle.block_map.proofs.PageBytes.{zeros_put}
use Rattle.block_map.proofs.page.put_zeros.Goals as goal

pub returns-clause-front : goal.returns-clause-front
returns-clause-front c = zeros_put c.args.out.now c.fill.new.self c.args.at c.args.count _ (c.fill.ensures.after (λ y e. search rules)) (search rules) c.requires
