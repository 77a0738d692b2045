use Rattle.pool_lines.proofs.Forms.{one_request}
use Rattle.pool_lines.proofs.line.asks_one_thing.Goals as goal

pub returns : goal.returns
returns c = one_request
