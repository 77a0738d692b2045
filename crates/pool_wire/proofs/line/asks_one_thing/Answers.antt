use Rattle.pool_wire.proofs.Forms.{one_request}
use Rattle.pool_wire.proofs.line.asks_one_thing.Goals as goal

pub returns : goal.returns
returns c = one_request
