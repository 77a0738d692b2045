use Rattle.std.proofs.Common.{rules, arith}
use Rattle.pool_core.proofs.ReadSteps.{has_place, read_past, read_written}
use Rattle.pool_core.proofs.pool.Pool.read.Goals as goal

pub returns-then-address-blocks-clause-read : goal.returns-then-address-blocks-clause-read
returns-then-address-blocks-clause-read g c = λ s r. read_past _ (search rules) (omega arith)

pub write_at-requires : goal.write_at-requires
write_at-requires g c = has_place c.args.self.now c.args.address (omega arith)

pub returns-in-Some-clause-read : goal.returns-in-Some-clause-read
returns-in-Some-clause-read g c = λ s r.
    rw c.copy_from_slice.ensures.after (read_written c.in-Some.block.now (omega arith) (r.writes c.args.address _ c.in-Some.ensures.is))

pub read_committed-requires-clause-inside : goal.read_committed-requires-clause-inside
read_committed-requires-clause-inside g c = has_place c.args.self.now c.args.address (omega arith)

pub returns-in-None-clause-read : goal.returns-in-None-clause-read
returns-in-None-clause-read g c = λ s r. c.read_committed.ensures.read s r (r.writes c.args.address _ c.in-None.ensures.is)
