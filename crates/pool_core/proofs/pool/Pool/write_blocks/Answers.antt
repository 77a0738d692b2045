use Rattle.std.proofs.Common.{arith, ◌∙◌}
use Rattle.std.proofs.lemmas.Result.{err_from_is_err_and}
use Rattle.bank_core.proofs.Parting.{part_more}
use Rattle.pool_core.proofs.Seated.{seated_on}
use Rattle.pool_core.proofs.SyncSteps.{one_more, stops_within, blocks_done}
use Rattle.pool_core.proofs.Validating.{pool_valid}
use Rattle.pool_core.proofs.pool.Pool.write_blocks.Goals as goal

pub returns-in_err-write_block-clause-part : goal.returns-in_err-write_block-clause-part
returns-in_err-write_block-clause-part g c = λ s r.
    let p = err_from_is_err_and c.from_residual.result c.from_residual.ensures.1 in
    rw (p.1, p.2) (stops_within s c.loop-at.at s.blocks (omega (arith, r.blocks, (pool_valid c.args.self.now).counted, c.args.self.now.paired))
    (c.loop-at.invariant.part s r) (c.in_err-write_block.ensures.part s r))

pub loop-at-preserved : goal.loop-at-preserved
loop-at-preserved g c = record {
  size = λ d. c.write_block.ensures.size d ∙ c.loop-at.invariant.size d;
  numbers = λ name. c.write_block.ensures.numbers name ∙ c.loop-at.invariant.numbers name;
  lookups = c.write_block.ensures.lookups ∙ c.loop-at.invariant.lookups;
  seated = seated_on _ _ c.args.self.now c.write_block.ensures.size c.loop-at.invariant.seated;
  part = λ s r. rw one_more (part_more (c.loop-at.invariant.part s r) (c.in_ok-write_block.ensures.part s r));
}

pub returns-clause-part : goal.returns-clause-part
returns-clause-part g c = λ s r.
    blocks_done s c.loop-at.at (omega (arith, r.blocks, (pool_valid c.args.self.now).counted, c.args.self.now.paired)) (c.loop-at.invariant.part s r)
