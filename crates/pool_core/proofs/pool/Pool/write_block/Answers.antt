use Rattle.std.proofs.Common.{arith}
use Rattle.bank_core.proofs.Parting.{part_none}
use Rattle.pool_core.proofs.Boards.{members_are}
use Rattle.pool_core.proofs.Seated.{data_room}
use Rattle.pool_core.proofs.SyncSteps.{block_plan}
use Rattle.pool_core.proofs.Validating.{pool_valid, few_blocks}
use Rattle.pool_core.proofs.pool.Pool.write_block.Goals as goal

pub free_sector-sector-requires : goal.free_sector-sector-requires
free_sector-sector-requires g c = omega (arith, few_blocks c.args.self.now)

pub overflow_add-sector : goal.overflow_add-sector
overflow_add-sector g c = omega (arith, few_blocks c.args.self.now, c.free_sector-sector.ensures.home)

pub write_all-requires-clause-room : goal.write_all-requires-clause-room
write_all-requires-clause-room g c =
    data_room _ c.args.self.now c.args.members.now _ (members_are c.args.self.now.pair c.args.members.now c.requires.board)
    (omega (arith, few_blocks c.args.self.now, c.free_sector-sector.ensures.home)) c.requires.seated

pub returns-in-Some-clause-part : goal.returns-in-Some-clause-part
returns-in-Some-clause-part g c = λ s r.
    rw (block_plan c.args.self.now s c.args.members.now c.args.at c.pointer_at.result c.in-Some.block.now r (c.requires.board s r.pair)
    (omega (arith, c.args.self.now.paired, (pool_valid c.args.self.now).counted)) c.pointer_at.ensures.is c.in-Some.ensures.is)
    (rw c.free_sector-sector.ensures.is at c.write_all.ensures.part)

pub returns-in-None-clause-part : goal.returns-in-None-clause-part
returns-in-None-clause-part g c = λ s r. rw (r.writes c.args.at _ c.in-None.ensures.is) part_none
