use Rattle.std.proofs.lemmas.Result.{err_from_is_err_and}
use Rattle.bank_core.proofs.Parting.{part_stop}
use Rattle.pool_core.specs.Syncing.{flush_plan}
use Rattle.pool_core.proofs.Boards.{members_are}
use Rattle.pool_core.proofs.Seated.{seated_on, first_room}
use Rattle.pool_core.proofs.SyncSteps.{then_flushes}
use Rattle.pool_core.proofs.pool.Pool.write_out.Goals as goal

pub returns-in_err-write_blocks-clause-part : goal.returns-in_err-write_blocks-clause-part
returns-in_err-write_blocks-clause-part g c = λ s r.
    let p = err_from_is_err_and c.from_residual.result c.from_residual.ensures.1 in
    rw (p.1, p.2) (part_stop (flush_plan s) (c.in_err-write_blocks.ensures.part s r))

pub flush_all-requires : goal.flush_all-requires
flush_all-requires g c = record {
  room = first_room _ c.args.self.now c.args.members.now (members_are c.args.self.now.pair c.args.members.now c.requires.board)
      (seated_on _ _ c.args.self.now c.in_ok-write_blocks.ensures.size c.requires.seated);
}

pub returns-clause-part : goal.returns-clause-part
returns-clause-part g c = λ s r. then_flushes s c.args.members.now (c.requires.board s r.pair) (c.in_ok-write_blocks.ensures.part s r) c.flush_all.ensures.part
