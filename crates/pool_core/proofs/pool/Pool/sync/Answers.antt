use Rattle.std.proofs.Common.{refl, arith, inl}
use Rattle.pool_core.specs.Syncing.{synced}
use Rattle.pool_core.proofs.Drafted.{drafted_seated, drafted_board}
use Rattle.pool_core.proofs.Ending.{syncs, syncs_on, syncs_spent, syncs_nobody, nobody_shown}
use Rattle.pool_core.proofs.Validating.{pool_valid}
use Rattle.pool_core.proofs.pool.Pool.sync.Goals as goal

pub overflow_add-result : goal.overflow_add-result
overflow_add-result g c = omega (arith, (pool_valid c.args.self.now).number.1)

pub returns-then-number-ge-LAST_NUMBER-clause-sync : goal.returns-then-number-ge-LAST_NUMBER-clause-sync
returns-then-number-ge-LAST_NUMBER-clause-sync g c = λ s r.
    syncs_spent _ _ _ c.args.self.now s _ r c.if-number-ge-LAST_NUMBER.true refl

pub returns-then-is_empty-clause-sync : goal.returns-then-is_empty-clause-sync
returns-then-is_empty-clause-sync g c = λ s r.
    syncs_nobody _ _ _ c.args.self.now s c.board-board.result _ r c.if-number-ge-LAST_NUMBER.false (c.board-board.ensures s r.pair)
    (nobody_shown c.as_slice.result.now c.board-board.result c.is_empty.result _ c.as_slice.ensures c.is_empty.ensures c.if-is_empty.true) (c.no_leaf.ensures s r)

pub end_commit-requires-clause-seated : goal.end_commit-requires-clause-seated
end_commit-requires-clause-seated g c =
    drafted_seated _ _ c.args.self.now c.commit.new.self c.in-Ok.draft.pair (record { stands = c.in-Ok.ensures.stands }) c.commit.ensures.pair
    c.write_out-written.ensures.size c.requires.seated

pub end_commit-requires-clause-board : goal.end_commit-requires-clause-board
end_commit-requires-clause-board g c =
    drafted_board c.args.self.now c.commit.new.self c.in-Ok.draft.pair c.board-board.result (record { stands = c.in-Ok.ensures.stands }) c.commit.ensures.pair
    c.board-board.ensures

pub returns-clause-seated : goal.returns-clause-seated
returns-clause-seated g c =
    drafted_seated (g.B.Bank.view c.args.bank.now).size (g.B.Bank.view c.args.bank.now).size c.args.self.now c.commit.new.self c.in-Ok.draft.pair
    (record { stands = c.in-Ok.ensures.stands }) c.commit.ensures.pair (λ d. refl) c.requires.seated

pub returns-clause-sync : goal.returns-clause-sync
returns-clause-sync g c = λ s r.
    let drawn = c.commit.ensures.committed s r in
    syncs_on _ _ _ _ c.end_commit.result _ c.args.self.now c.commit.new.self s c.board-board.result r c.if-number-ge-LAST_NUMBER.false (c.board-board.ensures s r.pair)
    (nobody_shown c.as_slice.result.now c.board-board.result c.is_empty.result _ c.as_slice.ensures c.is_empty.ensures c.if-is_empty.false)
    (inl (syncs _ _ c.commit.new.self s c.write_out-written.ensures.size (c.write_out-written.ensures.part s r) (c.end_commit.ensures.ends (synced s) drawn) drawn))
