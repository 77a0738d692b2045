use Rattle.std.proofs.Common.{sym, arith, ap, length}
use Rattle.pool_core.proofs.Boards.{board_short, members_are}
use Rattle.pool_core.proofs.Ending.{ends_suspended, ends_whole, ends_failed}
use Rattle.pool_core.proofs.pool.Pool.end_commit.Goals as goal

pub returns-then-is_err-clause-ends : goal.returns-then-is_err-clause-ends
returns-then-is_err-clause-ends g c = λ s r.
    ends_suspended _ c.args.self.now s c.args.before _ (sym c.if-is_err.ensures.value) r c.suspended.ensures

pub count_failures-requires-clause-results : goal.count_failures-requires-clause-results
count_failures-requires-clause-results g c =
    let pair = c.args.self.now.pair in
    omega (arith, ap length (members_are pair c.args.members.now c.requires.board), board_short pair)

pub returns-in-0-clause-ends : goal.returns-in-0-clause-ends
returns-in-0-clause-ends g c = λ s r.
    ends_whole _ c.args.self.now s c.args.before c.count_failures.result (sym c.if-is_err.ensures.value) r (c.count_failures.ensures.round s r) (omega arith)

pub returns-in_default-clause-ends : goal.returns-in_default-clause-ends
returns-in_default-clause-ends g c = λ s r.
    ends_failed _ c.args.self.now s c.args.before c.count_failures.result _ (sym c.if-is_err.ensures.value) r (c.count_failures.ensures.round s r) (λ e. omega arith)
    c.suspended-in_default.ensures
