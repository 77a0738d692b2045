use Rattle.std.proofs.Common.{List, ap, subst, ◌∙◌}
use Rattle.dtl_rules.specs.Widening.{leaves_of}
use Rattle.txg_engine.specs.declared.seat.Seat.{Seat}
use Rattle.txg_engine.specs.Frozen.{FrozenGroup}
use Rattle.txg_engine.specs.Logs.{AreGrown, is_off}
use Rattle.txg_engine.proofs.Owing.{owed_ready}
use Rattle.txg_engine.proofs.freezing.freeze.Goals as goal

pub returns-clause-logs : goal.returns-clause-logs
returns-clause-logs c =
    let n = c.args.number.0 in
    let begins = c.settle_group-frozen.ensures c.args.tops.now c.in-Ok.ensures.prepared in
    let board = ap (λ (group : FrozenGroup). group.board) c.frozen.view_is ∙ begins.board in
    record {
      roomy = leaves_of c.prepare.new.tops;
      room = c.in-Ok.ensures.leaves;
      grown = subst (λ (seats : List Seat). AreGrown (is_off seats) n n (leaves_of c.prepare.new.tops)
          (leaves_of c.owe_off.new.tops)) board c.owe_off.ensures.leaves;
    }

pub returns-clause-ready : goal.returns-clause-ready
returns-clause-ready c =
    let n = c.args.number.0 in
    let board = ap (λ (group : FrozenGroup). group.board) c.frozen.view_is in
    owed_ready c.settle_group-frozen.result.board n (leaves_of c.prepare.new.tops) (leaves_of c.owe_off.new.tops)
    (subst (λ (seats : List Seat). AreGrown (is_off seats) n n (leaves_of c.prepare.new.tops)
    (leaves_of c.owe_off.new.tops)) board c.owe_off.ensures.leaves) c.in-Ok.ensures.room
