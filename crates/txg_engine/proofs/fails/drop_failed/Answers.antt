use Rattle.std.proofs.Common.{◌<◌, false, length, ◌∙◌, arith}
use Rattle.label_store.specs.declared.member.Member.{Member}
use Rattle.dtl_rules.specs.Widening.{leaves_of}
use Rattle.txg_engine.specs.Boards.{behind_turn}
use Rattle.txg_engine.proofs.Failing.{turn_more, leaves_more}
use Rattle.txg_engine.proofs.fails.drop_failed.Goals as goal

pub loop-i-preserved : goal.loop-i-preserved
loop-i-preserved c =
    let nobody : Member = record { dev = 0; guid = record { 0 = 0 } } in
    let inside : c.loop-i.i < length c.args.done.now = omega arith in
    record {
      board = turn_more c.args.members.now c.args.done.now c.loop-i.i nobody false (behind_turn c.args.members.now c.args.done.now c.args.board.now) c.loop-i.board c.fail_unless.new.board
          c.loop-i-test.true inside c.fail_unless.ensures.board c.loop-i.invariant.board;
      leaves = leaves_more c.args.numbers c.args.members.now c.args.done.now c.loop-i.i nobody false (leaves_of c.args.tops.now) (leaves_of c.loop-i.tops) (leaves_of c.fail_unless.new.tops)
          c.loop-i-test.true inside c.fail_unless.ensures.leaves c.loop-i.invariant.leaves;
      ready = c.fail_unless.ensures.ready;
      built = c.fail_unless.ensures.built ∙ c.loop-i.invariant.built;
      sectors = c.fail_unless.ensures.sectors ∙ c.loop-i.invariant.sectors;
    }
