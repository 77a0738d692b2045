use Rattle.std.proofs.Common.{arith}
use Rattle.label_store.specs.Turns.{commit_of}
use Rattle.label_store.proofs.Phasing.{phase_turns, left_next, got_there}
use Rattle.label_store.proofs.commit.run_phase.Goals as goal

pub loop-i-preserved : goal.loop-i-preserved
loop-i-preserved g c =
    record {
      left = left_next c.loop-i.i c.loop-i.board c.args.board.now c.take_turn.result c.loop-i.invariant.left;
      phase = phase_turns c.args.phase (g.B.Bank.view c.args.bank.now).size (g.B.Bank.view c.loop-i.bank).size (commit_of c.args.round.now) c.args.members.now
          c.args.board.now c.loop-i.board c.loop-i.i _ c.take_turn.result c.loop-i-test.true (omega arith) c.loop-i.auto.board
          (got_there c.args.members.now c.loop-i.i _ _ c.loop-i-test.true) (c.loop-i.invariant.phase.calls.frame.sizes _) c.loop-i.invariant.left
          c.loop-i.invariant.phase c.take_turn.ensures;
    }
