use Rattle.std.proofs.Common.{◌≡◌, drop, take}
use Rattle.label_store.specs.Turns.{commit_of, plan_of, MakesPhase}
use Rattle.label_store.proofs.commit.run_phase.Given as goal

abbrev pub invariant-loop-i : goal.invariant-loop-i
invariant-loop-i g l = record {
  left : drop l.i l.board ≡ drop l.i l.initial.board;
  phase : MakesPhase (plan_of l.phase (g.B.Bank.view l.initial.bank).size (commit_of l.round)) (take l.i l.members) (take l.i l.initial.board)
      (take l.i l.board) (g.B.Bank.view l.initial.bank) (g.B.Bank.view l.bank);
}
