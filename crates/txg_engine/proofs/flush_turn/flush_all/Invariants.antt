use Rattle.std.proofs.Common.{take}
use Rattle.txg_history.specs.Turns.{flush_plan}
use Rattle.txg_engine.proofs.Calling.{CallsSo}
use Rattle.txg_engine.proofs.flush_turn.flush_all.Given as goal

abbrev pub invariant-loop-i : goal.invariant-loop-i
invariant-loop-i g l = record {
  calls : CallsSo flush_plan (take l.i l.members) (take l.i l.done) (g.B.Bank.view l.initial.bank) (g.B.Bank.view l.bank);
}
