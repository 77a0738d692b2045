use Rattle.std.proofs.Common.{arith}
use Rattle.group_set.proofs.Among.{IsRun-at}
use Rattle.group_set.proofs.run.place_all.Goals as goal

pub place-requires-clause-run : goal.place-requires-clause-run
place-requires-clause-run c = IsRun-at c.args.others.now c.loop-run.run-index _ c.requires.others_apart (omega arith)
