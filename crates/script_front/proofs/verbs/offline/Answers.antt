use Rattle.std.proofs.Common.{sym, subst}
use Rattle.pool_runs.specs.Lines.{Asks_offline}
use Rattle.script_front.specs.Telling.{Tells}
use Rattle.script_front.proofs.HostTold.{says_more, offline_told}
use Rattle.script_front.proofs.verbs.offline.Goals as goal

pub returns : goal.returns
returns c = λ bank h was.
    says_more (λ reply says. subst (Tells h (Asks_offline c.args.pool.now c.args.device.now c.args.temporary) reply) (sym c.offline_reply.ensures)
    (offline_told h c.args.pool.now c.args.device.now c.args.temporary c.offline.result reply says))
    (c.offline.ensures bank h was)
