use Rattle.std.proofs.Common.{sym, subst}
use Rattle.pool_runs.specs.Lines.{Asks_sync}
use Rattle.script_front.specs.Telling.{Tells}
use Rattle.script_front.proofs.HostTold.{says_more, sync_told}
use Rattle.script_front.proofs.verbs.sync.Goals as goal

pub returns : goal.returns
returns g c = λ h was.
    says_more (λ reply says. subst (Tells h (Asks_sync c.args.pool.now) reply) (sym c.sync_reply.ensures) (sync_told h c.args.pool.now c.sync.result reply says))
    (c.sync.ensures h was)
