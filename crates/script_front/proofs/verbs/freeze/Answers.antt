use Rattle.std.proofs.Common.{sym, subst}
use Rattle.pool_runs.specs.Lines.{Asks_freeze}
use Rattle.script_front.specs.Telling.{Tells}
use Rattle.script_front.proofs.HostTold.{says_more, freeze_told}
use Rattle.script_front.proofs.verbs.freeze.Goals as goal

pub returns : goal.returns
returns c = λ bank h was.
    says_more (λ reply says. subst (Tells h (Asks_freeze c.args.pool.now) reply) (sym c.freeze_reply.ensures) (freeze_told h c.args.pool.now c.freeze.result reply says))
    (c.freeze.ensures bank h was)
