use Rattle.std.proofs.Common.{sym, subst}
use Rattle.pool_runs.specs.Lines.{Asks_turn}
use Rattle.script_front.specs.Telling.{Tells}
use Rattle.script_front.proofs.HostTold.{says_more, turn_told}
use Rattle.script_front.proofs.verbs.turn.Goals as goal

pub returns : goal.returns
returns g c = λ h was.
    says_more (λ reply says. subst (Tells h (Asks_turn c.args.pool.now) reply) (sym c.turn_reply.ensures) (turn_told h c.args.pool.now c.turn.result reply says))
    (c.turn.ensures h was)
