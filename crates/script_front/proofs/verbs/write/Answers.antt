use Rattle.std.proofs.Common.{Some, Err, sym, subst}
use Rattle.host_core.specs.Answering.{AnswersLine, Says}
use Rattle.open_pool.specs.declared.write.WriteFault.TheVariants as writes
use Rattle.open_pool.specs.Writing.{write_says}
use Rattle.pool_runs.specs.Lines.{Asks_write, To_write}
use Rattle.script_front.specs.Telling.{Tells}
use Rattle.script_front.proofs.HostTold.{says_more, write_told}
use Rattle.script_front.proofs.verbs.write.Goals as goal

pub returns : goal.returns
returns c = λ bank h was.
    let asked = Asks_write c.args.pool.now c.args.address c.args.block.now in
    says_more (λ reply says. subst (Tells h asked reply) (sym c.write_reply.ensures)
    (write_told h c.args.pool.now c.args.address c.args.block.now c.write.result reply says))
    (subst (λ b. AnswersLine (Asks_write c.args.pool.now c.args.address b) (Says To_write write_says (Some (Err writes.Memory)) c.write.result) c.args.host.now c.write.new.self bank bank)
    c.as_bytes.ensures.bytes (c.write.ensures bank) h was)
