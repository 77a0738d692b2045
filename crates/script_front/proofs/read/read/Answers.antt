use Rattle.std.proofs.Common.{rules, ◌∙◌}
use Rattle.std.specs.Vec.{with_items}
use Rattle.std.proofs.lemmas.List.{take_at}
use Rattle.script_front.proofs.HostTold.{no_memory_read, read_answered}
use Rattle.script_front.proofs.read.read.Goals as goal

pub returns-in-Err : goal.returns-in-Err
returns-in-Err g c = λ h was. no_memory_read h c.args.pool.now c.args.host.now (g.B.Bank.view c.args.bank.now) was c.args.address

pub returns-in-Err-zeros : goal.returns-in-Err-zeros
returns-in-Err-zeros g c = λ h was. no_memory_read h c.args.pool.now c.args.host.now (g.B.Bank.view c.args.bank.now) was c.args.address

pub returns : goal.returns
returns g c = λ h was.
    read_answered h c.args.pool.now c.args.address c.deref.result.now c.read-answer.new.out (with_items c.in-Ok-zeros.out c.read-answer.new.out).items
    c.read-answer.result c.read_reply.result (c.deref.ensures.value ∙ c.in-Ok.ensures (g.B.Bank.view c.args.bank.now) h was)
    (take_at c.read-answer.new.out _ c.in-Ok-zeros.out.len (search rules)) c.read_reply.ensures (c.read-answer.ensures h was)
