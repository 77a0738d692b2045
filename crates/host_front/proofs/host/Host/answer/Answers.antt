use Rattle.std.proofs.Common.{refl, None}
use Rattle.pool_wire.specs.Reading.{request_of}
use Rattle.host_front.proofs.Answering.{answers_quiet, answers_memory}
use Rattle.host_front.proofs.host.Host.answer.Goals as goal

pub returns-in-Err-Bad-clause-answers : goal.returns-in-Err-Bad-clause-answers
returns-in-Err-Bad-clause-answers g c = λ h stands.
    rw (rw c.in-Err-Bad.field-0-is at c.in-Err-Bad.ensures.exact) (answers_quiet h h None c.args.time stands.keeps (refl, refl))

pub returns-in-Err-Memory-clause-answers : goal.returns-in-Err-Memory-clause-answers
returns-in-Err-Memory-clause-answers g c = λ h stands. answers_memory h (request_of c.args.line.now) c.args.time stands.keeps
