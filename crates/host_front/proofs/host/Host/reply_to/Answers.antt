use Rattle.std.proofs.Common.{refl, Some}
use Rattle.pool_wire.specs.declared.request.Request.TheVariants as requests
use Rattle.host_front.proofs.Answering.{answers_quiet}
use Rattle.host_front.proofs.host.Host.reply_to.Goals as goal

pub returns-in-Nothing-clause-answers : goal.returns-in-Nothing-clause-answers
returns-in-Nothing-clause-answers g c = λ h stands.
    rw c.in-Nothing.is (answers_quiet h h (Some requests.Nothing) c.args.time stands.keeps (refl, refl))
