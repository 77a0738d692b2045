use Rattle.std.proofs.Common.{refl, Some}
use Rattle.pool_wire.specs.declared.request.Request.TheVariants as requests
use Rattle.host_front.proofs.Answering.{answers_quiet, answers_memory, named_some, unnamed, no_pool}
use Rattle.host_front.proofs.AwayLines.{answers_logs}
use Rattle.host_front.proofs.host.Host.logs.Goals as goal

pub returns-then-not-is_named : goal.returns-then-not-is_named
returns-then-not-is_named c = λ h second told faults size stands.
    answers_quiet h h (Some (requests.Logs c.args.name.now)) second stands.keeps
    (rw (unnamed c.in-Some.pool h c.args.name.now (rw c.in-Some.is at stands.keeps.pool) c.if-not-is_named.ensures) (refl, refl))

pub returns-in-Ok : goal.returns-in-Ok
returns-in-Ok c = λ h second told faults size stands.
    answers_logs h c.in-Some.pool c.args.name.now second c.in-Ok.logs
    (named_some c.in-Some.pool h c.args.name.now (rw c.in-Some.is at stands.keeps.pool) c.if-not-is_named.ensures) c.in-Ok.ensures stands.keeps

pub returns-in-Err : goal.returns-in-Err
returns-in-Err c = λ h second told faults size stands. answers_memory h (Some (requests.Logs c.args.name.now)) second stands.keeps

pub returns-in-None : goal.returns-in-None
returns-in-None c = λ h second told faults size stands.
    answers_quiet h h (Some (requests.Logs c.args.name.now)) second stands.keeps
    (rw (no_pool h c.args.name.now (rw c.in-None.is at stands.keeps.pool)) (refl, refl))
