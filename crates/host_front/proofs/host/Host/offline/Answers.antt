use Rattle.std.proofs.Common.{refl, Some, Ok, Err}
use Rattle.pool_wire.specs.declared.request.Request.TheVariants as requests
use Rattle.host_front.proofs.Answering.{answers_quiet, named_some, unnamed, no_pool}
use Rattle.host_front.proofs.AwayLines.{answers_offline}
use Rattle.host_front.proofs.host.Host.offline.Goals as goal

pub returns-then-not-is_named : goal.returns-then-not-is_named
returns-then-not-is_named c = λ h second told faults size stands.
    let pool_stands = rw c.in-Some.is at stands.keeps.pool in
    answers_quiet h h (Some (requests.Offline c.args.name.now c.args.device.now c.args.temporary)) second
    (record { table = stands.keeps.table; sizes = stands.keeps.sizes; pool = pool_stands })
    (rw (unnamed c.in-Some.pool h c.args.name.now pool_stands c.if-not-is_named.ensures) (refl, refl))

pub returns-in-Ok : goal.returns-in-Ok
returns-in-Ok c = λ h second told faults size stands.
    answers_offline h c.in-Some.pool c.offline.new.self c.args.name.now c.args.device.now c.args.temporary second (Ok c.in-Ok.field-0)
    (named_some c.in-Some.pool h c.args.name.now (rw c.in-Some.is at stands.keeps.pool) c.if-not-is_named.ensures)
    c.in-Ok.ensures.offline stands.keeps.table stands.keeps.sizes refl refl

pub returns-in-Err : goal.returns-in-Err
returns-in-Err c = λ h second told faults size stands.
    answers_offline h c.in-Some.pool c.offline.new.self c.args.name.now c.args.device.now c.args.temporary second (Err c.in-Err.refusal)
    (named_some c.in-Some.pool h c.args.name.now (rw c.in-Some.is at stands.keeps.pool) c.if-not-is_named.ensures)
    c.in-Err.ensures.offline stands.keeps.table stands.keeps.sizes refl refl

pub returns-in-None : goal.returns-in-None
returns-in-None c = λ h second told faults size stands.
    answers_quiet h h (Some (requests.Offline c.args.name.now c.args.device.now c.args.temporary)) second stands.keeps
    (rw (no_pool h c.args.name.now (rw c.in-None.is at stands.keeps.pool)) (refl, refl))
