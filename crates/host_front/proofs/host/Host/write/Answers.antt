use Rattle.std.proofs.Common.{refl, Some, Ok, Err}
use Rattle.pool_wire.specs.declared.request.Request.TheVariants as requests
use Rattle.host_front.proofs.Answering.{answers_quiet, answers_write, named_some, unnamed, no_pool}
use Rattle.host_front.proofs.host.Host.write.Goals as goal

pub returns-then-not-is_named : goal.returns-then-not-is_named
returns-then-not-is_named c = λ h second told faults size stands.
    let pool_stands = rw c.in-Some.is at stands.keeps.pool in
    answers_quiet h h (Some (requests.Write c.args.name.now c.args.address c.args.block.now)) second
    (record { table = stands.keeps.table; sizes = stands.keeps.sizes; pool = pool_stands })
    (refl, rw (unnamed c.in-Some.pool h c.args.name.now pool_stands c.if-not-is_named.ensures) refl)

pub returns-in-Ok : goal.returns-in-Ok
returns-in-Ok c = λ h second told faults size stands.
    answers_write h c.in-Some.pool c.put.new.self c.args.name.now c.args.address c.args.block.now second (Ok c.in-Ok.field-0)
    (named_some c.in-Some.pool h c.args.name.now (rw c.in-Some.is at stands.keeps.pool) c.if-not-is_named.ensures)
    (rw c.as_bytes.ensures.bytes at c.in-Ok.ensures.put) stands.keeps.table stands.keeps.sizes refl refl

pub returns-in-Err : goal.returns-in-Err
returns-in-Err c = λ h second told faults size stands.
    answers_write h c.in-Some.pool c.put.new.self c.args.name.now c.args.address c.args.block.now second (Err c.in-Err.refusal)
    (named_some c.in-Some.pool h c.args.name.now (rw c.in-Some.is at stands.keeps.pool) c.if-not-is_named.ensures)
    (rw c.as_bytes.ensures.bytes at c.in-Err.ensures.put) stands.keeps.table stands.keeps.sizes refl refl

pub returns-in-None : goal.returns-in-None
returns-in-None c = λ h second told faults size stands.
    answers_quiet h h (Some (requests.Write c.args.name.now c.args.address c.args.block.now)) second stands.keeps
    (refl, rw (no_pool h c.args.name.now (rw c.in-None.is at stands.keeps.pool)) refl)
