use Rattle.std.proofs.Common.{refl, Some}
use Rattle.pool_wire.specs.declared.request.Request.TheVariants as requests
use Rattle.host_front.proofs.Answering.{answers_quiet, named_some, unnamed, no_pool}
use Rattle.host_front.proofs.Ending.{answers_sync, answers_unless}
use Rattle.host_front.proofs.Seating.{pool_seated}
use Rattle.host_front.proofs.host.Host.sync.Goals as goal

pub returns-then-not-is_named-clause-answers : goal.returns-then-not-is_named-clause-answers
returns-then-not-is_named-clause-answers g c = λ h second stands.
    let pool_stands = rw c.in-Some.is at stands.keeps.pool in
    answers_quiet h h (Some (requests.Sync c.args.name.now)) second (record { table = stands.keeps.table; sizes = stands.keeps.sizes; pool = pool_stands })
    (rw (unnamed c.in-Some.pool h c.args.name.now pool_stands c.if-not-is_named.ensures) (refl, refl))

pub returns-in-Ok-clause-answers : goal.returns-in-Ok-clause-answers
returns-in-Ok-clause-answers g c = λ h second stands.
    answers_sync (g.B.Bank.view c.args.bank.now).size h c.in-Some.pool c.sync.new.self c.args.name.now second
    (named_some c.in-Some.pool h c.args.name.now (rw c.in-Some.is at stands.keeps.pool) c.if-not-is_named.ensures)
    c.in-Ok.ensures.size stands.keeps.table stands.keeps.sizes c.in-Ok.group c.in-Ok.ensures.sync refl

pub returns-in-None-clause-answers : goal.returns-in-None-clause-answers
returns-in-None-clause-answers g c = λ h second stands.
    answers_quiet h h (Some (requests.Sync c.args.name.now)) second stands.keeps
    (rw (no_pool h c.args.name.now (rw c.in-None.is at stands.keeps.pool)) (refl, refl))

pub returns-in-Err-clause-answers : goal.returns-in-Err-clause-answers
returns-in-Err-clause-answers g c = λ h second stands.
    rw (c.refuse_sync.ensures.left, c.refuse_sync.ensures.is)
    (answers_unless (g.B.Bank.view c.args.bank.now).size h c.in-Some.pool c.sync.new.self c.args.name.now second
    (named_some c.in-Some.pool h c.args.name.now (rw c.in-Some.is at stands.keeps.pool) c.if-not-is_named.ensures)
    c.in-Err.ensures.size stands.keeps.table stands.keeps.sizes c.in-Err.refusal c.in-Err.ensures.sync refl)

pub sync-requires : goal.sync-requires
sync-requires g c = record { seated = pool_seated _ c.in-Some.pool c.in-Some.is c.requires.seated }
