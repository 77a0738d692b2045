use Rattle.std.proofs.Common.{refl, Some}
use Rattle.pool_wire.specs.declared.request.Request.TheVariants as requests
use Rattle.host_front.proofs.Answering.{answers_quiet, answers_read, keeps_on, named_some, unnamed, no_pool}
use Rattle.host_front.proofs.Seating.{pool_seated}
use Rattle.host_front.proofs.host.Host.read.Goals as goal

pub returns-then-not-is_named-clause-answers : goal.returns-then-not-is_named-clause-answers
returns-then-not-is_named-clause-answers g c = λ h second stands.
    let unnamed_is = unnamed c.in-Some.pool h c.args.name.now (rw c.in-Some.is at stands.keeps.pool) c.if-not-is_named.ensures in
    answers_quiet h h (Some (requests.Read c.args.name.now c.args.address)) second stands.keeps (rw unnamed_is refl, rw unnamed_is refl)

pub returns-else-not-is_named-clause-answers : goal.returns-else-not-is_named-clause-answers
returns-else-not-is_named-clause-answers g c = λ h second stands.
    answers_read h c.in-Some.pool c.args.name.now c.args.address second
    (named_some c.in-Some.pool h c.args.name.now (rw c.in-Some.is at stands.keeps.pool) c.if-not-is_named.ensures)
    c.read_from.ensures.replies (keeps_on _ _ c.read_from.ensures.size stands.keeps)

pub returns-in-None-clause-answers : goal.returns-in-None-clause-answers
returns-in-None-clause-answers g c = λ h second stands.
    let none = no_pool h c.args.name.now (rw c.in-None.is at stands.keeps.pool) in
    answers_quiet h h (Some (requests.Read c.args.name.now c.args.address)) second stands.keeps (rw none refl, rw none refl)

pub read_from-requires : goal.read_from-requires
read_from-requires g c = record { seated = pool_seated _ c.in-Some.pool c.in-Some.is c.requires.seated }
