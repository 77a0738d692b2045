use Rattle.std.proofs.Common.{refl, sym, Some}
use Rattle.pool_wire.specs.declared.request.Request.TheVariants as requests
use Rattle.host_front.proofs.Answering.{answers_quiet, answers_memory}
use Rattle.host_front.proofs.Creating.{answers_create, parts_seated, parts_made}
use Rattle.host_front.proofs.host.Host.create.Goals as goal

pub returns-then-is_bad_size-clause-answers : goal.returns-then-is_bad_size-clause-answers
returns-then-is_bad_size-clause-answers g c = λ h stands.
    answers_quiet h h (Some (requests.Create c.args.name.now c.args.blocks c.args.first.now c.args.second.now)) c.args.time stands.keeps
    (rw (← c.if-is_bad_size.ensures) (refl, refl))

pub returns-in-None-clause-answers : goal.returns-in-None-clause-answers
returns-in-None-clause-answers g c = λ h stands.
    answers_quiet h h (Some (requests.Create c.args.name.now c.args.blocks c.args.first.now c.args.second.now)) c.args.time stands.keeps
    (rw (← c.if-is_bad_size.ensures, ← c.in-None.ensures.is h _ stands.keeps) (refl, refl))

pub make_pool-requires-clause-two : goal.make_pool-requires-clause-two
make_pool-requires-clause-two g c =
    parts_seated c.in-Ok.copy c.args.name.now c.in-Ok.first c.in-Ok.second c.args.first.now c.args.second.now c.in-Some.seats.0 c.in-Some.seats.1 c.in-Ok.ensures
    _ (c.in-Some.ensures.two _ c.requires.seated)

pub returns-in-Ok-clause-answers : goal.returns-in-Ok-clause-answers
returns-in-Ok-clause-answers g c = λ h stands.
    answers_create (g.B.Bank.view c.args.bank.now).size h c.args.name.now c.args.blocks c.args.first.now c.args.second.now c.in-Some.seats.0 c.in-Some.seats.1 c.args.time
    stands.keeps (sym c.if-is_bad_size.ensures) (c.in-Some.ensures.is h _ stands.keeps)
    (parts_made c.in-Ok.copy c.args.name.now c.in-Ok.first c.in-Ok.second c.args.first.now c.args.second.now c.in-Some.seats.0 c.in-Some.seats.1 c.in-Ok.ensures
    (g.B.Bank.view c.args.bank.now).size h c.args.blocks c.args.time c.pool_number.result c.pool_number.ensures (c.make_pool.ensures.makes h stands.keeps))

pub returns-in-Err-clause-answers : goal.returns-in-Err-clause-answers
returns-in-Err-clause-answers g c = λ h stands.
    answers_memory h (Some (requests.Create c.args.name.now c.args.blocks c.args.first.now c.args.second.now)) c.args.time stands.keeps
