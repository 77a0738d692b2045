use Rattle.std.proofs.Common.{refl, sym, Some, ◌∙◌, ap}
use Rattle.pool_wire.specs.declared.request.Request.TheVariants as requests
use Rattle.host_machine.specs.Devices.{number_in}
use Rattle.host_front.proofs.Answering.{answers_quiet, named_some, unnamed, no_pool}
use Rattle.host_front.proofs.AwayLines.{answers_online}
use Rattle.host_front.proofs.Seating.{own_device}
use Rattle.host_front.proofs.host.Host.online.Goals as goal

pub returns-then-not-is_named-clause-answers : goal.returns-then-not-is_named-clause-answers
returns-then-not-is_named-clause-answers g c = λ h second stands.
    let pool_stands = rw c.in-Some.is at stands.keeps.pool in
    answers_quiet h h (Some (requests.Online c.args.name.now c.args.device.now)) second
    (record { table = stands.keeps.table; sizes = stands.keeps.sizes; pool = pool_stands })
    (rw (unnamed c.in-Some.pool h c.args.name.now pool_stands c.if-not-is_named.ensures) (refl, refl))

pub online_in-requires : goal.online_in-requires
online_in-requires g c = record {
  own = λ s d pair found. own_device _ c.in-Some.pool c.args.device.now c.in-Some.is c.requires.seated s d pair
      (sym (c.number_in-dev.ensures ∙ ap (number_in c.args.device.now) c.deref.ensures.value) ∙ found);
}

pub returns-else-not-is_named-clause-answers : goal.returns-else-not-is_named-clause-answers
returns-else-not-is_named-clause-answers g c = λ h second stands.
    answers_online (g.B.Bank.view c.args.bank.now).size h c.in-Some.pool c.online_in.new.pool c.args.name.now c.args.device.now second c.number_in-dev.result
    (named_some c.in-Some.pool h c.args.name.now (rw c.in-Some.is at stands.keeps.pool) c.if-not-is_named.ensures)
    (c.number_in-dev.ensures ∙ ap (number_in c.args.device.now) (c.deref.ensures.value ∙ sym stands.keeps.table))
    c.online_in.ensures.onlines stands.keeps.table stands.keeps.sizes c.online_in.ensures.size refl

pub returns-in-None-clause-answers : goal.returns-in-None-clause-answers
returns-in-None-clause-answers g c = λ h second stands.
    answers_quiet h h (Some (requests.Online c.args.name.now c.args.device.now)) second stands.keeps
    (rw (no_pool h c.args.name.now (rw c.in-None.is at stands.keeps.pool)) (refl, refl))
