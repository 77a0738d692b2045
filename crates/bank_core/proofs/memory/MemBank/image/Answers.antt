use Rattle.std.proofs.Common.{◌≡◌, arith, refl, ap, take}
use Rattle.std.proofs.lemmas.Grind.{common_steps}
use Rattle.std.proofs.lemmas.Option.{slice_get_read}
use Rattle.bank_core.specs.Disk.{IsClean}
use Rattle.bank_core.specs.Image.{IsChosen}
use Rattle.bank_core.proofs.Crashing.{shown_at_moment}
use Rattle.bank_core.proofs.Names.{has_place}
use Rattle.bank_core.proofs.memory.MemBank.image.Goals as goal

pub returns-clause-clean : goal.returns-clause-clean
returns-clause-clean c = λ story told.
    let bank = c.args.self.now in
    shown_at_moment (λ x bytes. IsClean x → bytes ≡ x.stable)
    bank.devices.items bank.calls.items _ c.index.result.now c.args.dev c.args.at c.args.moment _ c.show_from.new.out bank.tells story
    (ap (take c.args.moment) c.deref.ensures.value)
    (slice_get_read bank.devices.items _ c.args.dev c.index.result.now refl (has_place bank.devices.items c.args.dev c.requires.device) c.index.ensures)
    (grind (arith, common_steps)) c.show_from.ensures.clean told

pub returns-clause-chosen : goal.returns-clause-chosen
returns-clause-chosen c = λ story told.
    let bank = c.args.self.now in
    shown_at_moment (IsChosen c.args.choice)
    bank.devices.items bank.calls.items _ c.index.result.now c.args.dev c.args.at c.args.moment _ c.show_from.new.out bank.tells story
    (ap (take c.args.moment) c.deref.ensures.value)
    (slice_get_read bank.devices.items _ c.args.dev c.index.result.now refl (has_place bank.devices.items c.args.dev c.requires.device) c.index.ensures)
    (grind (arith, common_steps)) (c.show_from.ensures.chosen c.args.choice refl) told
