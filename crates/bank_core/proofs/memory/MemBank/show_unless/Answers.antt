use Rattle.std.proofs.Common.{arith, refl}
use Rattle.std.proofs.lemmas.Grind.{common_steps}
use Rattle.std.proofs.lemmas.Option.{slice_get_read}
use Rattle.bank_core.proofs.Finding.{shown_inside}
use Rattle.bank_core.proofs.Names.{has_place}
use Rattle.bank_core.proofs.memory.MemBank.show_unless.Goals as goal

pub returns : goal.returns
returns c = λ none.
    shown_inside c.args.self.now.devices.items c.args.self.now.calls.items c.deref.result.now c.args.damage.now c.index.result.now c.args.dev c.args.at _ _
    c.deref.ensures.value
    (slice_get_read c.args.self.now.devices.items _ c.args.dev c.index.result.now refl (has_place c.args.self.now.devices.items c.args.dev c.requires.device) c.index.ensures)
    (grind (arith, common_steps)) c.show_from.ensures.clean
