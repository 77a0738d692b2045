use Rattle.std.proofs.Common.{refl, length, drop, ◌∙◌}
use Rattle.bank_core.specs.Memory.{sector_then}
use Rattle.bank_core.proofs.Crashing.{bytes_left}
use Rattle.bank_core.proofs.crash.device_left.Goals as goal

pub returns-clause-left : goal.returns-clause-left
returns-clause-left c =
    let moment = c.args.moment in
    let first = c.in_ok-first.first in
    let out = c.show_from.new.out in
    let bytes = bytes_left c.args.choice (sector_then moment.device.now moment.calls.now moment.damage.now moment.dev) moment.device.now.sectors first.len out
    (drop (length out) first.items) (c.show_from.auto.out ∙ c.deref_mut.ensures.len ∙ c.in_ok-first.ensures.len) c.in_ok-first.ensures.len c.show_from.ensures.clean (c.show_from.ensures.chosen c.args.choice refl) in
    record { size = refl; filled = bytes.0; image = bytes.1; chosen = bytes.2; damaged = c.in_ok-damage.ensures }
