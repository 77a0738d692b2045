use Rattle.std.proofs.Common.{◌∙◌}
use Rattle.host_front.proofs.OpenSeats.{seat_here}
use Rattle.host_front.proofs.import.seat_of.Goals as goal

pub returns-then-eq : goal.returns-then-eq
returns-then-eq c = c.roomy.ensures ∙ seat_here c.args.name.now c.args.sectors c.args.table.now c.loop-device.device-index c.device-item.result
    c.loop-device-test.true c.device-item.is c.if-eq.ensures c.loop-device.invariant
