use Rattle.host_front.proofs.OpenSeats.{number_here}
use Rattle.host_front.proofs.away.number_in.Goals as goal

pub returns-then-eq : goal.returns-then-eq
returns-then-eq c = number_here c.args.name.now c.args.table.now c.loop-device.device-index c.device-item.result
    c.loop-device-test.true c.device-item.is c.if-eq.ensures c.loop-device.invariant
