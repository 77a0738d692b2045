use Rattle.host_front.proofs.OpenSeats.{two_seats}
use Rattle.host_front.proofs.Seating.{table_sized, table_apart}
use Rattle.host_front.proofs.host.Host.open_seats.Goals as goal

pub returns-clause-two : goal.returns-clause-two
returns-clause-two c = λ size seated.
    rw (c.seat_of-first.ensures, c.seat_of-second.ensures, c.deref.ensures.value, c.deref-2.ensures.value)
    (two_seats size c.args.self.now.table.items c.args.config.now.first.name c.args.config.now.second.name c.args.config.now.sectors
    (table_sized size seated) (table_apart size seated) c.requires.two_devices)
