use Rattle.std.proofs.Common.{sym}
use Rattle.host_front.proofs.Creating.{two_members}
use Rattle.host_front.proofs.Seating.{table_sized, table_apart}
use Rattle.host_front.proofs.host.Host.new_seats.Goals as goal

pub returns-clause-two : goal.returns-clause-two
returns-clause-two c = λ size seated.
    two_members size c.args.self.now.table.items c.args.first.now c.args.second.now c.in_ok-dev.dev c.in_ok-other.other (table_sized size seated) (table_apart size seated)
    (sym c.if-eq.ensures) (rw c.deref.ensures.value at c.in_ok-dev.ensures) (rw c.deref-2.ensures.value at c.in_ok-other.ensures)
