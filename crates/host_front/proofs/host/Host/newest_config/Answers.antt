use Rattle.std.proofs.Common.{◌∙◌}
use Rattle.host_front.proofs.OpenSeats.{each_roomy}
use Rattle.host_front.proofs.Seating.{table_sized}
use Rattle.host_front.proofs.host.Host.newest_config.Goals as goal

pub seek-requires : goal.seek-requires
seek-requires g c = record {
  devices = each_roomy _ c.args.self.now.table.items c.deref.result.now (table_sized _ c.requires.seated) (c.deref.ensures.value ∙ c.in_ok-devs.ensures);
}
