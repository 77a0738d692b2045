use Rattle.std.proofs.Common.{◌≡◌, ◌++◌, drop}
use Rattle.host_machine.specs.Devices.{all_handed}
use Rattle.host_front.proofs.host.Host.handed_devices.Given as goal

abbrev pub invariant-loop-device : goal.invariant-loop-device
invariant-loop-device l = l.devs.items ++ all_handed (drop l.device-index l.device-items) ≡ all_handed l.fn.self.table.items
