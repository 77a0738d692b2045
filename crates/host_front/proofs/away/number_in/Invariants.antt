use Rattle.std.proofs.Common.{◌≡◌, drop}
use Rattle.host_machine.specs.Devices.{number_in}
use Rattle.host_front.proofs.away.number_in.Given as goal

abbrev pub invariant-loop-device : goal.invariant-loop-device
invariant-loop-device l = number_in l.name (drop l.device-index l.table) ≡ number_in l.name l.table
