use Rattle.std.proofs.Common.{◌≡◌, drop}
use Rattle.host_machine.specs.Devices.{seat_of}
use Rattle.host_front.proofs.import.seat_of.Given as goal

abbrev pub invariant-loop-device : goal.invariant-loop-device
invariant-loop-device l = seat_of l.name l.sectors (drop l.device-index l.table) ≡ seat_of l.name l.sectors l.table
