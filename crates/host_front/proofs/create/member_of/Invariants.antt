use Rattle.std.proofs.Common.{◌≡◌, drop}
use Rattle.host_machine.specs.Devices.{member_of}
use Rattle.host_front.proofs.create.member_of.Given as goal

abbrev pub invariant-loop-device : goal.invariant-loop-device
invariant-loop-device l = member_of l.name (drop l.device-index l.table) ≡ member_of l.name l.table
