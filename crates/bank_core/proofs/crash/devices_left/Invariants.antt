use Rattle.std.proofs.Common.{◌≡◌, length, take}
use Rattle.bank_core.specs.Left.{AreLeft}
use Rattle.bank_core.specs.Memory.{names_in}
use Rattle.bank_core.proofs.crash.devices_left.Given as goal

-- what is left of the devices so far
abbrev pub invariant-loop-i : goal.invariant-loop-i
invariant-loop-i l = record {
  count : length l.left.items ≡ l.i;
  names : names_in l.left.items ≡ names_in (take l.i l.devices);
  left : AreLeft l.choice l.devices l.calls l.left.items l.i;
}
