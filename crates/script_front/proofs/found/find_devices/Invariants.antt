use Rattle.std.proofs.Common.{◌≡◌, ℕ, ◌≤◌, take}
use Rattle.host_core.specs.Standing.{AreApart}
use Rattle.script_front.specs.FixedHost.{host_devices}
use Rattle.script_front.specs.LookingUp.{AreLookedUp}
use Rattle.script_front.proofs.found.find_devices.Given as goal

abbrev pub invariant-loop-i : goal.invariant-loop-i
invariant-loop-i g l = record {
  found : AreLookedUp (g.B.Bank.view l.bank).number_of (g.B.Bank.view l.bank).size (g.B.Bank.view l.initial.bank).names
      (g.B.Bank.view l.initial.bank).lookup_faults (g.B.Bank.view l.bank).lookup_faults (take l.i host_devices) l.table.items;
  apart : AreApart l.table.items;
  names : (g.B.Bank.view l.bank).names ≡ (g.B.Bank.view l.initial.bank).names;
  told : (g.B.Bank.view l.bank).told ≡ (g.B.Bank.view l.initial.bank).told;
  faults : (d : ℕ) → (g.B.Bank.view l.bank).faults d ≡ (g.B.Bank.view l.initial.bank).faults d;
  lookups : (g.B.Bank.view l.initial.bank).lookup_faults ≤ (g.B.Bank.view l.bank).lookup_faults;
}
