use Rattle.std.proofs.Common.{ℕ, ◌≤◌, ◌+◌, ◌∙◌, arith, take}
use Rattle.script_front.specs.FixedHost.{host_devices}
use Rattle.script_front.specs.LookingUp.{AreLookedUp}
use Rattle.script_front.proofs.FoundDevices.{found_next, are_apart, fronts_differ}
use Rattle.script_front.proofs.found.find_devices.Goals as goal

at_most : (a b c : ℕ) → a ≤ b → b ≤ c → a ≤ c
at_most a b c l m = omega arith

pub loop-i-preserved : goal.loop-i-preserved
loop-i-preserved g c =
    let found : AreLookedUp (g.B.Bank.view c.look_up.new.bank).number_of (g.B.Bank.view c.look_up.new.bank).size (g.B.Bank.view c.args.bank.now).names
    (g.B.Bank.view c.args.bank.now).lookup_faults (g.B.Bank.view c.look_up.new.bank).lookup_faults (take (c.loop-i.i + 1) host_devices) c.push.new.self.items =
    found_next (g.B.Bank.view c.loop-i.bank).number_of (g.B.Bank.view c.look_up.new.bank).number_of
    (g.B.Bank.view c.loop-i.bank).size (g.B.Bank.view c.look_up.new.bank).size (g.B.Bank.view c.args.bank.now).names (g.B.Bank.view c.loop-i.bank).names
    (g.B.Bank.view c.args.bank.now).lookup_faults (g.B.Bank.view c.loop-i.bank).lookup_faults (g.B.Bank.view c.look_up.new.bank).lookup_faults
    c.loop-i.i c.loop-i.table.items c.push.new.self.items c.in_ok-device.device c.in_ok-device.ensures.keeps c.in_ok-device.ensures.sizes
    c.in_ok-device.ensures.lookups c.loop-i.invariant.names c.loop-i.invariant.found
    c.in_ok-device.ensures.looked_up c.in_ok-push.ensures.items in
    record {
      found = found;
      apart = are_apart _ _ _ c.in_ok-device.ensures.apart _ _ (take (c.loop-i.i + 1) host_devices) c.push.new.self.items (fronts_differ (c.loop-i.i + 1)) found;
      names = c.in_ok-device.ensures.names ∙ c.loop-i.invariant.names;
      told = c.in_ok-device.ensures.told ∙ c.loop-i.invariant.told;
      faults = λ d. c.in_ok-device.ensures.faults d ∙ c.loop-i.invariant.faults d;
      lookups = at_most (g.B.Bank.view c.args.bank.now).lookup_faults (g.B.Bank.view c.loop-i.bank).lookup_faults (g.B.Bank.view c.look_up.new.bank).lookup_faults
          c.loop-i.invariant.lookups c.in_ok-device.ensures.lookups;
    }
