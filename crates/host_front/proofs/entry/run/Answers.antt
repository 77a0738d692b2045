use Rattle.std.proofs.Common.{◌≡◌, true, false, sym, ◌∙◌, inl}
use Rattle.host_machine.specs.Machine.{started}
use Rattle.host_front.proofs.FoundDevices.{looked_up_sized}
use Rattle.host_front.proofs.RunLaws.{some_ran, ran_script, sized_still}
use Rattle.host_front.specs.FixedHost.{host_devices}
use Rattle.host_front.proofs.entry.run.Goals as goal

differ : true ≡ false → ⊥
differ e = cc

pub script-requires : goal.script-requires
script-requires g c = record {
  seated = c.new-host.ensures.seated _ (looked_up_sized _ _ _ _ _ host_devices c.in-Ok.table.items c.in-Ok.ensures.found) c.in-Ok.ensures.apart;
}

pub returns-clause-usage : goal.returns-clause-usage
returns-clause-usage g c = (
  λ e. absurd (some_ran _ c.in-Ok.table.items c.new-host.ensures.stands
      (looked_up_sized _ _ _ _ _ host_devices c.in-Ok.table.items c.in-Ok.ensures.found) c.in-Ok.ensures.apart c.script.ensures.ran e),
  λ e. absurd (differ (sym c.if-not-is_script.false ∙ c.is_script.ensures ∙ e)),
)

pub returns-clause-idle : goal.returns-clause-idle
returns-clause-idle g c = λ e. absurd (some_ran _ c.in-Ok.table.items c.new-host.ensures.stands
    (looked_up_sized _ _ _ _ _ host_devices c.in-Ok.table.items c.in-Ok.ensures.found) c.in-Ok.ensures.apart c.script.ensures.ran e)

pub returns-clause-unsought : goal.returns-clause-unsought
returns-clause-unsought g c = λ e. absurd (some_ran _ c.in-Ok.table.items c.new-host.ensures.stands
    (looked_up_sized _ _ _ _ _ host_devices c.in-Ok.table.items c.in-Ok.ensures.found) c.in-Ok.ensures.apart c.script.ensures.ran e)

pub returns-clause-ran : goal.returns-clause-ran
returns-clause-ran g c = λ e.
    let sized = looked_up_sized _ _ _ _ _ host_devices c.in-Ok.table.items c.in-Ok.ensures.found in
    inl (ran_script c.runs_keep_each_pool.ensures.run c.runs_keep_each_pool.ensures.counts
    (g.B.Bank.view c.find_devices.new.bank).number_of (g.B.Bank.view c.script.new.bank).number_of
    (g.B.Bank.view c.find_devices.new.bank).size (g.B.Bank.view c.script.new.bank).size (g.B.Bank.view c.args.bank.now).names
    (g.B.Bank.view c.args.bank.now).lookup_faults (g.B.Bank.view c.find_devices.new.bank).lookup_faults (g.B.Bank.view c.script.new.bank).lookup_faults
    c.in-Ok.table.items c.in-Ok.ensures.found c.in-Ok.ensures.apart
    (sized_still (g.B.Bank.view c.find_devices.new.bank).size (g.B.Bank.view c.script.new.bank).size c.in-Ok.table.items c.script.ensures.size sized) c.script.ensures.numbers c.script.ensures.size c.script.ensures.lookups
    c.in-Ok.ensures.told c.in-Ok.ensures.faults
    (λ records drawn. c.script.ensures.ran (started c.in-Ok.table.items (g.B.Bank.view c.script.new.bank).size records)
    (c.new-host.ensures.stands (g.B.Bank.view c.script.new.bank).size (g.B.Bank.view c.find_devices.new.bank).size records c.script.ensures.size
    (sized_still (g.B.Bank.view c.find_devices.new.bank).size (g.B.Bank.view c.script.new.bank).size c.in-Ok.table.items c.script.ensures.size sized) c.in-Ok.ensures.apart drawn)))
