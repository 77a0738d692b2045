use Rattle.std.proofs.Common.{◌≡◌, true, false, sym, ◌∙◌, inl}
use Rattle.script_front.proofs.RunLaws.{first_seated, ran_script, script_some}
use Rattle.script_front.proofs.entry.run.Goals as goal

differ : true ≡ false → ⊥
differ e = cc

pub script-requires : goal.script-requires
script-requires g c = record {
  seated = first_seated (g.B.Bank.view c.args.bank.now) (g.B.Bank.view c.find_devices.new.bank) c.in-Ok.table.items c.in-Ok.ensures.found c.in-Ok.ensures.apart
      c.in-Ok.ensures.told c.in-Ok.ensures.faults c.lines_are_runs.ensures.begins c.new-host.result c.new-host.ensures;
}

pub returns-clause-usage : goal.returns-clause-usage
returns-clause-usage g c = (
  λ e. absurd (script_some (ran_script (g.B.Bank.view c.args.bank.now) (g.B.Bank.view c.find_devices.new.bank) c.in-Ok.table.items c.in-Ok.ensures.found c.in-Ok.ensures.apart
      c.in-Ok.ensures.told c.in-Ok.ensures.faults c.lines_are_runs.ensures.begins c.new-host.result c.new-host.ensures c.lines_are_runs.ensures.run
      c.runs_keep_each_pool.ensures.first c.script.result (g.B.Bank.view c.script.new.bank) _ _ _ _ _ _ c.script.ensures.ran) e),
  λ e. absurd (differ (sym c.if-not-is_script.false ∙ c.is_script.ensures ∙ e)),
)

pub returns-clause-idle : goal.returns-clause-idle
returns-clause-idle g c = λ e. absurd (script_some (ran_script (g.B.Bank.view c.args.bank.now) (g.B.Bank.view c.find_devices.new.bank) c.in-Ok.table.items c.in-Ok.ensures.found c.in-Ok.ensures.apart
    c.in-Ok.ensures.told c.in-Ok.ensures.faults c.lines_are_runs.ensures.begins c.new-host.result c.new-host.ensures c.lines_are_runs.ensures.run
    c.runs_keep_each_pool.ensures.first c.script.result (g.B.Bank.view c.script.new.bank) _ _ _ _ _ _ c.script.ensures.ran) e)

pub returns-clause-unsought : goal.returns-clause-unsought
returns-clause-unsought g c = λ e. absurd (script_some (ran_script (g.B.Bank.view c.args.bank.now) (g.B.Bank.view c.find_devices.new.bank) c.in-Ok.table.items c.in-Ok.ensures.found c.in-Ok.ensures.apart
    c.in-Ok.ensures.told c.in-Ok.ensures.faults c.lines_are_runs.ensures.begins c.new-host.result c.new-host.ensures c.lines_are_runs.ensures.run
    c.runs_keep_each_pool.ensures.first c.script.result (g.B.Bank.view c.script.new.bank) _ _ _ _ _ _ c.script.ensures.ran) e)

pub returns-clause-ran : goal.returns-clause-ran
returns-clause-ran g c = λ e. inl (ran_script (g.B.Bank.view c.args.bank.now) (g.B.Bank.view c.find_devices.new.bank) c.in-Ok.table.items c.in-Ok.ensures.found c.in-Ok.ensures.apart
    c.in-Ok.ensures.told c.in-Ok.ensures.faults c.lines_are_runs.ensures.begins c.new-host.result c.new-host.ensures c.lines_are_runs.ensures.run
    c.runs_keep_each_pool.ensures.first c.script.result (g.B.Bank.view c.script.new.bank) _ _ _ _ _ _ c.script.ensures.ran)
