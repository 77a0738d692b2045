use Rattle.std.proofs.Common.{◌<◌, Err, Vec, Global, refl, sym, subst}
use Rattle.mp_base.specs.declared.fault.MemFault.{MemFault}
use Rattle.open_pool.specs.declared.logs.LeafLog.{LeafLog}
use Rattle.std.specs.Prelude.{All, IfOk}
use Rattle.open_pool.specs.Telling.{IsRising, logs_told}
use Rattle.host_core.proofs.BlocksNamed.{ok_of_pool}
use Rattle.pool_runs.specs.HostRows.{LogsLine}
use Rattle.pool_runs.specs.Lines.{Asks_logs}
use Rattle.host_core.specs.declared.host.Refused.TheVariants as refused
use Rattle.host_core.specs.Answering.{AnswersLine}
use Rattle.host_core.specs.Telling.{TellsLogs}
use Rattle.host_core.proofs.LinesAnswered.{logs_line}
use Rattle.host_core.proofs.LinesOfHosts.{no_pool}
use Rattle.host_core.proofs.PoolsFound.{here, low}
use Rattle.host_core.proofs.host.Host.logs.Goals as goal

pub returns-in_default-clause-answers : goal.returns-in_default-clause-answers
returns-in_default-clause-answers c = λ bank. no_pool (Asks_logs c.args.name.now) c.args.name.now LogsLine (λ h acts reply line. line)
    (TellsLogs {A = Vec LeafLog Global} {E = MemFault} (λ logs. logs_told logs.items) (Err refused.NoPool)) c.args.self.now bank refl c.in_default.ensures.none

pub index-requires : goal.index-requires
index-requires c = subst (λ n. c.in-Some.place < n) (sym c.self.inside.pools.ok.0)
    (low c.args.self.now _ c.self.view_is c.in-Some.place c.args.name.now c.in-Some.ensures.some)

pub returns-clause-answers : goal.returns-clause-answers
returns-clause-answers c =
    let at = here c.args.self.now _ c.self.view_is c.in-Some.place c.args.name.now c.in-Some.ensures.some c.index.result.now c.index.ensures in
    λ bank. subst (λ r. AnswersLine (Asks_logs c.args.name.now) (TellsLogs (λ logs. logs_told logs.items) r) c.args.self.now c.args.self.now bank bank)
    (sym c.of_pool.ensures)
    (logs_line (λ logs. logs_told logs.items) c.args.self.now c.args.name.now c.in-Some.place at bank c.logs.result c.logs.ensures.row)

pub returns-clause-rise : goal.returns-clause-rise
returns-clause-rise c = subst (λ r. IfOk r (λ (logs : Vec LeafLog Global). All IsRising logs.items)) (sym c.of_pool.ensures)
    (ok_of_pool (λ (logs : Vec LeafLog Global). All IsRising logs.items) c.logs.result c.logs.ensures.rise)
