use Rattle.std.proofs.Common.{◌<◌, None, refl, sym, subst}
use Rattle.open_pool.specs.Offline.{offline_says}
use Rattle.pool_moves.specs.AwayRows.{RowOffline}
use Rattle.pool_runs.specs.HostRows.{OfflineLine}
use Rattle.pool_runs.specs.Lines.{Asks_offline, To_offline}
use Rattle.host_core.specs.Answering.{Says}
use Rattle.host_core.proofs.LinesAnswered.{offline_line}
use Rattle.host_core.proofs.LinesOfHosts.{none_named}
use Rattle.host_core.proofs.PoolsFound.{here, low, told}
use Rattle.host_core.proofs.host.Host.offline.Goals as goal

pub returns-in_default : goal.returns-in_default
returns-in_default c = λ bank. none_named (Asks_offline c.args.name.now c.args.device.now c.args.temporary) c.args.name.now (λ h. OfflineLine h c.args.device.now c.args.temporary) (λ h acts reply line. line) To_offline offline_says
    None (λ h s vs reply. RowOffline s c.args.device.now c.args.temporary vs reply) (λ h s acts reply by. (reply, refl, by)) c.args.self.now bank c.in_default.ensures.none

pub index_mut-requires : goal.index_mut-requires
index_mut-requires c = subst (λ n. c.in-Some.place < n) (sym c.self.inside.pools.ok.0)
    (low c.args.self.now _ c.self.view_is c.in-Some.place c.args.name.now c.in-Some.ensures.some)

pub returns : goal.returns
returns c =
    let at = here c.args.self.now _ c.self.view_is c.in-Some.place c.args.name.now c.in-Some.ensures.some c.index_mut.result.now c.index_mut.ensures.value in
    λ bank. told c.args.self.now _ c.self.view_is c.in-Some.place (Asks_offline c.args.name.now c.args.device.now c.args.temporary) (Says To_offline offline_says None) c.offline.new.self bank bank
    c.offline.result c.of_pool.result c.of_pool.ensures
    (offline_line c.args.self.now c.args.name.now c.in-Some.place at c.offline.new.self c.args.device.now c.args.temporary bank c.offline.result c.offline.ensures.row)
