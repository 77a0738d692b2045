use Rattle.std.proofs.Common.{◌<◌, Some, Err, refl, sym, subst}
use Rattle.open_pool.specs.declared.sync.SyncFault.TheVariants as fault
use Rattle.open_pool.specs.Syncing.{sync_says}
use Rattle.pool_codec.specs.Codecs.{pool_codec}
use Rattle.pool_moves.specs.LineRows.{RowSync}
use Rattle.pool_runs.specs.Devices.{size_in}
use Rattle.pool_runs.specs.HostRows.{SyncLine}
use Rattle.pool_runs.specs.Lines.{Asks_sync, To_sync}
use Rattle.host_core.specs.Answering.{Says}
use Rattle.host_core.proofs.LinesAnswered.{here_at, sync_line}
use Rattle.host_core.proofs.LinesOfHosts.{none_named}
use Rattle.host_core.proofs.PoolsFound.{here, low, told}
use Rattle.host_core.proofs.host.Host.sync.Goals as goal

pub returns-in_default : goal.returns-in_default
returns-in_default g c = none_named (Asks_sync c.args.name.now) c.args.name.now (λ h. SyncLine pool_codec h) (λ h acts reply line. line) To_sync sync_says
    (Some (Err fault.Memory)) (λ h s vs reply. RowSync pool_codec (size_in h.table) s vs reply) (λ h s acts reply by. (reply, refl, by)) c.args.self.now (g.B.Bank.view c.args.bank.now) c.in_default.ensures.none

pub index_mut-requires : goal.index_mut-requires
index_mut-requires g c = subst (λ n. c.in-Some.place < n) (sym c.self.inside.pools.ok.0)
    (low c.args.self.now _ c.self.view_is c.in-Some.place c.args.name.now c.in-Some.ensures.some)

pub sync-requires : goal.sync-requires
sync-requires g c = here_at c.args.self.now (g.B.Bank.view c.args.bank.now) c.args.name.now c.in-Some.place c.requires.seated
    (here c.args.self.now _ c.self.view_is c.in-Some.place c.args.name.now c.in-Some.ensures.some c.index_mut.result.now c.index_mut.ensures.value)

pub returns : goal.returns
returns g c =
    let at = here c.args.self.now _ c.self.view_is c.in-Some.place c.args.name.now c.in-Some.ensures.some c.index_mut.result.now c.index_mut.ensures.value in
    told c.args.self.now _ c.self.view_is c.in-Some.place (Asks_sync c.args.name.now) (Says To_sync sync_says (Some (Err fault.Memory))) c.sync.new.self (g.B.Bank.view c.args.bank.now) (g.B.Bank.view c.sync.new.bank)
    c.sync.result c.of_pool.result c.of_pool.ensures
    (sync_line c.args.self.now c.args.name.now c.in-Some.place at c.sync.new.self (g.B.Bank.view c.args.bank.now) (g.B.Bank.view c.sync.new.bank) c.sync.result c.sync.ensures.row)
