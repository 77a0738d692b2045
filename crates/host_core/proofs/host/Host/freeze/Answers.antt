use Rattle.std.proofs.Common.{◌<◌, Some, Err, refl, sym, subst}
use Rattle.open_pool.specs.declared.freeze.FreezeFault.TheVariants as fault
use Rattle.open_pool.specs.Freezing.{freeze_says}
use Rattle.pool_codec.specs.Codecs.{pool_codec}
use Rattle.pool_moves.specs.LineRows.{RowFreezeLine}
use Rattle.pool_runs.specs.HostRows.{FreezeLine}
use Rattle.pool_runs.specs.Lines.{Asks_freeze, To_freeze}
use Rattle.host_core.specs.Answering.{Says}
use Rattle.host_core.proofs.LinesAnswered.{freeze_line}
use Rattle.host_core.proofs.LinesOfHosts.{none_named}
use Rattle.host_core.proofs.PoolsFound.{here, low, told}
use Rattle.host_core.proofs.host.Host.freeze.Goals as goal

pub returns-in_default : goal.returns-in_default
returns-in_default c = λ bank. none_named (Asks_freeze c.args.name.now) c.args.name.now (λ h. FreezeLine pool_codec h) (λ h acts reply line. line) To_freeze freeze_says
    (Some (Err fault.Memory)) (λ h s vs reply. RowFreezeLine pool_codec s vs reply) (λ h s acts reply by. (reply, refl, by)) c.args.self.now bank c.in_default.ensures.none

pub index_mut-requires : goal.index_mut-requires
index_mut-requires c = subst (λ n. c.in-Some.place < n) (sym c.self.inside.pools.ok.0)
    (low c.args.self.now _ c.self.view_is c.in-Some.place c.args.name.now c.in-Some.ensures.some)

pub returns : goal.returns
returns c =
    let at = here c.args.self.now _ c.self.view_is c.in-Some.place c.args.name.now c.in-Some.ensures.some c.index_mut.result.now c.index_mut.ensures.value in
    λ bank. told c.args.self.now _ c.self.view_is c.in-Some.place (Asks_freeze c.args.name.now) (Says To_freeze freeze_says (Some (Err fault.Memory))) c.freeze.new.self bank bank
    c.freeze.result c.of_pool.result c.of_pool.ensures
    (freeze_line c.args.self.now c.args.name.now c.in-Some.place at c.freeze.new.self bank c.freeze.result c.freeze.ensures.row)
