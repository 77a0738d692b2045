use Rattle.std.proofs.Common.{◌<◌, Some, Err, refl, sym, subst}
use Rattle.open_pool.specs.declared.write.WriteFault.TheVariants as fault
use Rattle.open_pool.specs.Writing.{write_says}
use Rattle.pool_moves.specs.AwayRows.{RowWrite}
use Rattle.pool_runs.specs.HostRows.{WriteLine}
use Rattle.pool_runs.specs.Lines.{Asks_write, To_write}
use Rattle.host_core.specs.Answering.{Says}
use Rattle.host_core.proofs.LinesAnswered.{write_line}
use Rattle.host_core.proofs.LinesOfHosts.{none_named}
use Rattle.host_core.proofs.PoolsFound.{here, low, told}
use Rattle.host_core.proofs.host.Host.write.Goals as goal

pub returns-in_default : goal.returns-in_default
returns-in_default c = λ bank. none_named (Asks_write c.args.name.now c.args.addr c.args.block.now) c.args.name.now (λ h. WriteLine h c.args.addr c.args.block.now) (λ h acts reply line. line) To_write write_says
    (Some (Err fault.Memory)) (λ h s vs reply. RowWrite s c.args.addr c.args.block.now vs reply) (λ h s acts reply by. (reply, refl, by)) c.args.self.now bank c.in_default.ensures.none

pub index_mut-requires : goal.index_mut-requires
index_mut-requires c = subst (λ n. c.in-Some.place < n) (sym c.self.inside.pools.ok.0)
    (low c.args.self.now _ c.self.view_is c.in-Some.place c.args.name.now c.in-Some.ensures.some)

pub returns : goal.returns
returns c =
    let at = here c.args.self.now _ c.self.view_is c.in-Some.place c.args.name.now c.in-Some.ensures.some c.index_mut.result.now c.index_mut.ensures.value in
    λ bank. told c.args.self.now _ c.self.view_is c.in-Some.place (Asks_write c.args.name.now c.args.addr c.args.block.now) (Says To_write write_says (Some (Err fault.Memory))) c.put.new.self bank bank
    c.put.result c.of_pool.result c.of_pool.ensures
    (write_line c.args.self.now c.args.name.now c.in-Some.place at c.put.new.self c.args.addr c.args.block.now bank c.put.result c.put.ensures.row)
