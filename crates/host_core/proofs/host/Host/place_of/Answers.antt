use Rattle.std.proofs.Common.{sym, ◌∙◌, arith}
use Rattle.open_pool.proofs.NamesFound.{none_more}
use Rattle.host_core.specs.Naming.{is_called}
use Rattle.host_core.proofs.PoolsFound.{at_place}
use Rattle.host_core.proofs.host.Host.place_of.Goals as goal

pub loop-place-preserved : goal.loop-place-preserved
loop-place-preserved c =
    let low = c.loop-place-test.true in let many = c.len-place-end.ensures in
    none_more (is_called c.args.name.now) c.loop-place.place c.args.self.now.pools c.index.result.now c.loop-place.invariant
    (at_place c.args.self.now _ c.self.view_is c.loop-place.place c.index.result.now (omega (arith, low, many)) c.index.ensures)
    (sym c.is_named.ensures ∙ c.if-is_named.false)
