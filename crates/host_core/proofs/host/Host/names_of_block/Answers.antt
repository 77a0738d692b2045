use Rattle.std.proofs.Common.{◌<◌, sym, ◌∙◌, subst}
use Rattle.host_core.proofs.BlocksNamed.{no_block, block_named}
use Rattle.host_core.proofs.PoolsFound.{here, low}
use Rattle.host_core.proofs.host.Host.names_of_block.Goals as goal

pub returns-in_default : goal.returns-in_default
returns-in_default c = λ bank h was. c.new.ensures.items ∙ no_block c.args.self.now c.args.name.now c.args.addr c.in_default.ensures.none bank h was

pub index-requires : goal.index-requires
index-requires c = subst (λ n. c.in-Some.place < n) (sym c.self.inside.pools.ok.0)
    (low c.args.self.now _ c.self.view_is c.in-Some.place c.args.name.now c.in-Some.ensures.some)

pub returns : goal.returns
returns c =
    block_named (λ names. names.items) c.args.self.now c.args.name.now c.args.addr c.in-Some.place
    (here c.args.self.now _ c.self.view_is c.in-Some.place c.args.name.now c.in-Some.ensures.some c.index.result.now c.index.ensures)
    c.names_of_block.result c.names_of_block.ensures
