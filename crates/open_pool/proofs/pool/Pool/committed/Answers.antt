use Rattle.std.proofs.Common.{◌≤◌, ◌<◌, ap, ◌∙◌, subst}
use Rattle.open_pool.specs.Parts.{PoolParts}
use Rattle.open_pool.proofs.BlocksHeld.{block_key}
use Rattle.open_pool.proofs.NamesUnder.{outside}
use Rattle.open_pool.proofs.pool.Pool.committed.Goals as goal

pub returns-then-addr-blocks-clause-pointer : goal.returns-then-addr-blocks-clause-pointer
returns-then-addr-blocks-clause-pointer c =
    outside c.args.self.now.map c.args.addr (subst (λ n. n ≤ c.args.addr) (c.blocks-2.ensures.blocks ∙ ap (λ (p : PoolParts). p.map.blocks) c.self.view_is) c.if-addr-blocks.true)

pub get-requires : goal.get-requires
get-requires c = block_key c.self.inside.map.blocks c.args.addr (subst (λ n. c.args.addr < n) c.blocks-2.ensures.blocks c.if-addr-blocks.false)
