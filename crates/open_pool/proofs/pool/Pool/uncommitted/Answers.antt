use Rattle.std.proofs.Common.{sym, ap, ◌∙◌, subst}
use Rattle.std.specs.Prelude.{IfSome}
use Rattle.std.specs.Option.{option_copied}
use Rattle.open_pool.proofs.BlocksHeld.{IsLong, writes_long, items_long, some_long}
use Rattle.open_pool.proofs.pool.Pool.uncommitted.Goals as goal

pub returns-in-Some-clause-whole : goal.returns-in-Some-clause-whole
returns-in-Some-clause-whole c =
    some_long _ c.in-Some.block.now (sym c.block.ensures ∙ ap option_copied c.in-Some.is) (writes_long _ c.args.addr c.keeps_its_form.ensures.blocks)

pub returns-in-Some-frozen-clause-whole : goal.returns-in-Some-frozen-clause-whole
returns-in-Some-frozen-clause-whole c =
    subst (λ o. IfSome o IsLong) (sym c.block-in-Some-frozen.ensures) (items_long _ c.args.addr c.keeps_its_form-in-Some-frozen.ensures.blocks)
