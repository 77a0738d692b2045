use Rattle.std.proofs.Common.{sym, ap, ◌∙◌, arith}
use Rattle.std.specs.Option.{option_copied}
use Rattle.vdev_tree.specs.Tree.{leaves, is_named}
use Rattle.open_pool.proofs.NamesFound.{first_at, none_more, none_at_all, none_in_few}
use Rattle.open_pool.proofs.named.leaf_in.Goals as goal

pub returns-in_err-leaf : goal.returns-in_err-leaf
returns-in_err-leaf c =
    ap option_copied c.from_residual.ensures
    ∙ sym (none_at_all (is_named c.args.name.now) c.loop-place.place (leaves c.args.top.now.mirror) c.loop-place.invariant (sym c.in_err-leaf.ensures))

pub returns-then-eq : goal.returns-then-eq
returns-then-eq c =
    sym (first_at (is_named c.args.name.now) c.loop-place.place (leaves c.args.top.now.mirror) c.in_ok-leaf.leaf.now c.loop-place.invariant
    (sym c.in_ok-leaf.ensures) (sym c.eq.ensures ∙ c.if-eq.true))

pub loop-place-preserved : goal.loop-place-preserved
loop-place-preserved c =
    none_more (is_named c.args.name.now) c.loop-place.place (leaves c.args.top.now.mirror) c.in_ok-leaf.leaf.now c.loop-place.invariant
    (sym c.in_ok-leaf.ensures) (sym c.eq.ensures ∙ c.if-eq.false)

pub returns : goal.returns
returns c =
    sym (none_in_few (is_named c.args.name.now) c.loop-place.place (leaves c.args.top.now.mirror) c.loop-place.invariant (omega (arith, c.requires)))
