use Rattle.std.proofs.Common.{◌∷◌, ◌++◌, [], ap, sym, ◌∙◌, arith}
use Rattle.vdev_tree.specs.Tree.{leaves}
use Rattle.txg_engine.proofs.Seating.{got_inside}
use Rattle.open_pool.proofs.NamesUnder.{names_more}
use Rattle.open_pool.proofs.names.names_in.Goals as goal

pub loop-place-preserved : goal.loop-place-preserved
loop-place-preserved c = record {
  names = names_more (leaves c.args.top.now.mirror) c.loop-place.place c.in-Some.leaf.now c.loop-place.names.items c.push.new.self.items (sym c.in-Some.ensures)
      c.loop-place.invariant.names (c.in_ok-push.ensures.items ∙ ap (λ n. c.loop-place.names.items ++ n ∷ []) c.in_ok-copy.ensures);
  inside = let inside = got_inside (leaves c.args.top.now.mirror) c.loop-place.place c.in-Some.leaf.now (sym c.in-Some.ensures) in omega arith;
}
