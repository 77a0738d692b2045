use Rattle.std.proofs.Common.{◌∷◌, ◌++◌, [], sym, ap, ◌∙◌, arith}
use Rattle.vdev_tree.specs.Tree.{leaves}
use Rattle.txg_engine.proofs.Seating.{got_inside, got_none}
use Rattle.open_pool.proofs.CopiesOfTops.{copies_more, row_of_all}
use Rattle.open_pool.proofs.copies.copies_of.Goals as goal

pub returns-in_default-clause-row : goal.returns-in_default-clause-row
returns-in_default-clause-row c =
    row_of_all c.args.birth.0 c.loop-place.place (leaves c.args.top.now.mirror) c.loop-place.copies
    (got_none (leaves c.args.top.now.mirror) c.loop-place.place (sym c.in_default.ensures)) c.loop-place.invariant.copies

pub loop-place-preserved : goal.loop-place-preserved
loop-place-preserved c =
    let at = sym c.in-Some.ensures in
    record {
      copies = copies_more c.args.birth.0 c.loop-place.place (leaves c.args.top.now.mirror) c.in-Some.leaf.now c.loop-place.copies c.push.new.self at
          c.loop-place.invariant.copies
          (c.push.ensures ∙ ap (λ copy. c.loop-place.copies ++ copy ∷ []) c.copy_on.ensures);
      inside = let inside = got_inside (leaves c.args.top.now.mirror) c.loop-place.place c.in-Some.leaf.now at in omega arith;
    }

pub returns-clause-row : goal.returns-clause-row
returns-clause-row c =
    row_of_all c.args.birth.0 c.loop-place.place (leaves c.args.top.now.mirror) c.loop-place.copies (omega arith) c.loop-place.invariant.copies
