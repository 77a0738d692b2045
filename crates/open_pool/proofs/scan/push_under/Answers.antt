use Rattle.std.proofs.Common.{length, take, sym, ap, arith, length-append, length-take}
use Rattle.vdev_tree.specs.Tree.{leaves}
use Rattle.txg_engine.proofs.Seating.{got_inside}
use Rattle.open_pool.specs.Scanning.{scan_leaves}
use Rattle.open_pool.proofs.ScansStart.{few_scanned, leaf_pushed}
use Rattle.open_pool.proofs.scan.push_under.Goals as goal

pub push_one-requires : goal.push_one-requires
push_one-requires c =
    let under = leaves c.args.top.now.mirror in
    let inside = got_inside under c.loop-place.place c.in-Some.leaf.now (sym c.in-Some.ensures) in
    let long = ap length c.loop-place.invariant.seats in
    let both = length-append c.args.list.now (scan_leaves (take c.loop-place.place under)) in
    let few = few_scanned (take c.loop-place.place under) in
    let taken = length-take c.loop-place.place under in
    omega (arith, inside, long, both, few, taken, c.requires)

pub loop-place-preserved : goal.loop-place-preserved
loop-place-preserved c =
    let under = leaves c.args.top.now.mirror in
    let at = sym c.in-Some.ensures in
    record {
      seats = leaf_pushed under c.loop-place.place c.in-Some.leaf.now c.args.list.now c.loop-place.list c.push_one.new.list at c.loop-place.invariant.seats c.push_one.ensures;
      inside = let inside = got_inside under c.loop-place.place c.in-Some.leaf.now at in omega (arith, inside);
    }
