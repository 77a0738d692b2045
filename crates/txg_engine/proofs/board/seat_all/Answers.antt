use Rattle.std.proofs.Common.{sym, arith}
use Rattle.vdev_tree.specs.Tree.{leaves}
use Rattle.txg_engine.proofs.Seating.{seat_more, got_inside}
use Rattle.txg_engine.proofs.board.seat_all.Goals as goal

pub loop-place-preserved : goal.loop-place-preserved
loop-place-preserved c =
    let at = sym c.in-Some.ensures in
    record {
      seats = seat_more c.args.number c.loop-place.place (leaves c.args.top.now.mirror) c.in-Some.leaf.now c.args.seats.now.items c.loop-place.seats.items c.seat_one.new.seats.items
          at c.loop-place.invariant.seats c.in_ok-seat_one.ensures;
      inside = let inside = got_inside (leaves c.args.top.now.mirror) c.loop-place.place c.in-Some.leaf.now at in omega arith;
    }
