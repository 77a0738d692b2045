use Rattle.std.proofs.Common.{arith, ap, sym, ◌∙◌, length}
use Rattle.std.specs.List.{flat_map, list_all}
use Rattle.pool_config.specs.Seen.{vdevs_of, room, fits}
use Rattle.pool_config.specs.Spelling.{inner_bytes}
use Rattle.pool_config.proofs.Placing.{puts_same}
use Rattle.pool_config.proofs.Rooms.{fits_leaf, room_leaf, puts_leaf, fits_inner, room_inner, fits_child, room_within}
use Rattle.pool_config.proofs.Rooms.{room_more, room_all, puts_child, puts_inner}
use Rattle.pool_config.proofs.trees.+put_vdev.Goals as goal

pub put_leaf-requires-clause-few : goal.put_leaf-requires-clause-few
put_leaf-requires-clause-few t c = fits_leaf c.args.vdev.now c.in-Leaf.leaf c.in-Leaf.is c.requires.fit

pub put_leaf-requires-clause-room : goal.put_leaf-requires-clause-room
put_leaf-requires-clause-room t c =
    omega (arith, c.requires.room, room_leaf c.args.vdev.now c.in-Leaf.leaf c.in-Leaf.is)

pub put_inner-stop-requires-clause-few : goal.put_inner-stop-requires-clause-few
put_inner-stop-requires-clause-few t c =
    omega (arith, c.len.ensures, (fits_inner c.args.vdev.now c.in-Inner.inner c.in-Inner.is c.requires.fit).0)

pub put_inner-stop-requires-clause-room : goal.put_inner-stop-requires-clause-room
put_inner-stop-requires-clause-room t c =
    omega (arith, c.requires.room, room_inner c.args.vdev.now c.in-Inner.inner c.in-Inner.is)

pub put_vdev-stop-requires : goal.put_vdev-stop-requires
put_vdev-stop-requires t c =
    let vdevs = c.deref-child-items.result.now in
    let i = c.loop-child.child-index in
    let child = c.child-item.result in
    let under = (fits_inner c.args.vdev.now c.in-Inner.inner c.in-Inner.is c.requires.fit).1 in (
      omega (
        arith,
        c.decreases,
        room_inner c.args.vdev.now c.in-Inner.inner c.in-Inner.is,
        room_within vdevs_of vdevs i child (omega arith) c.child-item.is,
        ap (λ vs. room (flat_map vdevs_of vs)) c.deref-child-items.ensures.value,
      ),
      (
        fits_child vdevs i child (omega arith) c.child-item.is
            (ap (λ vs. list_all fits (flat_map vdevs_of vs)) c.deref-child-items.ensures.value ∙ under),
        omega (
          arith,
          c.requires.room,
          c.loop-child.invariant.stop,
          c.put_inner-stop.ensures.stop,
          room_inner c.args.vdev.now c.in-Inner.inner c.in-Inner.is,
          room_within vdevs_of vdevs i child (omega arith) c.child-item.is,
          ap (λ vs. room (flat_map vdevs_of vs)) c.deref-child-items.ensures.value,
        ),
      ),
    )

pub loop-child-preserved : goal.loop-child-preserved
loop-child-preserved t c = record {
  piece = puts_child c.deref-child-items.result.now c.loop-child.child-index c.child-item.result (omega arith)
      c.child-item.is c.loop-child.invariant.piece c.put_vdev-stop.ensures.piece;
  stop = omega (
    arith,
    c.loop-child.invariant.stop,
    c.put_vdev-stop.ensures.stop,
    room_more vdevs_of c.deref-child-items.result.now c.loop-child.child-index c.child-item.result (omega arith)
        c.child-item.is,
  );
}

pub returns-in-Leaf-clause-piece : goal.returns-in-Leaf-clause-piece
returns-in-Leaf-clause-piece t c = puts_leaf c.args.vdev.now c.in-Leaf.leaf c.in-Leaf.is c.put_leaf.ensures.piece

pub returns-in-Leaf-clause-stop : goal.returns-in-Leaf-clause-stop
returns-in-Leaf-clause-stop t c =
    omega (arith, c.put_leaf.ensures.stop, room_leaf c.args.vdev.now c.in-Leaf.leaf c.in-Leaf.is)

pub returns-after-loop-child-clause-piece : goal.returns-after-loop-child-clause-piece
returns-after-loop-child-clause-piece t c =
    puts_inner c.args.vdev.now c.in-Inner.inner c.deref-child-items.result.now c.loop-child.child-index c.in-Inner.is
    c.deref-child-items.ensures.value (omega arith)
    (puts_same (ap (inner_bytes c.in-Inner.inner.guid.0 c.in-Inner.inner.kind)
    (c.len.ensures ∙ sym c.deref-child-items.ensures.len ∙ ap length c.deref-child-items.ensures.value))
    c.put_inner-stop.ensures.piece) c.loop-child.invariant.piece

pub returns-after-loop-child-clause-stop : goal.returns-after-loop-child-clause-stop
returns-after-loop-child-clause-stop t c =
    omega (
      arith,
      c.loop-child.invariant.stop,
      c.put_inner-stop.ensures.stop,
      room_inner c.args.vdev.now c.in-Inner.inner c.in-Inner.is,
      room_all c.in-Inner.inner c.deref-child-items.result.now c.loop-child.child-index
          c.deref-child-items.ensures.value (omega arith),
    )
