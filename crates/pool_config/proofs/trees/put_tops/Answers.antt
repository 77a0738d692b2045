use Rattle.std.proofs.Common.{◌≡◌, ap, sym, ◌∙◌, take, arith, map}
use Rattle.std.specs.List.{flat_map}
use Rattle.std.proofs.lemmas.List.{length-map}
use Rattle.vdev_tree.specs.declared.top.Top.{Top}
use Rattle.pool_config.specs.Seen.{mirror_vdevs, top_seen, fits}
use Rattle.pool_config.specs.Spelling.{be32, top_bytes, tops_bytes}
use Rattle.pool_config.proofs.Lists.{all_at_item, flat_all, flat_mapped}
use Rattle.pool_config.proofs.Placing.{puts_item, puts_next, puts_same}
use Rattle.pool_config.proofs.Rooms.{room_more, room_within}
use Rattle.pool_config.proofs.trees.put_tops.Goals as goal

pub put_top-stop-requires-clause-fit : goal.put_top-stop-requires-clause-fit
put_top-stop-requires-clause-fit c =
    all_at_item fits mirror_vdevs c.args.tops.now c.loop-top.top-index c.top-item.result (omega arith) c.top-item.is
    c.requires.fit

pub put_top-stop-requires-clause-room : goal.put_top-stop-requires-clause-room
put_top-stop-requires-clause-room c =
    omega (
      arith,
      c.requires.room,
      c.loop-top.invariant.stop,
      c.put_u32-stop.ensures.stop,
      room_within mirror_vdevs c.args.tops.now c.loop-top.top-index c.top-item.result (omega arith) c.top-item.is,
    )

pub loop-top-preserved : goal.loop-top-preserved
loop-top-preserved c = record {
  piece = puts_item (λ top. top_bytes (top_seen top)) c.args.tops.now c.loop-top.top-index c.top-item.result
      (omega arith) c.top-item.is c.loop-top.invariant.piece c.put_top-stop.ensures.piece;
  stop = omega (
    arith,
    c.loop-top.invariant.stop,
    c.put_top-stop.ensures.stop,
    room_more mirror_vdevs c.args.tops.now c.loop-top.top-index c.top-item.result (omega arith) c.top-item.is,
  );
}

pub returns-clause-piece : goal.returns-clause-piece
unfolding tops_bytes
returns-clause-piece c =
    let tops = c.args.tops.now in
    let all : flat_map (λ (top : Top). top_bytes (top_seen top)) (take c.loop-top.top-index tops)
    ≡ flat_map top_bytes (map top_seen tops) =
    flat_all (λ (top : Top). top_bytes (top_seen top)) tops c.loop-top.top-index (omega arith)
    ∙ sym (flat_mapped top_bytes top_seen tops) in
    puts_next (puts_same (ap be32 (sym (length-map tops top_seen))) c.put_u32-stop.ensures.piece)
    (puts_same all c.loop-top.invariant.piece)
