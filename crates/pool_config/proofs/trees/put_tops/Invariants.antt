use Rattle.std.proofs.Common.{◌+◌, ◌*◌, ◌≤◌, take}
use Rattle.std.specs.List.{flat_map}
use Rattle.pool_config.specs.Pieces.{Puts}
use Rattle.pool_config.specs.Seen.{mirror_vdevs, top_seen, room}
use Rattle.pool_config.specs.Spelling.{top_bytes}
use Rattle.pool_config.proofs.trees.put_tops.Given as goal

abbrev pub invariant-loop-top : goal.invariant-loop-top
invariant-loop-top l = record {
  piece : Puts l.initial.out l.initial.stop (flat_map (λ top. top_bytes (top_seen top)) (take l.top-index l.tops)) l.out
      l.stop;
  stop : l.stop ≤ l.initial.stop + (8 * l.top-index + room (flat_map mirror_vdevs (take l.top-index l.tops)));
}
