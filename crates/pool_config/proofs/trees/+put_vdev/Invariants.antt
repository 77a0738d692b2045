use Rattle.std.proofs.Common.{◌+◌, ◌≤◌, take}
use Rattle.std.specs.List.{flat_map}
use Rattle.pool_config.specs.Pieces.{Puts}
use Rattle.pool_config.specs.Seen.{vdevs_of, room}
use Rattle.pool_config.specs.Spelling.{vdev_bytes}
use Rattle.pool_config.proofs.trees.+put_vdev.Given as goal

abbrev pub invariant-loop-child : goal.invariant-loop-child
invariant-loop-child l = record {
  piece : Puts l.initial.out l.initial.stop (flat_map vdev_bytes (flat_map vdevs_of (take l.child-index l.child-items)))
      l.out l.stop;
  stop : l.stop ≤ l.initial.stop + room (flat_map vdevs_of (take l.child-index l.child-items));
}

abbrev pub decreases-put_vdev : goal.decreases-put_vdev
decreases-put_vdev l = room (vdevs_of l.vdev.now)
