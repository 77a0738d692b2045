use Rattle.std.proofs.Common.{◌≡◌, ◌≤◌, ◌<◌, ℕ, Some, length, take, drop}
use Rattle.std.specs.Prelude.{slice_get}
use Rattle.vdev_tree.specs.Tree.{leaves, marks}
use Rattle.vdev_tree.specs.declared.vdev.LeafVdev.{LeafVdev}
use Rattle.pool_codec.specs.Tops.{LiesWithin}
use Rattle.open_pool.specs.Opening.{all_placed}
use Rattle.open_pool.proofs.placing.place_under.Given as goal

abbrev pub invariant-loop-place : goal.invariant-loop-place
invariant-loop-place l = record {
  inside : l.place ≤ length (leaves l.initial.top.mirror);
  put : leaves l.top.mirror ≡ all_placed (take l.place (drop l.at l.devs)) (leaves l.initial.top.mirror);
  built : marks l.top.mirror ≡ marks l.initial.top.mirror;
  sectors : l.top.sectors ≡ l.initial.top.sectors;
  lie : (k : ℕ) (leaf : LeafVdev) → k < l.place → slice_get (leaves l.initial.top.mirror) k ≡ Some leaf → LiesWithin leaf.log;
}
