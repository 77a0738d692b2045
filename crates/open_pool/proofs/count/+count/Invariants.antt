use Rattle.std.proofs.Common.{◌≡◌, ◌+◌, length, take, drop}
use Rattle.std.specs.List.{flat_map, AllZip}
use Rattle.vdev_tree.specs.Tree.{leaves, marks}
use Rattle.vdev_tree.specs.Changes.{form_alone}
use Rattle.pool_config.specs.Seen.{vdevs_of}
use Rattle.open_pool.specs.Counting.{counted_leaf}
use Rattle.open_pool.proofs.count.+count.Given as goal

abbrev pub invariant-count_children-loop-i : goal.invariant-count_children-loop-i
invariant-count_children-loop-i l = record {
  long : length l.inner.children.items ≡ length l.initial.inner.children.items;
  rest : drop l.i l.inner.children.items ≡ drop l.i l.initial.inner.children.items;
  counted : AllZip (λ old new. new ≡ counted_leaf l.counted old) (flat_map leaves (take l.i l.initial.inner.children.items)) (flat_map leaves (take l.i l.inner.children.items));
  told : flat_map vdevs_of (take l.i l.inner.children.items) ≡ flat_map vdevs_of (take l.i l.initial.inner.children.items);
  forms : flat_map form_alone (take l.i l.inner.children.items) ≡ flat_map form_alone (take l.i l.initial.inner.children.items);
  guid : l.inner.guid ≡ l.initial.inner.guid;
  kind : l.inner.kind ≡ l.initial.inner.kind;
}

abbrev pub decreases-count_vdev : goal.decreases-count_vdev
decreases-count_vdev l = length (marks l.vdev.now)

abbrev pub decreases-count_children : goal.decreases-count_children
decreases-count_children l = length (flat_map marks l.inner.now.children.items) + 1
