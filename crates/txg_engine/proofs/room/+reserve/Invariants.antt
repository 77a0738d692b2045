use Rattle.std.proofs.Common.{◌≡◌, length, take, drop}
use Rattle.std.specs.Prelude.{All}
use Rattle.std.specs.List.{flat_map, AllZip}
use Rattle.vdev_tree.specs.Tree.{leaves, marks}
use Rattle.vdev_tree.specs.Changes.{form_alone}
use Rattle.txg_engine.specs.Logs.{KeepsSets, HasCommitRoom}
use Rattle.txg_engine.proofs.room.+reserve.Given as goal

abbrev pub invariant-reserve_children-loop-i : goal.invariant-reserve_children-loop-i
invariant-reserve_children-loop-i l = record {
  unvisited : goal.unvisited-reserve_children-loop-i l;
  long : length l.inner.children.items ≡ length l.initial.inner.children.items;
  rest : drop l.i l.inner.children.items ≡ drop l.i l.initial.inner.children.items;
  room : All HasCommitRoom (flat_map leaves (take l.i l.inner.children.items));
  kept : AllZip KeepsSets (flat_map leaves (take l.i l.initial.inner.children.items)) (flat_map leaves (take l.i l.inner.children.items));
  built : flat_map marks (take l.i l.inner.children.items) ≡ flat_map marks (take l.i l.initial.inner.children.items);
  forms : flat_map form_alone (take l.i l.inner.children.items) ≡ flat_map form_alone (take l.i l.initial.inner.children.items);
  guid : l.inner.guid ≡ l.initial.inner.guid;
  kind : l.inner.kind ≡ l.initial.inner.kind;
}
