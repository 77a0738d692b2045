use Rattle.std.proofs.Common.{◌≡◌, true, length, take, drop}
use Rattle.std.specs.List.{flat_map}
use Rattle.vdev_tree.specs.Tree.{leaves, marks}
use Rattle.vdev_tree.specs.Changes.{form_alone}
use Rattle.dtl_rules.specs.Widening.{none_has}
use Rattle.dtl_rules.proofs.widening.+widen.Given as goal

abbrev pub invariant-widen_child-loop-i : goal.invariant-widen_child-loop-i
invariant-widen_child-loop-i l = record {
  unvisited : goal.unvisited-widen_child-loop-i l;
  long : length l.inner.children.items ≡ length l.initial.inner.children.items;
  rest : drop l.i l.inner.children.items ≡ drop l.i l.initial.inner.children.items;
  same : flat_map leaves (take l.i l.inner.children.items) ≡ flat_map leaves (take l.i l.initial.inner.children.items);
  none : none_has l.ranges (flat_map leaves (take l.i l.initial.inner.children.items)) ≡ true;
  built : flat_map marks (take l.i l.inner.children.items) ≡ flat_map marks (take l.i l.initial.inner.children.items);
  forms : flat_map form_alone (take l.i l.inner.children.items) ≡ flat_map form_alone (take l.i l.initial.inner.children.items);
  guid : l.inner.guid ≡ l.initial.inner.guid;
  kind : l.inner.kind ≡ l.initial.inner.kind;
}
