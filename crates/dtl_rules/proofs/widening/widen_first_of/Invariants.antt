use Rattle.std.proofs.Common.{◌≡◌, true, take, drop}
use Rattle.std.specs.List.{flat_map}
use Rattle.dtl_rules.specs.Widening.{none_has}
use Rattle.dtl_rules.proofs.Tops.{top_leaves, top_marks, top_sectors}
use Rattle.dtl_rules.proofs.widening.widen_first_of.Given as goal

abbrev pub invariant-loop-i : goal.invariant-loop-i
invariant-loop-i l = record {
  rest : drop l.i l.tops ≡ drop l.i l.initial.tops;
  same : flat_map top_leaves (take l.i l.tops) ≡ flat_map top_leaves (take l.i l.initial.tops);
  none : none_has l.ranges (flat_map top_leaves (take l.i l.initial.tops)) ≡ true;
  built : flat_map top_marks (take l.i l.tops) ≡ flat_map top_marks (take l.i l.initial.tops);
  sectors : flat_map top_sectors (take l.i l.tops) ≡ flat_map top_sectors (take l.i l.initial.tops);
}
