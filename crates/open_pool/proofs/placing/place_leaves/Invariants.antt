use Rattle.std.proofs.Common.{◌≡◌, length, take, drop, All}
use Rattle.std.specs.List.{flat_map}
use Rattle.vdev_tree.specs.declared.vdev.LeafVdev.{LeafVdev}
use Rattle.dtl_rules.specs.Widening.{leaves_of}
use Rattle.dtl_rules.proofs.Tops.{top_marks, top_sectors}
use Rattle.pool_codec.specs.Tops.{LiesWithin}
use Rattle.open_pool.specs.Opening.{all_placed}
use Rattle.open_pool.proofs.placing.place_leaves.Given as goal

abbrev pub invariant-loop-i : goal.invariant-loop-i
invariant-loop-i l = record {
  long : length l.tops ≡ length l.initial.tops;
  rest : drop l.i l.tops ≡ drop l.i l.initial.tops;
  at : l.at ≡ length (leaves_of (take l.i l.initial.tops));
  put : leaves_of (take l.i l.tops) ≡ all_placed l.devs (leaves_of (take l.i l.initial.tops));
  built : flat_map top_marks (take l.i l.tops) ≡ flat_map top_marks (take l.i l.initial.tops);
  sectors : flat_map top_sectors (take l.i l.tops) ≡ flat_map top_sectors (take l.i l.initial.tops);
  lie : All (λ (leaf : LeafVdev). LiesWithin leaf.log) (leaves_of (take l.i l.initial.tops));
}
