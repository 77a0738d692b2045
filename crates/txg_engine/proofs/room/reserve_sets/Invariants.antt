use Rattle.std.proofs.Common.{◌≡◌, length, take, drop}
use Rattle.std.specs.Prelude.{All}
use Rattle.std.specs.List.{flat_map, AllZip}
use Rattle.dtl_rules.proofs.Tops.{top_leaves, top_marks, top_sectors}
use Rattle.txg_engine.specs.Logs.{KeepsSets, HasCommitRoom}
use Rattle.txg_engine.proofs.room.reserve_sets.Given as goal

abbrev pub invariant-loop-i : goal.invariant-loop-i
invariant-loop-i l = record {
  long : length l.tops ≡ length l.initial.tops;
  rest : drop l.i l.tops ≡ drop l.i l.initial.tops;
  room : All HasCommitRoom (flat_map top_leaves (take l.i l.tops));
  kept : AllZip KeepsSets (flat_map top_leaves (take l.i l.initial.tops)) (flat_map top_leaves (take l.i l.tops));
  built : flat_map top_marks (take l.i l.tops) ≡ flat_map top_marks (take l.i l.initial.tops);
  sectors : flat_map top_sectors (take l.i l.tops) ≡ flat_map top_sectors (take l.i l.initial.tops);
}
