use Rattle.std.proofs.Common.{◌≡◌, length, map, take, drop}
use Rattle.std.specs.List.{flat_map}
use Rattle.open_pool.specs.Counting.{counted_top}
use Rattle.open_pool.proofs.TopsCounted.{one_part}
use Rattle.open_pool.proofs.count.count_tops.Given as goal

abbrev pub invariant-loop-i : goal.invariant-loop-i
invariant-loop-i l = record {
  long : length l.tops ≡ length l.initial.tops;
  rest : drop l.i l.tops ≡ drop l.i l.initial.tops;
  counted : flat_map one_part (take l.i l.tops) ≡ map (counted_top l.counted) (flat_map one_part (take l.i l.initial.tops));
}
