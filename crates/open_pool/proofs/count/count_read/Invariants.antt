use Rattle.std.proofs.Common.{◌≡◌, List, length, Some}
use Rattle.std.specs.Prelude.{slice_get}
use Rattle.vdev_tree.specs.declared.vdev.LeafVdev.{LeafVdev}
use Rattle.open_pool.specs.Counting.{counts_of, CountsSoFar}
use Rattle.open_pool.specs.Parts.{all_parts}
use Rattle.open_pool.specs.State.{leaves_under}
use Rattle.open_pool.proofs.count.count_read.Given as goal

abbrev pub invariant-loop-i : goal.invariant-loop-i
invariant-loop-i l = record {
  long : length l.tops ≡ length l.initial.tops;
  far : (under : List LeafVdev) → slice_get (leaves_under (all_parts l.initial.tops)) l.place ≡ Some under
      → CountsSoFar (counts_of l.served under l.copies l.seen) l.i under l.place (all_parts l.initial.tops) (all_parts l.tops) l.initial.frozen l.frozen;
}
