use Rattle.std.proofs.Common.{◌≡◌, ◌++◌}
use Rattle.std.specs.Iterator.Adapters.{zip_first, zip_second}
use Rattle.std.specs.Slice.Iter.{iter_rest}
use Rattle.script_front.specs.Converting.{shown_leaves}
use Rattle.script_front.proofs.read.shown_leaves.Given as goal

abbrev pub invariant-loop-name : goal.invariant-loop-name
invariant-loop-name l = l.leaves ++ shown_leaves (iter_rest (zip_first l.name-iterator)) (iter_rest (zip_second l.name-iterator)) ≡ shown_leaves l.names l.shown
