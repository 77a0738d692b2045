use Rattle.std.proofs.Common.{◌≢◌, ℕ, ◌<◌, get_or}
use Rattle.block_map.specs.Pointers.{hole}
use Rattle.block_map.specs.Reading.{IsWritten}
use Rattle.block_map.proofs.reader.is_named_first.Given as goal

abbrev pub invariant-loop-i : goal.invariant-loop-i
invariant-loop-i l = (k : ℕ) → k < l.i → IsWritten (get_or l.pointers k hole) → (get_or l.pointers k hole).place ≢ (get_or l.pointers l.j hole).place
