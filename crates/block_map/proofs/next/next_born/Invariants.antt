use Rattle.std.proofs.Common.{◌≡◌, ℕ, ◌<◌, ◌≤◌, false, get_or}
use Rattle.block_map.specs.Pointers.{hole, born_within}
use Rattle.block_map.proofs.next.next_born.Given as goal

abbrev pub invariant-loop-at : goal.invariant-loop-at
invariant-loop-at l = (i : ℕ) → l.fn.from ≤ i → i < l.at → born_within l.hi.0 (get_or l.pointers i hole) ≡ false
