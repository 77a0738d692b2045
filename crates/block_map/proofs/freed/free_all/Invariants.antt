use Rattle.std.proofs.Common.{◌≡◌, ℕ, length}
use Rattle.block_map.specs.Bits.{holds}
use Rattle.block_map.specs.NumberSet.{has}
use Rattle.block_map.specs.Map.{is_freed}
use Rattle.block_map.proofs.freed.free_all.Given as goal

abbrev pub invariant-loop-at : goal.invariant-loop-at
invariant-loop-at l =
    ((i : ℕ) → holds l.free i ≡ is_freed l.sectors l.at i) × (((i : ℕ) → has l.opened i ≡ is_freed l.sectors l.at i)
    × ((length l.free ≡ length l.initial.free) × (length l.opened.members ≡ length l.initial.opened.members)))
