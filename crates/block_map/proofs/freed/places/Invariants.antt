use Rattle.std.proofs.Common.{ℕ, ◌<◌, ◌≤◌, get_or}
use Rattle.block_map.proofs.freed.places.Given as goal

abbrev pub invariant-loop-count : goal.invariant-loop-count
invariant-loop-count l = ((i : ℕ) → i < l.count-index → get_or l.sectors i 0 ≤ l.most) × (l.most ≤ 1048320)
