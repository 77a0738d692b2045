use Rattle.std.proofs.Common.{◌≡◌, ◌+◌, ◌≤◌, length, drop}
use Rattle.block_map.specs.Dirty.{pages_from, pages_above}
use Rattle.block_map.proofs.dirty.count_above.Given as goal

abbrev pub invariant-loop-addr : goal.invariant-loop-addr
invariant-loop-addr l = (l.count + length (pages_from l.level l.next (drop l.addr-index l.addrs)) ≡ length (pages_above l.level l.addrs)) × (l.count ≤ l.addr-index)
