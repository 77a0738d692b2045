use Rattle.std.proofs.Common.{◌≡◌, ◌+◌, ◌≤◌, ◌++◌, length, drop}
use Rattle.std.specs.Vec.{vec_capacity}
use Rattle.block_map.specs.Dirty.{pages_from, pages_above}
use Rattle.block_map.proofs.dirty.pages_above.Given as goal

abbrev pub invariant-loop-addr : goal.invariant-loop-addr
invariant-loop-addr l =
    (l.out.items ++ pages_from l.level l.next (drop l.addr-index l.addrs) ≡ l.initial.out.items ++ pages_above l.level l.addrs)
    × ((length l.out.items + length (drop l.addr-index l.addrs) ≤ vec_capacity l.out) × (vec_capacity l.initial.out ≤ vec_capacity l.out))
