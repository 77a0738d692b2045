use Rattle.std.proofs.Common.{◌≡◌, ◌≤◌}
use Rattle.block_map.specs.Keys.{keys_at}
use Rattle.block_map.specs.Numbers.{start}
use Rattle.block_map.proofs.numbers.start.Given as goal

abbrev pub invariant-loop : goal.invariant-loop
invariant-loop l = (l.keys ≡ keys_at l.blocks l.counter) × ((l.start ≡ start l.blocks l.counter) × (l.counter ≤ l.level))
