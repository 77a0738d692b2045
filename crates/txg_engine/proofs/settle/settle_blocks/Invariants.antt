use Rattle.std.proofs.Common.{◌≡◌, ◌+◌, ◌≤◌, ℕ, ◌++◌, length}
use Rattle.std.specs.Prelude.{All}
use Rattle.std.specs.Vec.{vec_capacity}
use Rattle.txg_engine.specs.Freezing.{AreSettled, block_keys}
use Rattle.txg_engine.specs.Items.{keys_of, frozen_block}
use Rattle.txg_engine.specs.Writes.{block_at}
use Rattle.txg_engine.proofs.Settling.{first_block}
use Rattle.txg_engine.proofs.settle.settle_blocks.Given as goal

abbrev pub invariant-loop-write : goal.invariant-loop-write
invariant-loop-write l = record {
  settled : AreSettled l.number.0 l.initial.map l.map l.items.items;
  keys : keys_of l.items.items ++ block_keys l.writes.items ≡ block_keys l.initial.writes.items;
  blocks : (a : ℕ) → first_block (frozen_block l.items.items a) (block_at l.writes.items a) ≡ block_at l.initial.writes.items a;
  long : All (λ item. length item.block ≡ 4096) l.items.items;
  left : All (λ write. length write.block ≡ 4096) l.writes.items;
  places : length l.writes.items ≤ l.map.count;
  room : length l.items.items + length l.writes.items ≤ vec_capacity l.items;
  more : vec_capacity l.initial.items ≤ vec_capacity l.items;
}

abbrev pub decreases-loop-write : goal.decreases-loop-write
decreases-loop-write l = length l.writes.items
