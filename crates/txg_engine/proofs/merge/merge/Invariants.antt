use Rattle.std.proofs.Common.{◌≡◌, ◌+◌, ◌≤◌, length}
use Rattle.std.specs.Prelude.{All}
use Rattle.std.specs.Vec.{vec_capacity}
use Rattle.txg_engine.specs.Frozen.{KeysRise}
use Rattle.txg_engine.proofs.AddressesCounted.{IsLong, fresh_writes}
use Rattle.txg_engine.proofs.Merged.{writes_of, IsMerging}
use Rattle.txg_engine.proofs.merge.merge.Given as goal

abbrev pub invariant-loop-write : goal.invariant-loop-write
invariant-loop-write l = record {
  merging : IsMerging l.out.items (writes_of l.older.items) l.newer.items
      (writes_of l.fn.older.items) l.fn.newer.items;
  rise : KeysRise l.older.items;
  count : length l.out.items + (length l.newer.items + fresh_writes l.newer.items (writes_of l.older.items))
      ≡ length l.fn.newer.items + fresh_writes l.fn.newer.items (writes_of l.fn.older.items);
  out_blocks : All IsLong l.out.items;
  older_blocks : All IsLong (writes_of l.older.items);
  newer_blocks : All IsLong l.newer.items;
  room : length l.out.items + (length l.older.items + length l.newer.items) ≤ vec_capacity l.out;
  capacity : vec_capacity l.fn.out ≤ vec_capacity l.out;
}

abbrev pub decreases-loop-write : goal.decreases-loop-write
decreases-loop-write l = length l.older.items + length l.newer.items
