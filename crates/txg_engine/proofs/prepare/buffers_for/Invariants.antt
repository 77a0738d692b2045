use Rattle.std.proofs.Common.{◌≡◌, length}
use Rattle.std.specs.Prelude.{All}
use Rattle.txg_engine.proofs.prepare.buffers_for.Given as goal

abbrev pub invariant-loop : goal.invariant-loop
invariant-loop l = record {
  count : length l.buffers.items ≡ l.counter;
  sizes : All (λ buffer. length buffer.items ≡ 4096) l.buffers.items;
}
