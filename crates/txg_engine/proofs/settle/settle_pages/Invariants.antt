use Rattle.std.proofs.Common.{◌≡◌, ◌+◌, ◌<◌, ◌≤◌, ℕ, ◌++◌, true, length, get_or, take}
use Rattle.std.specs.Prelude.{All}
use Rattle.std.specs.Vec.{vec_capacity}
use Rattle.txg_engine.specs.Freezing.{AreSettled}
use Rattle.mp_base.specs.declared.place.Key.{Key}
use Rattle.txg_engine.specs.Items.{keys_of, frozen_block, is_before_page}
use Rattle.txg_engine.proofs.settle.settle_pages.Given as goal

abbrev pub invariant-loop-page : goal.invariant-loop-page
invariant-loop-page g l = record {
  settled : AreSettled l.number.0 g.first l.map l.items.items;
  keys : keys_of l.items.items ≡ keys_of l.initial.items.items ++ take l.page-index l.pages;
  blocks : (a : ℕ) → frozen_block l.items.items a ≡ frozen_block l.initial.items.items a;
  long : All (λ item. length item.block ≡ 4096) l.items.items;
  within : l.passed ≤ length l.items.items;
  before : (d : Key) → l.page-index < length l.pages
      → All (λ item. is_before_page (get_or l.pages l.page-index d) item.key ≡ true) (take l.passed l.items.items);
  places : length l.pages ≤ l.page-index + l.map.count;
  room : length l.items.items + length l.pages ≤ vec_capacity l.items + l.page-index;
  buffers : l.page-index + length l.buffers.items ≡ length l.pages;
  sizes : All (λ buffer. length buffer.items ≡ 4096) l.buffers.items;
}
