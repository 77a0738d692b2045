use Rattle.std.proofs.Common.{◌≡◌, ◌≤◌, ◌-◌, true, length, take}
use Rattle.std.specs.Prelude.{All}
use Rattle.block_map.specs.Map.{pointer_at, children}
use Rattle.txg_engine.specs.Items.{laid, is_up_to_page}
use Rattle.txg_engine.proofs.settle.fill_page.Given as goal

abbrev pub invariant-loop-item : goal.invariant-loop-item
invariant-loop-item l = record {
  children : l.pointers ≡ children (laid (take l.passed l.items) (pointer_at l.map)) l.page;
  passed : All (λ item. is_up_to_page l.page item.key ≡ true) (take l.passed l.items);
  within : l.passed ≤ length l.items;
}

abbrev pub decreases-loop-item : goal.decreases-loop-item
decreases-loop-item l = length l.items - l.passed
