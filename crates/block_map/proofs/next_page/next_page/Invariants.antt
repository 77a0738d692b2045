use Rattle.std.proofs.Common.{◌≡◌, ◌≤◌}
use Rattle.mp_base.specs.declared.place.Key.{Key}
use Rattle.block_map.specs.Keys.{IsPage}
use Rattle.block_map.specs.Pointers.{hole}
use Rattle.block_map.specs.Map.{pointer_at}
use Rattle.block_map.specs.Reading.{IsReadBefore}
use Rattle.block_map.proofs.next_page.next_page.Given as goal

abbrev pub invariant-loop-level : goal.invariant-loop-level
invariant-loop-level l =
    ((page : Key) → IsPage l.map.blocks page → IsReadBefore l.fn.after page → l.level ≤ page.level → pointer_at l.map page ≡ hole)
    × ((1 ≤ l.level) × (l.level ≤ l.fn.after.level))

abbrev pub decreases-loop-level : goal.decreases-loop-level
decreases-loop-level l = l.level
