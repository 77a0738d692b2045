use Rattle.std.proofs.Common.{◌≡◌, ◌<◌, ◌≤◌}
use Rattle.mp_base.specs.declared.place.Key.{Key}
use Rattle.block_map.specs.Keys.{IsPage}
use Rattle.block_map.specs.Pointers.{hole}
use Rattle.block_map.specs.Map.{pointer_at}
use Rattle.block_map.proofs.next_page.first_stored.Given as goal

abbrev pub invariant-loop-index : goal.invariant-loop-index
invariant-loop-index l = (page : Key) → IsPage l.map.blocks page → page.level ≡ l.level → l.fn.from ≤ page.index → page.index < l.index → pointer_at l.map page ≡ hole
