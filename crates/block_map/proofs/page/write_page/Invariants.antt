use Rattle.std.proofs.Common.{◌≡◌, ◌*◌, length, take}
use Rattle.std.specs.List.{flat_map}
use Rattle.block_map.specs.Pages.{pointer_bytes}
use Rattle.block_map.proofs.page.write_page.Given as goal

abbrev pub invariant-loop-pointer : goal.invariant-loop-pointer
invariant-loop-pointer l = (l.at ≡ 52 * l.pointer-index) × ((take l.at l.out ≡ flat_map pointer_bytes (take l.pointer-index l.pointers)) × (length l.out ≡ 4096))
