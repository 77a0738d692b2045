use Rattle.std.proofs.Common.{◌≡◌, ℕ, ◌*◌, ◌<◌, length, get_or}
use Rattle.block_map.specs.Pointers.{hole, IsInForm}
use Rattle.block_map.specs.Pages.{pointer_in}
use Rattle.block_map.proofs.page.read_pointers.Given as goal

abbrev pub invariant-loop-j : goal.invariant-loop-j
invariant-loop-j l = ((k : ℕ) → k < l.j → (get_or l.out k hole ≡ pointer_in (52 * k) l.bytes) × IsInForm (get_or l.out k hole)) × (length l.out ≡ 64)
