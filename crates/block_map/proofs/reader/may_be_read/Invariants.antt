use Rattle.std.proofs.Common.{◌≡◌, ℕ, ◌<◌, true, false, get_or}
use Rattle.block_map.specs.Pointers.{hole}
use Rattle.block_map.specs.Reading.{IsWritten, MayStand}
use Rattle.block_map.proofs.reader.may_be_read.Given as goal

abbrev pub invariant-loop-j : goal.invariant-loop-j
invariant-loop-j l =
    ((i : ℕ) → i < l.j → MayStand l.map l.number.0 l.page l.pointers i)
    × ((l.some ≡ true → (i : ℕ) × (i < l.j) × IsWritten (get_or l.pointers i hole)) × (l.some ≡ false → (i : ℕ) → i < l.j → (get_or l.pointers i hole).birth.0 ≡ 0))
