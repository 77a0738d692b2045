-- Room on the devices of a board.
use Rattle.std.specs.Prelude.{◌≡◌, ℕ, ◌<◌, List, Some, slice_get}
use Rattle.label_store.specs.declared.member.Member.{Member}

-- the device of each of these members has this sector
abbrev pub HasRoomFor : (ℕ → ℕ) → List Member → (sector : ℕ) → Type 0
HasRoomFor size members sector = (i : ℕ) (m : Member) → slice_get members i ≡ Some m → sector < size m.dev
