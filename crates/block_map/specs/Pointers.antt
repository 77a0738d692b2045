-- Pointers, and when one may stand in the map of a pool.
use Rattle.std.specs.Prelude.{◌≡◌, ℕ, ◌^◌, ◌<◌, ◌≤◌, ◌==◌, ◌&&◌, nat_le, nat_lt, Bool, List, length, replicate, Option, Some, None, if◌then◌else◌}
use Rattle.mp_base.specs.declared.place.Pointer.{Pointer}
use Rattle.block_map.specs.Places.{IsPlace}

-- nothing was written there
abbrev pub hole : Pointer
hole = record { birth = record { 0 = 0 }; place = record { top = 0; sector = 0 }; sum = replicate 32 0 }

-- a pointer as it stands in a map: a hole is all zeros, another one has a place of the tops
pub record IsPointer (sectors : List ℕ) (pointer : Pointer) : Type 0 where
  pub hole : pointer.birth.0 ≡ 0 → pointer ≡ hole
  pub place : 1 ≤ pointer.birth.0 → IsPlace sectors pointer.place

-- it was written in a group up to `hi`
unfoldable pub born_within : ℕ → Pointer → Bool
born_within hi pointer = nat_lt 0 pointer.birth.0 && nat_le pointer.birth.0 hi

-- the pointer where it is no hole
unfoldable pub written : Pointer → Option Pointer
written pointer = if pointer.birth.0 == 0 then None else Some pointer

-- Its fields fit their bytes, as those of each pointer of the code do.
pub record IsInForm (p : Pointer) : Type 0 where
  pub birth : p.birth.0 < 2 ^ 64
  pub top : p.place.top < 2 ^ 32
  pub sector : p.place.sector < 2 ^ 64
  pub sum : length p.sum ≡ 32
