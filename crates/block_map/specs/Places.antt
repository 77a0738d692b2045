-- Places on the tops of a pool. Each top has its number of sectors.
use Rattle.std.specs.Prelude.{◌≡◌, ℕ, ◌<◌, ◌≤◌, ◌⊎◌, Bool, ◌&&◌, nat_lt, List, length, slice_index}
use Rattle.std.specs.List.{All}
use Rattle.mp_base.specs.declared.place.Place.{Place}

-- a pool has 1 to 8 tops of at most 1,048,320 sectors each
pub record AreTops (sectors : List ℕ) : Type 0 where
  pub some : 1 ≤ length sectors
  pub most : length sectors ≤ 8
  pub sizes : All (λ s. s ≤ 1048320) sectors

-- a place on a top that there is, below the number of its sectors
pub record IsPlace (sectors : List ℕ) (place : Place) : Type 0 where
  pub top : place.top < length sectors
  pub sector : place.sector < slice_index sectors place.top

-- the same as a test
unfoldable pub is_place : List ℕ → Place → Bool
is_place sectors place = nat_lt place.top (length sectors) && nat_lt place.sector (slice_index sectors place.top)

-- the order of places: by sector, and then by top
abbrev pub IsPlaceBefore : Place → Place → Type 0
IsPlaceBefore a b = (a.sector < b.sector) ⊎ ((a.sector ≡ b.sector) × (a.top < b.top))
