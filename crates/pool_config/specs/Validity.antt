-- Which configurations are valid, as facts and as a test.
use Rattle.std.specs.Prelude.{◌≡◌, ◌≢◌, ◌⊎◌, ℕ, ◌^◌, ◌+◌, ◌-◌, ◌<◌, ◌≤◌, ◌==◌, ◌&&◌, ◌||◌, Bool, true, false, not}
use Rattle.std.specs.Prelude.{IsTrue, nat_le, nat_lt, List, [], ◌∷◌, map, length, Option, Some, None, slice_get, All}
use Rattle.std.specs.Prelude.{AllPairs, sum}
use Rattle.std.specs.List.{list_all, list_any}
use Rattle.std.specs.Str.{bytes_eq}
use Rattle.mp_base.specs.Block.{zeros}
use Rattle.mp_base.specs.Name.{is_name}
use Rattle.mp_base.specs.Ranges.{Rises}
use Rattle.mp_base.specs.declared.number.Group.{Group}
use Rattle.mp_base.specs.declared.place.Pointer.{Pointer}
use Rattle.mp_base.specs.declared.range.GroupRange.{GroupRange}
use Rattle.pool_config.specs.Flags.{is_recorded}
use Rattle.pool_config.specs.Seen.{LeafSeen, VdevSeen, leaf_vdev, inner_vdev, TopSeen, ConfigSeen, all_vdevs}
use Rattle.pool_config.specs.Seen.{leaves_among, number_of_vdev, leaf_name}
use Rattle.pool_config.specs.Trees.{is_tree}

-- n lies from the least to the most
abbrev pub IsIn : (least most n : ℕ) → Type 0
IsIn least most n = (least ≤ n) × (n ≤ most)

-- nothing was written there: all is zero
pub record IsHole (p : Pointer) : Type 0 where
  pub birth : p.birth.0 ≡ 0
  pub top : p.place.top ≡ 0
  pub sector : p.place.sector ≡ 0
  pub sum : p.sum ≡ zeros 32

-- born in a group up to this number, in a sector that a top has
pub record IsPlaced (number : Group) (tops : List TopSeen) (p : Pointer) : Type 0 where
  pub birth : IsIn 1 number.0 p.birth.0
  pub place : (top : TopSeen) × (slice_get tops p.place.top ≡ Some top) × (p.place.sector < top.sectors)
  pub sum : length p.sum ≡ 32

-- a number that was drawn for a member
abbrev pub IsDrawn : (next member : ℕ) → Type 0
IsDrawn next member = (1 ≤ member) × (member < next)

-- a leaf as it may stand in a record of this number
pub record IsLeaf (number : Group) (leaf : LeafSeen) : Type 0 where
  pub name : IsTrue (is_name leaf.name)
  pub state : is_recorded leaf.state ≡ true
  pub few : length leaf.log ≤ 4096
  pub log : Rises 1 number.0 leaf.log

pub record IsTop (top : TopSeen) : Type 0 where
  pub sectors : IsIn 64 1048320 top.sectors
  pub tree : is_tree top.vdevs ≡ true

abbrev pub log_length : LeafSeen → ℕ
log_length leaf = length leaf.log

pub record IsValid (c : ConfigSeen) : Type 0 where
  pub pool : c.pool.0 < 2 ^ 64
  pub name : IsTrue (is_name c.name)
  pub blocks : IsIn 1 262144 c.blocks
  pub number : IsIn 1 (2 ^ 62) c.number.0
  pub next_guid : c.next_guid ≤ 2 ^ 62
  pub root : IsHole c.root ⊎ IsPlaced c.number c.tops c.root
  pub few_tops : IsIn 1 8 (length c.tops)
  pub tops : All IsTop c.tops
  pub few_leaves : length (leaves_among (all_vdevs c)) ≤ 32
  pub leaves : All (IsLeaf c.number) (leaves_among (all_vdevs c))
  pub devices : AllPairs (λ a b. a ≢ b) (map leaf_name (leaves_among (all_vdevs c)))
  pub drawn : All (IsDrawn c.next_guid) (map number_of_vdev (all_vdevs c))
  pub apart : AllPairs (λ a b. a ≢ b) (map number_of_vdev (all_vdevs c))
  pub few_ranges : sum (map log_length (leaves_among (all_vdevs c))) ≤ 4096
  pub few_spares : length c.spares ≤ 16
  pub spares : All (λ name. IsTrue (is_name name)) c.spares
  pub spares_differ : AllPairs (λ a b. a ≢ b) c.spares

-- The same as a test.

abbrev pub is_in : (least most n : ℕ) → Bool
is_in least most n = nat_le least n && nat_le n most

-- `Rises` as a test
abbrev pub rises : (least most : ℕ) → List GroupRange → Bool
rises least most [] = true
rises least most (r ∷ ranges) =
    nat_le least r.low.0 && (nat_le r.low.0 r.high.0 && (nat_le r.high.0 most && rises (r.high.0 + 2) most ranges))

-- none of these is equal to another
abbrev pub all_differ : {A : Type 0} → (A → A → Bool) → List A → Bool
all_differ eq [] = true
all_differ eq (x ∷ xs) = not (list_any (λ y. eq x y) xs) && all_differ eq xs

abbrev pub is_leaf_of : Group → LeafSeen → Bool
is_leaf_of number leaf =
    is_name leaf.name && (is_recorded leaf.state && (nat_le (length leaf.log) 4096 && rises 1 number.0 leaf.log))

abbrev pub is_vdev_of : Group → VdevSeen → Bool
is_vdev_of number (leaf_vdev leaf) = is_leaf_of number leaf
is_vdev_of number (inner_vdev guid kind count) = true

-- a tree whose leaves may stand in a record of this number
abbrev pub is_top_of : Group → TopSeen → Bool
is_top_of number top = is_tree top.vdevs && list_all (is_vdev_of number) top.vdevs

-- what is asked of the parts one by one
unfoldable pub are_parts : ConfigSeen → Bool
are_parts c =
    is_in 1 (2 ^ 62) c.number.0 && (is_name c.name
    && (list_all (is_top_of c.number) c.tops && list_all is_name c.spares))

abbrev pub is_hole : Pointer → Bool
is_hole p = p.birth.0 == 0 && (p.place.top == 0 && (p.place.sector == 0 && bytes_eq p.sum (zeros 32)))

abbrev pub has_sector : Option TopSeen → ℕ → Bool
has_sector None sector = false
has_sector (Some top) sector = nat_lt sector top.sectors

abbrev pub is_placed : Group → List TopSeen → Pointer → Bool
is_placed number tops p =
    is_in 1 number.0 p.birth.0 && (has_sector (slice_get tops p.place.top) p.place.sector && length p.sum == 32)

abbrev pub are_sized : List TopSeen → Bool
are_sized tops = is_in 1 8 (length tops) && list_all (λ top. is_in 64 1048320 top.sectors) tops

abbrev pub is_drawn : (next member : ℕ) → Bool
is_drawn next member = nat_le 1 member && nat_lt member next

-- the numbers of all vdevs
abbrev pub are_drawn : (next : ℕ) → List ℕ → Bool
are_drawn next numbers = list_all (is_drawn next) numbers && all_differ (λ a b. a == b) numbers

-- the names of the leaves' devices
abbrev pub are_devices : List (List ℕ) → Bool
are_devices names = nat_le (length names) 32 && all_differ bytes_eq names

abbrev pub are_spares : List (List ℕ) → Bool
are_spares names = nat_le (length names) 16 && all_differ bytes_eq names

-- What is asked of the parts together.

unfoldable pub are_bounds : ConfigSeen → Bool
are_bounds c = is_in 0 (2 ^ 64 - 1) c.pool.0 && (is_in 1 262144 c.blocks && nat_le c.next_guid (2 ^ 62))

unfoldable pub is_root : ConfigSeen → Bool
is_root c = is_hole c.root || is_placed c.number c.tops c.root

-- the devices, the numbers and the logs of all vdevs
unfoldable pub are_together : ConfigSeen → Bool
are_together c =
    are_devices (map leaf_name (leaves_among (all_vdevs c)))
    && (are_drawn c.next_guid (map number_of_vdev (all_vdevs c))
    && nat_le (sum (map log_length (leaves_among (all_vdevs c)))) 4096)

unfoldable pub is_whole : ConfigSeen → Bool
is_whole c = are_bounds c && (is_root c && (are_sized c.tops && (are_together c && are_spares c.spares)))

unfoldable pub is_valid : ConfigSeen → Bool
is_valid c = are_parts c && is_whole c
