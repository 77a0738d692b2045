-- Which configurations are valid, as facts and as a test.
use Rattle.std.specs.Prelude.{◌≡◌, ◌≢◌, ℕ, ◌+◌, ◌-◌, ◌/◌, ◌^◌, ◌<◌, ◌≤◌, ◌==◌, ◌&&◌, Bool, true, not, IsTrue, nat_le, nat_lt, List, length, Option, Some, None, slice_get}
use Rattle.std.specs.List.{list_all, enumerate_from}
use Rattle.std.specs.Str.{bytes_eq}
use Rattle.mp_base.specs.Name.{is_name}
use Rattle.mp_base.specs.declared.number.Group.{Group}
use Rattle.config_codec.specs.declared.config.Pointer.{Pointer}
use Rattle.config_codec.specs.declared.config.LeafConfig.{LeafConfig}
use Rattle.config_codec.specs.Fields.{Fields}
use Rattle.mp_base.specs.Ranges.{Rises}
use Rattle.config_codec.specs.Ranges.{rises}

-- n lies from the least to the most
abbrev pub IsIn : (least most n : ℕ) → Type 0
IsIn least most n = (least ≤ n) × (n ≤ most)

-- The block was born in a group up to this number, and is in one of the two sectors of its address.
pub record IsPointer (number : Group) (address : ℕ) (p : Pointer) : Type 0 where
  pub birth : IsIn 1 number.0 p.birth.0
  pub sector : p.sector / 2 ≡ address
  pub sum : length p.sum ≡ 32

-- a number that was drawn for a member
abbrev pub IsDrawn : (next member : ℕ) → Type 0
IsDrawn next member = (1 ≤ member) × (member < next)

-- A pointer's sector is below 64, and so one of the top's.
pub record IsValid (c : Fields) : Type 0 where
  pub pool : IsIn 1 (2 ^ 64 - 1) c.pool.0
  pub name : IsTrue (is_name c.name)
  pub blocks : IsIn 1 32 c.blocks
  pub number : IsIn 1 (2 ^ 62) c.number.0
  pub next_member : c.next_member ≤ 2 ^ 62
  pub counted : length c.pointers ≡ c.blocks
  pub pointers : (a : ℕ) (p : Pointer) → slice_get c.pointers a ≡ Some (Some p) → IsPointer c.number a p
  pub sectors : IsIn 64 1048320 c.sectors
  pub mirror : IsDrawn c.next_member c.mirror.0
  pub first : IsDrawn c.next_member c.first.member.0
  pub second : IsDrawn c.next_member c.second.member.0
  pub not_first : c.mirror.0 ≢ c.first.member.0
  pub not_second : c.mirror.0 ≢ c.second.member.0
  pub two_members : c.first.member.0 ≢ c.second.member.0
  pub first_name : IsTrue (is_name c.first.name)
  pub second_name : IsTrue (is_name c.second.name)
  pub two_devices : c.first.name ≢ c.second.name
  pub first_log : Rises 1 c.number.0 c.first.log
  pub second_log : Rises 1 c.number.0 c.second.log
  pub few_ranges : length c.first.log + length c.second.log ≤ 4096

-- The same as a test.

abbrev pub is_in : (least most n : ℕ) → Bool
is_in least most n = nat_le least n && nat_le n most

abbrev pub is_pointer : Group → (address : ℕ) → Pointer → Bool
is_pointer number address p = is_in 1 number.0 p.birth.0 && (p.sector / 2 == address && length p.sum == 32)

-- a hole, or a pointer
abbrev pub is_slot : Group → (address : ℕ) → Option Pointer → Bool
is_slot number address None = true
is_slot number address (Some p) = is_pointer number address p

abbrev pub are_slots : Group → List (Option Pointer) → Bool
are_slots number slots = list_all (λ slot. is_slot number slot.0 slot.1) (enumerate_from 0 slots)

abbrev pub is_drawn : (next member : ℕ) → Bool
is_drawn next member = nat_le 1 member && nat_lt member next

abbrev pub are_in_range : Fields → Bool
are_in_range c =
    is_in 1 (2 ^ 64 - 1) c.pool.0 && (is_in 1 32 c.blocks && (is_in 1 (2 ^ 62) c.number.0
    && (nat_le c.next_member (2 ^ 62) && is_in 64 1048320 c.sectors)))

abbrev pub are_drawn : Fields → Bool
are_drawn c =
    is_drawn c.next_member c.mirror.0 && (is_drawn c.next_member c.first.member.0 && is_drawn c.next_member c.second.member.0)

-- the three member numbers differ
abbrev pub are_distinct : Fields → Bool
are_distinct c =
    not (c.mirror.0 == c.first.member.0) && (not (c.mirror.0 == c.second.member.0) && not (c.first.member.0 == c.second.member.0))

abbrev pub are_names : Fields → Bool
are_names c = is_name c.name && (is_name c.first.name && is_name c.second.name)

-- the two leaves have two devices
abbrev pub are_two_devices : Fields → Bool
are_two_devices c = not (bytes_eq c.first.name c.second.name)

abbrev pub are_pointers : Fields → Bool
are_pointers c = length c.pointers == c.blocks && are_slots c.number c.pointers

-- the groups that the leaves lack
abbrev pub are_logs : Fields → Bool
are_logs c =
    nat_le (length c.first.log + length c.second.log) 4096
    && (rises 1 c.number.0 c.first.log && rises 1 c.number.0 c.second.log)

unfoldable pub is_valid : Fields → Bool
is_valid c =
    are_names c && (are_in_range c && (are_drawn c && (are_distinct c && (are_two_devices c && (are_pointers c && are_logs c)))))

-- A leaf that may stand in a valid configuration, as far as its name and the length of its log tell.
abbrev pub may_stand : LeafConfig → Bool
may_stand leaf = is_name leaf.name && nat_le (length leaf.log) 4096
