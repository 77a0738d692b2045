-- What stays valid of a configuration whose number, pointers, or logs change.
use Rattle.std.proofs.Common.{◌≡◌, ℕ, ◌+◌, ◌^◌, ◌≤◌, List, Option, Some, length}
use Rattle.std.specs.Prelude.{slice_get}
use Rattle.mp_base.specs.Ranges.{Rises}
use Rattle.mp_base.specs.declared.number.Group.{Group}
use Rattle.config_codec.specs.declared.config.LeafConfig.{LeafConfig}
use Rattle.config_codec.specs.declared.config.Pointer.{Pointer}
use Rattle.config_codec.specs.Fields.{Fields}
use Rattle.config_codec.specs.Validity.{IsIn, IsPointer, IsValid}

-- the leaf of this number, on the device of this name
abbrev pub SameMember : (old new : LeafConfig) → Type 0
SameMember old new = (new.member ≡ old.member) × (new.name ≡ old.name)

-- The number, the pointers and the leaves' logs are valid in it.
pub record AreValid (c : Fields) (n : Group) (slots : List (Option Pointer)) (one other : LeafConfig) : Type 0 where
  pub number : IsIn 1 (2 ^ 62) n.0
  pub counted : length slots ≡ c.blocks
  pub pointers : (a : ℕ) (p : Pointer) → slice_get slots a ≡ Some (Some p) → IsPointer n a p
  pub first_log : Rises 1 n.0 one.log
  pub second_log : Rises 1 n.0 other.log
  pub few_ranges : length one.log + length other.log ≤ 4096

pub valid_changed : (c : Fields) (number : Group) (pointers : List (Option Pointer)) (first second : LeafConfig) → IsValid c → SameMember c.first first → SameMember c.second second
    → AreValid c number pointers first second → IsValid (record c { number = number; pointers = pointers; first = first; second = second })
valid_changed c number pointers first second v one other now = record {
  pool = v.pool;
  name = v.name;
  blocks = v.blocks;
  number = now.number;
  next_member = v.next_member;
  counted = now.counted;
  pointers = now.pointers;
  sectors = v.sectors;
  mirror = v.mirror;
  first = rw one.0 v.first;
  second = rw other.0 v.second;
  not_first = rw one.0 v.not_first;
  not_second = rw other.0 v.not_second;
  two_members = rw (one.0, other.0) v.two_members;
  first_name = rw one.1 v.first_name;
  second_name = rw other.1 v.second_name;
  two_devices = rw (one.1, other.1) v.two_devices;
  first_log = now.first_log;
  second_log = now.second_log;
  few_ranges = now.few_ranges;
}

-- it stays valid where only what is kept of a leaf changes
pub valid_kept : (c : Fields) (first second : LeafConfig) → IsValid c → SameMember c.first first → SameMember c.second second → first.log ≡ c.first.log → second.log ≡ c.second.log
    → IsValid (record c { first = first; second = second })
valid_kept c first second v one other first_log second_log = valid_changed c c.number c.pointers first second v one other (record {
  number = v.number;
  counted = v.counted;
  pointers = v.pointers;
  first_log = rw first_log v.first_log;
  second_log = rw second_log v.second_log;
  few_ranges = rw (first_log, second_log) v.few_ranges;
})
