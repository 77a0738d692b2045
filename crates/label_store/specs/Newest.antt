-- What an opening reads of devices' labels, and the newest record that is verified by it.
use Rattle.std.specs.Prelude.{◌≡◌, ℕ, ◌+◌, ◌*◌, ◌/◌, ◌%◌, ◌<◌, ◌≤◌, List, [], ◌∷◌, ◌++◌, map, length, take, Option, Some, None, slice_get}
use Rattle.std.specs.List.{flat_map}
use Rattle.sha2.specs.Sha256.{sha256}
use Rattle.bank_core.specs.Asks.{Ask, Reads, asks_of}
use Rattle.bank_core.specs.BankView.{BankView}
use Rattle.bank_core.specs.Calls.{Makes}
use Rattle.bank_core.specs.Disk.{Call, Read, Write, Flush, Admit, Eject, Noted, sector_of}
use Rattle.label_store.specs.declared.found.Found.{Found}
use Rattle.label_store.specs.declared.rule.Head.{Head}
use Rattle.label_store.specs.declared.uberblock.Uberblock.{Uberblock}
use Rattle.label_store.specs.Layout.{labels_of, config_offset, config_sectors, ring_offset, ring_slots}
use Rattle.label_store.specs.Uberblock.{IsUberblock}

-- the bytes that a read gave, where it answered Ok
abbrev pub given_by : Call → Option (List ℕ)
given_by (Read dev at bytes None) = Some bytes
given_by (Read dev at bytes (Some fault)) = None
given_by (Write dev at bytes fault) = None
given_by (Flush dev fault) = None
given_by (Admit dev holds) = None
given_by (Eject dev) = None

-- what was read of a device's labels: the ring of label 0, its configuration part, those of label 1, and so on
abbrev pub Parts : Type 0
Parts = List (Option (List ℕ))

abbrev pub parts_of : List Noted → Parts
parts_of made = map (λ noted. given_by noted.call) made

-- a look at a label, and at all of a device
abbrev pub label_asks : (dev at : ℕ) → List Ask
label_asks dev at = Reads dev (at + ring_offset) ring_slots ∷ Reads dev (at + config_offset) config_sectors ∷ []

abbrev pub look_asks : (dev size : ℕ) → List Ask
look_asks dev size = flat_map (label_asks dev) (labels_of size)

-- By these parts, the uberblock at one of a device's 128 places, label by label and slot by slot, and some
-- configuration part verify this record of the name.
pub record IsVerifiedBy (head_of : List ℕ → Option Head) (parts : Parts) (name : List ℕ) (place : ℕ) (u : Uberblock) (config : List ℕ) : Type 0 where
  pub ring : List ℕ
  pub ring_is : slice_get parts (2 * (place / 32)) ≡ Some (Some ring)
  pub is_uberblock : IsUberblock u (sector_of (place % 32) ring)
  pub some : 1 ≤ u.number.0
  pub label : ℕ
  pub is_label : label < 4
  pub part : List ℕ
  pub part_is : slice_get parts (2 * label + 1) ≡ Some (Some part)
  pub within : u.length ≤ length part
  pub config_is : config ≡ take u.length part
  pub sum : sha256 config ≡ u.sum
  pub head : Head
  pub reads : head_of config ≡ Some head
  pub pool_is : head.pool ≡ u.pool
  pub number_is : head.number ≡ u.number
  pub name_is : head.name ≡ name

-- The record at place n, where each device in turn has 128 places.
pub record IsCandidate (head_of : List ℕ → Option Head) (looks : List Parts) (name : List ℕ) (n : ℕ) (u : Uberblock) (config : List ℕ) : Type 0 where
  pub parts : Parts
  pub parts_are : slice_get looks (n / 128) ≡ Some parts
  pub verified : IsVerifiedBy head_of parts name (n % 128) u config

-- Of the records at the places before n, this one has the greatest number, and none before it has as great a one.
pub record IsTop (head_of : List ℕ → Option Head) (looks : List Parts) (name : List ℕ) (n : ℕ) (found : Found) : Type 0 where
  pub place : ℕ
  pub inside : place < n
  pub u : Uberblock
  pub number_is : found.number ≡ u.number
  pub pool_is : found.pool ≡ u.pool
  pub candidate : IsCandidate head_of looks name place u found.blob.items
  pub greatest : (k : ℕ) (v : Uberblock) (config : List ℕ) → k < n → IsCandidate head_of looks name k v config → v.number.0 ≤ u.number.0
  pub first : (k : ℕ) (v : Uberblock) (config : List ℕ) → k < place → IsCandidate head_of looks name k v config → v.number.0 < u.number.0

-- so it is, or there is none
abbrev pub IsBest : (List ℕ → Option Head) → (looks : List Parts) → (name : List ℕ) → (n : ℕ) → Option Found → Type 0
IsBest head_of looks name n None = (k : ℕ) (v : Uberblock) (config : List ℕ) → k < n → ¬ (IsCandidate head_of looks name k v config)
IsBest head_of looks name n (Some found) = IsTop head_of looks name n found

-- each of these devices was looked at, one after another
abbrev pub IsLook : (ℕ → ℕ) → (devs : List ℕ) → (looks : List Parts) → List Noted → Type 0
IsLook size [] [] made = made ≡ []
IsLook size [] (parts ∷ looks) made = ⊥
IsLook size (dev ∷ devs) [] made = ⊥
IsLook size (dev ∷ devs) (parts ∷ looks) made = (mine : List Noted) × (rest : List Noted) × (made ≡ mine ++ rest)
    × (asks_of mine ≡ look_asks dev (size dev)) × (parts ≡ parts_of mine) × IsLook size devs looks rest

-- These reads were made, and gave these parts.
pub record Looks (asks : List Ask) (old new : BankView) (parts : Parts) : Type 0 where
  pub made : List Noted
  pub calls : Makes made old new
  pub asks_are : asks_of made ≡ asks
  pub parts_are : parts ≡ parts_of made

-- These devices were looked at, and this is the newest record of the name.
pub record FindsNewest (head_of : List ℕ → Option Head) (size : ℕ → ℕ) (devs : List ℕ) (name : List ℕ) (old new : BankView) (best : Option Found) : Type 0 where
  pub made : List Noted
  pub calls : Makes made old new
  pub looks : List Parts
  pub look : IsLook size devs looks made
  pub is_best : IsBest head_of looks name (128 * length devs) best

-- no call among these wrote or flushed
abbrev pub IsRead : Call → Type 0
IsRead (Read dev at bytes fault) = Unit {0}
IsRead (Write dev at bytes fault) = ⊥
IsRead (Flush dev fault) = ⊥
IsRead (Admit dev holds) = ⊥
IsRead (Eject dev) = ⊥

abbrev pub AreReads : List Noted → Type 0
AreReads [] = Unit {0}
AreReads (noted ∷ more) = IsRead noted.call × AreReads more

-- Reads were made, and no other call.
pub record ReadsOnly (old new : BankView) : Type 0 where
  pub made : List Noted
  pub calls : Makes made old new
  pub reads : AreReads made
