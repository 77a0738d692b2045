-- The steps of a search for the newest record.
use Rattle.std.specs.Prelude.{◌≡◌, ℕ, ◌+◌, ◌*◌, ◌/◌, ◌%◌, ◌<◌, ◌≤◌, List, [], ◌∷◌, length, take, Option, Some, None, slice_get}
use Rattle.bank_core.specs.Asks.{Reads, ask_of}
use Rattle.bank_core.specs.BankView.{BankView}
use Rattle.bank_core.specs.Calls.{Makes}
use Rattle.bank_core.specs.Disk.{Noted, sector_of}
use Rattle.label_store.specs.declared.found.Found.{Found}
use Rattle.label_store.specs.Newest.{Parts, IsVerifiedBy, given_by}
use Rattle.label_store.specs.Uberblock.{IsUberblock}
use Rattle.sha2.specs.Sha256.{sha256}
use Rattle.label_store.specs.declared.rule.Head.{Head}
use Rattle.label_store.specs.declared.uberblock.Uberblock.{Uberblock}

-- The bytes are a configuration of this name, with the uberblock's pool and number.
pub record NamesConfig (head_of : List ℕ → Option Head) (name : List ℕ) (u : Uberblock) (config : List ℕ) : Type 0 where
  pub head : Head
  pub reads : head_of config ≡ Some head
  pub pool_is : head.pool ≡ u.pool
  pub number_is : head.number ≡ u.number
  pub name_is : head.name ≡ name

-- A part begins with the configuration that the uberblock names.
pub record HasConfig (head_of : List ℕ → Option Head) (name : List ℕ) (u : Uberblock) (part : List ℕ) : Type 0 where
  pub within : u.length ≤ length part
  pub sum : sha256 (take u.length part) ≡ u.sum
  pub names : NamesConfig head_of name u (take u.length part)

-- One of a device's configuration parts begins with the configuration that the uberblock names.
pub record HasConfigIn (head_of : List ℕ → Option Head) (parts : Parts) (name : List ℕ) (u : Uberblock) (config : List ℕ) : Type 0 where
  pub label : ℕ
  pub is_label : label < 4
  pub part : List ℕ
  pub part_is : slice_get parts (2 * label + 1) ≡ Some (Some part)
  pub has : HasConfig head_of name u part
  pub config_is : config ≡ take u.length part

-- so it does, where it was read
abbrev pub HasConfigAt : (List ℕ → Option Head) → Option (List ℕ) → (name : List ℕ) → Uberblock → List ℕ → Type 0
HasConfigAt head_of None name u config = ⊥
HasConfigAt head_of (Some part) name u config = HasConfig head_of name u part × (config ≡ take u.length part)

-- One of a device's places has this uberblock.
pub record IsUberblockAt (parts : Parts) (place : ℕ) (u : Uberblock) : Type 0 where
  pub ring : List ℕ
  pub ring_is : slice_get parts (2 * (place / 32)) ≡ Some (Some ring)
  pub is_uberblock : IsUberblock u (sector_of (place % 32) ring)

-- A record at this place, with a number above this one.
pub record IsNewer (head_of : List ℕ → Option Head) (parts : Parts) (name : List ℕ) (place above : ℕ) (found : Found) : Type 0 where
  pub u : Uberblock
  pub number_is : found.number ≡ u.number
  pub pool_is : found.pool ≡ u.pool
  pub verified : IsVerifiedBy head_of parts name place u found.blob.items
  pub newer : above < u.number.0

-- the number of the best record so far, 0 where there is none
abbrev pub number_of : Option Found → ℕ
number_of None = 0
number_of (Some found) = found.number.0

-- One read of a part.
pub record ReadsPart (dev at sectors : ℕ) (old new : BankView) (part : Option (List ℕ)) : Type 0 where
  pub noted : Noted
  pub calls : Makes (noted ∷ []) old new
  pub ask : ask_of noted.call ≡ Reads dev at sectors
  pub part_is : part ≡ given_by noted.call
