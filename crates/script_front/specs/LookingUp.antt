-- The look-ups with which a run begins.
use Rattle.std.specs.Prelude.{◌≡◌, ◌⊎◌, ℕ, ◌<◌, ◌≤◌, List, [], ◌∷◌, Option, Some, None, slice_get}
use Rattle.mp_base.specs.Outside.{Rose}
use Rattle.bank_core.specs.Absent.{IsAbsent}
use Rattle.bank_core.specs.BankView.{BankView}
use Rattle.pool_runs.specs.Devices.{Device}
use Rattle.script_front.specs.FixedHost.{host_devices}

-- A device was looked up: it has this number and size, or its look-up found nothing, or failed.
pub record IsLookedUp (number_of : List ℕ → Option ℕ) (size : ℕ → ℕ) (names : Option (List (List ℕ))) (before after : ℕ)
    (name : List ℕ) (device : Device) : Type 0 where
  pub name_is : device.name ≡ name
  pub found : (d : ℕ) → device.number ≡ Some d → (number_of name ≡ Some d) × (size d ≡ device.sectors) × (0 < size d)
  pub absent : device.number ≡ None → IsAbsent names name ⊎ Rose before after

-- The table has just the devices of these names, each as its own look-up in this run found it.
abbrev pub AreLookedUp : (List ℕ → Option ℕ) → (ℕ → ℕ) → Option (List (List ℕ)) → (before after : ℕ) → List (List ℕ) → List Device → Type 0
AreLookedUp number_of size names before after [] table = (table ≡ []) × (before ≤ after)
AreLookedUp number_of size names before after (name ∷ more) [] = ⊥
AreLookedUp number_of size names before after (name ∷ more) (device ∷ table) = (between : ℕ) × (before ≤ between)
    × IsLookedUp number_of size names before between name device × AreLookedUp number_of size names between after more table

-- One of the host's devices was looked up.
pub record LooksUp (number_of : List ℕ → Option ℕ) (size : ℕ → ℕ) (names : Option (List (List ℕ))) (before after : ℕ) (i : ℕ) (device : Device) : Type 0 where
  pub name : List ℕ
  pub is_named : slice_get host_devices i ≡ Some name
  pub looked_up : IsLookedUp number_of size names before after name device

-- Names were looked up at most: no device was asked.
pub record OnlyLooks (old new : BankView) : Type 0 where
  pub told : new.told ≡ old.told
  pub faults : (d : ℕ) → new.faults d ≡ old.faults d
