-- What the bank in memory tells.
use Rattle.std.specs.Prelude.{◌≡◌, ℕ, ◌+◌, ◌<◌, cond, List, [], ◌∷◌, ◌++◌, length, Option, Some, None, slice_index}
use Rattle.bank_core.specs.declared.call.MemCall.{MemCall}
use Rattle.bank_core.specs.declared.memory.MemBank.{MemBank}
use Rattle.bank_core.specs.Memory.{size_in, number_in, names_in, story_in, with_device}
use Rattle.bank_core.specs.BankView.{BankView}
use Rattle.bank_core.specs.Disk.{Sector}
use Rattle.bank_core.specs.Story.{Story}

abbrev pub bank_size : MemBank → ℕ → ℕ
bank_size bank = size_in bank.devices.items

abbrev pub bank_number : MemBank → List ℕ → Option ℕ
bank_number bank = number_in bank.devices.items

abbrev pub bank_names : MemBank → List (List ℕ)
bank_names bank = names_in bank.devices.items

abbrev pub bank_faults : MemBank → ℕ → ℕ
bank_faults bank = slice_index bank.faults

-- how many devices it has
abbrev pub bank_devices : MemBank → ℕ
bank_devices bank = length bank.devices.items

-- its list of calls, and how many stand there
abbrev pub call_list : MemBank → List MemCall
call_list bank = bank.calls.items

abbrev pub bank_calls : MemBank → ℕ
bank_calls bank = length bank.calls.items

-- the first sectors of its devices and its calls, while it tells
abbrev pub bank_told : MemBank → Option Story
bank_told bank = cond bank.tells (Some (story_in bank.devices.items bank.calls.items)) None

abbrev pub bank_view : MemBank → BankView
bank_view bank = record {
  size = bank_size bank;
  number_of = bank_number bank;
  names = Some (bank_names bank);
  faults = bank_faults bank;
  lookup_faults = 0;
  told = bank_told bank;
}

-- The bank tells the same, and counts the same.
pub record IsUnchanged (old new : MemBank) : Type 0 where
  pub devices : new.devices.items ≡ old.devices.items
  pub calls : new.calls.items ≡ old.calls.items
  pub faults : new.faults ≡ old.faults
  pub tells : new.tells ≡ old.tells

-- This device was added behind the others, before the first call. Each name and each number stays.
pub record IsAdded (old new : MemBank) (name : List ℕ) (sectors : ℕ) (device : ℕ → Sector) : Type 0 where
  pub devices : bank_devices new ≡ bank_devices old + 1
  pub names : bank_names new ≡ bank_names old ++ name ∷ []
  pub size : bank_size new (bank_devices old) ≡ sectors
  pub sizes : (d : ℕ) → d < bank_devices old → bank_size new d ≡ bank_size old d
  pub calls : bank_calls new ≡ 0
  pub faults : new.faults ≡ old.faults
  pub told : (story : Story) → bank_told old ≡ Some story
      → bank_told new ≡ Some (record { start = with_device story.start (bank_devices old) device; calls = [] })
