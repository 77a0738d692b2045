-- What the calls of a read showed of each copy, where none was good.
use Rattle.std.specs.Prelude.{ℕ, ◌==◌, ◌&&◌, ◌||◌, not, Bool, true, false, cond, List, [], ◌∷◌}
use Rattle.std.specs.Option.{is_none}
use Rattle.bank_core.specs.Calls.{device_of, fault_of}
use Rattle.bank_core.specs.Disk.{Noted}
use Rattle.mirror_io.specs.declared.copies.CopyOf.{CopyOf}

-- what a leaf of the key's top showed: its device is away, a read of it failed, or it gave bytes of another sum
pub data LeafShown : Type 0 where
  Unreadable : LeafShown
  ReadFailed : LeafShown
  Mismatched : LeafShown

-- a call on the device failed
abbrev pub failed_on : List Noted → ℕ → Bool
failed_on [] d = false
failed_on (noted ∷ made) d = ((device_of noted.call == d) && not (is_none (fault_of noted.call))) || failed_on made d

abbrev pub shown_by : (readable : Bool) → List Noted → ℕ → LeafShown
shown_by false made d = Unreadable
shown_by true made d = cond (failed_on made d) ReadFailed Mismatched

abbrev pub leaf_shown : List Noted → CopyOf → LeafShown
leaf_shown made copy = shown_by copy.readable made copy.dev
