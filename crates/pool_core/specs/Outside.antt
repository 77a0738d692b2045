-- What came from outside: for each device call of an entry, in order, the trouble that it met.
use Rattle.std.specs.Prelude.{ℕ, Bool, cond, List, [], ◌∷◌, map, Option, Some, None, is_some}
use Rattle.std.specs.Option.{option_map}
use Rattle.std.specs.List.{list_any}
use Rattle.std.specs.Str.{bytes_eq}
use Rattle.sha2.specs.Sha256.{sha256}
use Rattle.bank_core.specs.declared.bank.Fault.{Fault}
use Rattle.bank_core.specs.declared.bank.Fault.TheVariants as faults
use Rattle.bank_core.specs.Disk.{Call, Read, Write, Flush, Admit, Eject, Noted}
use Rattle.pool_core.specs.State.{Content, Known, Summed}

pub data Trouble : Type 0 where
  -- the call answered Failed
  Failed : Trouble
  -- the call answered Gone
  Gone : Trouble
  -- a read answered other bytes than the block's
  Wrong : Trouble

abbrev pub trouble_from : Fault → Trouble
trouble_from faults.Failed = Failed
trouble_from faults.Gone = Gone

-- these bytes are the block, so far as it is known
abbrev pub matches : Content → List ℕ → Bool
matches (Known block) bytes = bytes_eq bytes block
matches (Summed sum) bytes = bytes_eq (sha256 bytes) sum

-- the trouble of a call, of which a read should give this block
abbrev pub trouble_of : Content → Call → Option Trouble
trouble_of block (Read dev at bytes None) = cond (matches block bytes) None (Some Wrong)
trouble_of block (Read dev at bytes (Some fault)) = Some (trouble_from fault)
trouble_of block (Write dev at bytes fault) = option_map trouble_from fault
trouble_of block (Flush dev fault) = option_map trouble_from fault
trouble_of block (Admit dev holds) = None
trouble_of block (Eject dev) = None

abbrev pub troubles : Content → List Noted → List (Option Trouble)
troubles block calls = map (λ noted. trouble_of block noted.call) calls

-- some call met trouble
abbrev pub has_trouble : List (Option Trouble) → Bool
has_trouble outside = list_any is_some outside

abbrev pub given_or_none : Call → List ℕ
given_or_none (Read dev at bytes None) = bytes
given_or_none (Read dev at bytes (Some fault)) = []
given_or_none (Write dev at bytes fault) = []
given_or_none (Flush dev fault) = []
given_or_none (Admit dev holds) = []
given_or_none (Eject dev) = []

-- what the last of these calls gave, where it is a read that answered
abbrev pub last_given : List Noted → List ℕ
last_given [] = []
last_given (noted ∷ []) = given_or_none noted.call
last_given (noted ∷ next ∷ more) = last_given (next ∷ more)
