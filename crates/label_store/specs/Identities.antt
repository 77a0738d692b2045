-- How the identity of a device is found in its rings.
use Rattle.std.specs.Prelude.{◌≡◌, ℕ, ◌+◌, ◌<◌, Bool, true, false, List, [], ◌∷◌, ◌++◌, map, take, Option, Some, None, Result, Ok, Err, OnErr, IfSome, slice_index}
use Rattle.mp_base.specs.Outside.{Rose}
use Rattle.mp_base.specs.declared.number.Guid.{Guid}
use Rattle.bank_core.specs.declared.bank.Fault.{Fault}
use Rattle.bank_core.specs.Asks.{Reads, ask_of}
use Rattle.bank_core.specs.BankView.{BankView}
use Rattle.bank_core.specs.Calls.{Makes, fault_of}
use Rattle.bank_core.specs.Disk.{Call, Read, Write, Flush, Admit, Eject, Noted, sector_of}
use Rattle.label_store.specs.declared.uberblock.Uberblock.{Uberblock}
use Rattle.label_store.specs.Layout.{labels_of, ring_offset, ring_slots}
use Rattle.label_store.specs.Uberblock.{IsUberblock}

-- the first sectors of the four rings
abbrev pub rings_of : ℕ → List ℕ
rings_of size = map (λ at. at + ring_offset) (labels_of size)

-- One of a ring's slots has a correct uberblock of this identity.
pub record HasIdentity (pool member : Guid) (ring : List ℕ) : Type 0 where
  pub slot : ℕ
  pub inside : slot < ring_slots
  pub u : Uberblock
  pub is_uberblock : IsUberblock u (sector_of slot ring)
  pub pool_is : u.pool ≡ pool
  pub member_is : u.member ≡ member

-- the call is a read that answered Ok with such a ring
abbrev pub GivesIdentity : (pool member : Guid) → Call → Type 0
GivesIdentity pool member (Read dev at bytes None) = HasIdentity pool member bytes
GivesIdentity pool member (Read dev at bytes (Some fault)) = ⊥
GivesIdentity pool member (Write dev at bytes fault) = ⊥
GivesIdentity pool member (Flush dev fault) = ⊥
GivesIdentity pool member (Admit dev holds) = ⊥
GivesIdentity pool member (Eject dev) = ⊥

-- each of these rings was read, in order, and none gave it
abbrev pub AreMisses : (pool member : Guid) → (dev : ℕ) → (rings : List ℕ) → List Noted → Type 0
AreMisses pool member dev [] made = made ≡ []
AreMisses pool member dev (at ∷ rings) [] = ⊥
AreMisses pool member dev (at ∷ rings) (noted ∷ made) =
    (ask_of noted.call ≡ Reads dev at ring_slots) × (¬ (GivesIdentity pool member noted.call)) × AreMisses pool member dev rings made

abbrev pub fault_or : Option Fault → Option Fault → Option Fault
fault_or None later = later
fault_or (Some fault) later = Some fault

-- the fault of the first of these calls that failed
abbrev pub first_fault : List Noted → Option Fault
first_fault [] = None
first_fault (noted ∷ more) = fault_or (fault_of noted.call) (first_fault more)

-- The rings before were read and don't give it, and this one does.
pub record IsHit (pool member : Guid) (dev size : ℕ) (made : List Noted) : Type 0 where
  pub before : ℕ
  pub inside : before < 4
  pub misses : List Noted
  pub hit : Noted
  pub all : made ≡ misses ++ hit ∷ []
  pub are_misses : AreMisses pool member dev (take before (rings_of size)) misses
  pub ask : ask_of hit.call ≡ Reads dev (slice_index (rings_of size) before) ring_slots
  pub gives : GivesIdentity pool member hit.call

-- the calls of a search, and its answer
abbrev pub IsSearch : (pool member : Guid) → (dev size : ℕ) → List Noted → Result Bool Fault → Type 0
IsSearch pool member dev size made (Ok true) = IsHit pool member dev size made
IsSearch pool member dev size made (Ok false) = AreMisses pool member dev (rings_of size) made × (first_fault made ≡ None)
IsSearch pool member dev size made (Err fault) = AreMisses pool member dev (rings_of size) made × (first_fault made ≡ Some fault)

-- A search was made, and where it failed a read of this device did.
pub record Searches (pool member : Guid) (dev size : ℕ) (old new : BankView) (result : Result Bool Fault) : Type 0 where
  pub made : List Noted
  pub calls : Makes made old new
  pub search : IsSearch pool member dev size made result
  pub cause : OnErr result (Rose (old.faults dev) (new.faults dev))

-- what one read of a ring says
abbrev pub IsFound : (pool member : Guid) → Call → Result Bool Fault → Type 0
IsFound pool member call (Ok true) = GivesIdentity pool member call
IsFound pool member call (Ok false) = (fault_of call ≡ None) × (¬ (GivesIdentity pool member call))
IsFound pool member call (Err fault) = (fault_of call ≡ Some fault) × (¬ (GivesIdentity pool member call))

-- One ring was read.
pub record ReadsRing (pool member : Guid) (dev at : ℕ) (old new : BankView) (result : Result Bool Fault) : Type 0 where
  pub noted : Noted
  pub calls : Makes (noted ∷ []) old new
  pub ask : ask_of noted.call ≡ Reads dev at ring_slots
  pub found : IsFound pool member noted.call result
  pub cause : OnErr result (Rose (old.faults dev) (new.faults dev))

-- The first rings were read, and none gave it; this fault came first.
pub record Misses (pool member : Guid) (dev : ℕ) (rings : List ℕ) (old new : BankView) (failed : Option Fault) : Type 0 where
  pub made : List Noted
  pub calls : Makes made old new
  pub are_misses : AreMisses pool member dev rings made
  pub first : first_fault made ≡ failed
  pub cause : IfSome failed (λ fault. Rose (old.faults dev) (new.faults dev))

-- The sector has a correct uberblock of this identity.
pub record NamesMember (pool member : Guid) (sector : List ℕ) : Type 0 where
  pub u : Uberblock
  pub is_uberblock : IsUberblock u sector
  pub pool_is : u.pool ≡ pool
  pub member_is : u.member ≡ member

-- the answer of a search in which no ring gave it
abbrev pub search_outcome : Option Fault → Result Bool Fault
search_outcome None = Ok false
search_outcome (Some fault) = Err fault
