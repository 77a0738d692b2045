-- The disk model: a device is its sectors, and each call acts on each sector by itself. So what a list
-- of calls leaves of a sector is a replay of that list, and what no call touches stays.
use Rattle.std.specs.Prelude.{◌≡◌, ℕ, ◌%◌, ◌+◌, ◌-◌, ◌*◌, ◌/◌, ◌<◌, Bool, true, false, cond, ◌==◌, ◌&&◌, nat_le, nat_lt, List, [], ◌∷◌, length, take, drop, Option, Some, None, is_none}
use Rattle.bank_core.specs.declared.bank.Fault.{Fault}

-- a sector has 4,096 bytes
unfoldable pub sector_size : ℕ
sector_size = 4096

-- What was written to a sector since it was last stable.
pub data Pending : Type 0 where
  Nothing : Pending
  -- the last write answered Ok
  Written : (bytes : List ℕ) → Pending
  -- the last write failed
  Failing : (bytes : List ℕ) → Pending

-- A sector: what stands on it for good, what is on the way, and whether it is damaged.
pub record Sector : Type 0 where
  pub stable : List ℕ
  pub pending : Pending
  pub damaged : Bool

-- The sectors of every device, by the device's number.
abbrev pub Sectors : Type 0
Sectors = ℕ → ℕ → Sector

-- A call on a bank with its answer, None where it answered Ok. The last two are the moves of a device
-- into a bank, with what it holds, and out of it.
pub data Call : Type 0 where
  Read : (dev at : ℕ) (bytes : List ℕ) (fault : Option Fault) → Call
  Write : (dev at : ℕ) (bytes : List ℕ) (fault : Option Fault) → Call
  Flush : (dev : ℕ) (fault : Option Fault) → Call
  Admit : (dev : ℕ) (holds : ℕ → Sector) → Call
  Eject : (dev : ℕ) → Call

-- A call, and the sectors that were damaged with it, on any device. The damage comes first.
pub record Noted : Type 0 where
  pub call : Call
  pub damage : ℕ → ℕ → Bool

-- how many sectors these bytes fill, and the bytes for sector i of them
abbrev pub sectors_in : List ℕ → ℕ
sectors_in bytes = length bytes / sector_size

abbrev pub sector_of : ℕ → List ℕ → List ℕ
sector_of i bytes = take sector_size (drop (i * sector_size) bytes)

-- sector s is one of the n from `at` on
abbrev pub covers : (at n s : ℕ) → Bool
covers at n s = nat_le at s && nat_lt s (at + n)

abbrev pub hurt : Bool → Sector → Sector
hurt damage x = record { stable = x.stable; pending = x.pending; damaged = cond damage true x.damaged }

-- a write that answered Ok is pending until a flush; one that failed until a later write there is flushed
abbrev pub after_write : Option Fault → List ℕ → Pending
after_write None bytes = Written bytes
after_write (Some fault) bytes = Failing bytes

-- a flush that answered Ok makes stable what the last write answered Ok, and heals it
abbrev pub after_flush : Pending → Sector → Sector
after_flush Nothing x = x
after_flush (Written bytes) x = record { stable = bytes; pending = Nothing; damaged = false }
after_flush (Failing bytes) x = x

-- what a call makes of sector s of device d
abbrev pub effect : Call → ℕ → ℕ → Sector → Sector
effect (Read dev at bytes fault) d s x = x
effect (Write dev at bytes fault) d s x =
    cond ((dev == d) && covers at (sectors_in bytes) s)
    (record { stable = x.stable; pending = after_write fault (sector_of (s - at) bytes); damaged = x.damaged }) x
effect (Flush dev fault) d s x = cond ((dev == d) && is_none fault) (after_flush x.pending x) x
effect (Admit dev holds) d s x = cond (dev == d) (holds s) x
effect (Eject dev) d s x = x

abbrev pub after_call : Noted → ℕ → ℕ → Sector → Sector
after_call noted d s x = effect noted.call d s (hurt (noted.damage d s) x)

-- what these calls, the oldest first, make of a sector
abbrev pub replay : List Noted → ℕ → ℕ → Sector → Sector
replay [] d s x = x
replay (noted ∷ more) d s x = replay more d s (after_call noted d s x)

-- what they make of all sectors
abbrev pub run : List Noted → Sectors → Sectors
run calls sectors = λ d s. replay calls d s (sectors d s)

-- the sectors as a call finds them, behind the damage that came with it
abbrev pub as_found : Noted → Sectors → Sectors
as_found noted sectors = λ d s. hurt (noted.damage d s) (sectors d s)

-- Nothing is on the way there, and it isn't damaged: a read gives what is stable.
pub record IsClean (x : Sector) : Type 0 where
  pub still : x.pending ≡ Nothing
  pub sound : x.damaged ≡ false

-- each clean sector from `at` on shows its stable bytes. Of another this says nothing
abbrev pub ShowsStable : (ℕ → Sector) → ℕ → List ℕ → Type 0
ShowsStable sectors at bytes =
    (i : ℕ) → i < sectors_in bytes → IsClean (sectors (at + i)) → sector_of i bytes ≡ (sectors (at + i)).stable

-- A read that answered Ok gave whole sectors, and the stable bytes of each clean one.
abbrev pub Answers : Sectors → Call → Type 0
Answers sectors (Read dev at bytes None) = (length bytes % sector_size ≡ 0) × ShowsStable (sectors dev) at bytes
Answers sectors (Read dev at bytes (Some fault)) = Unit {0}
Answers sectors (Write dev at bytes fault) = Unit {0}
Answers sectors (Flush dev fault) = Unit {0}
Answers sectors (Admit dev holds) = Unit {0}
Answers sectors (Eject dev) = Unit {0}

-- each of these calls, one after another
abbrev pub AllAnswer : Sectors → List Noted → Type 0
AllAnswer sectors [] = Unit {0}
AllAnswer sectors (noted ∷ more) = Answers (as_found noted sectors) noted.call × AllAnswer (run (noted ∷ []) sectors) more

-- What a crash may leave of a device: the stable bytes at each clean sector, any bytes elsewhere.
abbrev pub IsImage : (ℕ → Sector) → (ℕ → List ℕ) → Type 0
IsImage sectors image = (s : ℕ) → IsClean (sectors s) → image s ≡ (sectors s).stable

-- A crash leaves an image of each device, all of the same moment.
abbrev pub CrashImages : Sectors → (ℕ → ℕ → List ℕ) → Type 0
CrashImages sectors images = (d : ℕ) → IsImage (sectors d) (images d)

-- When a device is used again, what the crash left is stable, nothing is on the way, and what was damaged still is.
abbrev pub after_crash : Sectors → (ℕ → ℕ → List ℕ) → Sectors
after_crash sectors images = λ d s. record { stable = images d s; pending = Nothing; damaged = (sectors d s).damaged }
