-- What stays on a sector while calls are made elsewhere, and what calls bring onto it.
use Rattle.std.specs.Prelude.{◌≡◌, ℕ, ◌+◌, ◌<◌, Bool, false, ◌==◌, ◌&&◌, List, [], ◌∷◌}
use Rattle.bank_core.specs.Asks.{Ask, Reads, Writes, Flushes, Admits, Ejects}
use Rattle.bank_core.specs.Disk.{Sector, Nothing, Call, Read, Write, Flush, Admit, Eject, Noted, sectors_in, sector_of, covers}

-- Just these bytes stand there, and nothing is on the way. The sector may be damaged.
pub record Stands (x : Sector) (bytes : List ℕ) : Type 0 where
  pub stable : x.stable ≡ bytes
  pub still : x.pending ≡ Nothing

-- these whole sectors stand from `at` on
abbrev pub StandFrom : (ℕ → Sector) → ℕ → List ℕ → Type 0
StandFrom sectors at bytes = (i : ℕ) → i < sectors_in bytes → Stands (sectors (at + i)) (sector_of i bytes)

-- an image shows these whole sectors from `at` on
abbrev pub ShowsFrom : (ℕ → List ℕ) → ℕ → List ℕ → Type 0
ShowsFrom image at bytes = (i : ℕ) → i < sectors_in bytes → image (at + i) ≡ sector_of i bytes

-- the call puts other bytes on sector s of device d
abbrev pub touches : Call → ℕ → ℕ → Bool
touches (Read dev at bytes fault) d s = false
touches (Write dev at bytes fault) d s = (dev == d) && covers at (sectors_in bytes) s
touches (Flush dev fault) d s = false
touches (Admit dev holds) d s = dev == d
touches (Eject dev) d s = false

-- none of these calls does
abbrev pub Untouched : List Noted → ℕ → ℕ → Type 0
Untouched [] d s = Unit {0}
Untouched (noted ∷ more) d s = (touches noted.call d s ≡ false) × Untouched more d s

-- such a call is asked
abbrev pub aims : Ask → ℕ → ℕ → Bool
aims (Reads dev at sectors) d s = false
aims (Writes dev at bytes) d s = (dev == d) && covers at (sectors_in bytes) s
aims (Flushes dev) d s = false
aims (Admits dev) d s = dev == d
aims (Ejects dev) d s = false

-- none of these is asked
abbrev pub Spares : List Ask → ℕ → ℕ → Type 0
Spares [] d s = Unit {0}
Spares (ask ∷ more) d s = (aims ask d s ≡ false) × Spares more d s
