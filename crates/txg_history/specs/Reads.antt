-- What reads show of a block that a leaf has to have, and calls that leave a damaged sector so.
use Rattle.std.specs.Prelude.{◌≡◌, ◌⊎◌, ℕ, ◌==◌, Bool, false, List, [], ◌∷◌}
use Rattle.bank_core.specs.Disk.{Call, Read, Write, Flush, Admit, Eject, Noted}
use Rattle.txg_history.specs.Needs.{NeedsCell, NeedsRead}
use Rattle.txg_history.specs.Pools.{Pool}

-- sector s of the leaf has to keep this block, for a live record or for the one that the pool reads
abbrev pub IsKeptAt : Pool → (d s : ℕ) → List ℕ → Type 0
IsKeptAt p d s block = NeedsCell p.live (p.guid d) s block ⊎ NeedsRead p.reads p.in_top p.owes d s block

-- the call may heal a sector of device d
abbrev pub heals : Call → ℕ → Bool
heals (Read dev at bytes fault) d = false
heals (Write dev at bytes fault) d = false
heals (Flush dev fault) d = dev == d
heals (Admit dev holds) d = dev == d
heals (Eject dev) d = false

abbrev pub NoneHeals : List Noted → (d : ℕ) → Type 0
NoneHeals [] d = Unit {0}
NoneHeals (noted ∷ more) d = (heals noted.call d ≡ false) × NoneHeals more d
