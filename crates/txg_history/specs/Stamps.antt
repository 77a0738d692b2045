-- What a stamp leaves of a device's rings.
use Rattle.std.specs.Prelude.{◌≡◌, ◌⊎◌, ℕ, ◌+◌, ◌<◌, ◌≤◌, ◌^◌, Bool, true}
use Rattle.bank_core.specs.Disk.{Sector, Sectors, Nothing}
use Rattle.bank_core.specs.Memory.{zero_sector}
use Rattle.mp_base.specs.declared.number.Guid.{Guid}
use Rattle.label_store.specs.Plans.{blank_uberblock}
use Rattle.label_store.specs.Records.{place_at}
use Rattle.label_store.specs.Uberblock.{uberblock_bytes}

-- Zeros stand there, or the uberblock that gives an identity and no more; and nothing is on the way.
pub record IsBlank (x : Sector) (pool member : Guid) : Type 0 where
  pub still : x.pending ≡ Nothing
  pub stands : (x.stable ≡ zero_sector) ⊎ (x.stable ≡ uberblock_bytes (blank_uberblock pool member))

-- Each of these members' devices has the room of four labels and of its top, and its rings are as a stamp leaves them.
pub record AreStamped (pool : Guid) (member : ℕ → Bool) (guid : ℕ → Guid) (size room home : ℕ → ℕ) (sectors : Sectors) : Type 0 where
  pub in_range : pool.0 < 2 ^ 64
  pub guids : (d : ℕ) → member d ≡ true → (guid d).0 < 2 ^ 64
  pub sizes : (d : ℕ) → member d ≡ true → 320 ≤ size d
  pub rooms : (d : ℕ) → member d ≡ true → room (home d) + 256 ≤ size d
  pub no_top : room 0 ≡ 0
  pub rings : (d place : ℕ) → member d ≡ true → place < 128 → IsBlank (sectors d (place_at (size d) place)) pool (guid d)
