-- The past of a pool, over any number of runs.
use Rattle.std.specs.Prelude.{◌≡◌, ◌⊎◌, ℕ, ◌≤◌, ◌==◌, ◌||◌, nat_le, Bool, true, false, cond, List, [], ◌∷◌, Some, None}
use Rattle.bank_core.specs.Disk.{Sector, Sectors, Nothing, IsImage, after_crash}
use Rattle.txg_history.specs.Events.{Event, Freezes, Begins, Stops}
use Rattle.txg_history.specs.Moves.{May, AreUnforged}
use Rattle.txg_history.specs.Numbering.{renumbered}
use Rattle.txg_history.specs.Pages.{Codec}
use Rattle.txg_history.specs.Pools.{Pool, after}
use Rattle.txg_history.specs.Records.{Rec, block_at, nothing}
use Rattle.txg_history.specs.Stamps.{AreStamped}
use Rattle.pool_runs.specs.Acts.{Birth, born}
use Rattle.pool_runs.specs.Devices.{number_in, size_in}
use Rattle.pool_moves.specs.States.{PoolState}
use Rattle.pool_runs.specs.Hosts.{Host, IsOpen}
use Rattle.pool_runs.specs.Knowing.{HasSeats, HasRoster}

-- How a pool came to be as it is: it began behind its stamps, an event came behind others, or a further run has the same devices under other
-- numbers: device d is the one that was `was d`, and is called `called d`.
pub data Past : Type 0 where
  Born : (birth : Birth) (sectors : Sectors) → Past
  Then : (past : Past) (v : Event) → Past
  Numbered : (past : Past) (was : ℕ → ℕ) (called : ℕ → List ℕ) → Past

-- the pool as its past leaves it
abbrev pub pool_of : Past → Pool
pool_of (Born birth sectors) = born birth sectors
pool_of (Then past v) = after v (pool_of past)
pool_of (Numbered past was called) = renumbered was (pool_of past)

-- what its devices are called
abbrev pub called_in : Past → ℕ → List ℕ
called_in (Born birth sectors) = birth.called
called_in (Then past v) = called_in past
called_in (Numbered past was called) = called

-- each member's device has one number: the one that it is given now
abbrev pub KeepsNumbers : Pool → (was : ℕ → ℕ) → Type 0
KeepsNumbers p was = (now : ℕ → ℕ) × ((d : ℕ) → p.member (was d) ≡ true → now (was d) ≡ d)

-- Each of its events was one that a pool may have, it began behind whole stamps, and each member keeps its name.
abbrev pub IsAllowed : Codec → Past → Type 0
IsAllowed c (Born birth sectors) = AreStamped birth.pool birth.member birth.guid birth.size birth.room birth.home sectors × HasRoster (born birth sectors)
IsAllowed c (Then past v) = IsAllowed c past × May c (pool_of past) v
IsAllowed c (Numbered past was called) = IsAllowed c past × KeepsNumbers (pool_of past) was × ((d : ℕ) → (pool_of past).member (was d) ≡ true → called d ≡ called_in past (was d))

-- more events behind it
abbrev pub then_all : Past → List Event → Past
then_all past [] = past
then_all past (v ∷ vs) = then_all (Then past v) vs

-- The host is as the past leaves it: each device that the run has, in its size and its sectors, and under its name, and, where the pool is open, what
-- its code has in memory.
pub record Left (c : Codec) (past : Past) (h : Host) : Type 0 where
  pub allowed : IsAllowed c past
  pub names : (name : List ℕ) (d : ℕ) → number_in name h.table ≡ Some d → called_in past d ≡ name
  pub sizes : (d : ℕ) → 1 ≤ size_in h.table d → (pool_of past).size d ≡ size_in h.table d
  pub disk : (d s : ℕ) → 1 ≤ size_in h.table d → (pool_of past).sectors d s ≡ h.disk d s
  pub stands : (s : PoolState) → IsOpen s h.pools → s.core.pool.0 ≡ (pool_of past).pool.0 → HasSeats c s (pool_of past)

-- A run begins with a host whose devices are as the past leaves them. No pool is open, nothing is known yet of whose a device is, and no
-- scan runs.
pub record BeginsRun (c : Codec) (past : Past) (h : Host) : Type 0 where
  pub left : Left c past h
  pub closed : h.pools ≡ []
  pub unknown : (d : ℕ) → h.owner d ≡ None
  pub at_rest : (pool_of past).scan.running ≡ false

-- A sector that shows these bytes behind a stop: nothing is on the way, and what was damaged still is.
pub record IsFoundAs (x : Sector) (bytes : List ℕ) (damaged : Bool) : Type 0 where
  pub stable : x.stable ≡ bytes
  pub still : x.pending ≡ Nothing
  pub damage : damaged ≡ true → x.damaged ≡ true

-- What the next run finds behind a stop, where it has the pool's devices under these numbers already: of each member the stop left these
-- images, any that a crash may leave, and no ring sector is forged; and each member that the run has shows its image. Of other devices
-- nothing is said, and a member may be missing.
pub record IsNext (p : Pool) (images : ℕ → ℕ → List ℕ) (h : Host) : Type 0 where
  pub crash : (d : ℕ) → p.member d ≡ true → IsImage (p.sectors d) (images d)
  pub unforged : AreUnforged p images
  pub disk : (d s : ℕ) → p.member d ≡ true → 1 ≤ size_in h.table d → IsFoundAs (h.disk d s) (images d s) (p.sectors d s).damaged
  pub closed : h.pools ≡ []
  pub unknown : (d : ℕ) → h.owner d ≡ None

-- Each member's device has one number, and keeps its name, and each device that the run has is called by its name.
pub record AreNamed (past : Past) (was : ℕ → ℕ) (called : ℕ → List ℕ) (h : Host) : Type 0 where
  pub numbers : KeepsNumbers (pool_of past) was
  pub kept : (d : ℕ) → (pool_of past).member (was d) ≡ true → called d ≡ called_in past (was d)
  pub here : (name : List ℕ) (d : ℕ) → number_in name h.table ≡ Some d → called d ≡ name

-- The number that a device had, where the run lacks it or has it in its size. One that has another size isn't the pool's any more: it gets the
-- number of a device that is no member.
abbrev pub in_size : Past → (was : ℕ → ℕ) → (other : ℕ) → Host → ℕ → ℕ
in_size past was other h d = cond ((size_in h.table d == 0) || ((pool_of past).size (was d) == size_in h.table d)) (was d) other

-- the devices that the run has as it finds them, the others as the stop left them
abbrev pub met : Pool → (images : ℕ → ℕ → List ℕ) → Host → Sectors
met p images h d s = cond (nat_le 1 (size_in h.table d)) (h.disk d s) (after_crash p.sectors images d s)

-- the past behind a stop, as the next run finds it: with these devices under these names
abbrev pub next_past : Past → (was : ℕ → ℕ) → (called : ℕ → List ℕ) → (images : ℕ → ℕ → List ℕ) → Host → Past
next_past past was called images h = Then (Numbered past was called) (Stops (met (renumbered was (pool_of past)) images h) (size_in h.table))

-- the first is a front of the second
abbrev pub IsFront : Past → Past → Type 0
IsFront early (Born birth sectors) = early ≡ Born birth sectors
IsFront early (Then past v) = (early ≡ Then past v) ⊎ IsFront early past
IsFront early (Numbered past was called) = (early ≡ Numbered past was called) ⊎ IsFront early past

-- what a read answered at the last freeze of this past: at a freeze by the pool before it, else by what came before
abbrev pub frozen_by : Event → Pool → (content : ℕ → List ℕ) → (before : Type 0) → Type 0
frozen_by (Freezes cells board) p content before = (a : ℕ) → content a ≡ p.written a
frozen_by v p content before = before

abbrev pub WasFrozen : (content : ℕ → List ℕ) → Past → Type 0
WasFrozen content (Born birth sectors) = ⊥
WasFrozen content (Then past v) = frozen_by v (pool_of past) content (WasFrozen content past)
WasFrozen content (Numbered past was called) = WasFrozen content past

-- A record's blocks are what a read answered at the last freeze before its round: the writes accepted until then. Else it is what the pool read
-- before its first commit: number 0, and nothing anywhere.
abbrev pub HasFrozen : Past → Rec → Type 0
HasFrozen past r = (r ≡ nothing (pool_of past).pool)
    ⊎ ((mid : Past) × IsFront (Then mid (Begins r)) past × WasFrozen (block_at r) mid)
