-- How a pool may lose a device in a run.
use Rattle.std.specs.Prelude.{◌≡◌, ◌⊎◌, ℕ, List, [], ◌∷◌, Some}
use Rattle.bank_core.specs.Disk.{Call, Write, Noted}
use Rattle.txg_history.specs.Pools.{Pool}
use Rattle.txg_history.specs.Survival.{IsAmong}
use Rattle.pool_moves.specs.AwayRows.{leaf_named}
use Rattle.pool_moves.specs.Leaves.{LeafSeen}
use Rattle.pool_moves.specs.StampRow.{CreateReply}
use Rattle.pool_runs.specs.Acts.{calls_along}
use Rattle.pool_moves.specs.States.{PoolState}
use Rattle.pool_moves.specs.TreeRows.{Graft, new_number, GraftReply, Grafted, DeviceFault, Detached}
use Rattle.pool_runs.specs.Creating.{all_names}
use Rattle.pool_runs.specs.Devices.{number_in}
use Rattle.pool_runs.specs.Hosts.{Host, named}
use Rattle.pool_runs.specs.Lines.{Asks_graft, Asks_detach, Asks_create, To_graft, To_detach, To_create, Entry}

-- one of these calls is a write to the device
abbrev pub IsWriteTo : (d : ℕ) → Call → Type 0
IsWriteTo d (Write dev at bytes fault) = dev ≡ d
IsWriteTo d call = ⊥

abbrev pub HasWriteTo : (d : ℕ) → List Noted → Type 0
HasWriteTo d [] = ⊥
HasWriteTo d (noted ∷ made) = IsWriteTo d noted.call ⊎ HasWriteTo d made

-- The line is a create that names this device, and it wasn't refused: a pool was made, or a device failed in it. And it wrote to the device.
pub record IsCreatedOn (h : Host) (e : Entry) (d : ℕ) : Type 0 where
  pub name : List ℕ
  pub blocks : ℕ
  pub tops : List (List (List ℕ))
  pub asked : e.asked ≡ Asks_create name blocks tops
  pub device : List ℕ
  pub is_named : IsAmong device (all_names tops)
  pub number : number_in device h.table ≡ Some d
  pub answer : CreateReply
  pub reply : e.reply ≡ To_create answer
  pub wrote : HasWriteTo d (calls_along e.acts)

-- The line is an attach or a replace that wasn't refused. It names this device as the new leaf's, and made a write call to it; or it is of this very pool,
-- the new leaf came in, and it gets the member number that the device has there, which no record that was found knew.
pub record IsGraftedOn (p : Pool) (h : Host) (e : Entry) (d : ℕ) : Type 0 where
  pub graft : Graft
  pub name : List ℕ
  pub leaf : List ℕ
  pub new : List ℕ
  pub asked : e.asked ≡ Asks_graft graft name leaf new
  pub s : PoolState
  pub is_open : named name h.pools ≡ Some s
  pub answer : GraftReply
  pub reply : e.reply ≡ To_graft answer
  pub begun : (answer ≡ Grafted) ⊎ (answer ≡ DeviceFault)
  pub why : ((number_in new h.table ≡ Some d) × HasWriteTo d (calls_along e.acts)) ⊎ ((answer ≡ Grafted) × (s.core.pool.0 ≡ p.pool.0) × (p.guid d ≡ new_number graft s))

-- The line is a detach of this very pool, of the leaf on this device, and the pool was committed without it. And it wrote to the device.
pub record IsDetachedFrom (p : Pool) (h : Host) (e : Entry) (d : ℕ) : Type 0 where
  pub name : List ℕ
  pub leaf : List ℕ
  pub asked : e.asked ≡ Asks_detach name leaf
  pub s : PoolState
  pub is_open : named name h.pools ≡ Some s
  pub ours : s.core.pool.0 ≡ p.pool.0
  pub at : LeafSeen
  pub is_named : leaf_named leaf s.core.leaves ≡ Some at
  pub dev : at.dev ≡ Some d
  pub number : ℕ
  pub reply : e.reply ≡ To_detach (Detached number)
  pub wrote : HasWriteTo d (calls_along e.acts)

-- This very line may have taken the device from the pool.
abbrev pub IsTakenBy : Pool → Host → Entry → (d : ℕ) → Type 0
IsTakenBy p h e d = IsCreatedOn h e d ⊎ (IsGraftedOn p h e d ⊎ IsDetachedFrom p h e d)
