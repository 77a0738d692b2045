-- How lines end by the counts of failed calls.
use Rattle.std.specs.Prelude.{◌≡◌, ◌⊎◌, ℕ, ◌<◌, ◌==◌, Bool, true, false, List, ◌∷◌, ◌++◌, Some}
use Rattle.std.specs.List.{list_any, AllByRecursion, remove}
use Rattle.mp_base.specs.declared.number.Guid.{Guid}
use Rattle.mp_base.specs.Outside.{Rose}
use Rattle.bank_core.specs.Calls.{AllCaused}
use Rattle.pool_moves.specs.Boards.{is_on, emptied}
use Rattle.pool_moves.specs.Leaves.{LeafSeen}
use Rattle.pool_moves.specs.LineRows.{TurnReply, Suspended, SyncReply, Ended}
use Rattle.pool_moves.specs.FreezeRow.{is_dev}
use Rattle.pool_moves.specs.Opened.{opened_leaves}
use Rattle.pool_moves.specs.Refusing.{is_writable, is_writable_under}
use Rattle.pool_moves.specs.StampRow.{FaultOn}
use Rattle.pool_moves.specs.States.{PoolState}
use Rattle.txg_history.specs.Pages.{Codec}
use Rattle.txg_history.specs.Survival.{IsAmong}
use Rattle.txg_history.specs.Pools.{Pool}
use Rattle.pool_runs.specs.Acts.{Act, Opening, Enters, calls_along, pool_along}
use Rattle.pool_runs.specs.Committing.{opening_in}
use Rattle.pool_runs.specs.Creating.{all_names}
use Rattle.pool_runs.specs.Devices.{number_in}
use Rattle.pool_moves.specs.TreeRows.{Graft, place_named, DeviceFault, Undone}
use Rattle.pool_runs.specs.Hosts.{Host, named}
use Rattle.pool_runs.specs.Moments.{IsOpenAs}
use Rattle.pool_runs.specs.Lines.{Asks_turn, Asks_sync, Asks_graft, Asks_detach, Asks_import, Asks_create, Reply, To_turn, To_sync, To_graft, To_detach, To_import, To_create, Unopened, Entry}

-- the pool has a leaf on this device
abbrev pub has_leaf_at : (d : ℕ) → PoolState → Bool
has_leaf_at d s = list_any (λ leaf. is_dev d leaf.dev) s.core.leaves

-- the count of this device rose, and that of one of these
abbrev pub HasRisen : (before after : ℕ → ℕ) → (d : ℕ) → Type 0
HasRisen before after d = Rose (before d) (after d)

abbrev pub RoseAt : (own : ℕ → Bool) → (before after : ℕ → ℕ) → Type 0
RoseAt own before after = (d : ℕ) × (own d ≡ true) × HasRisen before after d

-- a group is frozen, and a top has nobody left on its board
pub record HasLostBoard (s : PoolState) : Type 0 where
  pub frozen : s.core.group.frozen ≡ true
  pub top : ℕ
  pub none : emptied s.core.leaves ≡ Some top

-- the leaf is one of this top
abbrev pub is_under : (top : ℕ) → LeafSeen → Bool
is_under top leaf = leaf.top == top

-- where it is one of this top and so, this comes to its device
abbrev pub IsLostBy : (which : LeafSeen → Bool) → (Fails : ℕ → Type 0) → (top : ℕ) → LeafSeen → Type 0
IsLostBy which Fails top leaf = leaf.top ≡ top → which leaf ≡ true → (d : ℕ) × (leaf.dev ≡ Some d) × Fails d

-- The top of this member number is lost: some of these leaves are its own, and this comes to the device of each of
-- its own that is so.
pub record LosesTop (which : LeafSeen → Bool) (leaves : List LeafSeen) (number : ℕ → Guid) (Fails : ℕ → Type 0)
    (top : Guid) : Type 0 where
  pub at : ℕ
  pub number_is : number at ≡ top
  pub some : list_any (is_under at) leaves ≡ true
  pub lost : AllByRecursion (IsLostBy which Fails at) leaves

-- The frozen group, of this number, is suspended for this top: each of the top's leaves that were on the board is lost.
pub record LosesBoard (s : PoolState) (Fails : ℕ → Type 0) (group : ℕ) (top : Guid) : Type 0 where
  pub frozen : s.core.group.frozen ≡ true
  pub first_is : s.core.group.first ≡ group
  pub lost : LosesTop is_on s.core.leaves s.own.top_number Fails top

-- A later group, which was frozen over these leaves, is suspended for this top: each of the top's leaves that could
-- be written is lost, and there was one. Just these are on the board behind a freeze.
pub record LosesFreeze (s : PoolState) (leaves : List LeafSeen) (Fails : ℕ → Type 0) (group : ℕ)
    (top : Guid) : Type 0 where
  pub later : s.core.number < group
  pub lost : LosesTop is_writable leaves s.own.top_number Fails top
  pub one : list_any (is_writable_under lost.at) leaves ≡ true

-- Counts at a moment within a line: the acts before it took them there, and those behind it to the line's end.
pub record IsMidway (acts : List Act) (from mid to : ℕ → ℕ) : Type 0 where
  pub before : List Act
  pub behind : List Act
  pub all : acts ≡ before ++ behind
  pub came : AllCaused (calls_along before) from mid
  pub comes : AllCaused (calls_along behind) mid to

-- The line froze the group that was suspended, behind a moment at which the pool had none: each count rose since then.
pub record LosesSince (p : Pool) (s : PoolState) (e : Entry) (from to : ℕ → ℕ) (group : ℕ) (top : Guid) : Type 0 where
  pub mid : ℕ → ℕ
  pub at : IsMidway e.acts from mid to
  pub idle : (pool_along at.before p).group.frozen ≡ false
  pub lost : LosesFreeze s s.core.leaves (HasRisen mid to) group top

-- a group was suspended
abbrev pub IsSuspended : TurnReply → Type 0
IsSuspended (Suspended group top faults) = Unit {0}
IsSuspended reply = ⊥

abbrev pub SuspendsSync : SyncReply → Type 0
SuspendsSync (Ended turn) = IsSuspended turn
SuspendsSync reply = ⊥

abbrev pub Suspends : Reply → Type 0
Suspends (To_turn turn) = IsSuspended turn
Suspends (To_sync reply) = SuspendsSync reply
Suspends reply = ⊥

-- An opening was suspended for this top, once its record was read and its pool was there: each leaf of the top that
-- was found and is readable is lost, its count rose since then. So a top that lacks readable leaves is lost.
pub record FailsOpening (c : Codec) (acts : List Act) (from to : ℕ → ℕ) (top : Guid) : Type 0 where
  pub opening : Opening
  pub reads : opening_in acts ≡ Some opening
  pub mid : ℕ → ℕ
  pub at : IsMidway acts from mid to
  pub pool : PoolState
  pub rest : List Act
  pub enters : at.behind ≡ Enters pool ∷ rest
  pub lost : LosesTop is_writable (opened_leaves (c.leaves opening.found.blob.items) opening.devs)
      (c.top_number opening.found.blob.items) (HasRisen mid to) top

-- A device that a create names under this name failed: its count rose.
pub record FailsNamed (h : Host) (tops : List (List (List ℕ))) (name : List ℕ) (from to : ℕ → ℕ) : Type 0 where
  pub d : ℕ
  pub is_named : IsAmong name (all_names tops)
  pub number : number_in name h.table ≡ Some d
  pub rose : HasRisen from to d

-- What a line's counts tell of its refusals, where they went from these to those.
pub record IsCounted (c : Codec) (p : Pool) (h : Host) (e : Entry) (from to : ℕ → ℕ) : Type 0 where
  -- a turn or a sync of any open pool is suspended only where some leaf's count rose, or some top had nobody left on
  -- its board before
  pub turns : (name : List ℕ) (s : PoolState) → (e.asked ≡ Asks_turn name) ⊎ (e.asked ≡ Asks_sync name)
      → named name h.pools ≡ Some s → Suspends e.reply → RoseAt (λ d. has_leaf_at d s) from to ⊎ HasLostBoard s
  -- a turn tells a top only where the count of each of its leaves rose that was on the board
  pub tops : (name : List ℕ) (s : PoolState) (group : ℕ) (top : Guid) (faults : ℕ) → e.asked ≡ Asks_turn name
      → named name h.pools ≡ Some s → e.reply ≡ To_turn (Suspended group top faults)
      → LosesBoard s (HasRisen from to) group top
  -- So does a sync of this pool that tells the group which was frozen before it. One that tells a group of its own
  -- does so only where the count of each leaf rose that could be written, and this behind the end of the group that was
  -- frozen before it, if there was one: a leaf that failed in that one failed again.
  pub syncs : (name : List ℕ) (s : PoolState) (group : ℕ) (top : Guid) (faults : ℕ) → e.asked ≡ Asks_sync name
      → IsOpenAs p h name s → e.reply ≡ To_sync (Ended (Suspended group top faults))
      → LosesBoard s (HasRisen from to) group top ⊎ LosesSince p s e from to group top
  -- a detach is undone only so, but for the leaf that was to go
  pub detaches : (name leaf : List ℕ) (s : PoolState) (group : ℕ) (top : Guid) (faults : ℕ)
      → e.asked ≡ Asks_detach name leaf → named name h.pools ≡ Some s → e.reply ≡ To_detach (Undone group top faults)
      → LosesFreeze s (remove s.core.leaves (place_named leaf s.core.leaves)) (HasRisen from to) group top
  -- an attach or a replace tells a device that failed only where the new one's count rose
  pub grafts : (graft : Graft) (name leaf new : List ℕ) → e.asked ≡ Asks_graft graft name leaf new
      → e.reply ≡ To_graft DeviceFault → (d : ℕ) × (number_in new h.table ≡ Some d) × HasRisen from to d
  -- an import tells a top only where the count of each of its leaves rose that was found and is readable, and this
  -- behind the reading of its record
  pub imports : (name : List ℕ) (group : ℕ) (top : Guid) (faults : ℕ) → e.asked ≡ Asks_import name
      → e.reply ≡ To_import (Unopened group top faults) → FailsOpening c e.acts from to top
  -- a create tells a device that failed only where this very one's count rose
  pub creates : (name : List ℕ) (blocks : ℕ) (tops : List (List (List ℕ))) (device : List ℕ)
      → e.asked ≡ Asks_create name blocks tops → e.reply ≡ To_create (FaultOn device) → FailsNamed h tops device from to
