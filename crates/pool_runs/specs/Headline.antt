-- The headline: what a run is to a pool that the devices had when it began, or that it made.
use Rattle.std.specs.Prelude.{◌≡◌, ◌⊎◌, ℕ, Bool, true, false, List, [], ◌∷◌, ◌++◌, Some, take}
use Rattle.bank_core.specs.Calls.{AllCaused}
use Rattle.txg_history.specs.Copies.{IsCopiedGroup, MayTakeGroup}
use Rattle.txg_history.specs.Events.{Event, Clears, calls_of}
use Rattle.txg_history.specs.Pages.{Codec}
use Rattle.txg_history.specs.Pools.{Pool, pool_after}
use Rattle.txg_history.specs.Records.{Rec, IsIn}
use Rattle.txg_history.specs.Sound.{IsSound}
use Rattle.pool_moves.specs.AwayRows.{Required, LeastOut, is_offline, is_spare, leaf_named, siblings}
use Rattle.pool_moves.specs.Leaves.{LeafSeen}
use Rattle.pool_moves.specs.States.{PoolState}
use Rattle.pool_runs.specs.Acts.{Act, calls_along, history}
use Rattle.pool_runs.specs.Committing.{Acknowledges, FindsPool}
use Rattle.pool_moves.specs.TreeRows.{Required as DetachRequired}
use Rattle.pool_runs.specs.Counting.{IsCounted}
use Rattle.pool_runs.specs.Fairness.{AreFair, AreFairLooks}
use Rattle.pool_runs.specs.HostRows.{acts_in}
use Rattle.pool_runs.specs.Hosts.{Host}
use Rattle.pool_runs.specs.Lines.{Asks_read, Asks_offline, Asks_import, Reply, To_offline, No_memory, Entry, Asks_detach, To_detach}
use Rattle.pool_runs.specs.Moments.{Moment, events_at, pool_at, past_at, host_at, LineOf, pool_before, pool_behind, host_before, calls_in_line, IsOpenAs, host_after}
use Rattle.pool_runs.specs.Pasts.{Past, pool_of, Left, HasFrozen}
use Rattle.pool_runs.specs.Taking.{IsTakenBy}
use Rattle.pool_runs.specs.Writing.{KeepsWrites, ReadsWritten}

-- Behind so many of the run's device calls there is a moment.
pub record HasMoment (acts : List Act) (entries : List Entry) (k : ℕ) : Type 0 where
  pub count : ℕ
  pub so_far : calls_along (take count (acts ++ acts_in entries)) ≡ take k (calls_along (acts ++ acts_in entries))

-- Behind each device call of a run there is a moment, the same for each pool, and at each moment the pool's history has just the calls so far.
pub record HasMoments (past : Past) (acts : List Act) (entries : List Entry) : Type 0 where
  pub each : (k : ℕ) → HasMoment acts entries k
  pub told : (i : ℕ) → calls_of (history (take i (acts ++ acts_in entries)) (pool_of past)) ≡ calls_along (take i (acts ++ acts_in entries))

-- The last of these events takes a group from the log of the leaf on this device: a scan's end, which copied it, the end of a suspended group that had
-- the number, an opening, which takes the log of the record that it found, or another leaf in the leaf's place.
abbrev pub TakesFor : Pool → (before : List Event) → Event → (d g : ℕ) → Type 0
TakesFor p before (Clears e) d g = (e ≡ d) × IsCopiedGroup p before d g
TakesFor p before v d g = MayTakeGroup (pool_after before p) v d g

-- The reply is that the leaf is required for this group, just where it is the least that could be read from no other leaf of its top; or there was
-- no memory.
pub record IsRequiredFor (leaf : LeafSeen) (leaves : List LeafSeen) (group : ℕ) (reply needed : Reply) : Type 0 where
  pub only : reply ≡ needed → LeastOut (siblings leaf leaves) group
  pub always : LeastOut (siblings leaf leaves) group → (reply ≡ needed) ⊎ (reply ≡ No_memory)

-- So it is of an offline of a leaf that isn't OFFLINE, nor a spare that stands in, and of a detach while no group is frozen.
pub record IsRequiredRight (e : Entry) (name device : List ℕ) (s : PoolState) (leaf : LeafSeen) (group : ℕ) : Type 0 where
  pub away : (temporary : Bool) → e.asked ≡ Asks_offline name device temporary → is_spare s leaf ≡ false → is_offline leaf.own.mode ≡ false
      → IsRequiredFor leaf s.core.leaves group e.reply (To_offline (Required group))
  pub out : e.asked ≡ Asks_detach name device → s.core.group.frozen ≡ false → IsRequiredFor leaf s.core.leaves group e.reply (To_detach (DetachRequired group))

pub record Headline (c : Codec) (past : Past) (h : Host) (acts : List Act) (entries : List Entry) : Type 0 where
  -- behind each device call of the run there is a moment, and the pool's history has just the calls so far
  pub moments : HasMoments past acts entries
  -- at each moment the host is as the pool's past leaves it, the devices and what the open pool's code has in memory: a further run may begin from there
  pub left : (m : Moment c past acts entries) → Left c (past_at m) (host_at h m)
  -- at each moment the pool is sound
  pub sound : (m : Moment c past acts entries) → IsSound (pool_at m)
  -- and each record that an opening may find has the writes that were accepted before a freeze, the last before its round
  pub contents : (m : Moment c past acts entries) (r : Rec) → IsIn r (pool_at m).live → HasFrozen (past_at m) r
  -- an import of its name finds a live record, not below the acknowledged one, and opens it above, or tells a page of it that has no good leaf, or is
  -- refused by its cause
  pub opens : (l : LineOf c past acts entries) → l.entry.asked ≡ Asks_import (pool_before l).name → AreFair c (pool_before l) l.entry.acts
      → AreFairLooks c (pool_before l) l.entry.acts
      → FindsPool c (host_before h l) (pool_before l) (pool_behind l) (host_after h l) l.entry.acts l.entry.reply
  -- a sync, a turn or a detach that answers a number acknowledged that record; a sync's and a detach's has each block as it was written last, and a turn's
  -- as it was before the group was frozen; and a sync that freezes none, or tells a later group as suspended, acknowledged the group that was frozen before
  pub commits : (l : LineOf c past acts entries) → Acknowledges (host_before h l) (pool_before l) (pool_behind l) l.entry
  -- a write that is taken puts its block where it says, and nothing else changes what was written last but an import, which leaves the blocks of the record
  -- that it reads
  pub writes : (l : LineOf c past acts entries) → KeepsWrites c (host_before h l) (pool_before l) (pool_behind l) l.entry
  -- a read gives the block that was written last, up to a clash, and none only where each readable leaf of the block's top missed it in this line
  pub reads : (l : LineOf c past acts entries) (name : List ℕ) (a : ℕ) (s : PoolState) → l.entry.asked ≡ Asks_read name a
      → IsOpenAs (pool_before l) (host_before h l) name s → ReadsWritten (pool_before l) s a (calls_in_line l) l.entry.reply
  -- a leaf is required just where the outage rule says so
  pub required : (l : LineOf c past acts entries) (name device : List ℕ) (s : PoolState) (leaf : LeafSeen) (group : ℕ)
      → IsOpenAs (pool_before l) (host_before h l) name s → leaf_named device s.core.leaves ≡ Some leaf → IsRequiredRight l.entry name device s leaf group
  -- scans clear only copied groups, and else a group leaves a log only where its number is burned, at an opening, or with its leaf
  pub scans : (m : Moment c past acts entries) (before : List Event) (v : Event) (d g : ℕ) → events_at m ≡ before ++ (v ∷ []) → (pool_after before (pool_of past)).member d ≡ true
      → (pool_after before (pool_of past)).owes d g ≡ true → (pool_at m).owes d g ≡ false → TakesFor (pool_of past) before v d g
  -- a member stays one, unless this very line wasn't refused, and makes a pool or brings in a leaf on its device, or takes its leaf out
  pub keeps : (l : LineOf c past acts entries) (d : ℕ) → (pool_before l).member d ≡ true
      → ((pool_behind l).member d ≡ true) ⊎ IsTakenBy (pool_before l) (host_before h l) l.entry d
  -- a line is suspended or undone for a top, or told a device that failed, only where the count of this device rose in that very line, or of the
  -- device of each leaf of the top that was on its board
  pub counts : (l : LineOf c past acts entries) (from to : ℕ → ℕ) → AllCaused (calls_in_line l) from to → IsCounted c (pool_before l) (host_before h l) l.entry from to
