-- What a run does to the pools that its devices had left.
use Rattle.std.specs.Prelude.{◌≡◌, ◌⊎◌, ℕ, ◌<◌, true, false, List, [], ◌∷◌, ◌++◌, Some, None}
use Rattle.mp_base.specs.declared.number.Group.{Group}
use Rattle.mp_base.specs.declared.number.Guid.{Guid}
use Rattle.mp_base.specs.declared.refusal.Refusal.TheVariants as refusals
use Rattle.bank_core.specs.Calls.{AllCaused}
use Rattle.bank_core.specs.Disk.{Noted, Sectors, run}
use Rattle.pool_wire.specs.declared.reply.NamedLeaf.{NamedLeaf}
use Rattle.pool_wire.specs.declared.reply.Reply.TheVariants as replies
use Rattle.pool_wire.specs.declared.request.Request.TheVariants as requests
use Rattle.pool_history.specs.Events.{Event, as_events}
use Rattle.pool_history.specs.Looks.{known_by}
use Rattle.pool_history.specs.Pools.{Pool, pool_after}
use Rattle.pool_history.specs.Premises.{Premises, AreGood}
use Rattle.pool_history.specs.Survival.{Survives}
use Rattle.pool_core.specs.Heads.{head_of}
use Rattle.pool_core.specs.State.{PoolState, is_spent}
use Rattle.host_machine.specs.Answering.{IsLost, HasClash, IsExcused, SomeRose, SuspendsByCounts, CommitsByCounts, CreatesByCounts, OnlinesByCounts}
use Rattle.host_machine.specs.Births.{IsBorn, StampFails, LeavesPool, LeavesThroughout, new_pool}
use Rattle.host_machine.specs.Devices.{all_handed, number_in}
use Rattle.host_machine.specs.Machine.{HostState, Entry, is_bad_size, new_seats, new_state, IsCreate, IsImport, Step, Replay, named_pool}
use Rattle.host_machine.specs.Tracking.{Cost, Takes, Tracks, Follows, FindsPool, HasNoTwins, is_ours}

-- what the lines of a run cost the pool of this name
abbrev pub TakesIn : (own : List ℕ) (h : HostState) (entries : List Entry) (calls : List Noted) (next : HostState) → Replay h entries calls next → Cost → Type 0
TakesIn own h [] calls next replay cost = ⊥
TakesIn own h (entry ∷ entries) calls next replay cost = Takes own h entry.asked replay.0 cost ⊎ TakesIn own replay.2 entries replay.1 next replay.5 cost

-- What a run's calls do to a pool that its devices have left: they are moves of its history, which stands
-- in the host behind them; it loses no device but one that a line takes; and at each moment of the run the
-- devices are left by the history so far. It is so where no two blocks of the records have one sum, and where
-- the premises hold at each opening.
pub record KeepsPool (first : Pool) (past : List Event) (h : HostState) (sectors : Sectors) (IsTaken : Cost → Type 0) (calls : List Noted) (next : HostState) : Type 0 where
  pub follows : Follows (pool_after past first) h IsTaken calls next
  pub leaves : HasNoTwins next.records → AreGood head_of (pool_after past first) follows.vs → LeavesThroughout first past h.size sectors follows.vs calls
  pub tracks : HasNoTwins next.records → AreGood head_of (pool_after past first) follows.vs → Tracks (pool_after follows.vs (pool_after past first)) next

-- An entry among a history's: the host before it, its own calls, and the host behind it.
pub record IsEntryOf (h : HostState) (before : List Entry) (entry : Entry) (after : List Entry) (calls : List Noted) (next : HostState) : Type 0 where
  pub first : List Noted
  pub made : List Noted
  pub rest : List Noted
  pub old : HostState
  pub new : HostState
  pub all : calls ≡ first ++ (made ++ rest)
  pub replay : Replay h before first old
  pub step : Step old entry made new
  pub later : Replay new after rest next

-- What a line answers of a pool that stands in the host before it. An opening of the pool finds it, where the
-- premises hold. A read of it while it is open gives the block last written, unless every leaf missed it; and it is
-- refused as exhausted only then.
pub record AnswersOf (p : Pool) (h : HostState) (entry : Entry) (made : List Noted) (next : HostState) : Type 0 where
  pub finds : (i : IsImport h p.name made next entry.reply) → h.pool ≡ None
      → Premises head_of (pool_after (as_events i.reads) p) (known_by h.size (all_handed h.table) i.looks) → FindsPool p entry.reply next
  pub reads : (name : List ℕ) (s : PoolState) (a : ℕ) → entry.asked ≡ Some (requests.Read name a) → named_pool name h.pool ≡ Some s → is_ours p s ≡ true → a < s.blocks
      → (entry.reply ≡ replies.Data (p.written a)) ⊎ (IsLost p s a made ⊎ IsExcused h entry made)
  pub refuses : (name : List ℕ) (s : PoolState) (a level index : ℕ) (named : List NamedLeaf) → entry.asked ≡ Some (requests.Read name a) → named_pool name h.pool ≡ Some s
      → is_ours p s ≡ true → entry.reply ≡ replies.Exhausted level index named → IsLost p s a made ⊎ HasClash h entry made

-- The pool as an entry of a run meets it: behind the history that its devices had left come the events of the
-- lines before. It survives and stands in the host there, and this is what the line answers of it.
pub record MeetsPool (first : Pool) (past : List Event) (h : HostState) (before : List Entry) (entry : Entry) (after : List Entry) (calls : List Noted) (next : HostState)
    (at : IsEntryOf h before entry after calls next) : Type 0 where
  pub follows : Follows (pool_after past first) h (TakesIn first.name h before at.first at.old at.replay) at.first at.old
  pub survives : HasNoTwins next.records → AreGood head_of (pool_after past first) follows.vs → Survives head_of (pool_after follows.vs (pool_after past first))
  pub tracks : HasNoTwins next.records → AreGood head_of (pool_after past first) follows.vs → Tracks (pool_after follows.vs (pool_after past first)) at.old
  pub answers : HasNoTwins next.records → AreGood head_of (pool_after past first) follows.vs
      → AnswersOf (pool_after follows.vs (pool_after past first)) at.old entry at.made at.new

-- A create with its devices found made these calls, and this is the rest of the run. Behind both stamps a pool
-- began that survives, and the calls from there to the run's end are of its history; or a stamp failed.
abbrev pub BeginsPool : (h : HostState) → PoolState → (seats : ℕ × ℕ) → Sectors → (made : List Noted) → (new : HostState) → (after : List Entry) → (rest : List Noted) → (next : HostState) → Replay new after rest next → Type 0
BeginsPool h s seats sectors made new after rest next later =
    ((b : IsBorn h.size s seats sectors made new) × Follows (new_pool h.size s seats (run b.stamps sectors)) b.between (TakesIn s.name new after rest next later) (b.rest ++ rest) next)
    ⊎ StampFails h.size s seats made

-- What a run does to each pool that its devices had left, it keeps it, and each of its entries meets it; and to
-- each pool that it makes.
pub record KeepsPools (h : HostState) (sectors : Sectors) (entries : List Entry) (calls : List Noted) (next : HostState) (replay : Replay h entries calls next) : Type 0 where
  pub each : (first : Pool) (past : List Event) → LeavesPool first past h.size sectors → Tracks (pool_after past first) h
      → KeepsPool first past h sectors (TakesIn first.name h entries calls next replay) calls next
  pub meets : (first : Pool) (past : List Event) → LeavesPool first past h.size sectors → Tracks (pool_after past first) h
      → (before : List Entry) (entry : Entry) (after : List Entry) → entries ≡ before ++ entry ∷ after
      → (at : IsEntryOf h before entry after calls next) × MeetsPool first past h before entry after calls next at
  pub births : (before : List Entry) (entry : Entry) (after : List Entry) → entries ≡ before ++ entry ∷ after → (at : IsEntryOf h before entry after calls next)
      → (name : List ℕ) (blocks : ℕ) (one other : List ℕ) (seats : ℕ × ℕ) → entry.asked ≡ Some (requests.Create name blocks one other) → is_bad_size blocks ≡ false
      → new_seats at.old blocks one other ≡ Some seats → IsCreate at.old entry.second name blocks one other at.made at.new entry.reply
      → BeginsPool at.old (new_state at.old entry.second name blocks one other seats) seats (run at.first sectors) at.made at.new after at.rest next at.later

-- How an entry of a run ended, by the counts of its own calls: a sync of the open pool with numbers left, a create
-- with its devices found, an opening that was suspended, and an `online` of a device that was found.
pub record EndsByCounts (h : HostState) (before : List Entry) (entry : Entry) (after : List Entry) (calls : List Noted) (next : HostState) (start end : ℕ → ℕ) : Type 0 where
  pub at : IsEntryOf h before entry after calls next
  pub from : ℕ → ℕ
  pub to : ℕ → ℕ
  pub earlier : AllCaused at.first start from
  pub caused : AllCaused at.made from to
  pub later : AllCaused at.rest to end
  pub syncs : (name : List ℕ) (s : PoolState) → entry.asked ≡ Some (requests.Sync name) → named_pool name at.old.pool ≡ Some s → is_spent s.number ≡ false
      → SuspendsByCounts s from to entry.reply × CommitsByCounts s from to entry.reply
  pub creates : (name : List ℕ) (blocks : ℕ) (one other : List ℕ) (seats : ℕ × ℕ) → entry.asked ≡ Some (requests.Create name blocks one other) → is_bad_size blocks ≡ false
      → new_seats at.old blocks one other ≡ Some seats → CreatesByCounts one other seats from to entry.reply
  pub imports : (name : List ℕ) (group : Group) (top : Guid) (faults : ℕ) → entry.asked ≡ Some (requests.Import name)
      → entry.reply ≡ replies.Refused (refusals.Suspended group top faults) → (faults ≡ 0) ⊎ SomeRose from to
  pub onlines : (name device : List ℕ) (dev : ℕ) → entry.asked ≡ Some (requests.Online name device) → number_in device at.old.table ≡ Some dev → OnlinesByCounts dev from to entry.reply

-- so each of them
pub record EndByCounts (h : HostState) (entries : List Entry) (calls : List Noted) (next : HostState) (start end : ℕ → ℕ) : Type 0 where
  pub each : (before : List Entry) (entry : Entry) (after : List Entry) → entries ≡ before ++ entry ∷ after → EndsByCounts h before entry after calls next start end
