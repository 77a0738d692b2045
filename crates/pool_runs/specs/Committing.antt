-- What an acknowledged sync or turn, and an opening, come to.
use Rattle.std.specs.Prelude.{◌≡◌, ◌≢◌, ℕ, ◌+◌, ◌<◌, ◌≤◌, true, List, [], ◌∷◌, length, Option, Some, None}
use Rattle.label_store.specs.Rounds.{config_of}
use Rattle.mp_base.specs.Block.{zero_block}
use Rattle.mp_base.specs.declared.number.Guid.{Guid}
use Rattle.mp_base.specs.declared.place.Key.{Key}
use Rattle.txg_history.specs.Pages.{Codec}
use Rattle.txg_history.specs.Pools.{Pool}
use Rattle.txg_history.specs.Records.{Rec, IsIn, number_of, block_at}
use Rattle.pool_moves.specs.LineRows.{Committed, Suspended, SyncReply, Ended}
use Rattle.pool_moves.specs.Opened.{opened_leaves}
use Rattle.pool_moves.specs.OpeningRow.{last_numbers, IsLostPage}
use Rattle.pool_moves.specs.PageReads.{LeafShown, answers_in}
use Rattle.pool_moves.specs.TreeRows.{Detached}
use Rattle.pool_runs.specs.Acts.{Act, Opening, Reads_as, calls_along}
use Rattle.pool_runs.specs.Lines.{Asks_turn, Asks_sync, Reply, To_turn, To_sync, To_import, Opened, NameOpen, TooManyPools, LastNumber, NothingFound, PageLost, Entry, Asks_detach, To_detach}
use Rattle.pool_moves.specs.States.{PoolState}
use Rattle.pool_runs.specs.Hosts.{Host, named}
use Rattle.pool_runs.specs.Moments.{IsOpenAs}

-- Behind a line record n is acknowledged, a later one than before, and it has each block as it was written last before the line.
pub record CommitsAll (before behind : Pool) (n : ℕ) : Type 0 where
  pub above : number_of before.acked < n
  pub acked : number_of behind.acked ≡ n
  pub blocks : (a : ℕ) → block_at behind.acked a ≡ before.written a

-- Behind a turn record n is acknowledged, and it has each block as it was written last before the group's freeze.
pub record CommitsGroup (before behind : Pool) (n : ℕ) : Type 0 where
  pub acked : number_of behind.acked ≡ n
  pub blocks : (a : ℕ) → block_at behind.acked a ≡ before.group.content a

-- A create that answers that the pool is made acknowledged record 1, in which each block is zeros, as it is read from now on, and the pool is open
-- under its name.
pub record FoundsPool (behind : Pool) (after : Host) (name : List ℕ) : Type 0 where
  pub acked : number_of behind.acked ≡ 1
  pub blocks : (a : ℕ) → block_at behind.acked a ≡ zero_block
  pub written : (a : ℕ) → behind.written a ≡ zero_block
  pub state : PoolState
  pub is_open : IsOpenAs behind after name state

-- a sync's own freeze was refused, or found no memory
abbrev pub FreezesNone : SyncReply → Type 0
FreezesNone (Ended turn) = ⊥
FreezesNone reply = Unit {0}

-- A sync, a turn or a detach of the open pool that answers a number acknowledged that record. And where a group was frozen, a sync whose own freeze
-- was refused, or found no memory, acknowledged the frozen one before; and so did one that tells another group than that as suspended.
pub record Acknowledges (h : Host) (before behind : Pool) (e : Entry) : Type 0 where
  pub syncs : (name : List ℕ) (s : PoolState) (n : ℕ) → e.asked ≡ Asks_sync name → IsOpenAs before h name s → e.reply ≡ To_sync (Ended (Committed n))
      → CommitsAll before behind n
  pub first : (name : List ℕ) (s : PoolState) (reply : SyncReply) → e.asked ≡ Asks_sync name → IsOpenAs before h name s → s.core.group.frozen ≡ true
      → FreezesNone reply → e.reply ≡ To_sync reply → (n : ℕ) × CommitsGroup before behind n
  pub second : (name : List ℕ) (s : PoolState) (group : ℕ) (top : Guid) (faults : ℕ) → e.asked ≡ Asks_sync name → IsOpenAs before h name s
      → s.core.group.frozen ≡ true → s.core.group.first ≢ group → e.reply ≡ To_sync (Ended (Suspended group top faults))
      → (n : ℕ) × CommitsGroup before behind n
  pub turns : (name : List ℕ) (s : PoolState) (n : ℕ) → e.asked ≡ Asks_turn name → IsOpenAs before h name s → e.reply ≡ To_turn (Committed n)
      → CommitsGroup before behind n
  pub detaches : (name leaf : List ℕ) (s : PoolState) (n : ℕ) → e.asked ≡ Asks_detach name leaf → IsOpenAs before h name s → e.reply ≡ To_detach (Detached n)
      → CommitsAll before behind n

-- An opening that answers n found a live record, not below the acknowledged one, and acknowledged its blocks again as record n, above it; and what
-- was written last is what the record found has.
pub record OpensLive (before behind : Pool) (n : ℕ) : Type 0 where
  pub r : Rec
  pub live : IsIn r before.live
  pub not_below : number_of before.acked ≤ number_of r
  pub above : number_of r < n
  pub acked : number_of behind.acked ≡ n
  pub blocks : (a : ℕ) → block_at behind.acked a ≡ block_at r a
  pub written : (a : ℕ) → behind.written a ≡ block_at r a

-- what these acts open, if anything
abbrev pub opening_in : List Act → Option Opening
opening_in [] = None
opening_in (Reads_as opening ∷ acts) = Some opening
opening_in (act ∷ acts) = opening_in acts

-- An opening that lost a page of the map read a live record, which has that page, and the page has no good leaf: no leaf of its top was found, is
-- readable, has the page by its log, undamaged, and had no failed read of the page in this line.
pub record LosesPage (c : Codec) (before behind : Pool) (acts : List Act) (page : Key) : Type 0 where
  pub opening : Opening
  pub reads : opening_in acts ≡ Some opening
  pub r : Rec
  pub live : IsIn r before.live
  pub is : opening.found.blob.items ≡ config_of r.commit
  pub lost : IsLostPage behind r page (answers_in (opened_leaves (c.leaves opening.found.blob.items) opening.devs) (calls_along acts))

-- An opening that draws one of the last numbers would read a live record of a number so high, not below the acknowledged one.
pub record EndsNumbers (before : Pool) (limit count : ℕ) : Type 0 where
  pub limit_is : limit ≡ last_numbers
  pub r : Rec
  pub live : IsIn r before.live
  pub not_below : number_of before.acked ≤ number_of r
  pub last : last_numbers ≤ number_of r
  pub count_is : count ≡ number_of r + 1

-- An opening never answers that there is no record. Where it answers a number it opens a live record, and the pool is open in the host behind it. It
-- loses no page that has a good leaf, and is refused only where a pool of its name is open, 16 pools are, or a live record has one of the last numbers.
pub record FindsPool (c : Codec) (start : Host) (before behind : Pool) (after : Host) (acts : List Act) (reply : Reply) : Type 0 where
  pub some : reply ≡ To_import NothingFound → ⊥
  pub opened : (n : ℕ) → reply ≡ To_import (Opened n) → OpensLive before behind n
  pub is_open : (n : ℕ) → reply ≡ To_import (Opened n) → (s : PoolState) × IsOpenAs behind after before.name s
  pub loses : (page : Key) (shown : List LeafShown) → reply ≡ To_import (PageLost page shown) → LosesPage c before behind acts page
  pub name_open : reply ≡ To_import NameOpen → (s : PoolState) × (named before.name start.pools ≡ Some s)
  pub too_many : (limit count : ℕ) → reply ≡ To_import (TooManyPools limit count) → (limit ≡ 16) × (16 ≤ length start.pools) × (count ≡ length start.pools + 1)
  pub ended : (limit count : ℕ) → reply ≡ To_import (LastNumber limit count) → EndsNumbers before limit count
