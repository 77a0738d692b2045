-- Each line of a host as a row: which acts it is made of, by the host before it, and what it answers.
use Rattle.std.specs.Prelude.{◌≡◌, ◌⊎◌, ℕ, ◌≤◌, Bool, true, false, cond, List, [], ◌∷◌, ◌++◌, Option, Some, None}
use Rattle.std.specs.List.{AllByRecursion}
use Rattle.bank_core.specs.Calls.{device_of, fault_of}
use Rattle.bank_core.specs.Disk.{Noted, AllAnswer}
use Rattle.label_store.specs.Newest.{AreReads}
use Rattle.txg_history.specs.Pages.{Codec}
use Rattle.pool_moves.specs.AwayRows.{WriteReply, RowWrite, OfflineReply, is_listed, leaf_named, RowOffline}
use Rattle.pool_moves.specs.CommitRows.{NamedLog, RowLogs}
use Rattle.pool_moves.specs.Leaves.{Seat}
use Rattle.pool_moves.specs.LineRows.{TurnReply, FreezeReply, SyncReply, RowTurn, RowFreezeLine, RowSync}
use Rattle.pool_moves.specs.Moves.{Move, Makes, Finds}
use Rattle.pool_moves.specs.OnlineRow.{HostDevice, NoneFound, HeldBy, Handed, OnlineReply, RowOnline}
use Rattle.pool_moves.specs.ReadRow.{ReadReply, RowRead, made_in}
use Rattle.pool_moves.specs.ScanRows.{is_read_call, first_reads, StepReply, RowStep, ScrubReply, RowScrub, StopReply, RowStopScrub}
use Rattle.pool_moves.specs.States.{PoolState}
use Rattle.pool_runs.specs.Acts.{Act, Mark, Gives_for, Steps_by, Seeks_by, Hears, Does, Marks, Enters, Takes, Bears, Closes, does, calls_along}
use Rattle.pool_runs.specs.Creating.{RowCreate}
use Rattle.pool_moves.specs.TreeRows.{Graft, TreeRefusal, graft_refusal, GraftReply, GraftRefused, RowGraft, DetachReply, RowDetach}
use Rattle.pool_runs.specs.Devices.{number_in, size_in}
use Rattle.pool_runs.specs.Hosts.{Host, is_of, holder, named, host_by, host_along}
use Rattle.pool_runs.specs.Importing.{read_in, all_shown, RowImport}
use Rattle.pool_runs.specs.Knowing.{AreOwnActs}
use Rattle.pool_runs.specs.Lines.{UnknownDevice, InUse, Asked, Asks_nothing, Asks_write, Asks_read, Asks_freeze, Asks_turn, Asks_sync, Asks_offline, Asks_online, Asks_logs, Asks_graft, Asks_detach, Asks_step, Asks_scrub, Asks_stop, Asks_import, Asks_create, Reply, To_nothing, To_write, To_read, To_freeze, To_turn, To_sync, To_offline, To_online, To_logs, To_graft, To_detach, To_step, To_scrub, To_stop, To_refused, No_pool, No_memory, Entry}

-- Device calls that a line made: each on a device that the run has, with an answer by the disk model.
pub record AreMade (h : Host) (calls : List Noted) : Type 0 where
  pub here : AllByRecursion (λ noted. 1 ≤ size_in h.table (device_of noted.call)) calls
  pub answer : AllAnswer h.disk calls

-- The open pool makes these moves, each on devices of its own.
pub record ByMoves (h : Host) (s : PoolState) (Row : List Move → Type 0) (acts : List Act) : Type 0 where
  pub moves : List Move
  pub row : Row moves
  pub are : acts ≡ does s.core.pool.0 moves
  pub own : AreOwnActs s.core.pool.0 h acts

-- the move is a read of a device
abbrev pub is_reading : Move → Bool
is_reading (Makes noted) = is_read_call noted.call
is_reading v = false

-- the acts of these moves, with a mark behind their first reads
abbrev pub marked_behind : (reading : Bool) → (mark : Act) → (g : ℕ) → Move → (vs : List Move) → (rest : List Act) → List Act
marked_behind true mark g v vs rest = Does g v ∷ rest
marked_behind false mark g v vs rest = mark ∷ does g (v ∷ vs)

abbrev pub marked : (mark : Act) → (g : ℕ) → List Move → List Act
marked mark g [] = mark ∷ []
marked mark g (v ∷ vs) = marked_behind (is_reading v) mark g v vs (marked mark g vs)

-- So it makes them, and marks what it read.
pub record ByMarked (h : Host) (s : PoolState) (mark : List Move → Mark) (Row : List Move → Type 0) (acts : List Act) : Type 0 where
  pub moves : List Move
  pub row : Row moves
  pub are : acts ≡ marked (Marks s.core.pool.0 (mark moves)) s.core.pool.0 moves
  pub own : AreOwnActs s.core.pool.0 h acts

-- the devices on which these moves find a leaf
abbrev pub found_in : List Move → List (Option ℕ)
found_in [] = []
found_in (Finds m d ∷ vs) = Some d ∷ found_in vs
found_in (v ∷ vs) = found_in vs

-- what the host says of the device of this name: whether it was found, and whether it is another open pool's
abbrev pub held_by : Option PoolState → (g d : ℕ) → HostDevice
held_by None g d = Handed d
held_by (Some s) g d = cond (is_of g s) (Handed d) (HeldBy s.core.name)

abbrev pub device_for : (name : List ℕ) → Option ℕ → Host → (g : ℕ) → HostDevice
device_for name None h g = NoneFound
device_for name (Some d) h g = held_by (holder name d h.pools) g d

-- It looks for the identity of a leaf that comes back, marks what it read, and a device on which it finds it is the pool's.
pub record ByOnline (h : Host) (s : PoolState) (device : List ℕ) (reply : OnlineReply) (acts : List Act) : Type 0 where
  pub moves : List Move
  pub row : RowOnline (size_in h.table) s device (is_listed device s) (device_for device (number_in device h.table) h s.core.pool.0) moves reply
  pub are : acts ≡ marked (Marks s.core.pool.0 (Seeks_by (made_in moves) (found_in moves))) s.core.pool.0 moves
      ++ all_shown s.core.pool.0 (read_in (made_in moves)) (found_in moves)
  pub own : AreOwnActs s.core.pool.0 h acts

-- It puts a leaf in on this device, which is taken as its stamp begins.
abbrev pub graft_acts : (g d : ℕ) → List Move → List Act
graft_acts g d [] = []
graft_acts g d (v ∷ vs) = Takes g d ∷ does g (v ∷ vs)

pub record ByGraft (h : Host) (s : PoolState) (graft : Graft) (leaf new : List ℕ) (d : ℕ) (reply : GraftReply) (acts : List Act) : Type 0 where
  pub moves : List Move
  pub row : RowGraft (size_in h.table) graft s leaf new d moves reply
  pub are : acts ≡ graft_acts s.core.pool.0 d moves
  pub own : AreOwnActs s.core.pool.0 h acts

-- by the open pool that has a leaf on the device, and by its number where it was found
abbrev pub GraftUnless : Option PoolState → Host → PoolState → (graft : Graft) → (leaf new : List ℕ) → (d : ℕ) → List Act → Reply → Type 0
GraftUnless (Some u) h s graft leaf new d acts reply = (acts ≡ []) × (reply ≡ To_refused (InUse u.core.name))
GraftUnless None h s graft leaf new d acts reply = (r : GraftReply) × (reply ≡ To_graft r) × ByGraft h s graft leaf new d r acts

abbrev pub GraftOnto : Option ℕ → Host → PoolState → (graft : Graft) → (leaf new : List ℕ) → List Act → Reply → Type 0
GraftOnto None h s graft leaf new acts reply = (acts ≡ []) × (reply ≡ To_refused (UnknownDevice new))
GraftOnto (Some d) h s graft leaf new acts reply = GraftUnless (holder new d h.pools) h s graft leaf new d acts reply

-- by what the tree refuses
abbrev pub GraftIf : Option TreeRefusal → Host → PoolState → (graft : Graft) → (leaf new : List ℕ) → List Act → Reply → Type 0
GraftIf (Some refusal) h s graft leaf new acts reply = (acts ≡ []) × (reply ≡ To_graft (GraftRefused refusal))
GraftIf None h s graft leaf new acts reply = GraftOnto (number_in new h.table) h s graft leaf new acts reply

-- It takes a leaf out. Where the history has the leaf no code knows: whichever seat stands here, the line is one.
pub record ByDetach (c : Codec) (h : Host) (s : PoolState) (leaf : List ℕ) (reply : DetachReply) (acts : List Act) : Type 0 where
  pub moves : List Move
  pub seat : Seat
  pub row : RowDetach c (size_in h.table) s leaf seat moves reply
  pub are : acts ≡ does s.core.pool.0 moves
  pub own : AreOwnActs s.core.pool.0 h acts

-- Lines of an open pool.
abbrev pub WriteLine : Host → (a : ℕ) → (block : List ℕ) → PoolState → List Act → Reply → Type 0
WriteLine h a block s acts reply = (r : WriteReply) × (reply ≡ To_write r) × ByMoves h s (λ vs. RowWrite s a block vs r) acts

abbrev pub ReadLine : Host → (a : ℕ) → PoolState → List Act → Reply → Type 0
ReadLine h a s acts reply = (r : ReadReply) × (reply ≡ To_read r) × ByMarked h s (λ vs. Gives_for a r) (λ vs. RowRead s a vs r) acts

abbrev pub FreezeLine : Codec → Host → PoolState → List Act → Reply → Type 0
FreezeLine c h s acts reply = (r : FreezeReply) × (reply ≡ To_freeze r) × ByMoves h s (λ vs. RowFreezeLine c s vs r) acts

abbrev pub TurnLine : Codec → Host → PoolState → List Act → Reply → Type 0
TurnLine c h s acts reply = (r : TurnReply) × (reply ≡ To_turn r) × ByMoves h s (λ vs. RowTurn c (size_in h.table) s vs r) acts

abbrev pub SyncLine : Codec → Host → PoolState → List Act → Reply → Type 0
SyncLine c h s acts reply = (r : SyncReply) × (reply ≡ To_sync r) × ByMoves h s (λ vs. RowSync c (size_in h.table) s vs r) acts

abbrev pub OfflineLine : Host → (device : List ℕ) → (temporary : Bool) → PoolState → List Act → Reply → Type 0
OfflineLine h device temporary s acts reply = (r : OfflineReply) × (reply ≡ To_offline r) × ByMoves h s (λ vs. RowOffline s device temporary vs r) acts

abbrev pub OnlineLine : Host → (device : List ℕ) → PoolState → List Act → Reply → Type 0
OnlineLine h device s acts reply = (r : OnlineReply) × (reply ≡ To_online r) × ByOnline h s device r acts

abbrev pub GraftLine : Host → (graft : Graft) → (leaf new : List ℕ) → PoolState → List Act → Reply → Type 0
GraftLine h graft leaf new s acts reply = GraftIf (graft_refusal graft s leaf (leaf_named leaf s.core.leaves)) h s graft leaf new acts reply

abbrev pub DetachLine : Codec → Host → (leaf : List ℕ) → PoolState → List Act → Reply → Type 0
DetachLine c h leaf s acts reply = (r : DetachReply) × (reply ≡ To_detach r) × ByDetach c h s leaf r acts

abbrev pub StepLine : Host → PoolState → List Act → Reply → Type 0
StepLine h s acts reply = (r : StepReply) × (reply ≡ To_step r) × ByMarked h s (λ vs. Steps_by (first_reads (made_in vs))) (λ vs. RowStep s vs r) acts

abbrev pub ScrubLine : Host → PoolState → List Act → Reply → Type 0
ScrubLine h s acts reply = (r : ScrubReply) × (reply ≡ To_scrub r) × ByMoves h s (λ vs. RowScrub s vs r) acts

abbrev pub StopLine : Host → PoolState → List Act → Reply → Type 0
StopLine h s acts reply = (r : StopReply) × (reply ≡ To_stop r) × ByMoves h s (λ vs. RowStopScrub s vs r) acts

abbrev pub LogsLine : Host → PoolState → List Act → Reply → Type 0
LogsLine h s acts reply = (logs : List NamedLog) × (reply ≡ To_logs logs) × ByMoves h s (λ vs. RowLogs s vs logs) acts

-- a line of the open pool of a name; where there is none, it is refused and does nothing
abbrev pub OnPool : Option PoolState → (Line : PoolState → List Act → Reply → Type 0) → List Act → Reply → Type 0
OnPool None Line acts reply = (acts ≡ []) × (reply ≡ No_pool)
OnPool (Some s) Line acts reply = Line s acts reply

-- A line.
abbrev pub RowOf : Codec → Host → Asked → List Act → Reply → Type 0
RowOf c h Asks_nothing acts reply = (acts ≡ []) × (reply ≡ To_nothing)
RowOf c h (Asks_write name a block) acts reply = OnPool (named name h.pools) (WriteLine h a block) acts reply
RowOf c h (Asks_read name a) acts reply = OnPool (named name h.pools) (ReadLine h a) acts reply
RowOf c h (Asks_freeze name) acts reply = OnPool (named name h.pools) (FreezeLine c h) acts reply
RowOf c h (Asks_turn name) acts reply = OnPool (named name h.pools) (TurnLine c h) acts reply
RowOf c h (Asks_sync name) acts reply = OnPool (named name h.pools) (SyncLine c h) acts reply
RowOf c h (Asks_offline name device temporary) acts reply = OnPool (named name h.pools) (OfflineLine h device temporary) acts reply
RowOf c h (Asks_online name device) acts reply = OnPool (named name h.pools) (OnlineLine h device) acts reply
RowOf c h (Asks_graft graft name leaf new) acts reply = OnPool (named name h.pools) (GraftLine h graft leaf new) acts reply
RowOf c h (Asks_detach name leaf) acts reply = OnPool (named name h.pools) (DetachLine c h leaf) acts reply
RowOf c h (Asks_step name) acts reply = OnPool (named name h.pools) (StepLine h) acts reply
RowOf c h (Asks_scrub name) acts reply = OnPool (named name h.pools) (ScrubLine h) acts reply
RowOf c h (Asks_stop name) acts reply = OnPool (named name h.pools) (StopLine h) acts reply
RowOf c h (Asks_logs name) acts reply = OnPool (named name h.pools) (LogsLine h) acts reply
RowOf c h (Asks_import name) acts reply = RowImport c h name acts reply
RowOf c h (Asks_create name blocks tops) acts reply = RowCreate c h name blocks tops acts reply

-- the act changes no pool: it is a call, or it marks something
abbrev pub ChangesNone : Act → Type 0
ChangesNone (Does g (Makes noted)) = Unit {0}
ChangesNone (Does g v) = ⊥
ChangesNone (Enters s) = ⊥
ChangesNone (Takes g d) = ⊥
ChangesNone (Bears birth) = ⊥
ChangesNone (Closes g) = ⊥
ChangesNone act = Unit {0}

-- the line may rewrite copies: an import, before its pool is open
abbrev pub MayRewrite : Asked → List Act → Type 0
MayRewrite (Asks_import name) acts = AllByRecursion ChangesNone acts
MayRewrite asked acts = ⊥

-- a line that may want memory: a turn takes none
abbrev pub TakesMemory : Asked → Type 0
TakesMemory (Asks_turn name) = ⊥
TakesMemory asked = Unit {0}

-- What was done is what some row of this line begins with, and its calls were made.
pub record BeginsRow (c : Codec) (h : Host) (e : Entry) : Type 0 where
  pub rest : List Act
  pub reply : Reply
  pub goes_on : RowOf c h e.asked (e.acts ++ rest) reply
  pub made : AreMade h (calls_along (e.acts ++ rest))

-- A line for which there was no memory, where it takes any: it did nothing, or what some row of this line begins with. Each call so far answered Ok;
-- none of them wrote or flushed, and no open pool changed, but where an import rewrote pages of its own. (A sync that ended a group before is a row of
-- its own.)
pub record RunsOut (c : Codec) (h : Host) (e : Entry) : Type 0 where
  pub takes : TakesMemory e.asked
  pub begun : (e.acts ≡ []) ⊎ BeginsRow c h e
  pub answered : AllByRecursion (λ noted. fault_of noted.call ≡ None) (calls_along e.acts)
  pub early : (AllByRecursion ChangesNone e.acts × AreReads (calls_along e.acts)) ⊎ MayRewrite e.asked e.acts
  pub says : e.reply ≡ No_memory

-- An entry of a run.
abbrev pub HostRow : Codec → Host → Entry → Type 0
HostRow c h e = (RowOf c h e.asked e.acts e.reply × AreMade h (calls_along e.acts)) ⊎ RunsOut c h e

-- the acts of an entry, and of entries: each begins with the second that the clock gave
abbrev pub acts_of : Entry → List Act
acts_of e = Hears e.second ∷ e.acts

abbrev pub acts_in : List Entry → List Act
acts_in [] = []
acts_in (e ∷ entries) = acts_of e ++ acts_in entries

-- A run of a host: line by line.
abbrev pub IsRun : Codec → Host → List Entry → Type 0
IsRun c h [] = Unit {0}
IsRun c h (e ∷ entries) = HostRow c (host_by (Hears e.second) h) e × IsRun c (host_along (acts_of e) h) entries
