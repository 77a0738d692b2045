-- Scans as rows: a step on one key, the end, and the lines that start and stop a scrub.
use Rattle.std.specs.Prelude.{◌≡◌, ◌⊎◌, ℕ, ◌+◌, ◌≤◌, ◌&&◌, ◌||◌, Bool, true, false, not, cond, Option, Some, None, List, [], ◌∷◌, ◌++◌, map, length, drop}
use Rattle.std.specs.List.{filter, find, list_any}
use Rattle.std.specs.Option.{is_none, is_some}
use Rattle.mp_base.specs.declared.place.Key.{Key}
use Rattle.bank_core.specs.declared.bank.Fault.{Fault}
use Rattle.bank_core.specs.Asks.{Writes, Flushes, ask_of, asks_of}
use Rattle.bank_core.specs.Calls.{device_of, fault_of}
use Rattle.bank_core.specs.Disk.{Call, Read, Noted}
use Rattle.label_store.specs.declared.member.Member.{Member}
use Rattle.mirror_io.specs.declared.copies.CopyOf.{CopyOf}
use Rattle.mirror_io.specs.Copies.{is_due, tries}
use Rattle.mirror_io.specs.Mirror.{IsHealed}
use Rattle.mirror_io.specs.Reads.{Fails, Differs, Serves, IsReads, rewrites}
use Rattle.txg_history.specs.Pages.{Sum, IsClash}
use Rattle.txg_history.specs.Pools.{Pool}
use Rattle.txg_history.specs.Records.{Cell, data_start}
use Rattle.pool_moves.specs.Boards.{members_where}
use Rattle.pool_moves.specs.FreezeRow.{IsBefore, is_dev, up_devs}
use Rattle.pool_moves.specs.Leaves.{LeafSeen}
use Rattle.pool_moves.specs.LineRows.{has_number, sets_failed}
use Rattle.pool_moves.specs.Moves.{Move, Makes, Scan_from, Pass, Drop, Clear, Rest, Scrubs, on_dev}
use Rattle.pool_moves.specs.ReadRow.{copy_of, stands_under, copies_of, count_reads}
use Rattle.pool_moves.specs.States.{ScanSeen, PoolSeen, PoolState}
use Rattle.pool_moves.specs.Walking.{as_moves}
use Rattle.pool_moves.specs.Widening.{IsWidened, seen_along}

-- The next key of the running scan: the least that it hasn't come past, of those born up to its last number.
pub record IsNextKey (s : PoolSeen) (k : Key) (sum : Sum) : Type 0 where
  pub sum_is : s.committed k ≡ Some sum
  pub low : sum.birth ≤ s.scan.hi
  pub ahead : s.scan.passed k ≡ false
  pub least : (j : Key) (other : Sum) → s.committed j ≡ Some other → other.birth ≤ s.scan.hi → s.scan.passed j ≡ false → IsBefore j k → ⊥

-- it has come past each of them
abbrev pub HasNoKey : PoolSeen → Type 0
HasNoKey s = (k : Key) (sum : Sum) → s.committed k ≡ Some sum → sum.birth ≤ s.scan.hi → s.scan.passed k ≡ true

-- a leaf of the key's top for which its birth is settled
abbrev pub is_settled_under : Sum → LeafSeen → Bool
is_settled_under sum leaf = stands_under sum.top leaf && leaf.settled sum.birth

-- The targets to which the key may be written: the readable leaves that owe it, and for which its birth is settled.
abbrev pub targets : Sum → List LeafSeen → List CopyOf
targets sum leaves = filter (is_due true) (map (copy_of sum.birth) (filter (is_settled_under sum) leaves))

-- a good copy is written to each of these, one after another, whichever fail
abbrev pub AreCopied : (at : ℕ) → (outcome : Option (List ℕ)) → List CopyOf → List Noted → Type 0
AreCopied at (Some block) copies made = asks_of made ≡ rewrites at block copies
AreCopied at None copies made = made ≡ []

-- of the copies that the reads didn't come to, those whose leaves don't owe the key
abbrev pub untried : List CopyOf → (reads : List Noted) → List CopyOf
untried copies reads = filter (λ copy. not copy.lacks) (drop (length reads) (tries copies))

-- Each of these copies is read, and one that gave other bytes is rewritten at once.
abbrev pub AreLooked : (at : ℕ) → (sum block : List ℕ) → List CopyOf → List Noted → Type 0
AreLooked at sum block [] made = made ≡ []
AreLooked at sum block (copy ∷ more) [] = ⊥
AreLooked at sum block (copy ∷ more) (noted ∷ made) =
    (Fails copy at noted.call × AreLooked at sum block more made)
    ⊎ (((bytes : List ℕ) × Serves copy at sum bytes noted.call × AreLooked at sum block more made)
    ⊎ ((rewrite : Noted) × (rest : List Noted) × Differs copy at sum noted.call × (made ≡ rewrite ∷ rest)
    × (ask_of rewrite.call ≡ Writes copy.dev at block) × AreLooked at sum block more rest))

-- a scrub looks at each copy that wasn't tried, where a good one was found
abbrev pub LooksBy : (scrubs : Bool) → (at : ℕ) → (sum : List ℕ) → (outcome : Option (List ℕ)) → List CopyOf → List Noted → Type 0
LooksBy true at sum (Some block) copies made = AreLooked at sum block copies made
LooksBy true at sum None copies made = made ≡ []
LooksBy false at sum outcome copies made = made ≡ []

-- The calls of a step that reads its key: its reads with the rewriting of wrong copies, then the copies to the targets, and in
-- a scrub the further looks.
pub record AreStepCalls (scrubs : Bool) (s : PoolSeen) (sum : Sum) (calls copied : List Noted) : Type 0 where
  pub outcome : Option (List ℕ)
  pub reads : List Noted
  pub rewritten : List Noted
  pub looks : List Noted
  pub wrong : List CopyOf
  pub is_read : IsReads (data_start + sum.sector) sum.sum (tries (copies_of sum s.leaves)) reads wrong outcome
  pub is_healed : IsHealed (data_start + sum.sector) outcome wrong rewritten
  pub is_copied : AreCopied (data_start + sum.sector) outcome (targets sum s.leaves) copied
  pub is_looked : LooksBy scrubs (data_start + sum.sector) sum.sum outcome (untried (copies_of sum s.leaves) reads) looks
  pub all : calls ≡ reads ++ (rewritten ++ (copied ++ looks))

-- a scrub reads each key, a resilver those that have a target
abbrev pub reads_key : (scrubs : Bool) → PoolSeen → Sum → Bool
reads_key scrubs s sum = scrubs || list_any (is_due true) (copies_of sum s.leaves)

abbrev pub StepCalls : (reading scrubs : Bool) → PoolSeen → Sum → (calls copied : List Noted) → Type 0
StepCalls true scrubs s sum calls copied = AreStepCalls scrubs s sum calls copied
StepCalls false scrubs s sum calls copied = (calls ≡ []) × (copied ≡ [])

-- a call on the device failed; and a copy to it answered Ok
abbrev pub has_failed : Option ℕ → List Noted → Bool
has_failed dev made = list_any (λ noted. is_dev (device_of noted.call) dev && is_some (fault_of noted.call)) made

abbrev pub has_copied : Option ℕ → (copied : List Noted) → Bool
has_copied dev copied = list_any (λ noted. is_dev (device_of noted.call) dev && is_none (fault_of noted.call)) copied

-- The leaf has the key, by its log or by a copy of this step; and in a scrub no call on its device failed in this step.
abbrev pub is_brought : (scrubs : Bool) → Sum → (calls copied : List Noted) → LeafSeen → Bool
is_brought scrubs sum calls copied leaf = cond (leaf.owes sum.birth) (has_copied leaf.dev copied) true && not (scrubs && has_failed leaf.dev calls)

-- a leaf of another top needs no key of this one
abbrev pub is_spared : (scrubs : Bool) → Sum → (calls copied : List Noted) → LeafSeen → Bool
is_spared scrubs sum calls copied leaf = not (stands_under sum.top leaf) || is_brought scrubs sum calls copied leaf

-- the device is eligible, and none of a leaf that is spared: the key's birth goes into its SCRUB log
abbrev pub is_scrubbed : (scrubs : Bool) → PoolSeen → Sum → (calls copied : List Noted) → (d : ℕ) → Bool
is_scrubbed scrubs s sum calls copied d =
    s.scan.eligible d && not (list_any (λ leaf. is_dev d leaf.dev && is_spared scrubs sum calls copied leaf) s.leaves)

-- A step on one key: its calls, the counts of the leaves of its top, and the scan has come past it.
pub record RowKey (scrubs : Bool) (s : PoolSeen) (vs : List Move) : Type 0 where
  pub k : Key
  pub sum : Sum
  pub next : IsNextKey s k sum
  pub calls : List Noted
  pub copied : List Noted
  pub made : StepCalls (reads_key scrubs s sum) scrubs s sum calls copied
  pub moves : vs ≡ as_moves calls ++ (count_reads sum.sum calls (filter (stands_under sum.top) s.leaves)
      ++ (Pass k sum.birth (is_scrubbed scrubs s sum calls copied) ∷ []))

-- behind an eligible leaf's flush its log is cleared, and logs are widened; or it isn't eligible any more
abbrev pub FlushEnds : Option Fault → PoolSeen → Member → List Move → Type 0
FlushEnds None s m vs = IsWidened s (Clear m.dev) vs
FlushEnds (Some fault) s m vs = vs ≡ Drop m.dev ∷ sets_failed (find (has_number m.guid) s.leaves)

abbrev pub AreFlushed : PoolSeen → List Member → List Move → Type 0
AreFlushed s [] vs = vs ≡ []
AreFlushed s (m ∷ ms) vs = (noted : Noted) × (ending : List Move) × (rest : List Move) × (ask_of noted.call ≡ Flushes m.dev)
    × (vs ≡ Makes noted ∷ (ending ++ rest)) × FlushEnds (fault_of noted.call) s m ending × AreFlushed (seen_along ending s) ms rest

abbrev pub is_eligible : ScanSeen → LeafSeen → Bool
is_eligible scan leaf = on_dev scan.eligible leaf.dev

-- The scan's end: no key is left, and leaf by leaf each eligible one is flushed, and cleared where its flush answered Ok.
pub record RowScanEnd (s : PoolSeen) (vs : List Move) : Type 0 where
  pub none : HasNoKey s
  pub part : List Move
  pub flushed : AreFlushed s (members_where (is_eligible s.scan) s.leaves) part
  pub moves : vs ≡ part ++ (Rest ∷ [])

pub data StepReply : Type 0 where
  IdleScan : StepReply
  OneKey : StepReply
  ScanDone : StepReply

-- `step`: one key of the running scan, or its end, where one runs.
abbrev pub StepBy : (running : Bool) → PoolState → List Move → StepReply → Type 0
StepBy false s vs reply = (vs ≡ []) × (reply ≡ IdleScan)
StepBy true s vs reply = (RowKey s.own.scrubs s.core vs × (reply ≡ OneKey)) ⊎ (RowScanEnd s.core vs × (reply ≡ ScanDone))

abbrev pub RowStep : PoolState → List Move → StepReply → Type 0
RowStep s vs reply = StepBy s.core.scan.running s vs reply

-- A step found bytes that aren't a block of the record that the pool reads, and have its sum: a read gave these bytes.
abbrev pub IsRead : List ℕ → Call → Type 0
IsRead bytes call = (d : ℕ) × (at : ℕ) × (call ≡ Read d at bytes None)

abbrev pub WereRead : List ℕ → List Noted → Type 0
WereRead bytes [] = ⊥
WereRead bytes (noted ∷ made) = IsRead bytes noted.call ⊎ WereRead bytes made

-- the call is a read of a device
abbrev pub is_read_call : Call → Bool
is_read_call (Read dev at bytes fault) = true
is_read_call call = false

-- the calls up to the first that isn't a read
abbrev pub first_reads : List Noted → List Noted
first_reads [] = []
first_reads (noted ∷ made) = cond (is_read_call noted.call) (noted ∷ first_reads made) []

pub record FoundClash (p : Pool) (made : List Noted) : Type 0 where
  pub k : Key
  pub cell : Cell
  pub cell_is : p.reads.cells k ≡ Some cell
  pub bytes : List ℕ
  pub read : WereRead bytes made
  pub clash : IsClash cell.block bytes

-- a scan over the keys of the record that the pool reads, for its readable leaves
abbrev pub starts_scan : PoolState → Move
starts_scan s = Scan_from s.core.read_number (up_devs s.core.leaves)

-- `scrub` and `scrub -s`: a scrub starts where no scan runs, and one that runs is stopped.
pub data ScrubReply : Type 0 where
  Started : ScrubReply
  Scanning : (scrubs : Bool) → ScrubReply

abbrev pub ScrubBy : (running : Bool) → PoolState → List Move → ScrubReply → Type 0
ScrubBy true s vs reply = (vs ≡ []) × (reply ≡ Scanning s.own.scrubs)
ScrubBy false s vs reply = (s.core.opened ≡ true) × (vs ≡ starts_scan s ∷ (Scrubs ∷ [])) × (reply ≡ Started)

abbrev pub RowScrub : PoolState → List Move → ScrubReply → Type 0
RowScrub s vs reply = ScrubBy s.core.scan.running s vs reply

pub data StopReply : Type 0 where
  Stopped : StopReply
  NoScrub : StopReply

abbrev pub StopBy : (scrubbing : Bool) → List Move → StopReply → Type 0
StopBy true vs reply = (vs ≡ Rest ∷ []) × (reply ≡ Stopped)
StopBy false vs reply = (vs ≡ []) × (reply ≡ NoScrub)

abbrev pub RowStopScrub : PoolState → List Move → StopReply → Type 0
RowStopScrub s vs reply = StopBy (s.core.scan.running && s.own.scrubs) vs reply
