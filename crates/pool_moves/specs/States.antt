-- The state of a pool: what its code has in memory. It is a function of the pool's history and of the seats of its leaves.
use Rattle.std.specs.Prelude.{ℕ, Bool, true, false, cond, Option, None, List, map}
use Rattle.mp_base.specs.declared.number.Guid.{Guid}
use Rattle.mp_base.specs.declared.place.Key.{Key}
use Rattle.txg_history.specs.Groups.{Group, Logs, no_log}
use Rattle.txg_history.specs.Pages.{Sum, sum_of}
use Rattle.txg_history.specs.Pools.{Pool}
use Rattle.txg_history.specs.Records.{Cells, number_of}
use Rattle.txg_history.specs.Scans.{Scan}
use Rattle.pool_moves.specs.Leaves.{LeafSeen, Seat, told, leaf_seen}
use Rattle.txg_history.specs.Trees.{Child}

-- what is kept of keys: births, places and sums
abbrev pub Sums : Type 0
Sums = Key → Option Sum

abbrev pub sums : Cells → Sums
sums cells k = sum_of (cells k)

-- The frozen group: its first number, its keys with their blocks, which are in memory until it ends, the keys whose write turns
-- have ended, whether its flush turn has, whether its highest number waits for a round, and whether some round was begun.
pub record GroupSeen : Type 0 where
  pub frozen : Bool
  pub first : ℕ
  pub cells : Cells
  pub done : Key → Bool
  pub flushed : Bool
  pub fresh : Bool
  pub begun : Bool

abbrev pub frozen_seen : (first : ℕ) → Cells → GroupSeen
frozen_seen first cells = record { frozen = true; first = first; cells = cells; done = λ k. false; flushed = false; fresh = true; begun = false }

abbrev pub no_group_seen : GroupSeen
no_group_seen = record (frozen_seen 0 (λ k. None)) { frozen = false; fresh = false }

abbrev pub group_seen : (frozen : Bool) → Group → GroupSeen
group_seen frozen group = cond frozen (record {
  frozen = true;
  first = group.first;
  cells = group.cells;
  done = group.done;
  flushed = group.flushed;
  fresh = group.fresh;
  begun = group.begun;
}) no_group_seen

-- The scan that runs: keys born up to hi, and those that it has come past; and, by their devices, which leaves are eligible, and
-- the SCRUB logs.
pub record ScanSeen : Type 0 where
  pub running : Bool
  pub hi : ℕ
  pub passed : Key → Bool
  pub eligible : ℕ → Bool
  pub scrub : Logs

abbrev pub started_seen : (hi : ℕ) → (eligible : ℕ → Bool) → ScanSeen
started_seen hi eligible = record { running = true; hi = hi; passed = λ k. false; eligible = eligible; scrub = no_log }

abbrev pub no_scan_seen : ScanSeen
no_scan_seen = record (started_seen 0 (λ d. false)) { running = false }

abbrev pub scan_seen : (running : Bool) → Scan → ScanSeen
scan_seen running scan = cond running (record {
  running = true;
  hi = scan.hi;
  passed = scan.passed;
  eligible = scan.eligible;
  scrub = scan.scrub;
}) no_scan_seen

-- A pool as its code has it: the highest number drawn, the number of the record that it reads, whether it has acknowledged
-- one since its opening, that record's pointers, the data sectors of its tops, its leaves in tree order, the frozen group, the running scan,
-- and the places that stay taken until the next acknowledgement.
pub record PoolSeen : Type 0 where
  pub name : List ℕ
  pub pool : Guid
  pub number : ℕ
  pub read_number : ℕ
  pub opened : Bool
  pub committed : Sums
  pub room : ℕ → ℕ
  pub leaves : List LeafSeen
  pub group : GroupSeen
  pub scan : ScanSeen
  pub pinned : List Sums

-- by whether a group is frozen and whether a scan runs
abbrev pub seen_by : (frozen running : Bool) → List Seat → Pool → PoolSeen
seen_by frozen running seats p = record {
  name = p.name;
  pool = p.pool;
  number = p.highest;
  read_number = number_of p.reads;
  opened = p.opened;
  committed = sums p.reads.cells;
  room = p.room;
  leaves = map (leaf_seen frozen (told p)) seats;
  group = group_seen frozen p.group;
  scan = scan_seen running p.scan;
  pinned = map sums p.pinned;
}

-- A pool in its history, and the seats of its leaves in tree order.
pub record Side : Type 0 where
  pub pool : Pool
  pub seats : List Seat

abbrev pub seen : Side → PoolSeen
seen t = seen_by t.pool.group.frozen t.pool.scan.running t.seats t.pool

-- What no event tells: the volume's size in blocks, the open writes, the tops' own numbers and the children of their mirrors, the
-- names of the listed spares, the next member number, and whether the scan that runs is a scrub.
pub record Own : Type 0 where
  pub blocks : ℕ
  pub writes : ℕ → Option (List ℕ)
  pub top_number : ℕ → Guid
  pub children : ℕ → List Child
  pub spares : List (List ℕ)
  pub next_member : ℕ
  pub scrubs : Bool

pub record PoolState : Type 0 where
  pub own : Own
  pub core : PoolSeen
