-- A small history with a block: one is written and committed with the page above it on each level, the machine stops, and an
-- opening finds the record.
use Rattle.std.specs.Prelude.{◌≡◌, ℕ, suc, ◌+◌, ◌<◌, ◌≤◌, ◌==◌, ◌&&◌, nat_lt, true, false, cond, List, [], ◌∷◌, ◌++◌, length, Some, None}
use Rattle.mp_base.specs.declared.place.Key.{Key}
use Rattle.bank_core.specs.Disk.{Write, Flush, Noted, after_crash}
use Rattle.label_store.specs.declared.uberblock.Uberblock.{Uberblock}
use Rattle.txg_history.specs.Calm.{stable_of}
use Rattle.txg_history.specs.Events.{Event, Calls, Accepts, Freezes, Wrote, Flushed, Looks, Opens, Stops}
use Rattle.txg_history.specs.Openings.{IsYield, FindsLive}
use Rattle.txg_history.specs.Pages.{Codec, IsPageOf}
use Rattle.txg_history.specs.Places.{IsFree}
use Rattle.txg_history.specs.Pools.{Pool, after, pool_after}
use Rattle.txg_history.specs.Premises.{Premises}
use Rattle.txg_history.specs.Records.{Rec, Cell, Cells, key, block_at, block_in, data_start}
use Rattle.txg_history.specs.Survival.{Survives}

-- The block of address 0 and the page above it on each level, by their levels. Each stands on the sector of its level's number.
pub record Branch : Type 0 where
  pub birth : ℕ
  pub top : ℕ
  pub bytes : ℕ → List ℕ

abbrev pub cell_on : Branch → (level : ℕ) → Cell
cell_on b level = record { birth = b.birth; top = b.top; sector = level; block = b.bytes level }

abbrev pub branch_cells : Branch → Cells
branch_cells b k = cond ((k.index == 0) && nat_lt k.level 4) (Some (cell_on b k.level)) None

-- A pool that is open and commits nothing, with a leaf under the branch's top. Nothing was ever written to its volume, the
-- first four places of the top are free, and the bytes of each page have the pointers of the keys below.
pub record IsDay (c : Codec) (p : Pool) (a : ℕ) (b : Branch) : Type 0 where
  pub survives : Survives c p
  pub opened : p.opened ≡ true
  pub idle : p.group.frozen ≡ false
  pub is_a : p.member a ≡ true
  pub a_top : p.in_top a ≡ b.top
  pub none : (k : Key) → p.reads.cells k ≡ None
  pub written : (x : ℕ) → p.written x ≡ block_in p.reads.cells x
  pub born : b.birth ≡ p.highest + 1
  pub free : (level : ℕ) → level < 4 → IsFree p b.top level
  pub inside : 4 ≤ p.room b.top
  pub long : (level : ℕ) → level < 4 → length (b.bytes level) ≡ 4096
  pub formed : (level : ℕ) → level < 3 → c.is_page (b.bytes (suc level)) ≡ true
  pub pages : (level : ℕ) → level < 3 → IsPageOf c (b.bytes (suc level)) (branch_cells b) level 0

-- calls that answer Ok, with no damage
abbrev pub writes_well : (d : ℕ) → Cell → Noted
writes_well d cell = record { call = Write d (data_start + cell.sector) cell.block None; damage = λ e s. false }

abbrev pub flushes_well : (d : ℕ) → Noted
flushes_well d = record { call = Flush d None; damage = λ e s. false }

-- the write turn of the key on a level
abbrev pub turn_on : (a : ℕ) → Branch → (level : ℕ) → List Event
turn_on a b level = Calls (writes_well a (cell_on b level)) ∷ Wrote (key level 0) ∷ []

abbrev pub flush_of : (a : ℕ) → List Event
flush_of a = Calls (flushes_well a) ∷ Flushed ∷ []

-- the write and its commit up to the round
abbrev pub day_until_round : (a : ℕ) → Branch → List Event
day_until_round a b = Accepts 0 (b.bytes 0) ∷ Freezes (branch_cells b) (λ d. a == d)
    ∷ (turn_on a b 0 ++ (turn_on a b 1 ++ (turn_on a b 2 ++ (turn_on a b 3 ++ flush_of a))))

-- the machine stops: what was stable is there when the devices are used again
abbrev pub calm_stop : (size : ℕ → ℕ) → Pool → Event
calm_stop size p = Stops (after_crash p.sectors (λ d s. (p.sectors d s).stable)) size

-- the pool behind the round's events and the stop
abbrev pub stopped_day : (a : ℕ) → Branch → (vs : List Event) → (size : ℕ → ℕ) → Pool → Pool
stopped_day a b vs size p =
    let round : Pool = pool_after vs (pool_after (day_until_round a b) p) in after (calm_stop size round) round

-- the stop, and an opening that reads what stands there
abbrev pub stop_and_open : (q : Rec) → (size : ℕ → ℕ) → Pool → List Event
stop_and_open q size p = calm_stop size p ∷ Looks (stable_of (after (calm_stop size p) p)) ∷ Opens q ∷ []

-- The opening finds just this record: its premises hold, and whatever it may take is the record, with the block.
pub record FindsJust (c : Codec) (p : Pool) (q : Rec) (block : List ℕ) : Type 0 where
  pub premises : Premises c.head_of p (stable_of p)
  pub found : (u : Uberblock) (config : List ℕ) → IsYield c.head_of p.size (stable_of p) p.name u config
      → (f : FindsLive p u config) × (f.found ≡ q)
  pub content : block_at q 0 ≡ block
