-- The invariant of all moments. It is what makes each crash leave a live record:
--
-- 1. What a live record needs is held on each member: of the blocks of all live records those whose groups
--    its log lacks, and by what its labels promise an uberblock and a configuration (`held`).
-- 2. Each correct uberblock of a member's rings is that of a record that was drawn (`rings`).
-- 3. The record that a member's labels hold is live, and the member takes part in it (`status_live`); and
--    live are the last acknowledged one and the one that the pool reads (`acked_live`, `reads_live`).
-- 4. No live record has a number below the acknowledged one's, nor above the highest drawn, but those that
--    an opening missed (`not_below`, `acked_top`, `live_top`, `newest_above`).
-- 5. A record that was given up has a number below the acknowledged one's, but those (`given_below`).
-- 6. All drawn records are this pool's (`pools`).
use Rattle.std.specs.Prelude.{◌≡◌, ◌⊎◌, ℕ, ◌+◌, ◌<◌, ◌≤◌, true, List, [], ◌∷◌, length, Option, Some}
use Rattle.bank_core.specs.Disk.{Pending, Nothing, Written, Failing}
use Rattle.label_store.specs.declared.rule.Head.{Head}
use Rattle.label_store.specs.declared.uberblock.Uberblock.{Uberblock}
use Rattle.label_store.specs.Records.{IsRecord, place_at}
use Rattle.label_store.specs.Rounds.{config_of, uberblock_of}
use Rattle.label_store.specs.Uberblock.{IsUberblock}
use Rattle.pool_history.specs.Labels.{Status, Odd, Even, Lost}
use Rattle.pool_history.specs.Needs.{Held, Needs}
use Rattle.pool_history.specs.Pools.{Pool, drawn, seat}
use Rattle.pool_history.specs.Records.{Rec, Cell, IsIn, number_of, takes_part, data_start}

-- these bytes are one of the list
abbrev pub IsAmong : List ℕ → List (List ℕ) → Type 0
IsAmong bytes [] = ⊥
IsAmong bytes (one ∷ more) = (bytes ≡ one) ⊎ IsAmong bytes more

-- a drawn record has this uberblock on this member
abbrev pub IsDrawnUber : Pool → (d : ℕ) → Uberblock → Type 0
IsDrawnUber p d u = (r : Rec) × IsIn r (drawn p) × (u ≡ uberblock_of r.commit (seat p d))

-- a correct uberblock with a record is that of a drawn one
abbrev pub IsKnownUber : Pool → (d : ℕ) → List ℕ → Type 0
IsKnownUber p d bytes = (u : Uberblock) → IsUberblock u bytes → 1 ≤ u.number.0 → IsDrawnUber p d u

-- what is on the way to a sector was written in this run
abbrev pub IsNoted : Pending → List (List ℕ) → Type 0
IsNoted Nothing since = Unit {0}
IsNoted (Written bytes) since = IsAmong bytes since
IsNoted (Failing bytes) since = IsAmong bytes since

-- A ring's sector: all that stands there or was written there in this run.
pub record IsKnownRing (p : Pool) (d s : ℕ) : Type 0 where
  pub stable : IsKnownUber p d (p.sectors d s).stable
  pub since : (bytes : List ℕ) → IsAmong bytes (p.since d s) → IsKnownUber p d bytes
  pub pending : IsNoted (p.sectors d s).pending (p.since d s)

-- A record that may be committed: its configuration fills whole sectors and is one of this pool and
-- number, and its blocks stand behind the labels of each member.
pub record Fits (head_of : List ℕ → Option Head) (p : Pool) (r : Rec) : Type 0 where
  pub pool_is : r.commit.pool ≡ p.pool
  pub is_record : (d : ℕ) → p.member d ≡ true → IsRecord head_of (uberblock_of r.commit (seat p d)) r.commit.blob (config_of r.commit)
  pub name_is : (head : Head) → head_of (config_of r.commit) ≡ Some head → head.name ≡ p.name
  pub places : (a : ℕ) (cell : Cell) → r.cells a ≡ Some cell → (d : ℕ) → p.member d ≡ true → data_start + cell.sector + 128 < p.size d
  pub blocks : (a : ℕ) (cell : Cell) → r.cells a ≡ Some cell → length cell.block ≡ 4096

-- the labels of device d promise a live record that fits, and in which the member takes part
abbrev pub IsOf : (List ℕ → Option Head) → Pool → (d : ℕ) → Status → Type 0
IsOf head_of p d (Odd r) = IsIn r p.live × Fits head_of p r × (takes_part r (p.guid d) ≡ true)
IsOf head_of p d (Even r) = IsIn r p.live × Fits head_of p r × (takes_part r (p.guid d) ≡ true)
IsOf head_of p d Lost = Unit {0}

pub record Survives (head_of : List ℕ → Option Head) (p : Pool) : Type 0 where
  pub sizes : (d : ℕ) → p.member d ≡ true → 320 ≤ p.size d
  pub held : (d s : ℕ) (bytes : List ℕ) → Needs p d s bytes → Held (p.sectors d s) bytes
  pub rings : (d place : ℕ) → p.member d ≡ true → place < 128 → IsKnownRing p d (place_at (p.size d) place)
  pub places : (r : Rec) (a : ℕ) (cell : Cell) (d : ℕ) → IsIn r p.live → r.cells a ≡ Some cell → p.member d ≡ true → data_start + cell.sector + 128 < p.size d
  pub status_live : (d : ℕ) → p.member d ≡ true → IsOf head_of p d (p.status d)
  pub acked_live : IsIn p.acked p.live
  pub reads_live : IsIn p.reads p.live
  pub not_below : (r : Rec) → IsIn r p.live → number_of p.acked ≤ number_of r
  pub acked_top : number_of p.acked ≤ p.top
  pub live_top : (r : Rec) → IsIn r p.live → (number_of r ≤ p.top) ⊎ IsIn r p.missed
  pub newest_above : (q : Rec) (rest : List Rec) → p.live ≡ q ∷ rest → (r : Rec) → IsIn r rest → (number_of r < number_of q) ⊎ IsIn r p.missed
  pub given_below : (r : Rec) → IsIn r p.given → (number_of r < number_of p.acked) ⊎ IsIn r p.missed
  pub idle_alone : p.idle ≡ true → (r : Rec) → IsIn r p.live → r ≡ p.reads
  pub pools : (r : Rec) → IsIn r (drawn p) → r.commit.pool ≡ p.pool
