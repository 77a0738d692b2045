-- What a line leaves of what was written last to each block, and what a read answers of it.
use Rattle.std.specs.Prelude.{[], ◌∷◌, ◌≡◌, ◌⊎◌, ℕ, ◌≤◌, ◌==◌, cond, List, None}
use Rattle.pool_runs.specs.Acts.{Act, Opening, Reads_as, read_by}
use Rattle.bank_core.specs.Disk.{Noted, run}
use Rattle.txg_history.specs.Pages.{Codec, IsClash}
use Rattle.txg_history.specs.Pools.{Pool}
use Rattle.txg_history.specs.Records.{key, block_at}
use Rattle.pool_moves.specs.AwayRows.{Taken}
use Rattle.pool_moves.specs.Missing.{AllMissed}
use Rattle.pool_moves.specs.OpeningRow.{IsLiveOne}
use Rattle.pool_moves.specs.ReadRow.{Gives, Exhausted, NoAddress}
use Rattle.pool_moves.specs.Showing.{LeafShown}
use Rattle.pool_moves.specs.States.{PoolState}
use Rattle.pool_runs.specs.Fairness.{AreFair}
use Rattle.pool_runs.specs.Hosts.{Host}
use Rattle.pool_runs.specs.Lines.{Asks_write, Asks_import, Reply, To_write, To_read, Entry}
use Rattle.pool_runs.specs.Moments.{IsOpenAs}

-- The line is a write to the open pool, and it was taken.
pub record IsTakenWrite (h : Host) (p : Pool) (e : Entry) (a : ℕ) (block : List ℕ) : Type 0 where
  pub name : List ℕ
  pub s : PoolState
  pub asked : e.asked ≡ Asks_write name a block
  pub at : IsOpenAs p h name s
  pub reply : e.reply ≡ To_write Taken

-- these acts read this record
abbrev pub HasOpening : Opening → List Act → Type 0
HasOpening opening [] = ⊥
HasOpening opening (act ∷ acts) = (act ≡ Reads_as opening) ⊎ HasOpening opening acts

-- The line is an import that read a record of this pool's number. What was written last to each block is what that record has of it behind the line,
-- whatever it answers. As far as its acts are fair it is one by this pool's name, and the record is the live one that was found.
pub record IsImport (c : Codec) (p behind : Pool) (e : Entry) : Type 0 where
  pub name : List ℕ
  pub asked : e.asked ≡ Asks_import name
  pub opening : Opening
  pub reads : HasOpening opening e.acts
  pub number : opening.found.pool.0 ≡ p.pool.0
  pub blocks : (x : ℕ) → behind.written x ≡ block_at (read_by opening p) x
  pub ours : AreFair c p e.acts → p.name ≡ name
  pub live : AreFair c p e.acts → IsLiveOne p opening.found (read_by opening p)

-- A write that is taken puts its block where it says, and leaves each other block as it was written; and so does each other line leave all of them,
-- but an import that reads a record of the pool, which leaves those of this record.
pub record KeepsWrites (c : Codec) (h : Host) (before behind : Pool) (e : Entry) : Type 0 where
  pub puts : (a : ℕ) (block : List ℕ) → IsTakenWrite h before e a block → (x : ℕ) → behind.written x ≡ cond (a == x) block (before.written x)
  pub leaves : (((a : ℕ) × (block : List ℕ) × IsTakenWrite h before e a block) ⊎ IsImport c before behind e) ⊎ ((x : ℕ) → behind.written x ≡ before.written x)

-- A block that was lost was written neither in the open group nor in the frozen one, and each readable leaf of its top missed it in these calls.
pub record IsLostRead (p : Pool) (s : PoolState) (a : ℕ) (made : List Noted) : Type 0 where
  pub unwritten : s.own.writes a ≡ None
  pub unfrozen : s.core.group.cells (key 0 a) ≡ None
  pub missed : AllMissed (s.core.committed (key 0 a)) made (run made p.sectors) s.core.leaves

-- A read gives the block that was written last, or that block and the bytes that it gave are two byte strings with one SHA-256 sum; it gives none
-- only where the block was lost, or the volume has no such block.
pub record ReadsWritten (p : Pool) (s : PoolState) (a : ℕ) (made : List Noted) (reply : Reply) : Type 0 where
  pub gives : (bytes : List ℕ) → reply ≡ To_read (Gives bytes) → (bytes ≡ p.written a) ⊎ IsClash (p.written a) bytes
  pub loses : (shown : List LeafShown) → reply ≡ To_read (Exhausted shown) → IsLostRead p s a made
  pub outside : (limit : ℕ) → reply ≡ To_read (NoAddress limit) → (limit ≡ s.own.blocks) × (s.own.blocks ≤ a)
