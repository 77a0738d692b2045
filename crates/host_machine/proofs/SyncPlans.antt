-- The plan of a sync spares what is needed, and brings each block to each leaf of the board.
use Rattle.std.proofs.Common.{◌≡◌, ◌≢◌, ◌⊎◌, ℕ, ◌+◌, ◌<◌, ◌≤◌, ◌==◌, ◌*◌, Bool, true, false, cond, List, [], ◌∷◌, length, Option, Some, None, refl, sym, ap, ◌∙◌, subst, arith, inl, inr, ⊎_elim}
use Rattle.std.specs.Prelude.{slice_get}
use Rattle.std.specs.List.{flat_map}
use Rattle.std.specs.Option.{option_map}
use Rattle.std.proofs.lemmas.Bool.{and_left, ne_eqb, cases_lt}
use Rattle.std.proofs.lemmas.Option.{slice_get_within}
use Rattle.bank_core.specs.Asks.{Ask, Writes, Flushes, IsPart}
use Rattle.bank_core.specs.Disk.{Sector, Sectors, Noted, covers, sectors_in, hurt, run, replay}
use Rattle.bank_core.specs.Standing.{Stands, Untouched, Spares}
use Rattle.bank_core.proofs.Blocks.{block_sectors}
use Rattle.bank_core.proofs.Standing.{part_spares}
use Rattle.label_store.specs.declared.member.Member.{Member}
use Rattle.label_store.specs.Seats.{AreApart}
use Rattle.pool_history.specs.Commits.{WritesLast, Brings}
use Rattle.pool_history.specs.Moves.{AreSparing}
use Rattle.pool_history.specs.Needs.{Held, Needs}
use Rattle.pool_history.specs.Pools.{Pool}
use Rattle.pool_history.specs.Records.{Rec, Cell, IsIn, data_start}
use Rattle.pool_history.specs.Survival.{Survives}
use Rattle.pool_history.proofs.DataSparing.{no_asks_spare, flush_sparing, IsFreeAt, write_sparing, sparing_more, all_sparing, each_sparing}
use Rattle.pool_history.proofs.Holding.{hurt_held, call_held}
use Rattle.pool_history.proofs.Landing.{landed, writes_then_flushes, each_write_last, all_write_last, each_flushed, flushes_spare, each_spares}
use Rattle.pool_history.proofs.RoundPlaces.{outside_one}
use Rattle.pool_core.specs.Heads.{head_of}
use Rattle.pool_core.specs.Recorded.{addresses}
use Rattle.pool_core.specs.State.{Version, PoolState, board, other_sector}
use Rattle.pool_core.specs.Syncing.{writes_to, writes_at, flush_plan, sync_plan}
use Rattle.host_machine.specs.Fitness.{IsFitPool}
use Rattle.host_machine.specs.Records.{version_of, versions_of}
use Rattle.host_machine.proofs.Boards.{board_apart}
use Rattle.host_machine.proofs.NextStates.{free_apart, free_differs}
use Rattle.host_machine.proofs.Settling.{same_some, none_some, addresses_long, addresses_at}

-- where a sync writes an address
abbrev pub free_at : PoolState → ℕ → ℕ
free_at s a = data_start + other_sector a (s.committed a)

off_at : (at t : ℕ) → at ≢ t → (t < at) ⊎ (at + 1 ≤ t)
off_at at t other = ⊎_elim (λ below. inl below) (λ above. inr (let apart : at ≢ t = other in omega (arith, above, apart))) (cases_lt t at)

same_start : (i j : ℕ) → data_start + i ≡ data_start + j → i ≡ j
same_start i j e = omega (arith, e)

-- the addresses of the volume are below its size
address_below : (n j a : ℕ) → slice_get (addresses n) j ≡ Some a → (a ≡ j) × (a < n)
address_below n j a e =
    let within = slice_get_within (addresses n) j a e in
    let long = addresses_long n in
    let below : j < n = omega (arith, within, long) in
    let same : j ≡ a = same_some j a (sym (addresses_at n j below) ∙ e) in
    (sym same, subst (λ b. b < n) same below)

-- What is spared.

writes_sparing : (p : Pool) (s : PoolState) (at : ℕ) (block : Option (List ℕ)) → ((m : Member) (some : List ℕ) → block ≡ Some some → AreSparing p (Writes m.dev at some ∷ []))
    → AreSparing p (writes_to (board s) at block)
writes_sparing p s at None each = no_asks_spare p
writes_sparing p s at (Some block) each = each_sparing p (λ (m : Member). Writes m.dev at block) (board s) (λ j m e. each m block refl)

-- an address' free sector is one of its two
other_near : (a : ℕ) (committed : Option Version) → other_sector a committed ≤ 2 * a + 1
other_near a None = omega arith
other_near a (Some version) = by (version.sector == 2 * a)
  where
    by : (b : Bool) → cond b (2 * a + 1) (2 * a) ≤ 2 * a + 1
    by true = omega arith
    by false = omega arith

-- The plan of a sync of an open pool: it reads the record that is live.
pub sync_sparing : (size : ℕ → ℕ) (p : Pool) (s : PoolState) → IsFitPool size s → Survives head_of p → p.idle ≡ true → ((a : ℕ) → s.committed a ≡ versions_of p.reads a)
    → AreSparing p (sync_plan s)
sync_sparing size p s fit sv idle committed =
    sparing_more p (flat_map (writes_at s) (addresses s.blocks)) (flush_plan s)
    (all_sparing p (writes_at s) (addresses s.blocks) (λ j a e. writes_sparing p s (free_at s a) (s.writes a) (λ m block is.
    write_sparing head_of p m.dev (free_at s a) block sv (fit.whole a block is) (free m.dev a (fit.inside a block is)))))
    (each_sparing p (λ (m : Member). Flushes m.dev) (board s) (λ j m e. flush_sparing p m.dev))
  where
    live_version : (r : Rec) (b : ℕ) (cell : Cell) → IsIn r p.live → r.cells b ≡ Some cell → s.committed b ≡ Some (version_of cell)
    live_version r b cell live e = committed b ∙ ap (λ (q : Rec). versions_of q b) (sym (sv.idle_alone idle r live)) ∙ ap (option_map version_of) e

    free : (dev a : ℕ) → a < s.blocks → IsFreeAt p dev (free_at s a)
    free dev a below = record {
      low = λ is. omega arith;
      high = λ is. let wide = sv.sizes dev is in let near = other_near a (s.committed a) in let few = fit.valid.blocks.1 in omega (arith, wide, near, few, below);
      unused = λ r b cell is live e has same. free_differs size s a b (version_of cell) fit (live_version r b cell live e) (same_start (other_sector a (s.committed a)) cell.sector same);
    }

-- What is brought.

write_spares : (dev at d t : ℕ) (block : List ℕ) → length block ≡ 4096 → (dev ≢ d) ⊎ (at ≢ t) → Spares (Writes dev at block ∷ []) d t
write_spares dev at d t block long (inl other) = (and_left (dev == d) (covers at (sectors_in block) t) (ne_eqb dev d other), tt)
write_spares dev at d t block long (inr other) = (outside_one dev at d t block (block_sectors block long) (off_at at t other), tt)

writes_spare : (s : PoolState) (at d t : ℕ) (block : Option (List ℕ)) → ((some : List ℕ) → block ≡ Some some → length some ≡ 4096) → at ≢ t → Spares (writes_to (board s) at block) d t
writes_spare s at d t None long other = tt
writes_spare s at d t (Some block) long other =
    each_spares (λ (m : Member). Writes m.dev at block) (board s) d t (λ j m e. write_spares m.dev at d t block (long block refl) (inr other))

block_last : (s : PoolState) (i at : ℕ) (m : Member) (block : List ℕ) (writes : Option (List ℕ)) → AreApart (board s) → length block ≡ 4096 → writes ≡ Some block
    → slice_get (board s) i ≡ Some m → WritesLast (writes_to (board s) at writes) m.dev at block
block_last s i at m block None apart long is e = absurd (none_some block is)
block_last s i at m block (Some some) apart long is e =
    each_write_last (λ (n : Member). Writes n.dev at some) (board s) i m m.dev at block e (ap (Writes m.dev at) same)
    (λ j other below f. write_spares other.dev at m.dev at some (ap length same ∙ long) (inl (λ (is : other.dev ≡ m.dev). apart i j m other e f below (sym is))))
  where
    same : some ≡ block
    same = same_some some block is

pub sync_brings : (size : ℕ → ℕ) (s : PoolState) (i a : ℕ) (m : Member) (block : List ℕ) → IsFitPool size s → s.writes a ≡ Some block → slice_get (board s) i ≡ Some m
    → Brings (sync_plan s) m.dev (free_at s a) block
sync_brings size s i a m block fit is e =
    writes_then_flushes (flat_map (writes_at s) (addresses s.blocks)) (flush_plan s) m.dev (free_at s a) block
    (all_write_last (writes_at s) (addresses s.blocks) a a m.dev (free_at s a) block (addresses_at s.blocks a (fit.inside a block is))
    (block_last s i (free_at s a) m block (s.writes a) (board_apart s fit.apart) (fit.whole a block is) is e)
    (λ j b below f. writes_spare s (free_at s b) m.dev (free_at s a) (s.writes b) (λ some e. fit.whole b some e) (elsewhere j b below f)))
    (each_flushed (λ (n : Member). n.dev) (board s) i m e)
    (flushes_spare (λ (n : Member). n.dev) (board s) m.dev (free_at s a))
  where
    elsewhere : (j b : ℕ) → a < j → slice_get (addresses s.blocks) j ≡ Some b → free_at s b ≢ free_at s a
    elsewhere j b below f same =
        free_apart s b a (let at = (address_below s.blocks j b f).0 in λ (e : b ≡ a). omega (arith, at, e, below))
        (same_start (other_sector b (s.committed b)) (other_sector a (s.committed a)) same)

-- What stays.

-- what is held stays through calls elsewhere
pub untouched_held : (made : List Noted) (d t : ℕ) (x : Sector) (block : List ℕ) → Untouched made d t → Held x block → Held (replay made d t x) block
untouched_held [] d t x block u h = h
untouched_held (noted ∷ made) d t x block u h =
    untouched_held made d t _ block u.1 (call_held noted.call d t (hurt (noted.damage d t) x) block u.0 (hurt_held (noted.damage d t) x block h))

pub stands_held : (x : Sector) (block : List ℕ) → Stands x block → Held x block
stands_held x block st = record { still = st.still; stands = inl st.stable }

-- A cell of the record that the pool reads is held on each member that has to have it, behind a plan that spares
-- what is needed.
pub reads_held : (p : Pool) (plan : List Ask) (before : List Noted) (d a : ℕ) (cell : Cell) → Survives head_of p → AreSparing p plan → IsPart plan before None
    → p.member d ≡ true → p.reads.cells a ≡ Some cell → p.reads.owes (p.guid d) cell.birth ≡ false → Held (run before p.sectors d (data_start + cell.sector)) cell.block
reads_held p plan before d a cell sv sparing part is e has =
    untouched_held before d (data_start + cell.sector) (p.sectors d (data_start + cell.sector)) cell.block
    (part_spares plan before None d (data_start + cell.sector) part (sparing.off d (data_start + cell.sector) cell.block needs))
    (sv.held d (data_start + cell.sector) cell.block needs)
  where
    needs : Needs p d (data_start + cell.sector) cell.block
    needs = (is, inr (record { r = p.reads; is_live = sv.reads_live; a = a; cell = cell; cell_is = e; has = has; sector_is = refl; bytes_are = refl }))

-- And a block that a sync wrote stands on each leaf of the board behind its plan.
pub sync_held : (size : ℕ → ℕ) (s : PoolState) (sectors : Sectors) (before : List Noted) (i a : ℕ) (m : Member) (block : List ℕ) → IsFitPool size s → IsPart (sync_plan s) before None
    → s.writes a ≡ Some block → slice_get (board s) i ≡ Some m → Held (run before sectors m.dev (free_at s a)) block
sync_held size s sectors before i a m block fit part is e =
    stands_held (run before sectors m.dev (free_at s a)) block
    (landed (sync_plan s) m.dev (free_at s a) block before sectors (sync_brings size s i a m block fit is e) (fit.whole a block is) part)
